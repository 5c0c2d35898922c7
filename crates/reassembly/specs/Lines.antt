-- Words that the theorems on a listing that is assembled again are stated in (proofs/Theorems.antt has the statements).
-- Assumes nothing.
use Rattle.std.specs.Prelude.{ℕ, ◌/◌, ◌≡◌, cond, List, [], ◌∷◌, ◌++◌, eqb, ℤ, Option, Some, Ok}
use Rattle.word.specs.declared.ByteAddr.{ByteAddr}
use Rattle.isa.specs.Codes.{kind_of}
use Rattle.isa.specs.declared.Encoded.{Encoded}
use Rattle.listing.specs.Names.{half_place, name_at}
use Rattle.listing.specs.Listing.{row_text, entries_in}
use Rattle.listing.specs.declared.Operand.{Operand}
use Rattle.listing.specs.declared.Row.{Row}
use Rattle.listing.specs.declared.Entry.{Entry}
use Rattle.columns.specs.Columns.{joined}
use Rattle.expr.specs.Expr.{Labels}
use Rattle.expr.specs.Expr.{Read as Valued}
use Rattle.expr.specs.declared.Value.{Value}
use Rattle.forms.specs.Form.{body_of, what_in, shape_of}
use Rattle.forms.specs.Says.{bits_of}
use Rattle.asm.specs.Assemble.{line_value, line_bits}
use Rattle.forms.specs.declared.What.{What}

-- an empty label field, and the mnemonic and operand columns of a listing's line
abbrev pub body_for : Entry → List ℕ
body_for x = 9 ∷ (name_at x.shown.place ++ row_text x.shown.row)

-- the same as a line to assemble
abbrev pub line_for : Entry → List ℕ
line_for x = body_for x ++ (10 ∷ [])

-- what the line says: `half`, or an instruction of the kind of the first byte
abbrev pub what_shown : Entry → What
what_shown x = cond (eqb x.shown.place half_place) What.Half (What.Code (kind_of (x.first / 256)))

-- the number among a row's operands; 0 where there is none
abbrev pub number_or : ℕ → Operand → ℕ
number_or v (Operand.Reg n) = v
number_or v (Operand.Sfr n) = v
number_or v (Operand.Number n) = n
number_or v (Operand.Bits h) = h

abbrev pub number_in : Row → ℕ
number_in (Row.One x) = number_or 0 x
number_in (Row.Two x y) = number_or (number_or 0 y) x
number_in (Row.Three x y z) = number_or (number_or (number_or 0 z) y) x

-- the bits that the listing's line has in its bits column
abbrev pub bits_listed : Entry → Option Encoded
bits_listed x = cond x.shown.long (Some (Encoded.Pair x.first x.second)) (Some (Encoded.Half x.first))

-- what the assembler reads in a line at a, with the labels t: a value, which is the number v, and the bits x
pub record Read (t : Labels) (a : ByteAddr) (l : List ℕ) (v : ℕ) (x : Option Encoded) : Type 0 where
  pub value : ℤ
  pub size : ℕ
  pub valued : line_value t (shape_of (what_in l)) (body_of l) ≡ Ok (Value.Is value, size)
  pub number : bits_of value ≡ v
  pub bits : line_bits (what_in l) a (body_of l) value ≡ x

-- the lines of a range, to assemble
abbrev pub text_for : List ℕ → ℕ → ℕ → List ℕ
text_for m s e = joined line_for (entries_in m s e)
