-- What a line's bytes show of it (document 02, ticket 4): "What assembles decodes to the written instruction and values". Said by what the decoder and
-- the listing make of the bytes, beside the line's fields as they stand; of the assembler's own words there are only the fields and an expression's value.
-- Assumes nothing.
use Rattle.std.specs.Prelude.{ℕ, ◌+◌, ◌/◌, ◌%◌, ◌<◌, ◌≡◌, List, [], ◌∷◌, ◌++◌, length, Some, Ok}
use Rattle.word.specs.declared.ByteAddr.{ByteAddr}
use Rattle.isa.specs.Decode.{decode_of}
use Rattle.isa.specs.declared.Instr.{Instr}
use Rattle.isa.specs.declared.Decoded.{Decoded}
use Rattle.text.specs.Words.{ascii}
use Rattle.listing.specs.Names.{place_of, name_at}
use Rattle.listing.specs.Listing.{row_of, tab, operand_text}
use Rattle.listing.specs.declared.Operand.{Operand}
use Rattle.listing.specs.declared.Row.{Row}
use Rattle.expr.specs.Value.{signed_word}
use Rattle.expr.specs.Expr.{Labels, value_of}
use Rattle.expr.specs.Expr.{Read as Valued}
use Rattle.expr.specs.declared.Value.{Value}
use Rattle.forms.specs.Form.{body_of, tabs_in, field_at}
use Rattle.asm.specs.Assemble.{address_of}

-- a field writes an operand: a register or an SFR letter by letter as a listing does; a number by an expression that is the whole field, and whose
-- value is what the number's 32 bits stand for, with the labels t
abbrev pub Writes : Labels → Operand → List ℕ → Type 0
Writes t (Operand.Reg n) f = operand_text (Operand.Reg n) ≡ tab f
Writes t (Operand.Sfr n) f = operand_text (Operand.Sfr n) ≡ tab f
Writes t (Operand.Number v) f = (v < 4294967296) × (value_of t f ≡ Ok (Value.Is (signed_word v), length f))
Writes t (Operand.Bits h) f = ⊥

-- the fields after label and mnemonic write the operands, one each, and there are no more: each field but the first has a tab before it
abbrev pub RowWrites : Labels → Row → List ℕ → Type 0
RowWrites t (Row.One x) b = (tabs_in b ≡ 2) × Writes t x (field_at 2 b)
RowWrites t (Row.Two x y) b = (tabs_in b ≡ 3) × Writes t x (field_at 2 b) × Writes t y (field_at 3 b)
RowWrites t (Row.Three x y z) b = (tabs_in b ≡ 4) × Writes t x (field_at 2 b) × Writes t y (field_at 3 b) × Writes t z (field_at 4 b)

-- the mnemonic and the operands of the instruction i with the first half h at a are those of the line b, which is without its newline
abbrev pub InstrWrites : Labels → ByteAddr → ℕ → Instr → List ℕ → Type 0
InstrWrites t a h i b = (name_at (place_of (h / 256)) ≡ field_at 1 b) × RowWrites t (row_of a i) b

-- c are bytes at a that show what the line b writes, big-endian: an instruction of two bytes, whatever half follows; one of four; `half` or `word` with a value
pub data Shows (t : Labels) (a : ByteAddr) (b c : List ℕ) : Type 0 where
  short : (h : ℕ) (i : Instr) → c ≡ h / 256 ∷ h % 256 ∷ [] → ((s : ℕ) → decode_of h s ≡ Some (Decoded.Short i)) → InstrWrites t a h i b → Shows t a b c
  long : (h s : ℕ) (i : Instr) → c ≡ h / 256 ∷ h % 256 ∷ s / 256 ∷ s % 256 ∷ [] → s < 65536 → decode_of h s ≡ Some (Decoded.Long i) → InstrWrites t a h i b
      → Shows t a b c
  half : (v : ℕ) → c ≡ v / 256 ∷ v % 256 ∷ [] → v < 65536 → ascii "half" ≡ field_at 1 b → RowWrites t (Row.One (Operand.Number v)) b → Shows t a b c
  word : (v : ℕ) → c ≡ v / 16777216 ∷ v / 65536 % 256 ∷ v / 256 % 256 ∷ v % 256 ∷ [] → ascii "word" ≡ field_at 1 b
      → RowWrites t (Row.One (Operand.Number v)) b → Shows t a b c

-- the bytes c show lines, the first at p: each line's bytes after those of the line before
abbrev pub AllShow : Labels → ℕ → List (List ℕ) → List ℕ → Type 0
AllShow t p [] c = c ≡ []
AllShow t p (l ∷ r) c = (d e : List ℕ) × (c ≡ d ++ e) × Shows t (address_of p) (body_of l) d × AllShow t (p + length d) r e
