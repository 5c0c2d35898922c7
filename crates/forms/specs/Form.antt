-- The lines of a text and their form (document 02, ticket 4): "one instruction a line, a label field that may be empty, mnemonic and operands in
-- document 01's written form, `word` and `half` .. for data".
-- Assumes nothing.
use Rattle.std.specs.Prelude.{ℕ, zero, suc, ◌+◌, ◌-◌, ◌*◌, Bool, true, false, cond, ◌&&◌, ◌||◌, List, [], ◌∷◌, ltb, eqb, length, get_or, take, drop, None, Option, Some}
use Rattle.word.specs.Bits.{num}
use Rattle.text.specs.Digits.{decimal_of}
use Rattle.text.specs.Fields.{before_of, beyond_of, same_of}
use Rattle.text.specs.Words.{ascii}
use Rattle.isa.specs.Codes.{kind_of}
use Rattle.isa.specs.declared.Kind.{Kind}
use Rattle.listing.specs.Names.{half_place, name_at}
use Rattle.expr.specs.Expr.{key_of, is_name, index_of, is_sum}
use Rattle.forms.specs.declared.What.{What}
use Rattle.forms.specs.declared.Sort.{Sort}
use Rattle.forms.specs.declared.Shape.{Shape}

-- ---- lines: each with the newline that ends it, which the last may lack

unfoldable pub onto_first : ℕ → List (List ℕ) → List (List ℕ)
onto_first c [] = (c ∷ []) ∷ []
onto_first c (l ∷ r) = (c ∷ l) ∷ r

unfoldable pub lines_of : List ℕ → List (List ℕ)
lines_of [] = []
lines_of (c ∷ s) = cond (eqb c 10) ((10 ∷ []) ∷ lines_of s) (onto_first c (lines_of s))

abbrev pub is_ended : List ℕ → Bool
is_ended l = eqb (get_or l (length l - 1) 0) 10

abbrev pub body_of : List ℕ → List ℕ
body_of l = take (length l - 1) l

-- ---- fields, parted by tabs

unfoldable pub tabs_in : List ℕ → ℕ
tabs_in [] = 0
tabs_in (c ∷ s) = num (eqb c 9) + tabs_in s

unfoldable pub field_at : ℕ → List ℕ → List ℕ
field_at zero b = before_of b
field_at (suc n) b = field_at n (beyond_of b)

-- ---- mnemonics

-- a name's number; 0 for what is no name
abbrev pub named : List ℕ → ℕ
named f = cond (is_name f) (key_of f) 0

-- the numbers of the mnemonics by their places, n of them from the place p on; then that of `word`
unfoldable pub named_from : ℕ → ℕ → List ℕ
named_from zero p = key_of (ascii "word") ∷ []
named_from (suc n) p = key_of (name_at p) ∷ named_from n (suc p)

unfoldable pub mnemonics : List ℕ
mnemonics = named_from 82 0

-- the first byte of a place: the inverse of the listing's place_of
unfoldable pub byte_of : ℕ → ℕ
byte_of p = cond (ltb p 64) p (cond (ltb p 74) ((p - 60) * 16) ((p - 18) * 4))

unfoldable pub what_at : ℕ → What
what_at p = cond (ltb p half_place) (What.Code (kind_of (byte_of p))) (cond (eqb p half_place) What.Half (cond (eqb p 82) What.Word (What.Code Kind.Nothing)))

unfoldable pub what_of : List ℕ → What
what_of b = what_at (index_of mnemonics (named (field_at 1 b)))

-- ---- operands

abbrev pub shape : ℕ → Sort → Sort → Sort → Shape
shape n x y z = record { size = n; first = x; second = y; third = z }

-- the bytes that it takes, and the guide's operands in its order
unfoldable pub kind_shape : Kind → Shape
kind_shape Kind.Nothing = shape 2 Sort.Never Sort.Nothing Sort.Nothing
kind_shape (Kind.Alu op) = shape 2 Sort.Reg Sort.Reg Sort.Nothing
kind_shape (Kind.ShiftImm op) = shape 2 Sort.Reg Sort.Sum Sort.Nothing
kind_shape (Kind.Cmp op) = shape 2 Sort.Reg Sort.Reg Sort.Nothing
kind_shape (Kind.CmpImm op) = shape 2 Sort.Reg Sort.Sum Sort.Nothing
kind_shape (Kind.Cond op t) = shape 2 Sort.Reg Sort.Reg Sort.Nothing
kind_shape (Kind.CondImm t) = shape 2 Sort.Reg Sort.Sum Sort.Nothing
kind_shape Kind.Ldrpc = shape 2 Sort.Reg Sort.Sum Sort.Nothing
kind_shape (Kind.Imm op) = shape 2 Sort.Reg Sort.Sum Sort.Nothing
kind_shape (Kind.Load w) = shape 2 Sort.Reg Sort.Sum Sort.Reg
kind_shape (Kind.Store w) = shape 2 Sort.Reg Sort.Sum Sort.Reg
kind_shape Kind.Mfsfr = shape 2 Sort.Reg Sort.Sfr Sort.Nothing
kind_shape Kind.Mtsfr = shape 2 Sort.Sfr Sort.Reg Sort.Nothing
kind_shape Kind.Jr = shape 2 Sort.Reg Sort.Nothing Sort.Nothing
kind_shape Kind.Jrl = shape 2 Sort.Reg Sort.Nothing Sort.Nothing
kind_shape Kind.Jsfr = shape 2 Sort.LowSfr Sort.Nothing Sort.Nothing
kind_shape Kind.Swint = shape 2 Sort.Sum Sort.Nothing Sort.Nothing
kind_shape (Kind.ShortJump op) = shape 2 Sort.Sum Sort.Nothing Sort.Nothing
kind_shape (Kind.LongJump op) = shape 4 Sort.Sum Sort.Nothing Sort.Nothing

unfoldable pub shape_of : What → Shape
shape_of (What.Code k) = kind_shape k
shape_of What.Half = shape 2 Sort.Sum Sort.Nothing Sort.Nothing
shape_of What.Word = shape 4 Sort.Sum Sort.Nothing Sort.Nothing

-- a number below n after these letters; n where there is none
abbrev pub below : ℕ → Option ℕ → ℕ
below n (Some v) = cond (ltb v n) v n
below n None = n

unfoldable pub numbered_of : List ℕ → ℕ → List ℕ → ℕ
numbered_of p n f = cond (same_of (take (length p) f) p) (below n (decimal_of (drop (length p) f))) n

-- r0 to r15, sfr0 to sfr10, "`jsfr` sfr0 to sfr3"; the limit where there is no such number, 0 for what has none
unfoldable pub number_at : Sort → List ℕ → ℕ
number_at Sort.Nothing f = 0
number_at Sort.Never f = 0
number_at Sort.Reg f = numbered_of (ascii "r") 16 f
number_at Sort.Sfr f = numbered_of (ascii "sfr") 11 f
number_at Sort.LowSfr f = numbered_of (ascii "sfr") 4 f
number_at Sort.Sum f = 0

unfoldable pub is_of : Sort → List ℕ → Bool
is_of Sort.Nothing f = true
is_of Sort.Never f = false
is_of Sort.Reg f = ltb (number_at Sort.Reg f) 16
is_of Sort.Sfr f = ltb (number_at Sort.Sfr f) 11
is_of Sort.LowSfr f = ltb (number_at Sort.LowSfr f) 4
is_of Sort.Sum f = is_sum f

-- how many fields an operand takes
abbrev pub fields_of : Sort → ℕ
fields_of Sort.Nothing = 0
fields_of Sort.Never = 0
fields_of Sort.Reg = 1
fields_of Sort.Sfr = 1
fields_of Sort.LowSfr = 1
fields_of Sort.Sum = 1

abbrev pub tabs_for : Shape → ℕ
tabs_for s = 1 + fields_of s.first + fields_of s.second + fields_of s.third

-- ---- known form

-- empty or a name, whose number is above 0
abbrev pub is_label : List ℕ → Bool
is_label f = eqb (length f) 0 || ltb 0 (named f)

unfoldable pub fits_shape : Shape → List ℕ → Bool
fits_shape s b =
    eqb (tabs_in b) (tabs_for s) && is_of s.first (field_at 2 b) && is_of s.second (field_at 3 b) && is_of s.third (field_at 4 b)

-- a line that names w, without its newline
unfoldable pub is_known_body : What → List ℕ → Bool
is_known_body w b = is_label (field_at 0 b) && fits_shape (shape_of w) b

unfoldable pub is_known_as : What → List ℕ → Bool
is_known_as w l = is_ended l && is_known_body w (body_of l)

abbrev pub what_in : List ℕ → What
what_in l = what_of (body_of l)

abbrev pub is_known : List ℕ → Bool
is_known l = is_known_as (what_in l) l
