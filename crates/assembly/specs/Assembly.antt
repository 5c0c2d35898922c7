-- Words that the theorems on the assembler are stated in (proofs/Theorems.antt has the statements).
-- Assumes nothing.
use Rattle.std.specs.Prelude.{ℕ, zero, suc, ◌+◌, ◌/◌, ◌%◌, ◌<◌, ◌≡◌, Bool, true, false, cond, not, ◌&&◌, List, [], ◌∷◌, ltb, eqb, ℤ, get_or, Err, None, Ok, Option, Result, Some}
use Rattle.word.specs.declared.ByteAddr.{ByteAddr}
use Rattle.isa.specs.Decode.{decode_of}
use Rattle.isa.specs.Statements.{has_bits}
use Rattle.isa.specs.declared.Kind.{Kind}
use Rattle.isa.specs.declared.Decoded.{Decoded}
use Rattle.isa.specs.declared.Encoded.{Encoded}
use Rattle.expr.specs.Expr.{Labels, index_of}
use Rattle.expr.specs.Expr.{Read as Valued}
use Rattle.expr.specs.declared.Value.{Value}
use Rattle.forms.specs.Form.{lines_of, body_of, field_at, what_in, kind_shape, shape_of, number_at, is_known_as, is_known}
use Rattle.forms.specs.Says.{bits_of, says_of, bytes_in}
use Rattle.asm.specs.Assemble.{address_of, line_value, line_bits, label_in, is_set, has_room, with_name, label_for, bytes_for, number_of, line_check, room_check, code_of, text_labels}
use Rattle.forms.specs.declared.What.{What}
use Rattle.asm.specs.declared.Refusal.{Refusal}

-- ---- a line

-- the instruction of kind k that a line without its newline says at a, with the value z
abbrev pub said_by : Kind → ByteAddr → List ℕ → ℤ → Option Decoded
said_by k a b z =
    says_of k a (number_at (kind_shape k).first (field_at 2 b)) (number_at (kind_shape k).second (field_at 3 b)) (number_at (kind_shape k).third (field_at 4 b)) (bits_of z)

-- there are bits, and they decode to d, whatever half follows a short one
abbrev pub Decodes : Option Encoded → Option Decoded → Type 0
Decodes (Some (Encoded.Half h)) d = (x : ℕ) → decode_of h x ≡ d
Decodes (Some (Encoded.Pair h x)) d = decode_of h x ≡ d
Decodes None d = ⊥

-- the bits of a line that names w say what it says: its instruction, or its value in two bytes or in four, big-endian
abbrev pub Says : What → ByteAddr → List ℕ → ℤ → Option Encoded → Type 0
Says (What.Code k) a b z x = Decodes x (said_by k a b z)
Says What.Half a b z x = (bits_of z < 65536) × (bytes_in x ≡ bits_of z / 256 ∷ bits_of z % 256 ∷ [])
Says What.Word a b z x =
    (bits_of z < 4294967296) × (bytes_in x ≡ bits_of z / 16777216 ∷ bits_of z / 65536 % 256 ∷ bits_of z / 256 % 256 ∷ bits_of z % 256 ∷ [])

-- ---- a line's faults

abbrev pub is_deep : Valued → Bool
is_deep (Err e) = true
is_deep (Ok (v, n)) = false

abbrev pub is_unknown : Valued → Bool
is_unknown (Err e) = false
is_unknown (Ok (Value.Unknown, n)) = true
is_unknown (Ok (Value.Large, n)) = false
is_unknown (Ok (Value.Is z, n)) = false

abbrev pub is_unfit : What → ByteAddr → List ℕ → Valued → Bool
is_unfit w a b (Err e) = false
is_unfit w a b (Ok (Value.Unknown, n)) = false
is_unfit w a b (Ok (Value.Large, n)) = true
is_unfit w a b (Ok (Value.Is z, n)) = not (has_bits (line_bits w a b z))

-- whether a line at a that names w has the fault that a refusal tells, whatever others it has: t all labels, s the names of those set before it,
-- n bytes from p on wanted of m; no line has that of the start
abbrev pub faults_of : Labels → List ℕ → ByteAddr → ℕ → ℕ → ℕ → What → List ℕ → Refusal → Bool
faults_of t s a p n m w l Refusal.Start = false
faults_of t s a p n m w l Refusal.Form = not (is_known_as w l)
faults_of t s a p n m w l Refusal.Deep = is_deep (line_value t (shape_of w) (body_of l))
faults_of t s a p n m w l Refusal.Label = is_unknown (line_value t (shape_of w) (body_of l))
faults_of t s a p n m w l Refusal.Twice = not (eqb (label_in l) 0) && is_set s (label_in l)
faults_of t s a p n m w l Refusal.Many = not (eqb (label_in l) 0) && not (has_room s)
faults_of t s a p n m w l Refusal.Value = is_unfit w a (body_of l) (line_value t (shape_of w) (body_of l))
faults_of t s a p n m w l Refusal.Room = ltb m (p + n)

-- what is told of faults: none if there are none, and else the one with the lowest number
abbrev pub Lowest : (Refusal → Bool) → Result Unit Refusal → Type 0
Lowest f (Ok _) = (q : Refusal) → f q ≡ false
Lowest f (Err r) = (f r ≡ true) × ((q : Refusal) → number_of q < number_of r → f q ≡ false)

-- ---- the lines of a text, the first at p: s the names of the labels set before it, n the image's length

abbrev pub check_at : Labels → List ℕ → ℕ → ℕ → List ℕ → Result Unit Refusal
check_at t s p n l = line_check t s (address_of p) (room_check p (shape_of (what_in l)).size n) (what_in l) l

-- all are fine
abbrev pub AllFine : Labels → List ℕ → ℕ → ℕ → List (List ℕ) → Type 0
AllFine t s p n [] = Unit {0}
AllFine t s p n (l ∷ r) = (check_at t s p n l ≡ Ok tt) × AllFine t (with_name s (label_in l)) (p + (shape_of (what_in l)).size) n r

-- the first k are fine, and the next is refused
abbrev pub FineThenNot : Labels → List ℕ → ℕ → ℕ → ℕ → Refusal → List (List ℕ) → Type 0
FineThenNot t s p n k q [] = ⊥
FineThenNot t s p n zero q (l ∷ r) = check_at t s p n l ≡ Err q
FineThenNot t s p n (suc k) q (l ∷ r) =
    (check_at t s p n l ≡ Ok tt) × FineThenNot t (with_name s (label_in l)) (p + (shape_of (what_in l)).size) n k q r

-- why line i is refused: the start is outside the image, and no line is; or it is the first that is not fine
abbrev pub Told : Bool → Labels → ℕ → ℕ → Refusal → ℕ → List (List ℕ) → Type 0
Told true t s n q i ls = (q ≡ Refusal.Start) × (i ≡ 0)
Told false t s n q i ls = (k : ℕ) × (i ≡ suc k) × FineThenNot t [] s n k q ls

-- the bytes of a text that starts at s
abbrev pub text_code : List ℕ → ℕ → List ℕ
text_code x s = code_of (text_labels x s) (address_of s) (lines_of x)

-- ---- labels

-- where a label stands: its place among those that are set
abbrev pub place_of : Labels → ℕ → ℕ
place_of t k = get_or t.places (index_of t.keys k) 0

-- where the first line of known form stands whose label is k, of lines from p on
unfoldable pub first_at : ℕ → ℕ → List (List ℕ) → ℕ
first_at k p [] = p
first_at k p (l ∷ r) = cond (eqb (label_for (is_known l) l) k) p (first_at k (p + bytes_for (is_known l) (what_in l)) r)
