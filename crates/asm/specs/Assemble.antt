-- The assembler: labels, refusals, and the image (document 02, ticket 4).
-- Assumes nothing.
use Rattle.std.specs.Prelude.{ℕ, suc, ◌+◌, ◌%◌, Bool, cond, not, ◌&&◌, ◌||◌, List, [], ◌∷◌, ◌++◌, ltb, eqb, ℤ, pos, length, Err, None, Ok, Option, Result, Some}
use Rattle.word.specs.Numbers.{wrap}
use Rattle.word.specs.Addresses.{byte_sum}
use Rattle.word.specs.declared.ByteAddr.{ByteAddr}
use Rattle.isa.specs.declared.Encoded.{Encoded}
use Rattle.text.specs.Pages.{page, write_on}
use Rattle.expr.specs.Expr.{Labels, labels, none, index_of, value_of}
use Rattle.expr.specs.Expr.{Read as Valued}
use Rattle.expr.specs.declared.Value.{Value}
use Rattle.forms.specs.Form.{lines_of, body_of, field_at, named, what_in, shape_of, number_at, is_known_as, is_known}
use Rattle.forms.specs.Says.{bits_of, bits_at, bytes_in}
use Rattle.forms.specs.declared.What.{What}
use Rattle.forms.specs.declared.Sort.{Sort}
use Rattle.forms.specs.declared.Shape.{Shape}
use Rattle.asm.specs.declared.Refusal.{Refusal}

-- ---- a line of known form

-- "addresses are modulo 2^32"
abbrev pub address_of : ℕ → ByteAddr
address_of p = record { 0 = wrap p }

abbrev pub zero_read : Valued
zero_read = Ok (Value.Is (pos 0), 0)

-- the value of the expression among a line's operands, 0 where there is none
unfoldable pub sum_at : Labels → Sort → List ℕ → Valued → Valued
sum_at t Sort.Nothing f other = other
sum_at t Sort.Never f other = other
sum_at t Sort.Reg f other = other
sum_at t Sort.Sfr f other = other
sum_at t Sort.LowSfr f other = other
sum_at t Sort.Sum f other = value_of t f

unfoldable pub line_value : Labels → Shape → List ℕ → Valued
line_value t s b = sum_at t s.first (field_at 2 b) (sum_at t s.second (field_at 3 b) zero_read)

-- its bits at a, for what it names and its value; none if that doesn't fit its place
unfoldable pub line_bits : What → ByteAddr → List ℕ → ℤ → Option Encoded
line_bits w a b z =
    bits_at w a (number_at (shape_of w).first (field_at 2 b)) (number_at (shape_of w).second (field_at 3 b)) (number_at (shape_of w).third (field_at 4 b)) (bits_of z)

-- a line's own label; 0 where it has none
abbrev pub label_in : List ℕ → ℕ
label_in l = named (field_at 0 (body_of l))

-- ---- labels: "At most 256 labels ..; a label means its first writing, one after the 256th is unknown"

abbrev pub is_set : List ℕ → ℕ → Bool
is_set s k = ltb (index_of s k) (length s)

abbrev pub has_room : List ℕ → Bool
has_room s = ltb (length s) 256

-- a line's label is set if it has one that isn't set, and there is room
abbrev pub is_new : List ℕ → ℕ → Bool
is_new s k = not (eqb k 0) && not (is_set s k) && has_room s

unfoldable pub with_name : List ℕ → ℕ → List ℕ
with_name s k = cond (is_new s k) (s ++ (k ∷ [])) s

unfoldable pub with_label : Labels → ℕ → ByteAddr → Labels
with_label t k a = cond (is_new t.keys k) (labels (t.keys ++ (k ∷ [])) (t.places ++ (a.0 ∷ []))) t

-- "a line of unknown form takes no bytes and sets no label"; every other does, whatever else is wrong with it
unfoldable pub label_for : Bool → List ℕ → ℕ
label_for known l = cond known (label_in l) 0

unfoldable pub bytes_for : Bool → What → ℕ
bytes_for known w = cond known (shape_of w).size 0

-- the labels of lines from the address a on, with those that are set before them
unfoldable pub labels_of : Labels → ByteAddr → List (List ℕ) → Labels
labels_of t a [] = t
labels_of t a (l ∷ r) = labels_of (with_label t (label_for (is_known l) l) a) (byte_sum a (bytes_for (is_known l) (what_in l))) r

-- ---- refusals: "in this order within one"

abbrev pub number_of : Refusal → ℕ
number_of Refusal.Start = 29
number_of Refusal.Form = 30
number_of Refusal.Deep = 31
number_of Refusal.Label = 32
number_of Refusal.Twice = 33
number_of Refusal.Many = 34
number_of Refusal.Value = 35
number_of Refusal.Room = 36

-- the number of lines and the address after the last byte, or what is refused and the line
abbrev pub Assembled : Type 0
Assembled = Result (ℕ × ℕ) (Refusal × ℕ)

-- what a call answers: 0 or the refusal's number; the number of lines, or the line refused; the address after the last byte, or 0
abbrev pub reply_of : Assembled → ℕ
reply_of (Ok (i, e)) = 0
reply_of (Err (r, i)) = number_of r

abbrev pub line_of : Assembled → ℕ
line_of (Ok (i, e)) = i
line_of (Err (r, i)) = i

abbrev pub end_of : Assembled → ℕ
end_of (Ok (i, e)) = e
end_of (Err (r, i)) = 0

-- the first of two checks that refuses
abbrev pub before : Result Unit Refusal → Result Unit Refusal → Result Unit Refusal
before (Ok _) x = x
before (Err r) x = Err r

abbrev pub refused_if : Bool → Refusal → Result Unit Refusal
refused_if t r = cond t (Err r) (Ok tt)

-- "33 label written twice, 34 too many labels"; s the names of the labels set before
unfoldable pub label_check : List ℕ → ℕ → Result Unit Refusal
label_check s k = cond (eqb k 0) (Ok tt) (before (refused_if (is_set s k) Refusal.Twice) (refused_if (not (has_room s)) Refusal.Many))

-- "35 value that doesn't fit its place"
abbrev pub fit_check : Option Encoded → Result Unit Refusal
fit_check (Some (Encoded.Half h)) = Ok tt
fit_check (Some (Encoded.Pair h s)) = Ok tt
fit_check None = Err Refusal.Value

-- "31 ninth parenthesis, 32 unknown label", then those of the line's own label, then 35, and "36 no room in the image": x is of its own label, y of its room
unfoldable pub value_check : What → ByteAddr → List ℕ → Result Unit Refusal → Result Unit Refusal → Valued → Result Unit Refusal
value_check w a b x y (Err e) = Err Refusal.Deep
value_check w a b x y (Ok (Value.Unknown, n)) = Err Refusal.Label
value_check w a b x y (Ok (Value.Large, n)) = before x (Err Refusal.Value)
value_check w a b x y (Ok (Value.Is z, n)) = before x (before (fit_check (line_bits w a b z)) y)

-- a line at a that names w: t all labels, s the names of those set before it, y the check of its room; "30 unknown form" comes first
unfoldable pub line_check : Labels → List ℕ → ByteAddr → Result Unit Refusal → What → List ℕ → Result Unit Refusal
line_check t s a y w l =
    cond (is_known_as w l) (value_check w a (body_of l) (label_check s (label_in l)) y (line_value t (shape_of w) (body_of l))) (Err Refusal.Form)

-- n bytes from p on, in an image of m
unfoldable pub room_check : ℕ → ℕ → ℕ → Result Unit Refusal
room_check p n m = refused_if (ltb m (p + n)) Refusal.Room

-- ---- the whole text: "first line first"

abbrev pub go_on : Result Unit Refusal → ℕ → Assembled → Assembled
go_on (Ok _) i rest = rest
go_on (Err r) i rest = Err (r, i)

-- i lines come before, and the next one stands at p
unfoldable pub verdict_of : Labels → List ℕ → ℕ → ℕ → ℕ → List (List ℕ) → Assembled
verdict_of t s p n i [] = Ok (i, p)
verdict_of t s p n i (l ∷ r) =
    go_on (line_check t s (address_of p) (room_check p (shape_of (what_in l)).size n) (what_in l) l) (suc i)
    (verdict_of t (with_name s (label_in l)) (p + (shape_of (what_in l)).size) n (suc i) r)

-- a value; 0 for what has none
unfoldable pub value_in : Valued → ℤ
value_in (Ok (Value.Is z, n)) = z
value_in (Ok (Value.Large, n)) = pos 0
value_in (Ok (Value.Unknown, n)) = pos 0
value_in (Err e) = pos 0

-- the bytes of a line at a that names w, and of lines from a on; none of them refused
unfoldable pub line_bytes : Labels → ByteAddr → What → List ℕ → List ℕ
line_bytes t a w l = bytes_in (line_bits w a (body_of l) (value_in (line_value t (shape_of w) (body_of l))))

unfoldable pub code_of : Labels → ByteAddr → List (List ℕ) → List ℕ
code_of t a [] = []
code_of t a (l ∷ r) = line_bytes t a (what_in l) l ++ code_of t (byte_sum a (shape_of (what_in l)).size) r

-- "29 start odd or past the image (line 0)"
abbrev pub is_outside : ℕ → ℕ → Bool
is_outside s n = eqb (s % 2) 1 || ltb n s

abbrev pub text_labels : List ℕ → ℕ → Labels
text_labels x s = labels_of none (address_of s) (lines_of x)

-- what is answered, and the image after it
pub record Answered : Type 0 where
  pub assembled : Assembled
  pub image : List ℕ

abbrev pub answered : Assembled → List ℕ → Answered
answered x m = record { assembled = x; image = m }

-- "the image unchanged" by a refusal
abbrev pub image_after : Assembled → List ℕ → ℕ → List ℕ → List ℕ
image_after (Ok (i, e)) code s m = (write_on code (page m s)).text
image_after (Err (r, i)) code s m = m

unfoldable pub verdict_in : List ℕ → ℕ → ℕ → Assembled
verdict_in x s n = cond (is_outside s n) (Err (Refusal.Start, 0)) (verdict_of (text_labels x s) [] s n 0 (lines_of x))

unfoldable pub assembled_of : List ℕ → ℕ → List ℕ → Answered
assembled_of x s m =
    answered (verdict_in x s (length m)) (image_after (verdict_in x s (length m)) (code_of (text_labels x s) (address_of s) (lines_of x)) s m)
