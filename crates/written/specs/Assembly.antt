-- Words that the theorems on the assembler are stated in (proofs/Theorems.antt has the statements); Written.antt has those for one line's bytes.
-- Assumes nothing.
use Rattle.std.specs.Prelude.{ℕ, zero, suc, ◌+◌, ◌%◌, ◌≤◌, ◌<◌, ◌≡◌, Bool, true, false, cond, not, ◌&&◌, ◌||◌, List, [], ◌∷◌, ◌++◌, ltb, leb, eqb, length, take, Err, Ok, Result}
use Rattle.word.specs.declared.ByteAddr.{ByteAddr}
use Rattle.isa.specs.Statements.{has_bits}
use Rattle.expr.specs.Expr.{Labels}
use Rattle.expr.specs.Expr.{Read as Valued}
use Rattle.expr.specs.declared.Value.{Value}
use Rattle.forms.specs.Form.{lines_of, body_of, field_at, named, what_in, shape_of, is_known}
use Rattle.forms.specs.declared.What.{What}
use Rattle.asm.specs.Assemble.{address_of, line_value, line_bits, number_of, line_check, room_check, code_of, text_labels}
use Rattle.asm.specs.declared.Refusal.{Refusal}

-- ---- labels, by their names' numbers

-- a name stands in a list
unfoldable pub is_in : ℕ → List ℕ → Bool
is_in k [] = false
is_in k (x ∷ s) = eqb x k || is_in k s

-- the label that a line writes: its name's number, which is above 0; 0 if the field is empty
abbrev pub own_label : List ℕ → ℕ
own_label l = named (field_at 0 (body_of l))

abbrev pub own_labels : List ℕ → List ℕ
own_labels l = cond (ltb 0 (own_label l)) (own_label l ∷ []) []

-- the labels that lines write, in their order: "a line of unknown form .. sets no label"
unfoldable pub written_in : List (List ℕ) → List ℕ
written_in [] = []
written_in (l ∷ r) = cond (is_known l) (own_labels l ++ written_in r) (written_in r)

-- each at its first writing alone; s are those written before
unfoldable pub first_only : List ℕ → List ℕ → List ℕ
first_only s [] = []
first_only s (k ∷ r) = cond (is_in k s) (first_only s r) (k ∷ first_only (k ∷ s) r)

-- "At most 256 labels ..; a label means its first writing, one after the 256th is unknown"
abbrev pub known_in : List (List ℕ) → List ℕ
known_in ls = take 256 (first_only [] (written_in ls))

-- where the first line of known form stands whose label is k, of lines from p on: "a line of unknown form takes no bytes"
unfoldable pub first_at : ℕ → ℕ → List (List ℕ) → ℕ
first_at k p [] = p
first_at k p (l ∷ r) = cond (is_known l) (cond (eqb (own_label l) k) p (first_at k (p + (shape_of (what_in l)).size) r)) (first_at k p r)

-- ---- a line at p: t all labels, s those of the lines before it, n the image's length

abbrev pub check_at : Labels → List ℕ → ℕ → ℕ → List ℕ → Result Unit Refusal
check_at t s p n l = line_check t s (address_of p) (room_check p (shape_of (what_in l)).size n) (what_in l) l

abbrev pub is_deep : Valued → Bool
is_deep (Err e) = true
is_deep (Ok (v, n)) = false

abbrev pub is_unknown : Valued → Bool
is_unknown (Err e) = false
is_unknown (Ok (Value.Unknown, n)) = true
is_unknown (Ok (Value.Large, n)) = false
is_unknown (Ok (Value.Is z, n)) = false

abbrev pub is_unfit : What → ByteAddr → List ℕ → Valued → Bool
is_unfit w a b (Err e) = false
is_unfit w a b (Ok (Value.Unknown, n)) = false
is_unfit w a b (Ok (Value.Large, n)) = true
is_unfit w a b (Ok (Value.Is z, n)) = not (has_bits (line_bits w a b z))

abbrev pub value_in : Labels → List ℕ → Valued
value_in t l = line_value t (shape_of (what_in l)) (body_of l)

-- whether it has the fault that a refusal tells, whatever others it has; no line has that of the start
abbrev pub faults_of : Labels → List ℕ → ℕ → ℕ → List ℕ → Refusal → Bool
faults_of t s p n l Refusal.Start = false
faults_of t s p n l Refusal.Form = not (is_known l)
faults_of t s p n l Refusal.Deep = is_deep (value_in t l)
faults_of t s p n l Refusal.Label = is_unknown (value_in t l)
faults_of t s p n l Refusal.Twice = ltb 0 (own_label l) && is_in (own_label l) s
faults_of t s p n l Refusal.Many = ltb 0 (own_label l) && leb 256 (length s)
faults_of t s p n l Refusal.Value = is_unfit (what_in l) (address_of p) (body_of l) (value_in t l)
faults_of t s p n l Refusal.Room = ltb n (p + (shape_of (what_in l)).size)

-- what is told of faults: none if there are none, and else the one with the lowest number
abbrev pub Lowest : (Refusal → Bool) → Result Unit Refusal → Type 0
Lowest f (Ok _) = (q : Refusal) → f q ≡ false
Lowest f (Err r) = (f r ≡ true) × ((q : Refusal) → number_of q < number_of r → f q ≡ false)

-- ---- the lines of a text, the first at p: s the labels of those before it

-- all are fine
abbrev pub AllFine : Labels → List ℕ → ℕ → ℕ → List (List ℕ) → Type 0
AllFine t s p n [] = Unit {0}
AllFine t s p n (l ∷ r) = (check_at t s p n l ≡ Ok tt) × AllFine t (s ++ own_labels l) (p + (shape_of (what_in l)).size) n r

-- the first k are fine, and the next is refused
abbrev pub FineThenNot : Labels → List ℕ → ℕ → ℕ → ℕ → Refusal → List (List ℕ) → Type 0
FineThenNot t s p n k q [] = ⊥
FineThenNot t s p n zero q (l ∷ r) = check_at t s p n l ≡ Err q
FineThenNot t s p n (suc k) q (l ∷ r) =
    (check_at t s p n l ≡ Ok tt) × FineThenNot t (s ++ own_labels l) (p + (shape_of (what_in l)).size) n k q r

-- why line i of a text that starts at s is refused with q: "29 start odd or past the image (line 0)", or it is the first line that is not fine
pub data Told (t : Labels) (s n : ℕ) (q : Refusal) (i : ℕ) (ls : List (List ℕ)) : Type 0 where
  odd : s % 2 ≡ 1 → q ≡ Refusal.Start → i ≡ 0 → Told t s n q i ls
  past : n < s → q ≡ Refusal.Start → i ≡ 0 → Told t s n q i ls
  line : s % 2 ≡ 0 → s ≤ n → (k : ℕ) → i ≡ suc k → FineThenNot t [] s n k q ls → Told t s n q i ls

-- the bytes of a text that starts at s
abbrev pub text_code : List ℕ → ℕ → List ℕ
text_code x s = code_of (text_labels x s) (address_of s) (lines_of x)
