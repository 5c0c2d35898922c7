-- "An immediate is an expression of decimal or hex numbers and labels" (document 02, ticket 4):
-- sum = product {(+ or -) product}; product = operand {* operand}; operand = [-] (number, label, or "(" sum ")").
-- A text is read from its front; the answer is a value and how many bytes it took, or the first fault of its form.
-- Recursion: `inside_of` on the parentheses that may still open, `chain_of` on the text. No fuel.
-- Assumes nothing.
use Rattle.std.specs.Prelude.{ℕ, zero, suc, ◌+◌, ◌-◌, ◌*◌, Bool, false, cond, ◌&&◌, ◌||◌, List, [], ◌∷◌, ◌==◌, ltb, leb, eqb, length, get_or, take, drop, map, find, None, Option, Some, Result, Ok, Err}
use Rattle.std.specs.Option.{option_map}
use Rattle.text.specs.Digits.{digits_read, leading_zero}
use Rattle.expr.specs.declared.Entry.{Entry}
use Rattle.expr.specs.declared.Value.{Value}
use Rattle.expr.specs.declared.Fault.{Fault}
use Rattle.expr.specs.Value.{combined, negated, signed_word, written}

-- ---- labels: "a letter, then up to 11 letters or digits, lower-case"

abbrev pub is_letter : ℕ → Bool
is_letter c = leb 97 c && leb c 122

abbrev pub is_digit : ℕ → Bool
is_digit c = leb 48 c && leb c 57

-- how many letters and digits lead
unfoldable pub run_of : List ℕ → ℕ
run_of [] = 0
run_of (c ∷ s) = cond (is_letter c || is_digit c) (suc (run_of s)) 0

-- a name's number: its letters and digits in base 37, `0` to `9` as 1 to 10 and `a` to `z` as 11 to 36 (names that differ have different numbers: proofs/Theorems.antt)
abbrev pub rank_of : ℕ → ℕ
rank_of c = cond (is_letter c) (c - 86) (c - 47)

unfoldable pub key_from : ℕ → List ℕ → ℕ
key_from v [] = v
key_from v (c ∷ s) = key_from (v * 37 + rank_of c) s

abbrev pub key_of : List ℕ → ℕ
key_of s = key_from 0 s

abbrev pub is_name : List ℕ → Bool
is_name s = is_letter (get_or s 0 0) && eqb (run_of s) (length s) && leb (length s) 12

-- the labels that are set: their names' numbers, and their addresses
pub record Labels : Type 0 where
  pub keys : List ℕ
  pub places : List ℕ

abbrev pub labels : List ℕ → List ℕ → Labels
labels k p = record { keys = k; places = p }

abbrev pub none : Labels
none = labels [] []

-- the same of labels as the code has them, each with its address beside it
abbrev pub names : List Entry → List ℕ
names l = map (λ (x : Entry). x.name) l

abbrev pub labels_in : List Entry → Labels
labels_in l = labels (names l) (map (λ (x : Entry). x.place) l)

-- where the first label stands whose name has the number k, if one has it
abbrev pub found : List Entry → ℕ → Option ℕ
found l k = option_map (λ (x : Entry). x.place) (find (λ (x : Entry). x.name == k) l)

-- the place of the first number that is k; the length where there is none
unfoldable pub index_of : List ℕ → ℕ → ℕ
index_of [] k = 0
index_of (x ∷ l) k = cond (eqb x k) 0 (suc (index_of l k))

-- "a label means its first writing"
unfoldable pub meaning : Labels → ℕ → Value
meaning t k = cond (ltb (index_of t.keys k) (length t.keys)) (Value.Is (signed_word (get_or t.places (index_of t.keys k) 0))) Value.Unknown

-- ---- what is read

-- a value and how many bytes were read, or what is wrong with the form first
abbrev pub Read : Type 0
Read = Result (Value × ℕ) Fault

-- how many bytes were read
unfoldable pub size_of : Read → ℕ
size_of (Ok (v, n)) = n
size_of (Err e) = 0

-- go on where a value was read
unfoldable pub onward : Read → (Value → ℕ → Read) → Read
onward (Ok (v, n)) f = f v n
onward (Err e) f = Err e

-- ---- number or label: the letters and digits that lead, as one word

unfoldable pub counted : ℕ → Option ℕ → Read
counted n (Some v) = Ok (written v, n)
counted n None = Err Fault.Form

abbrev pub is_hex : List ℕ → Bool
is_hex w = ltb 2 (length w) && eqb (get_or w 0 0) 48 && eqb (get_or w 1 0) 120

-- "decimal without leading zeros; hex 0x and one or more lower-case digits, leading zeros fine; any length"
abbrev pub number_read : List ℕ → Read
number_read w =
    cond (is_hex w) (counted (length w) (digits_read 16 0 (drop 2 w)))
    (cond (eqb (length w) 0 || leading_zero w) (Err Fault.Form) (counted (length w) (digits_read 10 0 w)))

unfoldable pub word_read : Labels → List ℕ → Read
word_read t w =
    cond (is_letter (get_or w 0 0)) (cond (leb (length w) 12) (Ok (meaning t (key_of w), length w)) (Err Fault.Form)) (number_read w)

unfoldable pub leaf_of : Labels → List ℕ → Read
leaf_of t s = word_read t (take (run_of s) s)

-- ---- item {c item}, each c one that joins: v is the value of the n bytes read so far, of which k still stand at the front of the text

unfoldable pub joined_of : ℕ → Value → Read → Read
joined_of c v (Ok (w, n)) = Ok (combined c v w, n)
joined_of c v (Err e) = Err e

unfoldable pub chain_of : (ℕ → Bool) → (List ℕ → Read) → Value → ℕ → ℕ → List ℕ → Read
chain_of joins item v n k [] = Ok (v, n)
chain_of joins item v n (suc k) (c ∷ s) = chain_of joins item v n k s
chain_of joins item v n zero (c ∷ s) =
    cond (joins c) (onward (joined_of c v (item s)) (λ x m. chain_of joins item x (n + 1 + m) m s)) (Ok (v, n))

unfoldable pub items_of : (ℕ → Bool) → (List ℕ → Read) → List ℕ → Read
items_of joins item s = onward (item s) (λ v n. chain_of joins item v n n s)

abbrev pub adds : ℕ → Bool
adds c = eqb c 43 || eqb c 45

abbrev pub multiplies : ℕ → Bool
multiplies c = eqb c 42

-- ---- the grammar, over what a text inside parentheses says

-- how many bytes of a minus lead
unfoldable pub sign_of : List ℕ → ℕ
sign_of s = cond (eqb (get_or s 0 0) 45) 1 0

unfoldable pub signed_of : ℕ → Read → Read
signed_of k (Ok (v, n)) = cond (eqb k 0) (Ok (v, n)) (Ok (negated v, n + 1))
signed_of k (Err e) = Err e

-- what was read after `(`, with the `)` that must follow
unfoldable pub closed_of : List ℕ → Read → Read
closed_of s (Ok (v, n)) = cond (eqb (get_or s n 0) 41) (Ok (v, n + 2)) (Err Fault.Form)
closed_of s (Err e) = Err e

-- number, label, or "(" sum ")"
unfoldable pub plain_with : (List ℕ → Read) → Labels → List ℕ → Read
plain_with inside t s = cond (eqb (get_or s 0 0) 40) (closed_of (drop 1 s) (inside (drop 1 s))) (leaf_of t s)

unfoldable pub operand_with : (List ℕ → Read) → Labels → List ℕ → Read
operand_with inside t s = signed_of (sign_of s) (plain_with inside t (drop (sign_of s) s))

unfoldable pub product_with : (List ℕ → Read) → Labels → List ℕ → Read
product_with inside t s = items_of multiplies (operand_with inside t) s

unfoldable pub sum_with : (List ℕ → Read) → Labels → List ℕ → Read
sum_with inside t s = items_of adds (product_with inside t) s

-- inside parentheses, of which `more` may open, this one with them
unfoldable pub inside_of : Labels → ℕ → List ℕ → Read
inside_of t zero s = Err Fault.Deep
inside_of t (suc more) s = sum_with (inside_of t more) t s

unfoldable pub operand_of : Labels → ℕ → List ℕ → Read
operand_of t more s = operand_with (inside_of t more) t s

unfoldable pub product_of : Labels → ℕ → List ℕ → Read
product_of t more s = product_with (inside_of t more) t s

unfoldable pub sum_of : Labels → ℕ → List ℕ → Read
sum_of t more s = sum_with (inside_of t more) t s

-- ---- the whole of a field

-- "at most eight parentheses may be open"
unfoldable pub value_of : Labels → List ℕ → Read
value_of t s = sum_of t 8 s

-- all of it is read
unfoldable pub is_whole : List ℕ → Read → Bool
is_whole s (Ok (v, n)) = eqb n (length s)
is_whole s (Err e) = false

-- a sum, whatever its labels mean and however many parentheses are open: no more can be than it has bytes
unfoldable pub is_sum : List ℕ → Bool
is_sum s = is_whole s (sum_of none (length s) s)
