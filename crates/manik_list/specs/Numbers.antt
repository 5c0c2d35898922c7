-- Numbers of the command line: decimal, or hex after 0x with digits of either case; of up to 32 bits.
-- Assumes nothing.
use Rattle.std.specs.Prelude.{ℕ, ◌+◌, ◌*◌, ◌^◌, Bool, cond, List, [], ◌∷◌, ltb, take, drop, None, Option, Some}
use Rattle.text.specs.Digits.{value_of}
use Rattle.text.specs.Fields.{same_of}
use Rattle.text.specs.Words.{ascii}

-- `A` to `F` as `a` to `f`
abbrev pub lower_of : ℕ → ℕ
lower_of c = cond (ltb c 65) c (cond (ltb 70 c) c (c + 32))

abbrev pub digit_of : ℕ → ℕ
digit_of c = value_of (lower_of c)

-- the number that digits of a base write after v
unfoldable pub number_in : ℕ → ℕ → List ℕ → Option ℕ
number_in base v [] = cond (ltb v (2 ^ 32)) (Some v) None
number_in base v (c ∷ l) = cond (ltb (digit_of c) base) (number_in base (v * base + digit_of c) l) None

-- one digit at least
unfoldable pub word_of : ℕ → List ℕ → Option ℕ
word_of base [] = None
word_of base (c ∷ l) = number_in base 0 (c ∷ l)

abbrev pub is_hex : List ℕ → Bool
is_hex l = same_of (take 2 l) (ascii "0x")

abbrev pub number_of : List ℕ → Option ℕ
number_of l = cond (is_hex l) (word_of 16 (drop 2 l)) (word_of 10 l)
