-- Words that only helpers' contracts cite: the form of a sum, as a walk over its bytes (it is the grammar's: proofs/Walk.antt).
-- Assumes nothing.
use Rattle.std.specs.Prelude.{ℕ, zero, suc, ◌+◌, ◌-◌, Bool, true, false, cond, not, ◌&&◌, ◌||◌, List, [], ◌∷◌, Option, Some, None, ltb, leb, eqb, take, drop}
use Rattle.expr.specs.declared.turn.Turn.{Turn}
use Rattle.expr.specs.declared.cycle.Level.{Level}
use Rattle.expr.specs.Expr.{is_letter, is_digit, run_of, key_of, size_of, leaf_of, none, adds, multiplies, Labels, Read, product_of, operand_of}

-- a letter or a digit
abbrev pub named : ℕ → Bool
named c = is_letter c || is_digit c

-- the number of the letters and digits that lead, and how many they are, if they are few enough
unfoldable pub led_by : List ℕ → Option (ℕ × ℕ)
led_by s = cond (leb (run_of s) 12) (Some (key_of (take (run_of s) s), run_of s)) None

abbrev pub joins : ℕ → Bool
joins c = multiplies c || adds c

-- wanted: an operand comes next; minus: a minus may stand before it; k parentheses are open; n bytes at the front are read already and are passed one by one
unfoldable pub walk : Bool → Bool → ℕ → ℕ → List ℕ → Bool
walk wanted minus k n [] = not wanted && eqb k 0
walk wanted minus k (suc n) (c ∷ s) = walk wanted minus k n s
walk true minus k zero (c ∷ s) =
    cond (eqb c 40) (walk true true (k + 1) 0 s)
    (cond (minus && eqb c 45) (walk true false k 0 s)
    (cond (eqb (size_of (leaf_of none (c ∷ s))) 0) false (walk false false k (size_of (leaf_of none (c ∷ s)) - 1) s)))
walk false minus k zero (c ∷ s) =
    cond (joins c) (walk true true k 0 s)
    (cond (eqb c 41 && ltb 0 k) (walk false false (k - 1) 0 s) false)

-- what the walk says from a turn's end on
unfoldable pub told_by : List ℕ → Option Turn → Bool
told_by s (Some t) = walk t.wanted t.minus t.depth 0 (drop t.at s)
told_by s None = false

-- the bytes that join the items of a sum or of a product, and what reads an item
abbrev pub joins_in : Level → ℕ → Bool
joins_in Level.Sum = adds
joins_in Level.Product = multiplies

abbrev pub item_in : Level → Labels → ℕ → List ℕ → Read
item_in Level.Sum t more = product_of t more
item_in Level.Product t more = operand_of t more
