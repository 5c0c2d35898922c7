-- Words that the law of the signed order by flags is stated in (proofs/Numbers.antt); the machine does not use them.
-- Assumes nothing.
use Rattle.std.specs.Prelude.{ℕ, Bool, false, not, ◌&&◌}
use Rattle.std.specs.Bool.{beq}
use Rattle.word.specs.Bits.{on}
use Rattle.word.specs.Numbers.{difference_of}

-- what a compare's subtraction leaves (the guide, "Compare Instructions"): the sign of x - y, and whether that overflows
abbrev pub negative_of : ℕ → ℕ → Bool
negative_of x y = on (difference_of x y false) 31

abbrev pub overflow_of : ℕ → ℕ → Bool
overflow_of x y = not (beq (on x 31) (on y 31)) && not (beq (on x 31) (negative_of x y))
