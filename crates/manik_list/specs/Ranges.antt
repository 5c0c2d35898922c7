-- Why a range is refused (document 02, ticket 1, refusal 20).
-- Assumes nothing.
use Rattle.std.specs.Prelude.{ℕ, ◌%◌, Bool, cond, ltb, eqb, Result, Ok, Err, is_err}
use Rattle.manik_list.specs.declared.ranges.Why.{Why}

-- the first reason, for an image of n bytes, a start and an end
abbrev pub why_of : ℕ → ℕ → ℕ → Result (Unit {0}) Why
why_of n s e =
    cond (ltb 65536 n) (Err Why.TooLong)
    (cond (eqb (s % 2) 1) (Err Why.StartOdd)
    (cond (eqb (e % 2) 1) (Err Why.EndOdd)
    (cond (ltb e s) (Err Why.Reversed)
    (cond (ltb n e) (Err Why.Outside) (Ok tt)))))

abbrev pub is_refused : Result (Unit {0}) Why → Bool
is_refused r = is_err r
