use Rattle.std.proofs.Common.{rules, tests, arith, ◌≡◌, ◌+◌, ℕ, zero, suc, Bool, ◌||◌, refl, sym, ap, ◌∙◌}
use Rattle.std.proofs.Math.Bool.{or-false, or_assoc}
use Rattle.std.specs.List.{list_any, range_with_len}
use Rattle.std.proofs.lemmas.Iterator.{YieldsList-from_range}
use Rattle.std.proofs.lemmas.Iterator.Search.{any_from_yields_List}
use Rattle.marks.specs.Memory.{Marks, bits, mark_at, any_mark}
use Rattle.marks.proofs.memory.any_one_by_one.Goals as goal

-- a range's last number, where the definition has its first
one_more : (test : ℕ → Bool) (a n : ℕ) → list_any test (range_with_len a (suc n)) ≡ (list_any test (range_with_len a n) || test (a + n))
one_more test a zero = let e : a + 0 ≡ a = omega arith in rw e (or-false (test a))
one_more test a (suc n) =
    let e : a + 1 + n ≡ a + suc n = omega arith in
    ap (◌||◌ (test a)) (one_more test (a + 1) n) ∙ sym (or_assoc (test a) _ _) ∙ ap (λ m. list_any test (range_with_len a (suc n)) || test m) e

any_counted : (n : ℕ) (k : Marks) (i : ℕ) → list_any (λ j. mark_at k (i + j)) (range_with_len 0 n) ≡ any_mark n k i
unfolding any_mark
any_counted zero k i = refl
any_counted (suc n) k i = let e : 0 + n ≡ n = omega arith in one_more (λ j. mark_at k (i + j)) 0 n ∙ rw (any_counted n k i, e)

pub returns : goal.returns
returns c =
    let k = bits c.args.k.now in
    any_from_yields_List (λ j. mark_at k (c.args.at + j)) _ _ _ c.any.ensures.ran (YieldsList-from_range 0 c.args.n c.args.n refl (omega arith)) (λ x b q h. search (rules, tests))
    ∙ any_counted c.args.n k c.args.at
