-- Laws of numbers and labels: digits of any length, and what does not depend on the labels.
-- Assumes nothing.
use Rattle.std.specs.Prelude.{None, Ok, Err}
use Prim.Native.Nat.{ℕ, ◌+◌, ◌*◌, ◌<◌, ◌≤◌}
use mathlib.Core.Path.{◌≡◌, refl, sym, ap, ◌∙◌}
use mathlib.Core.Bool.{Bool, true, false, cond}
use mathlib.Core.List.{List, [], ◌∷◌}
use native.Mathlib.Nat.{mul-le-mul, le-mul_of_pos_right}
use native.Mathlib.Omega.{arith}
use lib.Dec.{leb, ltb}
use borrow.Author.Tests.{leb-false, lt-ltb}
use lib.ListN.{length, get_or, drop}
use Rattle.text.specs.Digits.{value_of, digits_read}
use Rattle.text.proofs.Laws.{number_on, number_stop, number_none}
use Rattle.expr.specs.declared.Fault.{Fault}
use Rattle.expr.specs.Value.{written}
use Rattle.expr.specs.Expr.{counted}

pub digit_fits : (v b : ℕ) → v ≤ 2147483647 → b ≤ 16 → v * b ≤ 2147483647 * 16
digit_fits v b h k = mul-le-mul h k

grows : (x b d : ℕ) → 1 ≤ b → 2147483647 < x → 2147483647 < x * b + d
grows x b d h g = let m : x ≤ x * b = le-mul_of_pos_right x h in omega arith

-- what is too large stays so, whatever its digits are
pub stays_large : (n b : ℕ) → 1 ≤ b → (l : List ℕ) (v w : ℕ) → 2147483647 < v → 2147483647 < w → counted n (digits_read b v l) ≡ counted n (digits_read b w l)
unfolding counted digits_read written
stays_large n b hb [] v w h k = rw (lt-ltb _ _ h, lt-ltb _ _ k)
stays_large n b hb (c ∷ l) v w h k = go (ltb (value_of c) b) (stays_large n b hb l (v * b + value_of c) (w * b + value_of c) (grows v b (value_of c) hb h) (grows w b (value_of c) hb k))
  where
    go : (t : Bool) → counted n (digits_read b (v * b + value_of c) l) ≡ counted n (digits_read b (w * b + value_of c) l) → counted n (cond t (digits_read b (v * b + value_of c) l) None) ≡ counted n (cond t (digits_read b (w * b + value_of c) l) None)
    go true e = e
    go false e = refl

module _ (n : ℕ) (l : List ℕ) (i : ℕ) (h : i < length l) (b v d : ℕ) (e : d ≡ value_of (get_or l i 0)) where
  pub digit_on : 1 ≤ b → d < b → (x : ℕ) → x ≡ cond (leb v 2147483647) (v * b + d) v → counted n (digits_read b v (drop i l)) ≡ counted n (digits_read b x (drop (i + 1) l))
  digit_on hb k x hx = ap (counted n) (number_on l i h b v d e k) ∙ go (leb v 2147483647) refl ∙ ap (λ (y : ℕ). counted n (digits_read b y (drop (i + 1) l))) (sym hx)
    where
      go : (t : Bool) → leb v 2147483647 ≡ t → counted n (digits_read b (v * b + d) (drop (i + 1) l)) ≡ counted n (digits_read b (cond t (v * b + d) v) (drop (i + 1) l))
      go true p = refl
      go false p =
          let q : 2147483647 < v = leb-false _ _ p in
          stays_large n b hb (drop (i + 1) l) (v * b + d) v (grows v b d hb q) q

  pub digit_stop : b ≤ d → counted n (digits_read b v (drop i l)) ≡ Err Fault.Form
  unfolding counted
  digit_stop k = rw (number_stop l i h b v d e k)

pub digit_none : (n : ℕ) (l : List ℕ) (i : ℕ) → length l ≤ i → (b v : ℕ) → counted n (digits_read b v (drop i l)) ≡ Ok (written v, n)
unfolding counted
digit_none n l i h b v = rw (number_none l i h b v)
