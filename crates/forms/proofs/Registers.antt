-- A register's one or two digits.
-- Assumes nothing.
use Rattle.std.specs.Prelude.{None, Some}
use Prim.Native.Nat.{ℕ, ◌+◌, ◌<◌, ◌≤◌}
use mathlib.Core.Path.{◌≡◌, refl, ◌∙◌}
use mathlib.Core.Bool.{Bool, true, false, cond}
use mathlib.Core.List.{List, [], ◌∷◌}
use native.Mathlib.Omega.{arith}
use lib.Dec.{ltb}
use lib.ListN.{length, get_or}
use borrow.Author.Tests.{lt-ltb, le-ltb, ltb-true, ltb-false, ne_eqb}
use Rattle.text.specs.Digits.{value_of, digits_read}
use Rattle.text.specs.Fields.{same_of}
use Rattle.text.specs.Words.{ascii}
use Rattle.forms.specs.Form.{below, numbered_of}

-- a last digit worth v, below m, after digits worth n
module _ (n m v : ℕ) (h : n + m ≤ 16) (k : m ≤ 10) (f : m ≤ v → v < 10 → 16 ≤ n + v) where
  last : cond (ltb v m) (n + v) 16 ≡ below 16 (cond (ltb v 10) (Some (n + v)) None)
  last = go (ltb v m) refl (ltb v 10) refl
    where
      go : (s : Bool) → ltb v m ≡ s → (t : Bool) → ltb v 10 ≡ t → cond s (n + v) 16 ≡ below 16 (cond t (Some (n + v)) None)
      go true p true q = let i = ltb-true v m p in rw (lt-ltb (n + v) 16 (omega arith))
      go true p false q = let i = ltb-true v m p in let l = ltb-false v 10 q in absurd (omega arith)
      go false p true q = let i = f (ltb-false v m p) (ltb-true v 10 q) in rw (le-ltb (n + v) 16 i)
      go false p false q = refl

one_worth : value_of 49 ≡ 1
unfolding value_of
one_worth = refl

pub other_letter : (f : List ℕ) → 0 < length f → (get_or f 0 0 ≡ 114 → ⊥) → 16 ≡ numbered_of (ascii "r") 16 f
unfolding numbered_of same_of
other_letter [] h n = absurd (omega arith)
other_letter (c ∷ f) h n = rw (ne_eqb c 114 n)

pub one_digit : (f : List ℕ) (r : ℕ) → length f ≡ 2 → get_or f 0 0 ≡ 114 → r ≡ cond (ltb (value_of (get_or f 1 0)) 10) (0 + value_of (get_or f 1 0)) 16
    → r ≡ numbered_of (ascii "r") 16 f
unfolding numbered_of same_of digits_read
one_digit (a ∷ d ∷ []) r h e q = q ∙ rw e (last 0 10 (value_of d) (omega arith) (omega arith) (λ i j. absurd (omega arith)))
one_digit [] r h e q = absurd (omega arith)
one_digit (a ∷ []) r h e q = absurd (omega arith)
one_digit (a ∷ d ∷ b ∷ f) r h e q = absurd (omega arith)

pub two_digits : (f : List ℕ) (r : ℕ) → length f ≡ 3 → get_or f 0 0 ≡ 114 → get_or f 1 0 ≡ 49 → r ≡ cond (ltb (value_of (get_or f 2 0)) 6) (10 + value_of (get_or f 2 0)) 16
    → r ≡ numbered_of (ascii "r") 16 f
unfolding numbered_of same_of digits_read
two_digits (a ∷ b ∷ d ∷ []) r h e g q = q ∙ rw (e, g, one_worth) (last 10 6 (value_of d) (omega arith) (omega arith) (λ i j. omega arith))
two_digits [] r h e g q = absurd (omega arith)
two_digits (a ∷ []) r h e g q = absurd (omega arith)
two_digits (a ∷ b ∷ []) r h e g q = absurd (omega arith)
two_digits (a ∷ b ∷ d ∷ k ∷ f) r h e g q = absurd (omega arith)
