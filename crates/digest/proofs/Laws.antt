-- The digest: cut before the product, and as a fold.
-- Assumes nothing.
use Rattle.std.proofs.Common.{◌≡◌, ℕ, ◌+◌, ◌*◌, ◌/◌, ◌%◌, List, [], ◌∷◌, refl, sym, ap, ◌∙◌, arith}
use Rattle.std.specs.List.{fold}
use native.Mathlib.Nat.{add-mul-mod_self_right}
use Rattle.digest.specs.Digest.{folded, digest_of}

pub cut_first : (d x : ℕ) → (d % 4294967291 * 1000003 + x) % 4294967291 ≡ folded d x
unfolding folded
cut_first d x =
    let e : d * 1000003 + x ≡ d % 4294967291 * 1000003 + x + d / 4294967291 * 1000003 * 4294967291 = omega arith in
    sym (add-mul-mod_self_right (d % 4294967291 * 1000003 + x) (d / 4294967291 * 1000003) 4294967291) ∙ ap (λ (n : ℕ). n % 4294967291) (sym e)

-- a digest is the fold of its step over the bytes
pub digest_folds : (d : ℕ) (l : List ℕ) → digest_of d l ≡ fold folded d l
unfolding digest_of
digest_folds d [] = refl
digest_folds d (x ∷ l) = digest_folds (folded d x) l
