-- The slots of mnemonics find what a search for the first place finds.
-- Assumes nothing.
use Prim.Native.Nat.{ℕ, suc, ◌/◌, ◌%◌, ◌^◌, ◌<◌, ◌≤◌}
use mathlib.Core.Path.{◌≡◌, refl, ap, subst, ◌∙◌}
use mathlib.Core.Bool.{Bool, true, false, cond}
use mathlib.Core.List.{List, [], ◌∷◌}
use native.Mathlib.Nat.{mod-lt}
use native.Mathlib.Omega.{arith}
use lib.Dec.{ltb, eqb}
use lib.ListN.{length, get_or}
use borrow.Author.Tests.{ltb-true, ltb-false, eqb-true, eqb-false}
use Rattle.isa.proofs.Rows.{each_at}
use Rattle.listing.specs.Names.{names, letters_in, name_at}
use Rattle.expr.specs.Expr.{key_from, index_of}
use Rattle.forms.specs.Form.{named_from, mnemonics}
use Rattle.forms.specs.Parts.{with_entry, entered, slots, place_in}

-- ---- computed of all places, and of all slots

pub all_names : length mnemonics ≡ 83
unfolding mnemonics named_from
all_names = refl

pub few_letters : (l : List ℕ) (p : ℕ) → l ≡ mnemonics → p < 83 → get_or l p 0 < 2 ^ 32
unfolding mnemonics named_from name_at names letters_in key_from
few_letters l p e h = rw e (ltb-true _ _ (each_at (λ (q : ℕ). ltb (get_or mnemonics q 0) (2 ^ 32)) 83 p refl h))

-- the slot of each name holds its number
held : (p : ℕ) → p < 83 → eqb (get_or slots (get_or mnemonics p 0 % 312) 0 / 128) (get_or mnemonics p 0) ≡ true
unfolding slots entered with_entry mnemonics named_from name_at names letters_in key_from
held p h = each_at (λ (q : ℕ). eqb (get_or slots (get_or mnemonics q 0 % 312) 0 / 128) (get_or mnemonics q 0)) 83 p refl h

-- and its place, as every slot does
placed : (s : ℕ) → s < 312 → eqb (get_or slots s 0 % 128) (index_of mnemonics (get_or slots s 0 / 128)) ≡ true
unfolding slots entered with_entry mnemonics named_from name_at names letters_in key_from index_of
placed s h = each_at (λ (q : ℕ). eqb (get_or slots q 0 % 128) (index_of mnemonics (get_or slots q 0 / 128))) 312 s refl h

-- ---- a number stands at its place, if it has one

index_most : (l : List ℕ) (k : ℕ) → index_of l k ≤ length l
unfolding index_of
index_most [] k = omega arith
index_most (x ∷ l) k = go (eqb x k) (index_most l k)
  where
    go : (t : Bool) → index_of l k ≤ length l → cond t 0 (suc (index_of l k)) ≤ suc (length l)
    go true h = omega arith
    go false h = omega arith

pub index_at : (l : List ℕ) (k : ℕ) → index_of l k < length l → get_or l (index_of l k) 0 ≡ k
unfolding index_of
index_at [] k h = absurd (omega arith)
index_at (x ∷ l) k h = go (eqb x k) refl h (index_at l k)
  where
    go : (t : Bool) → eqb x k ≡ t → cond t 0 (suc (index_of l k)) < suc (length l) → (index_of l k < length l → get_or l (index_of l k) 0 ≡ k)
        → get_or (x ∷ l) (cond t 0 (suc (index_of l k))) 0 ≡ k
    go true e h f = eqb-true x k e
    go false e h f = f (omega arith)

-- what a slot doesn't hold is no mnemonic's
module _ (k : ℕ) (n : get_or slots (k % 312) 0 / 128 ≡ k → ⊥) where
  none : index_of mnemonics k < 83 → ⊥
  none h =
      let a = index_at mnemonics k (rw all_names h) in
      n (subst (λ (x : ℕ). get_or slots (x % 312) 0 / 128 ≡ x) a (eqb-true _ _ (held (index_of mnemonics k) h)))

  no_place : 83 ≡ index_of mnemonics k
  no_place = go (ltb (index_of mnemonics k) 83) refl
    where
      go : (t : Bool) → ltb (index_of mnemonics k) 83 ≡ t → 83 ≡ index_of mnemonics k
      go true e = absurd (none (ltb-true _ _ e))
      go false e = let h : 83 ≤ index_of mnemonics k = ltb-false _ _ e in let m = index_most mnemonics k in let l = all_names in omega arith

pub place_found : (t : List ℕ) (k : ℕ) → t ≡ slots → place_in t k ≡ index_of mnemonics k
unfolding place_in
place_found t k e = rw e (go (eqb (get_or slots (k % 312) 0 / 128) k) refl)
  where
    go : (b : Bool) → eqb (get_or slots (k % 312) 0 / 128) k ≡ b → cond b (get_or slots (k % 312) 0 % 128) 83 ≡ index_of mnemonics k
    go true p = eqb-true _ _ (placed (k % 312) (mod-lt k (omega arith))) ∙ ap (index_of mnemonics) (eqb-true _ _ p)
    go false p = no_place k (eqb-false _ _ p)
