-- Refusals 20 and 21 of a listing, as facts in their order.
-- Assumes nothing.
use Rattle.std.specs.Prelude.{Err, Ok, Result}
use Prim.Native.Nat.{ℕ, ◌%◌, ◌<◌, ◌≤◌}
use mathlib.Core.Path.{◌≡◌, refl}
use mathlib.Core.Bool.{Bool, true, false, cond, ◌||◌}
use mathlib.Core.List.{List, ◌++◌}
use lib.Dec.{ltb, eqb}
use lib.ListN.{length, drop}
use borrow.Author.Tests.{ltb-true, ltb-false, eqb-true}
use Rattle.listing.specs.Listing.{listing_of}
use Rattle.listing.specs.Lent.{is_out_of, answered, put_into, listed_of}
use Rattle.listing.specs.Parts.{Good}
use Rattle.listing.proofs.Lent.{good}
use Rattle.columns.specs.Columns.{Outside, large, odd_start, odd_end, reversed, past, Answers}
use Rattle.listing.specs.declared.Refusal.{Refusal}

-- which of the five tests it was
outside : (n s e : ℕ) → is_out_of n s e ≡ true → Outside n s e
outside n s e h = go (ltb 65536 n) (eqb (s % 2) 1) (eqb (e % 2) 1) (ltb e s) refl refl refl refl h
  where
    go : (a b c d : Bool) → ltb 65536 n ≡ a → eqb (s % 2) 1 ≡ b → eqb (e % 2) 1 ≡ c → ltb e s ≡ d → (a || b || c || d || ltb n e) ≡ true → Outside n s e
    go true b c d p q r t h = large (ltb-true _ _ p)
    go false true c d p q r t h = odd_start (eqb-true _ _ q)
    go false false true d p q r t h = odd_end (eqb-true _ _ r)
    go false false false true p q r t h = reversed (ltb-true _ _ t)
    go false false false false p q r t h = past (ltb-true _ _ h)

module _ (m : List ℕ) (s e : ℕ) (l : List ℕ) where
  abbrev text : List ℕ
  text = listing_of m s e

  fits : Good (length m) s e → Answers m s e (length l) (put_into text l).listed
  fits g = go (ltb (length l) (length text)) refl
    where
      go : (b : Bool) → ltb (length l) (length text) ≡ b
          → Answers m s e (length l) (cond b (answered (Err Refusal.NoRoom) l) (answered (Ok (length text)) (text ++ drop (length text) l))).listed
      go true h = (g, ltb-true _ _ h)
      go false h = (g, ltb-false _ _ h, refl)

  pub answers : Answers m s e (length l) (listed_of m s e l).listed
  unfolding listed_of
  answers = go (is_out_of (length m) s e) refl
    where
      go : (b : Bool) → is_out_of (length m) s e ≡ b → Answers m s e (length l) (cond b (answered (Err Refusal.OutOfImage) l) (put_into text l)).listed
      go true h = outside (length m) s e h
      go false h = fits (good (length m) s e h)
