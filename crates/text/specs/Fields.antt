-- Fields of a line (document 01, "fields parted by tabs").
-- Assumes nothing.
use Rattle.std.specs.Prelude.{ℕ, suc, ◌+◌, Bool, true, false, cond, ◌&&◌, List, [], ◌∷◌, eqb, take, drop}

-- the place of the first tab; the length where there is none
unfoldable pub tab_of : List ℕ → ℕ
tab_of [] = 0
tab_of (c ∷ l) = cond (eqb c 9) 0 (suc (tab_of l))

-- the first field, and what stands beyond its tab
abbrev pub before_of : List ℕ → List ℕ
before_of l = take (tab_of l) l

abbrev pub beyond_of : List ℕ → List ℕ
beyond_of l = drop (tab_of l + 1) l

-- the same bytes
unfoldable pub same_of : List ℕ → List ℕ → Bool
same_of [] [] = true
same_of [] (y ∷ b) = false
same_of (x ∷ a) [] = false
same_of (x ∷ a) (y ∷ b) = eqb x y && same_of a b
