-- The digest of docs/VECTORS.md and docs/CORPUS.md: "folding a number x into d gives (d * 1000003 + x) mod 4294967291".
-- Assumes nothing.
use Rattle.std.specs.Prelude.{ℕ, ◌+◌, ◌*◌, ◌%◌, List, [], ◌∷◌}

unfoldable pub folded : ℕ → ℕ → ℕ
folded d x = (d * 1000003 + x) % 4294967291

-- from the first byte on
unfoldable pub digest_of : ℕ → List ℕ → ℕ
digest_of d [] = d
digest_of d (x ∷ l) = digest_of (folded d x) l
