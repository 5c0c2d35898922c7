-- Words that only helpers' contracts cite.
-- Assumes nothing.
use Rattle.std.specs.Prelude.{ℕ, ◌%◌, ◌≤◌, ◌≡◌, List, ◌++◌, length, drop}

-- a range that is not refused
pub record Good (n s e : ℕ) : Type 0 where
  pub limit : n ≤ 65536
  pub start : s % 2 ≡ 0
  pub end : e % 2 ≡ 0
  pub order : s ≤ e
  pub inside : e ≤ n

-- a text stands at the front of a buffer, whose rest is as it was
abbrev pub Kept : List ℕ → List ℕ → List ℕ → Type 0
Kept out t l = out ≡ t ++ drop (length t) l
