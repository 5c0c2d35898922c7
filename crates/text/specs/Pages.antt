-- Text that is written into a lent room.
-- Assumes nothing.
use Rattle.std.specs.Prelude.{ℕ, ◌+◌, cond, List, [], ◌∷◌, ltb, length, set}

-- the room, and the place of the next byte
pub record Page : Type 0 where
  pub text : List ℕ
  pub at : ℕ

abbrev pub page : List ℕ → ℕ → Page
page l a = record { text = l; at = a }

abbrev pub one_on : ℕ → Page → Page
one_on b p = cond (ltb p.at (length p.text)) (page (set p.text p.at b) (p.at + 1)) p

-- a text is written from a place on; what has no room is left out
unfoldable pub write_on : List ℕ → Page → Page
write_on [] p = p
write_on (b ∷ t) p = write_on t (one_on b p)
