-- Words that only helpers' contracts cite.
-- Assumes nothing.
use Rattle.std.specs.Prelude.{ℕ, zero, suc, ◌+◌, ◌*◌, ◌/◌, ◌%◌, Bool, cond, ◌&&◌, ◌||◌, List, [], ◌∷◌, eqb, get_or, take, drop, set, replicate}
use Rattle.forms.specs.declared.Cut.{Cut}
use Rattle.forms.specs.declared.Shape.{Shape}
use Rattle.forms.specs.Form.{body_of, mnemonics, tabs_for, is_label, is_of}

-- how many bytes the first line takes, its newline with them
unfoldable pub line_size : List ℕ → ℕ
line_size [] = 0
line_size (c ∷ s) = cond (eqb c 10) 1 (suc (line_size s))

abbrev pub first_line : List ℕ → List ℕ
first_line s = take (line_size s) s

-- ---- where the fields of the first line stand, in a text without its last byte

-- the place of the first tab or newline, and that of the first newline; the length where there is none
unfoldable pub stop_of : List ℕ → ℕ
stop_of [] = 0
stop_of (c ∷ s) = cond (eqb c 9 || eqb c 10) 0 (suc (stop_of s))

unfoldable pub end_of : List ℕ → ℕ
end_of [] = 0
end_of (c ∷ s) = cond (eqb c 10) 0 (suc (end_of s))

-- the same from a place on, and past a tab if one stands there
unfoldable pub stop_at : List ℕ → ℕ → ℕ
stop_at t p = p + stop_of (drop p t)

unfoldable pub end_at : List ℕ → ℕ → ℕ
end_at t p = p + end_of (drop p t)

unfoldable pub past_tab : List ℕ → ℕ → ℕ
past_tab t p = cond (eqb (get_or t p 0) 9) (suc p) p

-- where the field begins that is k fields after the one at p
unfoldable pub from_at : List ℕ → ℕ → ℕ → ℕ
from_at t p zero = p
from_at t p (suc k) = from_at t (past_tab t (stop_at t p)) k

unfoldable pub to_at : List ℕ → ℕ → ℕ
to_at t k = stop_at t (from_at t 0 k)

unfoldable pub cut_in : List ℕ → Cut
cut_in t =
    record {
      to0 = to_at t 0;
      from1 = from_at t 0 1;
      to1 = to_at t 1;
      from2 = from_at t 0 2;
      to2 = to_at t 2;
      from3 = from_at t 0 3;
      to3 = to_at t 3;
      from4 = from_at t 0 4;
      to4 = to_at t 4;
      end = end_at t (to_at t 4);
    }

abbrev pub cut_of : List ℕ → Cut
cut_of s = cut_in (body_of s)

-- ---- the form of a line by its fields

abbrev pub fits_fields : Shape → ℕ → List ℕ → List ℕ → List ℕ → Bool
fits_fields s n x y z = eqb n (tabs_for s) && is_of s.first x && is_of s.second y && is_of s.third z

abbrev pub known_fields : Shape → ℕ → List ℕ → List ℕ → List ℕ → List ℕ → Bool
known_fields s n l x y z = is_label l && fits_fields s n x y z

-- ---- mnemonics by their numbers' rests modulo 312: a number k at the place p is k * 128 + p

unfoldable pub with_entry : List ℕ → ℕ → ℕ → List ℕ
with_entry t k p = cond (eqb k 0) t (set t (k % 312) (k * 128 + p))

unfoldable pub entered : ℕ → List ℕ → List ℕ → List ℕ
entered p [] t = t
entered p (k ∷ l) t = entered (suc p) l (with_entry t k p)

unfoldable pub slots : List ℕ
slots = entered 0 mnemonics (replicate 312 0)

unfoldable pub place_in : List ℕ → ℕ → ℕ
place_in t k = cond (eqb (get_or t (k % 312) 0 / 128) k) (get_or t (k % 312) 0 % 128) 83
