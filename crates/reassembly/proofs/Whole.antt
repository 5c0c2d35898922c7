-- A whole listing, assembled again.
-- Assumes nothing.
use Rattle.std.specs.Prelude.{Ok}
use Prim.Native.Nat.{ℕ, zero, suc, ◌+◌, ◌-◌, ◌%◌, ◌^◌, ◌<◌, ◌≤◌}
use mathlib.Core.Path.{◌≡◌, refl, sym, ap, subst, ◌∙◌}
use mathlib.Core.Bool.{Bool, true, false}
use mathlib.Core.List.{List, [], ◌∷◌, ◌++◌}
use native.Mathlib.Omega.{arith}
use lib.Dec.{ltb}
use lib.ListN.{length}
use borrow.Author.Tests.{ltb-true, ltb-false, le-ltb}
use Rattle.word.specs.Addresses.{byte_sum}
use Rattle.listing.specs.Listing.{entry_at, size_of, entries_in}
use Rattle.listing.specs.declared.Entry.{Entry}
use Rattle.listing.proofs.Ranged.{from, after, size_low, size_high, entries_more, entries_none}
use Rattle.columns.specs.Columns.{Bytes, bits_text, bytes_read, joined}
use Rattle.columns.proofs.Cover.{even, size_inside}
use Rattle.expr.specs.Expr.{Labels}
use Rattle.forms.specs.Form.{what_in, shape_of}
use Rattle.asm.specs.Assemble.{address_of, with_name, with_label, label_for, bytes_for, labels_of, room_check, verdict_of, code_of}
use Rattle.asm.specs.Assemble.{Assembled}
use Rattle.reassembly.specs.Lines.{line_for}
use Rattle.reassembly.proofs.Entries.{lines_for, line_known, line_label, line_size_lem, line_check_lem, line_bytes_lem, bits_read}

-- inside an image no address wraps
pub address_of_lem : (a : ℕ) → a ≤ 65536 → address_of a ≡ from a
address_of_lem a h = let e : a % 2 ^ 32 ≡ a = omega arith in ap from e

module _ (m : List ℕ) (bytes : Bytes m) (e : ℕ) (lim : e ≤ 65536) (even_end : e % 2 ≡ 0) where
  abbrev x : ℕ → Entry
  x a = entry_at m (from a) e

  abbrev next : ℕ → ℕ
  next a = a + size_of (x a)

  -- what holds of the end, and of a line if it does of those after it, holds of a range
  over : (P : ℕ → List Entry → Type 0) → P e [] → ((a : ℕ) (l : List Entry) → a + 2 ≤ e → next a ≤ e → P (next a) l → P a (x a ∷ l))
      → (n a : ℕ) → e ≤ a + n → a ≤ e → a % 2 ≡ 0 → P a (entries_in m a e)
  over P z s zero a h k p =
      subst (λ (l : List Entry). P a l) (sym (entries_none m e lim a (omega arith))) (subst (λ (b : ℕ). P b []) (omega arith) z)
  over P z s (suc n) a h k p = go (ltb a e) refl (over P z s n (next a))
    where
      go : (t : Bool) → ltb a e ≡ t → (e ≤ next a + n → next a ≤ e → next a % 2 ≡ 0 → P (next a) (entries_in m (next a) e)) → P a (entries_in m a e)
      go true t f =
          let i = ltb-true a e t in
          let w = size_low (x a) in
          let v = size_inside m e a (omega arith) in
          subst (λ (l : List Entry). P a l) (sym (entries_more m e lim a i)) (s a _ (omega arith) v (f (omega arith) v (even a (x a).shown.long p)))
      go false t f =
          let i = ltb-false a e t in
          subst (λ (l : List Entry). P a l) (sym (entries_none m e lim a i)) (subst (λ (b : ℕ). P b []) (omega arith) z)

  module _ (a : ℕ) (h : a + 2 ≤ e) where
    low : a < 65536
    low = omega arith

    abbrev l : List ℕ
    l = line_for (x a)

    -- the address after the line
    sum : byte_sum (from a) (shape_of (what_in l)).size ≡ from (next a)
    sum = ap (byte_sum (from a)) (line_size_lem m (from a) e bytes low) ∙ after a (size_of (x a)) low (size_high (x a))

    label_step : (t : Labels) (r : List (List ℕ)) → labels_of t (from a) (l ∷ r) ≡ labels_of t (from (next a)) r
    unfolding labels_of with_label label_for bytes_for
    label_step t r = rw (line_known m (from a) e bytes low, line_label m (from a) e bytes low, sum)

    verdict_step : (t : Labels) (s : List ℕ) (n i : ℕ) (r : List (List ℕ)) → next a ≤ e → e ≤ n → verdict_of t s a n i (l ∷ r) ≡ verdict_of t s (next a) n (suc i) r
    unfolding verdict_of with_name room_check
    verdict_step t s n i r k j =
        rw (
          address_of_lem a (omega arith),
          line_check_lem m (from a) e bytes low t s,
          line_size_lem m (from a) e bytes low,
          line_label m (from a) e bytes low,
          le-ltb n (next a) (omega arith),
        )

    code_step : (t : Labels) (r : List (List ℕ)) (q : List ℕ) → code_of t (from (next a)) r ≡ bytes_read q → code_of t (from a) (l ∷ r) ≡ bytes_read (bits_text (x a) ++ q)
    unfolding code_of
    code_step t r q f = rw (line_bytes_lem m (from a) e bytes low t, sum, f) (sym (bits_read m (from a) e bytes low q))

  module _ (a : ℕ) (h : a ≤ e) (p : a % 2 ≡ 0) where
    pub labels_none : (t : Labels) → labels_of t (from a) (lines_for (entries_in m a e)) ≡ t
    unfolding labels_of
    labels_none t = over (λ (b : ℕ) (l : List Entry). labels_of t (from b) (lines_for l) ≡ t) refl (λ b l i k f. label_step b i t (lines_for l) ∙ f) (e - a) a (omega arith) h p

    pub verdict_done : (t : Labels) (s : List ℕ) (n : ℕ) → e ≤ n → (i : ℕ) → verdict_of t s a n i (lines_for (entries_in m a e)) ≡ Ok (i + length (entries_in m a e), e)
    unfolding verdict_of
    verdict_done t s n j =
        over (λ (b : ℕ) (l : List Entry). (i : ℕ) → verdict_of t s b n i (lines_for l) ≡ Ok (i + length l, e))
        (λ i. ap (λ (w : ℕ). Ok (w, e)) (omega arith))
        (λ b l g k f i. verdict_step b g t s n i (lines_for l) k j ∙ f (suc i) ∙ ap (λ (w : ℕ). Ok (w, e)) (omega arith))
        (e - a) a (omega arith) h p

    pub code_bytes : (t : Labels) → code_of t (from a) (lines_for (entries_in m a e)) ≡ bytes_read (joined bits_text (entries_in m a e))
    unfolding code_of bytes_read joined
    code_bytes t =
        over (λ (b : ℕ) (l : List Entry). code_of t (from b) (lines_for l) ≡ bytes_read (joined bits_text l)) refl
        (λ b l g k f. code_step b g t (lines_for l) (joined bits_text l) f) (e - a) a (omega arith) h p
