-- Bytes taken one by one come to the same as an input taken line by line.
-- Assumes nothing.
use Rattle.std.specs.Prelude.{None, Option, Some, ℕ}
use Prim.Native.Nat.{ℕ, suc, ◌+◌, ◌%◌, ◌<◌, ◌≤◌}
use mathlib.Core.Path.{◌≡◌, refl, sym, ap, ◌∙◌}
use mathlib.Core.Bool.{Bool, true, false, cond, ◌&&◌}
use mathlib.Core.List.{List, [], ◌∷◌, ◌++◌}
use native.Mathlib.Numerals.{add-one}
use native.Mathlib.Omega.{arith}
use lib.Dec.{ltb, eqb}
use lib.ListN.{length, take, set, length-append, length-take, length-drop, length-set}
use lib.Seq.{take-suc-set, length-take-le}
use borrow.Author.Tests.{ltb-true, ltb-false, lt-ltb, le-leb, lt-leb, eqb-true, ne_eqb}
use Rattle.text.specs.Digits.{digits_read, decimal_of, address_of, are_hex}
use Rattle.text.specs.Fields.{before_of, beyond_of, same_of}
use Rattle.marks.specs.Memory.{Marks}
use Rattle.script.specs.Line.{Told, told, blank, unmarked, size_of, budget_of, put_of, count_of, mark_of, first_of, body_of, line_of, number_after, word_mem, word_at, word_mark, word_run, are_bytes}
use Rattle.script.specs.Fault.{good, fault_of}
use Rattle.script.specs.declared.Fault.{Fault}
use Rattle.script.specs.Reader.{Fed, fed, start_of, ended_of, byte_of, feed_of}
use Rattle.script.proofs.Theorems.{Kept, bad_stays}
use Rattle.answer.specs.Answer.{bad_text, answered, answer_by}
use Rattle.answer.specs.Whole.{Script, script, lines_of, left_of, after_line, after_lines, text_of, is_ended}
use Rattle.script.specs.declared.Phase.{Phase}
use Rattle.script.specs.declared.Reader.{Reader}

-- ---- a line of 45 bytes or more is bad

same_long : (a b : List ℕ) → same_of a b ≡ true → length a ≡ length b
unfolding same_of
same_long [] [] e = refl
same_long [] (y ∷ b) e = let z : ◌≡◌ {A = ℕ} 0 1 = cc in absurd (omega arith)
same_long (x ∷ a) [] e = let z : ◌≡◌ {A = ℕ} 0 1 = cc in absurd (omega arith)
same_long (x ∷ a) (y ∷ b) e = go (eqb x y) e (same_long a b)
  where
    go : (t : Bool) → (t && same_of a b) ≡ true → (same_of a b ≡ true → length a ≡ length b) → suc (length a) ≡ suc (length b)
    go true q f = ap suc (f q)
    go false q f = let z : ◌≡◌ {A = ℕ} 0 1 = cc in absurd (omega arith)

fields_long : (l : List ℕ) → length l ≤ length (before_of l) + 1 + length (beyond_of l)
fields_long l = simp (length-take, length-drop) (omega arith)

decimal_long : (l : List ℕ) → 5 < length l → decimal_of l ≡ None
decimal_long l h = rw (le-leb 1 (length l) (omega arith), lt-leb (length l) 5 h)

bytes_long : (l : List ℕ) → 32 < length l → are_bytes l ≡ false
bytes_long l h = rw (le-leb 2 (length l) (omega arith), lt-leb (length l) 32 h) (go (are_hex l) (eqb (length l % 2) 0))
  where
    go : (a b : Bool) → (a && (b && false)) ≡ false
    go true true = refl
    go true false = refl
    go false b = refl

module _ (n : ℕ) (m : List ℕ) (k : Marks) where
  first_long : (l : List ℕ) → 45 ≤ length l → first_of l ≡ Phase.Bad
  unfolding first_of
  first_long l h = go (same_of (before_of l) word_mem) refl
    where
      go : (t : Bool) → same_of (before_of l) word_mem ≡ t → cond t (size_of (decimal_of (beyond_of l))) Phase.Bad ≡ Phase.Bad
      go true e =
          let w : length (before_of l) ≡ 3 = same_long (before_of l) word_mem e in
          let f = fields_long l in
          rw (decimal_long (beyond_of l) (omega arith))
      go false e = refl

  put_long : (r : List ℕ) → 42 ≤ length r → put_of (address_of (before_of r)) (beyond_of r) n m k ≡ told Phase.Bad m k
  unfolding put_of
  put_long r h = go (eqb (length (before_of r)) 8) refl
    where
      bad : (a : Option ℕ) → are_bytes (beyond_of r) ≡ false → put_of a (beyond_of r) n m k ≡ told Phase.Bad m k
      bad None e = refl
      bad (Some a) e = rw e

      go : (t : Bool) → eqb (length (before_of r)) 8 ≡ t → put_of (cond t (digits_read 16 0 (before_of r)) None) (beyond_of r) n m k ≡ told Phase.Bad m k
      go true e =
          let w : length (before_of r) ≡ 8 = eqb-true _ _ e in
          let f = fields_long r in
          bad (digits_read 16 0 (before_of r)) (bytes_long (beyond_of r) (omega arith))
      go false e = refl

  mark_long : (r : List ℕ) → 40 ≤ length r → mark_of (address_of (before_of r)) (decimal_of (beyond_of r)) n m k ≡ told Phase.Bad m k
  unfolding mark_of count_of
  mark_long r h = go (eqb (length (before_of r)) 8) refl
    where
      bad : (a : Option ℕ) → mark_of a None n m k ≡ told Phase.Bad m k
      bad None = refl
      bad (Some a) = refl

      go : (t : Bool) → eqb (length (before_of r)) 8 ≡ t
          → mark_of (cond t (digits_read 16 0 (before_of r)) None) (decimal_of (beyond_of r)) n m k ≡ told Phase.Bad m k
      go true e =
          let w : length (before_of r) ≡ 8 = eqb-true _ _ e in
          let f = fields_long r in
          rw (decimal_long (beyond_of r) (omega arith)) (bad (digits_read 16 0 (before_of r)))
      go false e = refl

  body_long : (w r : List ℕ) → 45 ≤ length w + 1 + length r → body_of w r n m k ≡ told Phase.Bad m k
  unfolding body_of
  body_long w r h = at (same_of w word_at) refl (same_of w word_mark) refl (same_of w word_run) refl
    where
      at : (a : Bool) → same_of w word_at ≡ a → (b : Bool) → same_of w word_mark ≡ b → (c : Bool) → same_of w word_run ≡ c
          → cond a (put_of (address_of (before_of r)) (beyond_of r) n m k)
          (cond b (mark_of (address_of (before_of r)) (decimal_of (beyond_of r)) n m k) (cond c (told (budget_of (decimal_of r) n) m k) (told Phase.Bad m k)))
          ≡ told Phase.Bad m k
      at true e b f c g = let q : length w ≡ 2 = same_long w word_at e in put_long r (omega arith)
      at false e true f c g = let q : length w ≡ 4 = same_long w word_mark f in mark_long r (omega arith)
      at false e false f true g =
          let q : length w ≡ 3 = same_long w word_run g in
          rw (decimal_long r (omega arith))
      at false e false f false g = refl

-- a good line has at most 44 bytes
pub long_is_bad : (p : Phase) (l m : List ℕ) (k : Marks) → 45 ≤ length l → line_of p l m k ≡ told Phase.Bad m k
unfolding line_of
long_is_bad Phase.First l m k h = rw (first_long 0 m k l h)
long_is_bad (Phase.Body n) l m k h = let f = fields_long l in body_long n m k (before_of l) (beyond_of l) (omega arith)
long_is_bad (Phase.Done n b) l m k h = refl
long_is_bad Phase.Bad l m k h = refl

-- ---- bytes and lines

abbrev reader : Phase → ℕ → ℕ → Option Fault → Reader
reader p n u f = record { phase = p; number = n; used = u; fault = f }

abbrev answer_fed : Fed → List ℕ
answer_fed s = (answer_by s.reader s.mem s.marks).text

abbrev answer_told : Script → List ℕ → List ℕ
answer_told s l = (answered s.told.phase (is_ended l) s.number s.told.mem s.told.marks).text

-- u bytes of the room for a line are the unfinished line p
pub record Holds (u : ℕ) (line p : List ℕ) : Type 0 where
  pub room : length line ≡ 45
  pub few : u ≤ 44
  pub first : take u line ≡ p

-- from there on, bytes and lines come to the same answer
abbrev Alike : List ℕ → Type 0
Alike t = (ph : Phase) (n u : ℕ) (f : Option Fault) (line p m : List ℕ) (k : Marks) → Holds u line p
    → answer_fed (feed_of t (fed (reader ph n u f) line m k)) ≡ answer_told (after_lines (lines_of p t) (script (told ph m k) n)) (left_of p t)

many : (u : ℕ) (line p : List ℕ) → Holds u line p → u ≡ length p
many u line p h = sym (length-take-le u line (omega (arith, h.room, h.few))) ∙ ap length h.first

alike_end : Alike []
unfolding feed_of lines_of left_of after_lines
alike_end ph n u f line p m k h = ap (λ (i : ℕ). (answered ph (eqb i 0) n m k).text) (many u line p h)

-- a byte of the line more
kept_one : (u b : ℕ) (line p : List ℕ) → Holds u line p → take (u + 1) (set line u b) ≡ p ++ (b ∷ [])
kept_one u b line p h =
    ap (λ (i : ℕ). take i (set line u b)) (add-one u) ∙ take-suc-set line u b (omega (arith, h.room, h.few)) ∙ ap (λ (x : List ℕ). x ++ (b ∷ [])) h.first

-- past a bad line, and in a line that is too long already, the answer is fixed
bad_told : (t p m : List ℕ) (k : Marks) (n : ℕ) → answer_told (after_lines (lines_of p t) (script (told Phase.Bad m k) n)) (left_of p t) ≡ bad_text n
unfolding lines_of left_of after_lines line_of answered
bad_told [] p m k n = refl
bad_told (b ∷ t) p m k n = go (eqb b 10) (bad_told t [] m k n) (bad_told t (p ++ (b ∷ [])) m k n)
  where
    go : (q : Bool) → answer_told (after_lines (lines_of [] t) (script (told Phase.Bad m k) n)) (left_of [] t) ≡ bad_text n
        → answer_told (after_lines (lines_of (p ++ (b ∷ [])) t) (script (told Phase.Bad m k) n)) (left_of (p ++ (b ∷ [])) t) ≡ bad_text n
        → answer_told (after_lines (cond q (p ∷ lines_of [] t) (lines_of (p ++ (b ∷ [])) t)) (script (told Phase.Bad m k) n)) (cond q (left_of [] t) (left_of (p ++ (b ∷ [])) t)) ≡ bad_text n
    go true x y = x
    go false x y = y

bad_fed : (t line m : List ℕ) (k : Marks) (n u : ℕ) (f : Option Fault) → answer_fed (feed_of t (fed (reader Phase.Bad n u f) line m k)) ≡ bad_text n
unfolding answered
bad_fed t line m k n u f =
    let s : Kept (fed (reader Phase.Bad n u f) line m k) (feed_of t (fed (reader Phase.Bad n u f) line m k)) = bad_stays t (fed (reader Phase.Bad n u f) line m k) refl in
    rw s.phase (ap bad_text s.number)

module _ (ph : Phase) (n : ℕ) (m : List ℕ) (k : Marks) where
  long_told : (t p : List ℕ) → 45 ≤ length p → answer_told (after_lines (lines_of p t) (script (told ph m k) n)) (left_of p t) ≡ bad_text n
  unfolding lines_of left_of after_lines answered
  long_told [] p h = rw (ne_eqb (length p) 0 (λ (e : length p ≡ 0). omega arith)) (go ph)
    where
      go : (x : Phase) → (answered x false n m k).text ≡ bad_text n
      go Phase.First = refl
      go (Phase.Body i) = refl
      go (Phase.Done i b) = refl
      go Phase.Bad = refl
  long_told (b ∷ t) p h = go (eqb b 10) (bad_told t [] m k n) (long_told t (p ++ (b ∷ [])) (rw length-append (omega arith)))
    where
      go : (q : Bool) → answer_told (after_lines (lines_of [] t) (script (told Phase.Bad m k) n)) (left_of [] t) ≡ bad_text n
          → answer_told (after_lines (lines_of (p ++ (b ∷ [])) t) (script (told ph m k) n)) (left_of (p ++ (b ∷ [])) t) ≡ bad_text n
          → answer_told (after_lines (cond q (p ∷ lines_of [] t) (lines_of (p ++ (b ∷ [])) t)) (script (told ph m k) n)) (cond q (left_of [] t) (left_of (p ++ (b ∷ [])) t)) ≡ bad_text n
      go true x y = ap (λ (z : Told). answer_told (after_lines (lines_of [] t) (script z (number_after z.phase n))) (left_of [] t)) (long_is_bad ph p m k h) ∙ x
      go false x y = y

alike_more : (b : ℕ) (t : List ℕ) → Alike t → Alike (b ∷ t)
unfolding feed_of byte_of lines_of left_of after_lines
alike_more b t rest ph n u f line p m k h = go (eqb b 10)
  where
    ended : (x : Told) → x ≡ line_of ph p m k
        → answer_fed (feed_of t (fed (reader x.phase (number_after x.phase n) 0 (fault_of ph f (take u line))) line x.mem x.marks))
        ≡ answer_told (after_lines (lines_of [] t) (after_line p (script (told ph m k) n))) (left_of [] t)
    ended x e =
        rest x.phase (number_after x.phase n) 0 (fault_of ph f (take u line)) line [] x.mem x.marks (record { room = h.room; few = omega arith; first = refl })
        ∙ ap (λ (y : Told). answer_told (after_lines (lines_of [] t) (script y (number_after y.phase n))) (left_of [] t)) e

    next : Fed
    next = fed (reader ph n (u + 1) f) (set line u b) m k

    kept : (q : Bool) → ltb u 44 ≡ q
        → answer_fed (feed_of t (cond q next (ended_of next.reader (set line u b) m k)))
        ≡ answer_told (after_lines (lines_of (p ++ (b ∷ [])) t) (script (told ph m k) n)) (left_of (p ++ (b ∷ [])) t)
    kept true e =
        let l = ltb-true u 44 e in
        rest ph n (u + 1) f (set line u b) (p ++ (b ∷ [])) m k
        (record { room = length-set line u b ∙ h.room; few = omega arith; first = kept_one u b line p h })
    kept false e =
        let l = ltb-false u 44 e in
        let w : 45 ≤ length (p ++ (b ∷ [])) = rw length-append (omega (arith, many u line p h)) in
        let x : line_of ph (take (u + 1) (set line u b)) m k ≡ told Phase.Bad m k = ap (λ (l : List ℕ). line_of ph l m k) (kept_one u b line p h) ∙ long_is_bad ph (p ++ (b ∷ [])) m k w in
        rw x (bad_fed t (set line u b) m k n 0 (fault_of ph f (take (u + 1) (set line u b)))) ∙ sym (long_told ph n m k t (p ++ (b ∷ [])) w)

    go : (q : Bool)
        → answer_fed (feed_of t (cond q (ended_of (reader ph n u f) line m k)
        (cond (ltb u 44) (fed (reader ph n (cond (ltb u 45) (u + 1) u) f) (cond (ltb u 45) (set line u b) line) m k)
        (ended_of (reader ph n (cond (ltb u 45) (u + 1) u) f) (cond (ltb u 45) (set line u b) line) m k))))
        ≡ answer_told (after_lines (cond q (p ∷ lines_of [] t) (lines_of (p ++ (b ∷ [])) t)) (script (told ph m k) n)) (cond q (left_of [] t) (left_of (p ++ (b ∷ [])) t))
    go true = ended (line_of ph (take u line) m k) (ap (λ (l : List ℕ). line_of ph l m k) h.first)
    go false = rw (lt-ltb u 45 (omega (arith, h.few))) (kept (ltb u 44) refl)

alike : (t : List ℕ) → Alike t
alike [] = alike_end
alike (b ∷ t) = alike_more b t (alike t)

pub fed_whole : (t l : List ℕ) → length l ≡ 45
    → (answer_by (feed_of t (fed start_of l blank unmarked)).reader (feed_of t (fed start_of l blank unmarked)).mem (feed_of t (fed start_of l blank unmarked)).marks).text
    ≡ text_of t
unfolding text_of
fed_whole t l h = alike t Phase.First 1 0 good l [] blank unmarked (record { room = h; few = omega arith; first = refl })
