-- Two inputs that differ only in marked contents, line after line: phase, line number and marks stay equal, and memory differs only where marked.
-- Assumes nothing.
use Rattle.std.specs.Prelude.{None, Option, Some, ℕ}
use Prim.Native.Nat.{ℕ, suc, ◌+◌, ◌*◌, ◌/◌, ◌%◌, ◌<◌, ◌≤◌, min}
use mathlib.Core.Path.{◌≡◌, refl, sym, ap, ap₂, subst, ◌∙◌}
use mathlib.Core.Bool.{Bool, true, false, cond, ◌&&◌, ◌||◌}
use mathlib.Core.List.{List, [], ◌∷◌, ◌++◌}
use native.Mathlib.Decide.{ℕ_discrete, dec_lt}
use native.Mathlib.Omega.{arith}
use lib.Dec.{ltb, leb, eqb}
use lib.ListN.{length, get_or, set, take, drop, length-set, length-take, get_or-eq_default}
use lib.Seq.{sets, set_out, get_or-set_same, get_or-set_other, get_or-take, drop-drop, take_at, drop_at}
use borrow.Author.Tests.{ltb-true, ne_eqb}
use Rattle.word.specs.Bits.{on}
use Rattle.marks.specs.Memory.{Marks, bits as bit-layout, bytes as byte-layout, mark_at, put_marks}
use Rattle.text.specs.Digits.{value_of, digits_read, decimal_of, address_of}
use Rattle.text.specs.Fields.{tab_of, before_of, beyond_of, same_of}
use Rattle.machine.specs.State.{fresh_state}
use Rattle.secrecy.specs.Same.{SameMem, Same}
use Rattle.secrecy.proofs.Psw.{psw_like}
use Rattle.script.specs.Line.{Told, told, blank, unmarked, budget_of, are_bytes, pairs_of, put_of, count_of, mark_of, first_of, body_of, line_of, number_after, word_at, word_mark, word_run}
use Rattle.answer.specs.Answer.{answered, lent_of}
use Rattle.answer.specs.Whole.{Script, script, lines_of, left_of, after_line, after_lines, begin, is_ended, text_of}
use Rattle.script.specs.declared.Phase.{Phase}
use Rattle.answer.proofs.Theorems.{marked_not_written}
use Rattle.calls.specs.Inputs.{at_line, AlikeLine, same, bytes, Alike, none, more, marks_of, AlikeInputs}

-- ---- memory

-- the marks that a run is lent are those of its bytes
lent_at : (l i : ℕ) (k : Marks) → i < l → mark_at (lent_of l k) i ≡ mark_at k i
lent_at l i (bit-layout k) g = ap (λ (p : ℕ). on p (i % 8)) (get_or-take ((l + 7) / 8) k (i / 8) 0 (omega arith))
lent_at l i (byte-layout k) g = ap (ltb 0) (get_or-take l k i 0 g)

module _ {k : Marks} {m n : List ℕ} (s : SameMem k m n) where
  -- one byte put, equal unless it is marked
  set_same : (i v w : ℕ) → (mark_at k i ≡ false → v ≡ w) → SameMem k (set m i v) (set n i w)
  set_same i v w f = record { long = length-set m i v ∙ s.long ∙ sym (length-set n i w); equal = λ j. go j (ℕ_discrete j i) }
    where
      here : Dec (i < length m) → mark_at k i ≡ false → get_or (set m i v) i 0 ≡ get_or (set n i w) i 0
      here (yes l) h = get_or-set_same m i v 0 l ∙ f h ∙ sym (get_or-set_same n i w 0 (omega (arith, s.long)))
      here (no l) h =
          ap (λ (x : List ℕ). get_or x i 0) (set_out m i v (omega arith))
          ∙ s.equal i h
          ∙ sym (ap (λ (x : List ℕ). get_or x i 0) (set_out n i w (omega (arith, s.long))))

      go : (j : ℕ) → Dec (j ≡ i) → mark_at k j ≡ false → get_or (set m i v) j 0 ≡ get_or (set n i w) j 0
      go j (yes e) h = subst (λ (x : ℕ). get_or (set m i v) x 0 ≡ get_or (set n i w) x 0) (sym e) (here (dec_lt i (length m)) (subst (λ (x : ℕ). mark_at k x ≡ false) e h))
      go j (no ne) h = get_or-set_other m i j v 0 ne ∙ s.equal j h ∙ sym (get_or-set_other n i j w 0 ne)

  take_same : (l : ℕ) → SameMem (lent_of l k) (take l m) (take l n)
  take_same l = record { long = simp length-take (ap (min l) s.long); equal = λ i h. go i h (dec_lt i l) }
    where
      past : (x : List ℕ) (i : ℕ) → l ≤ i → get_or (take l x) i 0 ≡ 0
      past x i g = get_or-eq_default (take l x) 0 (omega (arith, length-take l x))

      go : (i : ℕ) → mark_at (lent_of l k) i ≡ false → Dec (i < l) → get_or (take l m) i 0 ≡ get_or (take l n) i 0
      go i h (yes g) = get_or-take l m i 0 g ∙ s.equal i (sym (lent_at l i k g) ∙ h) ∙ sym (get_or-take l n i 0 g)
      go i h (no g) = past m i (omega arith) ∙ sym (past n i (omega arith))

-- many bytes from a on
sets_same : {k : Marks} {m n : List ℕ} → SameMem k m n → (a : ℕ) (b c : List ℕ) → length b ≡ length c
    → ((i : ℕ) → mark_at k (a + i) ≡ false → get_or b i 0 ≡ get_or c i 0) → SameMem k (sets m a b) (sets n a c)
sets_same s a [] [] l f = s
sets_same s a [] (w ∷ c) l f = absurd (omega arith)
sets_same s a (v ∷ b) [] l f = absurd (omega arith)
sets_same {k} s a (v ∷ b) (w ∷ c) l f =
    sets_same
    (set_same s a v w (λ h. f 0 (ap (λ (x : ℕ). mark_at k x) (zero_off a) ∙ h)))
    (suc a)
    b
    c
    (omega arith)
    (λ i h. f (suc i) (ap (λ (x : ℕ). mark_at k x) (suc_off a i) ∙ h))
  where
    zero_off : (a : ℕ) → a + 0 ≡ a
    zero_off a = omega arith

    suc_off : (a i : ℕ) → a + suc i ≡ suc a + i
    suc_off a i = omega arith

-- ---- one line

-- what is known in two runs over the lines: the same phase p and marks j, and memories that differ only where k marks
data SameTold (k : Marks) : Told → Told → Type 0 where
  knows : (p : Phase) (j : Marks) {m n : List ℕ} → SameMem k m n → SameTold k (told p m j) (told p n j)

-- a test that answers the same in both
pick : {k : Marks} {a b c d : Told} (t : Bool) → SameTold k a c → SameTold k b d → SameTold k (cond t a b) (cond t c d)
pick true x y = x
pick false x y = y

module _ {k : Marks} {m n : List ℕ} (s : SameMem k m n) (size : ℕ) (j : Marks) where
  puts : (a : ℕ) (g h : List ℕ) → are_bytes g ≡ are_bytes h → length g ≡ length h → length (pairs_of g) ≡ length (pairs_of h)
      → ((i : ℕ) → mark_at k (a + i) ≡ false → get_or (pairs_of g) i 0 ≡ get_or (pairs_of h) i 0)
      → SameTold k (put_of (Some a) g size m j) (put_of (Some a) h size n j)
  unfolding put_of
  puts a g h t l b f =
      rw (← t, ← l)
      (pick (are_bytes g && leb (a + length g / 2) size) (knows (Phase.Body size) j (sets_same s a (pairs_of g) (pairs_of h) b f)) (knows Phase.Bad j s))

  put_same : (r : Option ℕ) (h : List ℕ) → SameTold k (put_of r h size m j) (put_of r h size n j)
  unfolding put_of
  put_same None h = knows Phase.Bad j s
  put_same (Some a) h = puts a h h refl refl refl (λ i e. refl)

  count_same : (a : ℕ) (r : Option ℕ) → SameTold k (count_of a r size m j) (count_of a r size n j)
  unfolding count_of
  count_same a None = knows Phase.Bad j s
  count_same a (Some c) = pick (eqb c 0 || leb (a + c) size) (knows (Phase.Body size) (put_marks c j a true) s) (knows Phase.Bad j s)

  mark_same : (r c : Option ℕ) → SameTold k (mark_of r c size m j) (mark_of r c size n j)
  unfolding mark_of
  mark_same None c = knows Phase.Bad j s
  mark_same (Some a) c = count_same a c

  body_same : (w r : List ℕ) → SameTold k (body_of w r size m j) (body_of w r size n j)
  unfolding body_of
  body_same w r =
      pick (same_of w word_at) (put_same (address_of (before_of r)) (beyond_of r))
      (pick (same_of w word_mark) (mark_same (address_of (before_of r)) (decimal_of (beyond_of r)))
      (pick (same_of w word_run) (knows (budget_of (decimal_of r) size) j s)
      (knows Phase.Bad j s)))

module _ {k : Marks} {m n : List ℕ} (s : SameMem k m n) (j : Marks) where
  equal_line : (p : Phase) (l : List ℕ) → SameTold k (line_of p l m j) (line_of p l n j)
  unfolding line_of
  equal_line Phase.First l = knows (first_of l) j s
  equal_line (Phase.Body size) l = body_same s size j (before_of l) (beyond_of l)
  equal_line (Phase.Done size b) l = knows Phase.Bad j s
  equal_line Phase.Bad l = knows Phase.Bad j s

-- digits hold no tab, so the field that they fill ends behind them
digit_tab : (c : ℕ) → ltb (value_of c) 16 ≡ true → eqb c 9 ≡ false
unfolding value_of
digit_tab c q = ne_eqb c 9 (λ e. let l : value_of 9 < 16 = subst (λ (x : ℕ). value_of x < 16) e (ltb-true (value_of c) 16 q) in omega arith)

digits_tab : (v a : ℕ) (f h : List ℕ) → digits_read 16 v f ≡ Some a → tab_of (f ++ (9 ∷ h)) ≡ length f
unfolding digits_read tab_of
digits_tab v a [] h e = refl
digits_tab v a (c ∷ f) h e = go (ltb (value_of c) 16) refl e (digits_tab (v * 16 + value_of c) a f h)
  where
    go : (t : Bool) → ltb (value_of c) 16 ≡ t → cond t (digits_read 16 (v * 16 + value_of c) f) None ≡ Some a
        → (digits_read 16 (v * 16 + value_of c) f ≡ Some a → tab_of (f ++ (9 ∷ h)) ≡ length f)
        → cond (eqb c 9) 0 (suc (tab_of (f ++ (9 ∷ h)))) ≡ suc (length f)
    go true q z ih = rw (digit_tab c q) (ap suc (ih z))
    go false q z ih = let x : ◌≡◌ {A = ℕ} 0 1 = cc in absurd (omega arith)

-- so the fields of an `at` line are its address and its bytes
address_tab : (a : ℕ) (f h : List ℕ) → address_of f ≡ Some a → tab_of (f ++ (9 ∷ h)) ≡ length f
address_tab a f h e = go (eqb (length f) 8) e
  where
    go : (t : Bool) → cond t (digits_read 16 0 f) None ≡ Some a → tab_of (f ++ (9 ∷ h)) ≡ length f
    go true q = digits_tab 0 a f h q
    go false q = let x : ◌≡◌ {A = ℕ} 0 1 = cc in absurd (omega arith)

module _ (a : ℕ) (f h : List ℕ) (e : address_of f ≡ Some a) where
  before_tab : before_of (f ++ (9 ∷ h)) ≡ f
  before_tab = take_at f (9 ∷ h) (tab_of (f ++ (9 ∷ h))) (sym (address_tab a f h e))

  beyond_tab : beyond_of (f ++ (9 ∷ h)) ≡ h
  beyond_tab =
      ap (λ (i : ℕ). drop (i + 1) (f ++ (9 ∷ h))) (address_tab a f h e)
      ∙ sym (drop-drop 1 (length f) (f ++ (9 ∷ h)))
      ∙ ap (drop 1) (drop_at f (9 ∷ h) (length f) refl)

  at_line_lem : (size : ℕ) (m : List ℕ) (k : Marks) → line_of (Phase.Body size) (at_line f h) m k ≡ put_of (Some a) h size m k
  unfolding line_of body_of tab_of same_of
  at_line_lem size m k =
      ap₂ (λ (x y : List ℕ). put_of (address_of x) y size m k) before_tab beyond_tab ∙ ap (λ (r : Option ℕ). put_of r h size m k) e

bytes_length : (h : List ℕ) → length (pairs_of h) ≡ length h / 2
unfolding pairs_of
bytes_length [] = refl
bytes_length (c ∷ []) = refl
bytes_length (c ∷ d ∷ h) = let e = bytes_length h in omega arith

module _ {k : Marks} {m n : List ℕ} (s : SameMem k m n) (j : Marks) where
  line_same : {l q : List ℕ} → AlikeLine k l q → (p : Phase) → SameTold k (line_of p l m j) (line_of p q n j)
  unfolding line_of first_of tab_of same_of
  line_same (same l) p = equal_line s j p l
  line_same (bytes a f g h e t u l b) Phase.First = knows Phase.Bad j s
  line_same (bytes a f g h e t u l b) (Phase.Body size) =
      rw (at_line_lem a f g e size m j, at_line_lem a f h e size n j)
      (puts s size j a g h (t ∙ sym u) l (bytes_length g ∙ ap (λ (x : ℕ). x / 2) l ∙ sym (bytes_length h)) b)
  line_same (bytes a f g h e t u l b) (Phase.Done size c) = knows Phase.Bad j s
  line_same (bytes a f g h e t u l b) Phase.Bad = knows Phase.Bad j s

-- ---- all lines

-- the same, and the same line number i
data SameScript (k : Marks) : Script → Script → Type 0 where
  alike : (p : Phase) (j : Marks) (i : ℕ) {m n : List ℕ} → SameMem k m n → SameScript k (script (told p m j) i) (script (told p n j) i)

counted : {k : Marks} {u v : Told} → SameTold k u v → (i : ℕ) → SameScript k (script u (number_after u.phase i)) (script v (number_after v.phase i))
counted (knows p j s) i = alike p j (number_after p i) s

after_same : {k : Marks} {s t : Script} {l q : List ℕ} → AlikeLine k l q → SameScript k s t → SameScript k (after_line l s) (after_line q t)
after_same e (alike p j i s) = counted (line_same s j e p) i

lines_same : {k : Marks} {x y : List (List ℕ)} → Alike k x y → {s t : Script} → SameScript k s t → SameScript k (after_lines x s) (after_lines y t)
unfolding after_lines
lines_same none s = s
lines_same (more e r) s = lines_same r (after_same e s)

-- ---- the answer

fresh_same : Same fresh_state fresh_state
fresh_same =
    record {
      marks = refl;
      flags = refl;
      each = refl;
      regs = record { long = refl; equal = λ i h. refl };
      control = record { rest = refl; psw = psw_like refl };
    }

text_same : {k : Marks} {m n : List ℕ} → SameMem k m n → (p : Phase) (e : Bool) (i : ℕ) → (answered p e i m k).text ≡ (answered p e i n k).text
unfolding answered
text_same s Phase.First e i = refl
text_same s (Phase.Body size) e i = refl
text_same {k} {m} {n} s (Phase.Done size b) true i = marked_not_written b blank (take size m) (take size n) (lent_of size k) fresh_state fresh_state fresh_same (take_same s size)
text_same s (Phase.Done size b) false i = refl
text_same s Phase.Bad e i = refl

abbrev text_by : Script → Bool → List ℕ
text_by s e = (answered s.told.phase e s.number s.told.mem s.told.marks).text

script_marks : {k : Marks} {s t : Script} → SameScript k s t → s.told.marks ≡ t.told.marks
script_marks (alike p j i s) = refl

script_text : {k : Marks} {s t : Script} → SameScript k s t → s.told.marks ≡ k → (e : Bool) → text_by s e ≡ text_by t e
script_text (alike p j i {m} {n} s) q e = text_same (subst (λ (x : Marks). SameMem x m n) (sym q) s) p e i

-- ---- two inputs

module _ (x y : List ℕ) (a : AlikeInputs x y) where
  scripts : SameScript (marks_of x) (after_lines (lines_of [] x) begin) (after_lines (lines_of [] y) begin)
  scripts = lines_same a.lines (alike Phase.First unmarked 1 (record { long = refl; equal = λ i h. refl }))

  pub answers_same : text_of x ≡ text_of y
  unfolding text_of
  answers_same = script_text scripts refl (is_ended (left_of [] x)) ∙ ap (text_by (after_lines (lines_of [] y) begin)) a.ended

  pub marks_same : marks_of x ≡ marks_of y
  marks_same = script_marks scripts
