-- The theorems of this crate, each with its statement; read this file alone with specs/. The proofs are in the files that it cites.
-- Assumes nothing.
use Rattle.std.specs.Prelude.{Err, Ok}
use Prim.Native.Nat.{ℕ, ◌+◌, ◌%◌, ◌≤◌, ◌<◌}
use mathlib.Core.Logic.{◌⊎◌}
use mathlib.Core.Path.{◌≡◌, sym, ap, ◌∙◌}
use mathlib.Core.Bool.{true, false}
use mathlib.Core.List.{List, [], ◌∷◌, ◌++◌, flatten}
use native.Mathlib.Omega.{arith}
use lib.ListN.{length, get_or, take, drop, length-take}
use lib.Seq.{sets, sets-eq, length-sets}
use Rattle.text.specs.Pages.{Page}
use Rattle.text.proofs.Pages.{written_at}
use Rattle.expr.specs.Expr.{Labels, none, is_name, meaning}
use Rattle.expr.specs.Value.{signed_word}
use Rattle.expr.specs.declared.Value.{Value}
use Rattle.forms.specs.Form.{lines_of, body_of, field_at, what_in, shape_of, is_known}
use Rattle.asm.specs.Assemble.{address_of, labels_of, reply_of, line_of, end_of, line_check, room_check, line_bytes, text_labels, Answered, answered, verdict_in, assembled_of}
use Rattle.asm.specs.declared.Refusal.{Refusal}
use Rattle.asm.specs.Assemble.{Assembled}
use Rattle.asm.proofs.Laws.{done_same}
use Rattle.written.specs.Assembly.{is_in, written_in, first_only, known_in, first_at, check_at, faults_of, Lowest, AllFine, Told, text_code}
use Rattle.written.specs.Written.{Shows, AllShow}
use Rattle.written.proofs.Lines.{Fine, fine, line_size_lem, known_ends, known_label, line_shown}
use Rattle.written.proofs.Text.{lines_whole, all_fine, all_show, code_inside, fine_done, sets_outside, start_good, done_inside, refused_told}
use Rattle.written.proofs.Order.{lowest_told}
use Rattle.written.proofs.Unfit.{unfit_none}
use Rattle.written.proofs.Labels.{set_keys, set_means, unset_unknown}

-- 1. The bytes of a line that is not refused, at its address, show what it writes: they decode to an instruction with its mnemonic, its registers and
-- its values, or are its value, big-endian, for `half` and `word` ..
module _ (t : Labels) (s : List ℕ) (p n : ℕ) (l : List ℕ) (ok : check_at t s p n l ≡ Ok tt) where
  known : is_known l ≡ true
  known = (fine t s (address_of p) (room_check p (shape_of (what_in l)).size n) (what_in l) l ok).known

  pub line_shows : Shows t (address_of p) (body_of l) (line_bytes t (address_of p) (what_in l) l)
  line_shows = line_shown t s (address_of p) (room_check p (shape_of (what_in l)).size n) l (omega arith) ok

  -- .. its label field is empty or a name, and a newline ends it ..
  pub line_label : (field_at 0 (body_of l) ≡ []) ⊎ (is_name (field_at 0 (body_of l)) ≡ true)
  line_label = known_label (what_in l) l known

  pub line_ends : l ≡ body_of l ++ (10 ∷ [])
  line_ends = known_ends (what_in l) l known

  -- .. and it has as many bytes as its mnemonic says.
  pub line_takes : length (line_bytes t (address_of p) (what_in l) l) ≡ (shape_of (what_in l)).size
  line_takes = line_size_lem t s (address_of p) (room_check p (shape_of (what_in l)).size n) (what_in l) l ok

-- 2. The lines of a text, one after the other, are the text ..
pub lines_joined : (x : List ℕ) → flatten (lines_of x) ≡ x
lines_joined = lines_whole

-- .. and it is assembled if its start is even and inside the image and each line is fine at its place ..
module _ (x : List ℕ) (s : ℕ) (m : List ℕ) where
  pub fine_assembles : s % 2 ≡ 0 → s ≤ length m → AllFine (text_labels x s) [] s (length m) (lines_of x)
      → (assembled_of x s m).assembled ≡ Ok (length (lines_of x), s + length (text_code x s))
  unfolding assembled_of verdict_in
  fine_assembles g h f =
      let e : 0 + length (lines_of x) ≡ length (lines_of x) = omega arith in
      rw (start_good s (length m) g h) (fine_done (text_labels x s) [] s (length m) 0 (lines_of x) f ∙ rw e)

  -- .. and only then; ..
  module _ (i e : ℕ) (done : (assembled_of x s m).assembled ≡ Ok (i, e)) where
    judged : verdict_in x s (length m) ≡ Ok (i, e)
    unfolding assembled_of
    judged = done

    pub start_even : s % 2 ≡ 0
    start_even = (done_inside x s (length m) i e judged).0

    pub start_inside : s ≤ length m
    start_inside = (done_inside x s (length m) i e judged).1

    pub lines_fine : AllFine (text_labels x s) [] s (length m) (lines_of x)
    lines_fine = all_fine (text_labels x s) [] s (length m) 0 i e (lines_of x) (done_inside x s (length m) i e judged).2

    -- .. the bytes of the text show its lines, each at its own address ..
    pub lines_show : AllShow (text_labels x s) s (lines_of x) (text_code x s)
    lines_show = all_show (text_labels x s) [] s (length m) (lines_of x) lines_fine

    -- .. what is answered is the number of lines and the address after the last byte, which is in the image ..
    pub lines_counted : i ≡ length (lines_of x)
    lines_counted = (done_same i e _ _ (sym done ∙ fine_assembles start_even start_inside lines_fine)).0

    pub ends_after_code : e ≡ s + length (text_code x s)
    ends_after_code = (done_same i e _ _ (sym done ∙ fine_assembles start_even start_inside lines_fine)).1

    code_in : s + length (text_code x s) ≤ length m
    code_in = code_inside (text_labels x s) [] s (length m) (lines_of x) start_inside lines_fine

    pub ends_inside : e ≤ length m
    ends_inside = rw ends_after_code code_in

    -- .. and in the image the lines' bytes stand from the start on, one line's after the other's; the rest of it, and its length, stay.
    pub image_written : (assembled_of x s m).image ≡ sets m s (text_code x s)
    unfolding assembled_of
    image_written = rw judged (ap (λ (p : Page). p.text) (written_at (text_code x s) m s code_in))

    pub image_parts : (assembled_of x s m).image ≡ take s m ++ text_code x s ++ drop e m
    image_parts = image_written ∙ sets-eq (text_code x s) m s code_in ∙ rw (← ends_after_code)

    pub image_outside : (j : ℕ) → (s ≤ j → j < e → ⊥) → get_or (assembled_of x s m).image j 0 ≡ get_or m j 0
    image_outside j h = let q = ends_after_code in rw image_written (sets_outside m s (text_code x s) j (λ a b. h a (omega arith)))

    pub image_length : length (assembled_of x s m).image ≡ length m
    image_length = rw image_written (length-sets m s (text_code x s))

  -- 3. A refusal leaves the image, and tells of a start that is odd or past the image, with line 0, or of the first line that is not fine, as that line's check does.
  module _ (r : Refusal) (i : ℕ) (no : (assembled_of x s m).assembled ≡ Err (r, i)) where
    pub refusal_leaves : (assembled_of x s m).image ≡ m
    unfolding assembled_of
    refusal_leaves = rw no

    pub refusal_tells : Told (text_labels x s) s (length m) r i (lines_of x)
    unfolding assembled_of
    refusal_tells = refused_told x s (length m) i r no

-- 4. A line is fine exactly if it has no fault; of its faults that with the lowest number is told ..
module _ (t : Labels) (s : List ℕ) (p n : ℕ) (l : List ℕ) where
  pub lowest_fault : Lowest (faults_of t s p n l) (check_at t s p n l)
  lowest_fault = lowest_told t s p n l

  -- .. a value is refused as one that doesn't fit its place only if no bytes there would show the line ..
  pub unfit_not_shown : faults_of t s p n l Refusal.Value ≡ true → (c : List ℕ) → Shows t (address_of p) (body_of l) c → ⊥
  unfit_not_shown = unfit_none t s p n l

  -- .. and unknown form is told before all others, whatever else.
  pub form_first : is_known l ≡ false → check_at t s p n l ≡ Err Refusal.Form
  unfolding line_check
  form_first e = rw e

-- 5. The labels that are set are the first 256 of those that lines of known form write, each at its first writing ..
module _ (s : ℕ) (ls : List (List ℕ)) where
  pub labels_set : (labels_of none (address_of s) ls).keys ≡ take 256 (first_only [] (written_in ls))
  labels_set = set_keys s ls

  pub at_most_256 : length (labels_of none (address_of s) ls).keys ≤ 256
  at_most_256 = rw (labels_set, length-take) (omega arith)

  -- .. one of them (a name's number is above 0) means the address of the first line of known form that writes it, and any other is unknown.
  pub label_first_written : (k : ℕ) → 0 < k → is_in k (known_in ls) ≡ true → meaning (labels_of none (address_of s) ls) k ≡ Value.Is (signed_word (address_of (first_at k s ls)).0)
  label_first_written k h e = set_means s k ls h e

  pub label_unknown : (k : ℕ) → is_in k (known_in ls) ≡ false → meaning (labels_of none (address_of s) ls) k ≡ Value.Unknown
  label_unknown k e = unset_unknown s k ls e

-- 6. What is answered is determined: two results of `assemble`, and of the C call, that satisfy what it ensures coincide.
module _ (x : List ℕ) (s : ℕ) (m : List ℕ) where
  pub assemble_determined : (p q : Assembled) (a b : List ℕ) → answered p a ≡ assembled_of x s m → answered q b ≡ assembled_of x s m → (p ≡ q) × (a ≡ b)
  assemble_determined p q a b f g = let r = f ∙ sym g in (ap (λ (z : Answered). z.assembled) r, ap (λ (z : Answered). z.image) r)

  pub call_determined : (p q i j e f : ℕ) (a b : List ℕ)
      → p ≡ reply_of (assembled_of x s m).assembled → q ≡ reply_of (assembled_of x s m).assembled
      → i ≡ line_of (assembled_of x s m).assembled → j ≡ line_of (assembled_of x s m).assembled
      → e ≡ end_of (assembled_of x s m).assembled → f ≡ end_of (assembled_of x s m).assembled
      → a ≡ (assembled_of x s m).image → b ≡ (assembled_of x s m).image
      → (p ≡ q) × (i ≡ j) × (e ≡ f) × (a ≡ b)
  call_determined p q i j e f a b c d g h k l n o = (c ∙ sym d, g ∙ sym h, k ∙ sym l, n ∙ sym o)
