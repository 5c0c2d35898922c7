-- The theorems of this crate, each with its statement; read this file alone with specs/. The proofs are in the files that it cites.
-- Assumes nothing.
use Rattle.std.specs.Prelude.{Err, Ok, Result}
use Prim.Native.Nat.{ℕ, ◌+◌, ◌≤◌, ◌<◌}
use mathlib.Core.Path.{◌≡◌, sym, ap, ◌∙◌}
use mathlib.Core.Bool.{true, false}
use mathlib.Core.List.{List, [], ◌++◌}
use native.Mathlib.Omega.{arith}
use lib.Dec.{eqb}
use lib.IntN.{ℤ}
use lib.ListN.{length, get_or, take, drop}
use lib.Seq.{sets, sets-eq, length-sets}
use Rattle.word.specs.declared.ByteAddr.{ByteAddr}
use Rattle.text.specs.Pages.{Page}
use Rattle.text.proofs.Pages.{written_at}
use Rattle.expr.specs.Expr.{Labels, none, meaning}
use Rattle.expr.specs.Value.{signed_word}
use Rattle.expr.specs.declared.Value.{Value}
use Rattle.forms.specs.Form.{lines_of, body_of, shape_of, is_known_as}
use Rattle.forms.specs.Says.{bytes_in}
use Rattle.asm.specs.Assemble.{address_of, line_value, line_bits, is_set, labels_of, reply_of, line_of, end_of, line_check, room_check, value_in, line_bytes, is_outside, text_labels, Answered, answered, verdict_in, assembled_of}
use Rattle.forms.specs.declared.What.{What}
use Rattle.asm.specs.declared.Refusal.{Refusal}
use Rattle.expr.proofs.Laws.{got_same}
use Rattle.asm.specs.Assemble.{Assembled}
use Rattle.asm.proofs.Laws.{done_same}
use Rattle.assembly.specs.Assembly.{Says, faults_of, Lowest, AllFine, Told, text_code, first_at}
use Rattle.assembly.proofs.Values.{in_32_bits}
use Rattle.assembly.proofs.Lines.{Fine, fine, bits_say, line_size_lem}
use Rattle.assembly.proofs.Text.{all_fine, code_inside, fine_done, sets_outside, start_in, done_inside, refused_told}
use Rattle.assembly.proofs.Order.{lowest_told}
use Rattle.assembly.proofs.Labels.{few_labels, first_written}

-- 1. A line that is not refused has a value ..
module _ (t : Labels) (s : List ℕ) (a : ByteAddr) (y : Result Unit Refusal) (w : What) (l : List ℕ) (ok : line_check t s a y w l ≡ Ok tt) where
  f : Fine t s a y w l
  f = fine t s a y w l ok

  pub line_has_value : (z : ℤ) × (n : ℕ) × line_value t (shape_of w) (body_of l) ≡ Ok (Value.Is z, n)
  line_has_value = (f.value, f.read, f.valued)

  -- .. and bits that say what it says with that value: they decode to its instruction, or are its value, big-endian ..
  pub line_says : (z : ℤ) (n : ℕ) → line_value t (shape_of w) (body_of l) ≡ Ok (Value.Is z, n) → Says w a (body_of l) z (line_bits w a (body_of l) z)
  line_says z n e =
      let v = f.valued in
      let p = (got_same (Value.Is f.value) (Value.Is z) f.read n (sym v ∙ e)).0 in
      let q : f.value ≡ z = cc in
      bits_say w a (body_of l) z (in_32_bits t (shape_of w) (body_of l) z n e) (rw q at f.fits)

  -- .. these are its bytes ..
  pub line_bytes_lem : (z : ℤ) (n : ℕ) → line_value t (shape_of w) (body_of l) ≡ Ok (Value.Is z, n) → line_bytes t a w l ≡ bytes_in (line_bits w a (body_of l) z)
  unfolding line_bytes value_in
  line_bytes_lem z n e = rw e

  -- .. and it has as many as its mnemonic says.
  pub line_takes : length (line_bytes t a w l) ≡ (shape_of w).size
  line_takes = line_size_lem t s a y w l ok

-- 2. A text is assembled if its start is even and inside the image and each line is fine at its place ..
module _ (x : List ℕ) (s : ℕ) (m : List ℕ) where
  pub fine_assembles : is_outside s (length m) ≡ false → AllFine (text_labels x s) [] s (length m) (lines_of x)
      → (assembled_of x s m).assembled ≡ Ok (length (lines_of x), s + length (text_code x s))
  unfolding assembled_of verdict_in
  fine_assembles h f =
      let e : 0 + length (lines_of x) ≡ length (lines_of x) = omega arith in
      rw h (fine_done (text_labels x s) [] s (length m) 0 (lines_of x) f ∙ rw e)

  -- .. and only then. What is answered is the number of lines and the address after the last byte, which is in the image ..
  module _ (i e : ℕ) (done : (assembled_of x s m).assembled ≡ Ok (i, e)) where
    judged : verdict_in x s (length m) ≡ Ok (i, e)
    unfolding assembled_of
    judged = done

    pub start_inside : is_outside s (length m) ≡ false
    start_inside = (done_inside x s (length m) i e judged).0

    pub lines_fine : AllFine (text_labels x s) [] s (length m) (lines_of x)
    lines_fine = all_fine (text_labels x s) [] s (length m) 0 i e (lines_of x) (done_inside x s (length m) i e judged).1

    pub lines_counted : i ≡ length (lines_of x)
    lines_counted = (done_same i e _ _ (sym done ∙ fine_assembles start_inside lines_fine)).0

    pub ends_after_code : e ≡ s + length (text_code x s)
    ends_after_code = (done_same i e _ _ (sym done ∙ fine_assembles start_inside lines_fine)).1

    code_in : s + length (text_code x s) ≤ length m
    code_in = code_inside (text_labels x s) [] s (length m) (lines_of x) (start_in s (length m) start_inside) lines_fine

    pub ends_inside : e ≤ length m
    ends_inside = rw ends_after_code code_in

    -- .. and in the image the lines' bytes stand from the start on, one line's after the other's; the rest of it, and its length, stay.
    pub image_written : (assembled_of x s m).image ≡ sets m s (text_code x s)
    unfolding assembled_of
    image_written = rw judged (ap (λ (p : Page). p.text) (written_at (text_code x s) m s code_in))

    pub image_parts : (assembled_of x s m).image ≡ take s m ++ text_code x s ++ drop e m
    image_parts = image_written ∙ sets-eq (text_code x s) m s code_in ∙ rw (← ends_after_code)

    pub image_outside : (j : ℕ) → (s ≤ j → j < e → ⊥) → get_or (assembled_of x s m).image j 0 ≡ get_or m j 0
    image_outside j h = let q = ends_after_code in rw image_written (sets_outside m s (text_code x s) j (λ a b. h a (omega arith)))

    pub image_length : length (assembled_of x s m).image ≡ length m
    image_length = rw image_written (length-sets m s (text_code x s))

  -- 3. A refusal leaves the image, and tells of a start that is odd or past the image, with line 0, or of the first line that is not fine, as that line's check does.
  module _ (r : Refusal) (i : ℕ) (no : (assembled_of x s m).assembled ≡ Err (r, i)) where
    pub refusal_leaves : (assembled_of x s m).image ≡ m
    unfolding assembled_of
    refusal_leaves = rw no

    pub refusal_tells : Told (is_outside s (length m)) (text_labels x s) s (length m) r i (lines_of x)
    unfolding assembled_of
    refusal_tells = refused_told x s (length m) i r no

-- 4. A line is fine exactly if it has no fault; of its faults that with the lowest number is told ..
pub lowest_fault : (t : Labels) (s : List ℕ) (a : ByteAddr) (p n m : ℕ) (w : What) (l : List ℕ)
    → Lowest (faults_of t s a p n m w l) (line_check t s a (room_check p n m) w l)
lowest_fault = lowest_told

-- .. so unknown form before all others, whatever else.
pub form_first : (t : Labels) (s : List ℕ) (a : ByteAddr) (y : Result Unit Refusal) (w : What) (l : List ℕ) → is_known_as w l ≡ false
    → line_check t s a y w l ≡ Err Refusal.Form
unfolding line_check
form_first t s a y w l e = rw e

-- 5. At most 256 labels are set ..
module _ (s : ℕ) (ls : List (List ℕ)) where
  pub at_most_256 : length (labels_of none (address_of s) ls).keys ≤ 256
  at_most_256 = few_labels none (address_of s) ls (omega arith)

  -- .. and one that is set (a name's number is above 0) means the address of the first line of known form that writes it.
  pub label_first_written : (k : ℕ) → eqb k 0 ≡ false → is_set (labels_of none (address_of s) ls).keys k ≡ true
      → meaning (labels_of none (address_of s) ls) k ≡ Value.Is (signed_word (address_of (first_at k s ls)).0)
  unfolding meaning
  label_first_written k e h = rw (h, first_written s k ls e h)

-- 6. What is answered is determined: two results of `assemble`, and of the C call, that satisfy what it ensures coincide.
module _ (x : List ℕ) (s : ℕ) (m : List ℕ) where
  pub assemble_determined : (p q : Assembled) (a b : List ℕ) → answered p a ≡ assembled_of x s m → answered q b ≡ assembled_of x s m → (p ≡ q) × (a ≡ b)
  assemble_determined p q a b f g = let r = f ∙ sym g in (ap (λ (z : Answered). z.assembled) r, ap (λ (z : Answered). z.image) r)

  pub call_determined : (p q i j e f : ℕ) (a b : List ℕ)
      → p ≡ reply_of (assembled_of x s m).assembled → q ≡ reply_of (assembled_of x s m).assembled
      → i ≡ line_of (assembled_of x s m).assembled → j ≡ line_of (assembled_of x s m).assembled
      → e ≡ end_of (assembled_of x s m).assembled → f ≡ end_of (assembled_of x s m).assembled
      → a ≡ (assembled_of x s m).image → b ≡ (assembled_of x s m).image
      → (p ≡ q) × (i ≡ j) × (e ≡ f) × (a ≡ b)
  call_determined p q i j e f a b c d g h k l n o = (c ∙ sym d, g ∙ sym h, k ∙ sym l, n ∙ sym o)
