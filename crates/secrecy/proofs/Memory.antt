-- Lists with marks in two runs: what is read unmarked is equal, and writes keep SameList.
-- Assumes nothing.
use Prim.Native.Nat.{ℕ, zero, suc, ◌+◌, ◌-◌, ◌/◌, ◌%◌, ◌<◌, ◌≤◌}
use mathlib.Core.Path.{◌≡◌, refl, sym, ap, ap₂, subst, ◌∙◌}
use mathlib.Core.Bool.{Bool, true, false, cond}
use mathlib.Core.List.{List}
use native.Mathlib.Decide.{ℕ_discrete, dec_lt}
use native.Mathlib.Nat.{not-suc-le-zero}
use native.Mathlib.Omega.{arith}
use lib.Dec.{ltb, leb}
use lib.ListN.{length, get_or, set, length-set}
use lib.Seq.{get_or-set_same, get_or-set_other, set_out}
use borrow.Author.Tests.{ltb-true, ltb-false, leb-true}
use Rattle.word.specs.Bytes.{bytes_of, inside, store, load_of, store_of}
use Rattle.word.specs.declared.ByteAddr.{ByteAddr}
use Rattle.word.specs.declared.Width.{Width}
use Rattle.word.proofs.Memory.{load_same, store_length, store_kept}
use Rattle.marks.specs.Memory.{Marks, mark_at, put_marks, marked_at, mark_all}
use Rattle.marks.proofs.Places.{Has, none_marked, puts_other, puts_same, has_puts}
use Rattle.secrecy.specs.Same.{SameList, SameMem}

-- one place written, with its mark m
module _ {M : Type 0} {z : M} {k : List M} {a b : List ℕ} (s : SameList z k a b) (each : length a ≡ length k) (i : ℕ) (m : M) (v w : ℕ) (f : m ≡ z → v ≡ w) where
  at_place : get_or (set k i m) i z ≡ z → get_or (set a i v) i 0 ≡ get_or (set b i w) i 0
  at_place h = go (dec_lt i (length k))
    where
      go : Dec (i < length k) → get_or (set a i v) i 0 ≡ get_or (set b i w) i 0
      go (yes lt) =
          get_or-set_same a i v 0 (omega (arith, each))
          ∙ f (sym (get_or-set_same k i m z lt) ∙ h)
          ∙ sym (get_or-set_same b i w 0 (omega (arith, each, s.long)))
      go (no ge) =
          ap (λ (l : List ℕ). get_or l i 0) (set_out a i v (omega (arith, each)))
          ∙ s.equal i (sym (ap (λ (l : List M). get_or l i z) (set_out k i m (omega arith))) ∙ h)
          ∙ sym (ap (λ (l : List ℕ). get_or l i 0) (set_out b i w (omega (arith, each, s.long))))

  pub set_same : SameList z (set k i m) (set a i v) (set b i w)
  set_same =
      record {
        long = length-set a i v ∙ s.long ∙ sym (length-set b i w);
        equal = λ j. go j (ℕ_discrete j i);
      }
    where
      go : (j : ℕ) → Dec (j ≡ i) → get_or (set k i m) j z ≡ z → get_or (set a i v) j 0 ≡ get_or (set b i w) j 0
      go j (yes e) h =
          subst (λ (n : ℕ). get_or (set a i v) n 0 ≡ get_or (set b i w) n 0) (sym e) (at_place (subst (λ (n : ℕ). get_or (set k i m) n z ≡ z) e h))
      go j (no ne) h = get_or-set_other a i j v 0 ne ∙ s.equal j (sym (get_or-set_other k i j m z ne) ∙ h) ∙ sym (get_or-set_other b i j w 0 ne)

-- ---- memory and its marks

-- reading
module _ {k : Marks} {m n : List ℕ} (s : SameMem k m n) where
  pub loaded : (w : Width) (a : ByteAddr) → marked_at w k a ≡ false → load_of w m a ≡ load_of w n a
  loaded w a h =
      ap₂ (λ (l v : ℕ). cond (leb (a.0 + bytes_of w) l) v 0) s.long
      (load_same (bytes_of w) m n a.0 (λ i l. s.equal (a.0 + i) (none_marked (bytes_of w) k a.0 i h l)))

-- the slice has a place for each byte of memory
abbrev pub Covers : Marks → List ℕ → Type 0
Covers k m = (i : ℕ) → i < length m → Has k i

-- a byte that the same number wrote
byte_same : (w : ℕ) (m n : List ℕ) (a i v : ℕ) → i < w → a + w ≤ length m → a + w ≤ length n → get_or (store w m a v) (a + i) 0 ≡ get_or (store w n a v) (a + i) 0
unfolding store
byte_same zero m n a i v l h g = absurd (not-suc-le-zero l)
byte_same (suc w) m n a i v l h g =
    go (ℕ_discrete i w) (λ q. byte_same w (set m (a + w) (v % 256)) (set n (a + w) (v % 256)) a i (v / 256) q (rw length-set (omega arith)) (rw length-set (omega arith)))
  where
    last : (k : List ℕ) → a + suc w ≤ length k → get_or (store w (set k (a + w) (v % 256)) a (v / 256)) (a + w) 0 ≡ v % 256
    last k f = store_kept w (set k (a + w) (v % 256)) a (v / 256) (a + w) (λ j q e. omega arith) ∙ get_or-set_same k (a + w) (v % 256) 0 (omega arith)

    go : Dec (i ≡ w)
        → (i < w → get_or (store w (set m (a + w) (v % 256)) a (v / 256)) (a + i) 0 ≡ get_or (store w (set n (a + w) (v % 256)) a (v / 256)) (a + i) 0)
        → get_or (store w (set m (a + w) (v % 256)) a (v / 256)) (a + i) 0 ≡ get_or (store w (set n (a + w) (v % 256)) a (v / 256)) (a + i) 0
    go (yes e) f =
        subst
        (λ (j : ℕ). get_or (store w (set m (a + w) (v % 256)) a (v / 256)) (a + j) 0 ≡ get_or (store w (set n (a + w) (v % 256)) a (v / 256)) (a + j) 0)
        (sym e)
        (last m h ∙ sym (last n g))
    go (no ne) f = f (omega (arith, ne))

-- writing, inside memory
module _ {k : Marks} {m n : List ℕ} (s : SameMem k m n) (c : Covers k m) where
  stores : (w a : ℕ) (b : Bool) (v x : ℕ) → a + w ≤ length m → (b ≡ false → v ≡ x) → SameMem (put_marks w k a b) (store w m a v) (store w n a x)
  stores w a b v x h f =
      record {
        long = store_length w m a v ∙ s.long ∙ sym (store_length w n a x);
        equal = λ i. go i (ltb i a) refl (ltb i (a + w)) refl;
      }
    where
      kept : (i : ℕ) → ((j : ℕ) → j < w → i ≡ a + j → ⊥) → mark_at (put_marks w k a b) i ≡ false → get_or (store w m a v) i 0 ≡ get_or (store w n a x) i 0
      kept i far r = store_kept w m a v i far ∙ s.equal i (sym (puts_other w k a i b far) ∙ r) ∙ sym (store_kept w n a x i far)

      go : (i : ℕ) (p : Bool) → ltb i a ≡ p → (q : Bool) → ltb i (a + w) ≡ q → mark_at (put_marks w k a b) i ≡ false
          → get_or (store w m a v) i 0 ≡ get_or (store w n a x) i 0
      go i true below q e r = kept i (λ j l z. let u : i < a = ltb-true _ _ below in omega arith) r
      go i false above true under r =
          let u : a ≤ i = ltb-false _ _ above in
          let l : i < a + w = ltb-true _ _ under in
          let z : i ≡ a + (i - a) = omega arith in
          subst (λ (j : ℕ). get_or (store w m a v) j 0 ≡ get_or (store w n a x) j 0) (sym z)
          (ap (λ (y : ℕ). get_or (store w m a y) (a + (i - a)) 0)
          (f (sym (puts_same w k a (i - a) b (omega arith) (c (a + (i - a)) (omega arith))) ∙ subst (λ (j : ℕ). mark_at (put_marks w k a b) j ≡ false) z r))
          ∙ byte_same w m n a (i - a) x (omega arith) h (subst (λ (y : ℕ). a + w ≤ y) s.long h))
      go i false above false over r = kept i (λ j l z. let u : a + w ≤ i = ltb-false _ _ over in omega arith) r

  pub stored : (w : Width) (a : ByteAddr) (b : Bool) (v x : ℕ) → inside m a (bytes_of w) ≡ true → (b ≡ false → v ≡ x)
      → SameMem (mark_all w k a b) (store_of w m a v) (store_of w n a x)
  stored w a b v x h f =
      rw (h, subst (λ (l : ℕ). leb (a.0 + bytes_of w) l ≡ true) s.long h) (stores (bytes_of w) a.0 b v x (leb-true _ _ h) f)

  pub covers : (w : Width) (a : ByteAddr) (b : Bool) (v : ℕ) → Covers (mark_all w k a b) (store_of w m a v)
  covers w a b v i l = has_puts (bytes_of w) k a.0 i b (c i (subst (λ (y : ℕ). i < y) (long (inside m a (bytes_of w))) l))
    where
      long : (t : Bool) → length (cond t (store (bytes_of w) m a.0 v) m) ≡ length m
      long true = store_length (bytes_of w) m a.0 v
      long false = refl
