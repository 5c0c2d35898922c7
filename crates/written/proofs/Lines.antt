-- What a line that is not refused shows, and its bytes.
-- Assumes nothing.
use Rattle.std.specs.Prelude.{Err, None, Ok, Option, Result, Some}
use Prim.Native.Nat.{ℕ, suc, ◌+◌, ◌-◌, ◌*◌, ◌/◌, ◌%◌, ◌^◌, ◌<◌}
use mathlib.Core.Logic.{◌⊎◌, inl, inr}
use mathlib.Core.Path.{◌≡◌, refl, sym, ap, ◌∙◌}
use mathlib.Core.Bool.{Bool, true, false, cond, ◌&&◌, ◌||◌}
use mathlib.Core.List.{List, [], ◌∷◌, ◌++◌}
use native.Mathlib.Omega.{arith}
use lib.Dec.{ltb, leb, eqb}
use lib.IntN.{ℤ}
use lib.ListN.{length, get_or}
use lib.Seq.{take-suc, take-length}
use borrow.Author.Tests.{ltb-true, eqb-true}
use Rattle.word.specs.Numbers.{fits_of}
use Rattle.word.specs.declared.ByteAddr.{ByteAddr}
use Rattle.word.specs.declared.HalfDisp.{HalfDisp}
use Rattle.isa.specs.Codes.{shift_no, alu_no, cmp_no, cmp_imm_no, cond_no, cond_imm_no, load_no, store_no}
use Rattle.isa.specs.Encode.{only, nibs_of, nibs_signed, nibs_byte, nibs_signed_byte, encode_imm, encode_short, encode_long, encode_of}
use Rattle.isa.specs.Statements.{has_bits, DecodesTo}
use Rattle.isa.specs.declared.ImmOp.{ImmOp}
use Rattle.isa.specs.declared.ShortOp.{ShortOp}
use Rattle.isa.specs.declared.LongOp.{LongOp}
use Rattle.isa.specs.declared.Instr.{Instr}
use Rattle.isa.specs.declared.Kind.{Kind}
use Rattle.isa.specs.declared.Decoded.{Decoded}
use Rattle.isa.specs.declared.Encoded.{Encoded}
use Rattle.isa.proofs.Rows.{and_left, and_right}
use Rattle.isa.proofs.Theorems.{bits_decode}
use Rattle.text.specs.Words.{ascii}
use Rattle.listing.specs.Listing.{row_of}
use Rattle.listing.specs.declared.Operand.{Operand}
use Rattle.listing.specs.declared.Row.{Row}
use Rattle.expr.specs.Expr.{Labels, key_of, is_name}
use Rattle.expr.specs.Expr.{Read as Valued}
use Rattle.expr.specs.declared.Value.{Value}
use Rattle.forms.specs.Form.{is_ended, body_of, field_at, what_of, what_in, kind_shape, shape_of, is_label, fits_shape, is_known_body, is_known_as}
use Rattle.forms.specs.Says.{bits_of, says_of, bits_said, bits_at, bytes_in}
use Rattle.forms.specs.declared.Sort.{Sort}
use Rattle.forms.specs.declared.What.{What}
use Rattle.asm.specs.Assemble.{sum_at, line_value, line_bits, label_in, before, label_check, fit_check, value_check, line_check, line_bytes, value_in}
use Rattle.asm.specs.declared.Refusal.{Refusal}
use Rattle.written.specs.Written.{RowWrites, Shows, short, long, half, word}
use Rattle.written.proofs.Names.{kind_by, instr_name, half_name, word_name}
use Rattle.written.proofs.Rows.{said_by, RowOf, row_one, row_said}

-- ---- bits of a kind: as many as its shape says

-- bits that are there take n bytes
Sized : ℕ → Option Encoded → Type 0
Sized n (Some (Encoded.Half h)) = 2 ≡ n
Sized n (Some (Encoded.Pair h s)) = (4 ≡ n) × (s < 65536)
Sized n None = Unit {0}

none : (n : ℕ) → Sized n None
unfolding Sized
none n = tt

two : (h : ℕ) → Sized 2 (Some (Encoded.Half h))
unfolding Sized
two h = refl

four : (h n : ℕ) → Sized 4 (Some (Encoded.Pair h (n % 65536)))
unfolding Sized
four h n = (refl, omega arith)

only_sized : (t : Bool) (n : ℕ) (x : Option Encoded) → Sized n x → Sized n (only t x)
only_sized true n x q = q
only_sized false n x q = none n

nibs : (a b c d : ℕ) → Sized 2 (nibs_of a b c d)
unfolding nibs_of
nibs a b c d = only_sized (ltb a 16 && ltb b 16 && ltb c 16 && ltb d 16) 2 _ (two (a * 4096 + b * 256 + c * 16 + d))

byte : (a c n : ℕ) → Sized 2 (nibs_byte a c n)
unfolding nibs_byte
byte a c n = only_sized (ltb n 256) 2 _ (nibs a (n / 16) c (n % 16))

signed : (b c x : ℕ) → Sized 2 (nibs_signed b c x)
unfolding nibs_signed
signed b c x = only_sized (fits_of 4 x) 2 _ (nibs 3 b c (x % 2 ^ 4))

imm : (op : ImmOp) (c x : ℕ) → Sized 2 (encode_imm op c x)
unfolding encode_imm nibs_signed_byte
imm ImmOp.And c x = byte _ c x
imm ImmOp.Add c x = only_sized (fits_of 8 x) 2 _ (byte _ c _)
imm ImmOp.Mov c x = only_sized (fits_of 8 x) 2 _ (byte _ c _)

near : (op : ShortOp) (d : HalfDisp) → Sized 2 (encode_short op d)
unfolding encode_short
near op d = only_sized (fits_of 10 d.0) 2 _ (two _)

far : (op : LongOp) (d : HalfDisp) → Sized 4 (encode_long op d)
unfolding encode_long
far op d = only_sized (fits_of 26 d.0) 4 _ (four _ (d.0 % 2 ^ 26))

bits_sized : (k : Kind) (a : ByteAddr) (x y z v : ℕ) → Sized (kind_shape k).size (bits_said (says_of k a x y z v))
unfolding says_of bits_said kind_shape encode_of
bits_sized Kind.Nothing a x y z v = none 2
bits_sized (Kind.Alu op) a x y z v = nibs 2 (alu_no op) x y
bits_sized (Kind.ShiftImm op) a x y z v = nibs 0 (shift_no op) x _
bits_sized (Kind.Cmp op) a x y z v = nibs 3 (cmp_no op) x y
bits_sized (Kind.CmpImm op) a x y z v = signed (cmp_imm_no op) x _
bits_sized (Kind.Cond op t) a x y z v = nibs 3 (cond_no op t) x y
bits_sized (Kind.CondImm t) a x y z v = signed (cond_imm_no t) x _
bits_sized Kind.Ldrpc a x y z v = byte 4 x _
bits_sized (Kind.Imm op) a x y z v = imm op x _
bits_sized (Kind.Load w) a x y z v = nibs (load_no w) _ x z
bits_sized (Kind.Store w) a x y z v = nibs (store_no w) _ x z
bits_sized Kind.Mfsfr a x y z v = only_sized (leb y 10) 2 _ (nibs 1 2 x y)
bits_sized Kind.Mtsfr a x y z v = only_sized (leb x 10) 2 _ (nibs 1 3 x y)
bits_sized Kind.Jr a x y z v = nibs 1 12 0 x
bits_sized Kind.Jrl a x y z v = nibs 1 13 0 x
bits_sized Kind.Jsfr a x y z v = only_sized (leb x 3) 2 _ (nibs 1 14 0 x)
bits_sized Kind.Swint a x y z v = nibs 1 0 0 _
bits_sized (Kind.ShortJump op) a x y z v = near op _
bits_sized (Kind.LongJump op) a x y z v = far op _

-- ---- a line that is fine

-- of what was checked nothing is refused
pub record Fine (t : Labels) (s : List ℕ) (a : ByteAddr) (y : Result Unit Refusal) (w : What) (l : List ℕ) : Type 0 where
  pub known : is_known_as w l ≡ true
  pub value : ℤ
  pub read : ℕ
  pub valued : line_value t (shape_of w) (body_of l) ≡ Ok (Value.Is value, read)
  pub label : label_check s (label_in l) ≡ Ok tt
  pub fits : fit_check (line_bits w a (body_of l) value) ≡ Ok tt
  pub room : y ≡ Ok tt

fine_both : (x y : Result Unit Refusal) → before x y ≡ Ok tt → (x ≡ Ok tt) × (y ≡ Ok tt)
fine_both (Ok _) y e = (refl, e)
fine_both (Err r) y e = let z : ◌≡◌ {A = ℕ} 0 1 = cc in absurd (omega arith)

module _ (t : Labels) (s : List ℕ) (a : ByteAddr) (y : Result Unit Refusal) (w : What) (l : List ℕ) where
  by_value : is_known_as w l ≡ true → (v : Valued) → line_value t (shape_of w) (body_of l) ≡ v
      → value_check w a (body_of l) (label_check s (label_in l)) y v ≡ Ok tt → Fine t s a y w l
  unfolding value_check
  by_value k (Err e) p q = let z : ◌≡◌ {A = ℕ} 0 1 = cc in absurd (omega arith)
  by_value k (Ok (Value.Unknown, n)) p q = let z : ◌≡◌ {A = ℕ} 0 1 = cc in absurd (omega arith)
  by_value k (Ok (Value.Large, n)) p q =
      let b = (fine_both (label_check s (label_in l)) (Err Refusal.Value) q).1 in
      let z : ◌≡◌ {A = ℕ} 0 1 = cc in absurd (omega arith)
  by_value k (Ok (Value.Is z, n)) p q =
      let b = fine_both (label_check s (label_in l)) _ q in
      let c = fine_both (fit_check (line_bits w a (body_of l) z)) y b.1 in
      record { known = k; value = z; read = n; valued = p; label = b.0; fits = c.0; room = c.1 }

  pub fine : line_check t s a y w l ≡ Ok tt → Fine t s a y w l
  unfolding line_check
  fine e = go (is_known_as w l) refl e
    where
      v : Valued
      v = line_value t (shape_of w) (body_of l)

      go : (u : Bool) → is_known_as w l ≡ u → cond u (value_check w a (body_of l) (label_check s (label_in l)) y v) (Err Refusal.Form) ≡ Ok tt → Fine t s a y w l
      go true k q = by_value k v refl q
      go false k q = let z : ◌≡◌ {A = ℕ} 0 1 = cc in absurd (omega arith)

-- ---- its size

sized_bytes : (x : Option Encoded) (n : ℕ) → fit_check x ≡ Ok tt → Sized n x → length (bytes_in x) ≡ n
unfolding Sized bytes_in
sized_bytes (Some (Encoded.Half h)) n f q = q
sized_bytes (Some (Encoded.Pair h y)) n f q = q.0
sized_bytes None n f q = let z : ◌≡◌ {A = ℕ} 0 1 = cc in absurd (omega arith)

bits_at_lem : (w : What) (a : ByteAddr) (b : List ℕ) (z : ℤ) → Sized (shape_of w).size (line_bits w a b z)
unfolding line_bits bits_at shape_of
bits_at_lem (What.Code k) a b z = bits_sized k a _ _ _ _
bits_at_lem What.Half a b z = only_sized (ltb (bits_of z) 65536) 2 _ (two (bits_of z))
bits_at_lem What.Word a b z = four (bits_of z / 65536) (bits_of z)

pub bits_size : (w : What) (a : ByteAddr) (b : List ℕ) (z : ℤ) → fit_check (line_bits w a b z) ≡ Ok tt → length (bytes_in (line_bits w a b z)) ≡ (shape_of w).size
bits_size w a b z f = sized_bytes _ _ f (bits_at_lem w a b z)

module _ (t : Labels) (s : List ℕ) (a : ByteAddr) (y : Result Unit Refusal) (w : What) (l : List ℕ) where
  pub line_size_lem : line_check t s a y w l ≡ Ok tt → length (line_bytes t a w l) ≡ (shape_of w).size
  unfolding line_bytes value_in
  line_size_lem e = let f = fine t s a y w l e in rw f.valued (bits_size w a (body_of l) f.value f.fits)

-- ---- what it shows

has_bits_lem : (x : Option Encoded) → fit_check x ≡ Ok tt → has_bits x ≡ true
has_bits_lem (Some (Encoded.Half h)) f = refl
has_bits_lem (Some (Encoded.Pair h s)) f = refl
has_bits_lem None f = let z : ◌≡◌ {A = ℕ} 0 1 = cc in absurd (omega arith)

word_bytes : (v : ℕ) → bytes_in (Some (Encoded.Pair (v / 65536) (v % 65536))) ≡ v / 16777216 ∷ v / 65536 % 256 ∷ v / 256 % 256 ∷ v % 256 ∷ []
unfolding bytes_in
word_bytes v =
    let p : v / 65536 / 256 ≡ v / 16777216 = omega arith in
    let q : v % 65536 / 256 ≡ v / 256 % 256 = omega arith in
    let r : v % 65536 % 256 ≡ v % 256 = omega arith in
    rw (p, q, r)

module _ (t : Labels) (a : ByteAddr) (ha : a.0 < 4294967296) (b : List ℕ) (z : ℤ) (n : ℕ) where
  instr_shows : (i : Instr) (m : ℕ) (x : Option Encoded) → what_of b ≡ What.Code (kind_by i) → RowWrites t (row_of a i) b → DecodesTo x i → Sized m x → fit_check x ≡ Ok tt
      → Shows t a b (bytes_in x)
  unfolding bytes_in Sized
  instr_shows i m (Some (Encoded.Half h)) w r d q f = short h i refl d (instr_name h 0 i (inl (d 0)) b w, r)
  instr_shows i m (Some (Encoded.Pair h s)) w r d q f = long h s i refl q.1 d (instr_name h s i (inr d) b w, r)
  instr_shows i m None w r d q f = let z : ◌≡◌ {A = ℕ} 0 1 = cc in absurd (omega arith)

  said_shows : (k : Kind) (m : ℕ) (d : Option Decoded) → what_of b ≡ What.Code k → RowOf t b z n a ha k d → Sized m (bits_said d) → fit_check (bits_said d) ≡ Ok tt
      → Shows t a b (bytes_in (bits_said d))
  unfolding bits_said
  said_shows k m (Some (Decoded.Short i)) w r q f = instr_shows i m (encode_of i) (w ∙ ap What.Code (sym r.0)) r.1 (bits_decode i) q f
  said_shows k m (Some (Decoded.Long i)) w r q f = instr_shows i m (encode_of i) (w ∙ ap What.Code (sym r.0)) r.1 (bits_decode i) q f
  said_shows k m None w r q f = let z : ◌≡◌ {A = ℕ} 0 1 = cc in absurd (omega arith)

  half_shows : (u : Bool) → ltb (bits_of z) 65536 ≡ u → ascii "half" ≡ field_at 1 b → RowWrites t (Row.One (Operand.Number (bits_of z))) b
      → fit_check (only u (Some (Encoded.Half (bits_of z)))) ≡ Ok tt → Shows t a b (bytes_in (only u (Some (Encoded.Half (bits_of z)))))
  unfolding bytes_in
  half_shows true e w r f = half (bits_of z) refl (ltb-true _ _ e) w r
  half_shows false e w r f = let z : ◌≡◌ {A = ℕ} 0 1 = cc in absurd (omega arith)

  bits_show : (w : What) → what_of b ≡ w → fits_shape (shape_of w) b ≡ true → line_value t (shape_of w) b ≡ Ok (Value.Is z, n)
      → fit_check (line_bits w a b z) ≡ Ok tt → Shows t a b (bytes_in (line_bits w a b z))
  unfolding line_bits bits_at shape_of line_value sum_at
  bits_show (What.Code k) e s v f =
      said_shows k (kind_shape k).size (said_by k a b z) e (row_said t b z n a ha k s v (has_bits_lem (bits_said (said_by k a b z)) f)) (bits_sized k a _ _ _ _) f
  bits_show What.Half e s v f = half_shows _ refl (half_name b e) (row_one t b z n 2 Sort.Sum (refl, v) s) f
  bits_show What.Word e s v f = word (bits_of z) (word_bytes (bits_of z)) (word_name b e) (row_one t b z n 4 Sort.Sum (refl, v) s)

-- ---- its form

-- the newline that ends it is the last of its bytes
ended_by : (l : List ℕ) → is_ended l ≡ true → l ≡ body_of l ++ (10 ∷ [])
ended_by [] e = let z : ◌≡◌ {A = ℕ} 0 1 = cc in absurd (omega arith)
ended_by (c ∷ l) e =
    let n : suc (length l) - 1 ≡ length l = omega arith in
    let q : get_or (c ∷ l) (length l) 0 ≡ 10 = sym (ap (λ (i : ℕ). get_or (c ∷ l) i 0) n) ∙ eqb-true _ _ e in
    sym (rw (n, ← q) (sym (take-suc (c ∷ l) (length l) 0 (omega arith)) ∙ take-length (c ∷ l)))

empty : (f : List ℕ) → length f ≡ 0 → f ≡ []
empty [] e = refl
empty (c ∷ f) e = absurd (omega arith)

name_or_none : (f : List ℕ) → is_label f ≡ true → (f ≡ []) ⊎ (is_name f ≡ true)
name_or_none f e = go (eqb (length f) 0) refl (is_name f) refl e
  where
    go : (u : Bool) → eqb (length f) 0 ≡ u → (v : Bool) → is_name f ≡ v → (u || ltb 0 (cond v (key_of f) 0)) ≡ true → (f ≡ []) ⊎ (is_name f ≡ true)
    go true p v q r = inl (empty f (eqb-true _ _ p))
    go false p true q r = inr q
    go false p false q r = let z : ◌≡◌ {A = ℕ} 0 1 = cc in absurd (omega arith)

module _ (w : What) (l : List ℕ) (e : is_known_as w l ≡ true) where
  pub known_ends : l ≡ body_of l ++ (10 ∷ [])
  unfolding is_known_as
  known_ends = ended_by l (and_left (is_ended l) _ e)

  pub known_label : (field_at 0 (body_of l) ≡ []) ⊎ (is_name (field_at 0 (body_of l)) ≡ true)
  unfolding is_known_as is_known_body
  known_label = name_or_none (field_at 0 (body_of l)) (and_left (is_label (field_at 0 (body_of l))) _ (and_right (is_ended l) _ e))

known_fits : (w : What) (l : List ℕ) → is_known_as w l ≡ true → fits_shape (shape_of w) (body_of l) ≡ true
unfolding is_known_as is_known_body
known_fits w l e = and_right (is_label (field_at 0 (body_of l))) _ (and_right (is_ended l) _ e)

pub line_shown : (t : Labels) (s : List ℕ) (a : ByteAddr) (y : Result Unit Refusal) (l : List ℕ) → a.0 < 4294967296 → line_check t s a y (what_in l) l ≡ Ok tt
    → Shows t a (body_of l) (line_bytes t a (what_in l) l)
unfolding line_bytes value_in
line_shown t s a y l ha e =
    let f = fine t s a y (what_in l) l e in
    rw f.valued (bits_show t a ha (body_of l) f.value f.read (what_in l) refl (known_fits (what_in l) l f.known) f.valued f.fits)
