-- What a line that is not refused says, and its bytes.
-- Assumes nothing.
use Rattle.std.specs.Prelude.{Err, None, Ok, Option, Result, Some}
use Prim.Native.Nat.{ℕ, ◌+◌, ◌*◌, ◌/◌, ◌%◌, ◌<◌}
use mathlib.Core.Path.{◌≡◌, refl, ap}
use mathlib.Core.Bool.{Bool, true, false, cond, ◌&&◌}
use mathlib.Core.List.{List, [], ◌∷◌}
use native.Mathlib.Omega.{arith}
use lib.Dec.{ltb, leb}
use lib.IntN.{ℤ}
use lib.ListN.{length}
use borrow.Author.Tests.{ltb-true}
use Rattle.word.specs.Numbers.{fits_of}
use Rattle.word.specs.declared.ByteAddr.{ByteAddr}
use Rattle.isa.specs.Codes.{shift_no, alu_no, cmp_no, cmp_imm_no, cond_no, cond_imm_no, load_no, store_no}
use Rattle.isa.specs.Decode.{decode_of}
use Rattle.isa.specs.Encode.{only, nibs_of, nibs_signed, nibs_byte, nibs_signed_byte, encode_imm, encode_short, encode_long, encode_of}
use Rattle.isa.specs.Statements.{DecodesTo}
use Rattle.isa.specs.declared.ImmOp.{ImmOp}
use Rattle.isa.specs.declared.Instr.{Instr}
use Rattle.isa.specs.declared.Kind.{Kind}
use Rattle.isa.specs.declared.Decoded.{Decoded}
use Rattle.isa.specs.declared.Encoded.{Encoded}
use Rattle.isa.proofs.Theorems.{bits_decode}
use Rattle.expr.specs.Expr.{Labels}
use Rattle.expr.specs.Expr.{Read as Valued}
use Rattle.expr.specs.declared.Value.{Value}
use Rattle.forms.specs.Form.{body_of, kind_shape, shape_of, is_known_as}
use Rattle.forms.specs.Says.{bits_of, halves_to, words_to, scaled, says_of, bits_said, bits_at, bytes_in}
use Rattle.asm.specs.Assemble.{line_value, line_bits, label_in, before, label_check, fit_check, value_check, line_check, line_bytes, value_in}
use Rattle.forms.specs.declared.What.{What}
use Rattle.asm.specs.declared.Refusal.{Refusal}
use Rattle.assembly.specs.Assembly.{Decodes, Says}

-- ---- bits of a kind: as many as its shape says, and they decode to what was said

-- bits that are there take n bytes and decode to d
Whole : Option Encoded → Option Decoded → ℕ → Type 0
Whole (Some (Encoded.Half h)) d n = ((x : ℕ) → decode_of h x ≡ d) × (2 ≡ n)
Whole (Some (Encoded.Pair h x)) d n = (decode_of h x ≡ d) × (4 ≡ n)
Whole None d n = Unit {0}

-- bits that are there take n bytes
Sized : ℕ → Option Encoded → Type 0
Sized n (Some (Encoded.Half h)) = 2 ≡ n
Sized n (Some (Encoded.Pair h x)) = 4 ≡ n
Sized n None = Unit {0}

half : (h : ℕ) → Sized 2 (Some (Encoded.Half h))
unfolding Sized
half h = refl

pair : (h x : ℕ) → Sized 4 (Some (Encoded.Pair h x))
unfolding Sized
pair h x = refl

only_sized : (t : Bool) (n : ℕ) (x : Option Encoded) → Sized n x → Sized n (only t x)
unfolding Sized
only_sized true n x q = q
only_sized false n x q = tt

nibs : (a b c d : ℕ) → Sized 2 (nibs_of a b c d)
unfolding nibs_of
nibs a b c d = only_sized (ltb a 16 && ltb b 16 && ltb c 16 && ltb d 16) 2 _ (half (a * 4096 + b * 256 + c * 16 + d))

byte : (a c n : ℕ) → Sized 2 (nibs_byte a c n)
unfolding nibs_byte
byte a c n = only_sized (ltb n 256) 2 _ (nibs a (n / 16) c (n % 16))

short : (i : Instr) → Sized 2 (encode_of i) → Whole (encode_of i) (Some (Decoded.Short i)) 2
unfolding Sized Whole
short i = go (encode_of i) (bits_decode i)
  where
    go : (e : Option Encoded) → DecodesTo e i → Sized 2 e → Whole e (Some (Decoded.Short i)) 2
    go (Some (Encoded.Half h)) d q = (d, q)
    go (Some (Encoded.Pair h x)) d q = absurd (omega arith)
    go None d q = tt

long : (i : Instr) → Sized 4 (encode_of i) → Whole (encode_of i) (Some (Decoded.Long i)) 4
unfolding Sized Whole
long i = go (encode_of i) (bits_decode i)
  where
    go : (e : Option Encoded) → DecodesTo e i → Sized 4 e → Whole e (Some (Decoded.Long i)) 4
    go (Some (Encoded.Half h)) d q = absurd (omega arith)
    go (Some (Encoded.Pair h x)) d q = (d, q)
    go None d q = tt

imm : (op : ImmOp) (c x : ℕ) → Sized 2 (encode_imm op c x)
unfolding encode_imm nibs_signed_byte
imm ImmOp.And c x = byte _ c x
imm ImmOp.Add c x = only_sized (fits_of 8 x) 2 _ (byte _ c _)
imm ImmOp.Mov c x = only_sized (fits_of 8 x) 2 _ (byte _ c _)

no_bits : (n : ℕ) → Whole None None n
unfolding Whole
no_bits n = tt

bits_said_lem : (k : Kind) (a : ByteAddr) (x y z v : ℕ) → Whole (bits_said (says_of k a x y z v)) (says_of k a x y z v) (kind_shape k).size
unfolding says_of bits_said kind_shape encode_of nibs_signed encode_short encode_long
bits_said_lem Kind.Nothing a x y z v = no_bits 2
bits_said_lem (Kind.Alu op) a x y z v = short (Instr.Alu op x y) (nibs 2 (alu_no op) x y)
bits_said_lem (Kind.ShiftImm op) a x y z v = short (Instr.ShiftImm op x v) (nibs 0 (shift_no op) x v)
bits_said_lem (Kind.Cmp op) a x y z v = short (Instr.Cmp op x y) (nibs 3 (cmp_no op) x y)
bits_said_lem (Kind.CmpImm op) a x y z v = short (Instr.CmpImm op x v) (only_sized (fits_of 4 v) 2 _ (nibs 3 (cmp_imm_no op) x _))
bits_said_lem (Kind.Cond op t) a x y z v = short (Instr.Cond op t x y) (nibs 3 (cond_no op t) x y)
bits_said_lem (Kind.CondImm t) a x y z v = short (Instr.CondImm t x v) (only_sized (fits_of 4 v) 2 _ (nibs 3 (cond_imm_no t) x _))
bits_said_lem Kind.Ldrpc a x y z v = short (Instr.Ldrpc x (words_to a v)) (byte 4 x (words_to a v))
bits_said_lem (Kind.Imm op) a x y z v = short (Instr.Imm op x v) (imm op x v)
bits_said_lem (Kind.Load w) a x y z v = short (Instr.Load w x (scaled w v) z) (nibs (load_no w) (scaled w v) x z)
bits_said_lem (Kind.Store w) a x y z v = short (Instr.Store w x (scaled w v) z) (nibs (store_no w) (scaled w v) x z)
bits_said_lem Kind.Mfsfr a x y z v = short (Instr.Mfsfr x y) (only_sized (leb y 10) 2 _ (nibs 1 2 x y))
bits_said_lem Kind.Mtsfr a x y z v = short (Instr.Mtsfr x y) (only_sized (leb x 10) 2 _ (nibs 1 3 x y))
bits_said_lem Kind.Jr a x y z v = short (Instr.Jr x) (nibs 1 12 0 x)
bits_said_lem Kind.Jrl a x y z v = short (Instr.Jrl x) (nibs 1 13 0 x)
bits_said_lem Kind.Jsfr a x y z v = short (Instr.Jsfr x) (only_sized (leb x 3) 2 _ (nibs 1 14 0 x))
bits_said_lem Kind.Swint a x y z v = short (Instr.Swint v) (nibs 1 0 0 v)
bits_said_lem (Kind.ShortJump op) a x y z v = short (Instr.ShortJump op (halves_to a v)) (only_sized (fits_of 10 (halves_to a v).0) 2 _ (half _))
bits_said_lem (Kind.LongJump op) a x y z v = long (Instr.LongJump op (halves_to a v)) (only_sized (fits_of 26 (halves_to a v).0) 4 _ (pair _ _))

-- ---- a line that is fine

-- of what was checked nothing is refused
pub record Fine (t : Labels) (s : List ℕ) (a : ByteAddr) (y : Result Unit Refusal) (w : What) (l : List ℕ) : Type 0 where
  pub known : is_known_as w l ≡ true
  pub value : ℤ
  pub read : ℕ
  pub valued : line_value t (shape_of w) (body_of l) ≡ Ok (Value.Is value, read)
  pub label : label_check s (label_in l) ≡ Ok tt
  pub fits : fit_check (line_bits w a (body_of l) value) ≡ Ok tt
  pub room : y ≡ Ok tt

fine_both : (x y : Result Unit Refusal) → before x y ≡ Ok tt → (x ≡ Ok tt) × (y ≡ Ok tt)
fine_both (Ok _) y e = (refl, e)
fine_both (Err r) y e = let z : ◌≡◌ {A = ℕ} 0 1 = cc in absurd (omega arith)

module _ (t : Labels) (s : List ℕ) (a : ByteAddr) (y : Result Unit Refusal) (w : What) (l : List ℕ) where
  by_value : is_known_as w l ≡ true → (v : Valued) → line_value t (shape_of w) (body_of l) ≡ v
      → value_check w a (body_of l) (label_check s (label_in l)) y v ≡ Ok tt → Fine t s a y w l
  unfolding value_check
  by_value k (Err e) p q = let z : ◌≡◌ {A = ℕ} 0 1 = cc in absurd (omega arith)
  by_value k (Ok (Value.Unknown, n)) p q = let z : ◌≡◌ {A = ℕ} 0 1 = cc in absurd (omega arith)
  by_value k (Ok (Value.Large, n)) p q =
      let b = (fine_both (label_check s (label_in l)) (Err Refusal.Value) q).1 in
      let z : ◌≡◌ {A = ℕ} 0 1 = cc in absurd (omega arith)
  by_value k (Ok (Value.Is z, n)) p q =
      let b = fine_both (label_check s (label_in l)) _ q in
      let c = fine_both (fit_check (line_bits w a (body_of l) z)) y b.1 in
      record { known = k; value = z; read = n; valued = p; label = b.0; fits = c.0; room = c.1 }

  pub fine : line_check t s a y w l ≡ Ok tt → Fine t s a y w l
  unfolding line_check
  fine e = go (is_known_as w l) refl e
    where
      v : Valued
      v = line_value t (shape_of w) (body_of l)

      go : (u : Bool) → is_known_as w l ≡ u → cond u (value_check w a (body_of l) (label_check s (label_in l)) y v) (Err Refusal.Form) ≡ Ok tt → Fine t s a y w l
      go true k q = by_value k v refl q
      go false k q = let z : ◌≡◌ {A = ℕ} 0 1 = cc in absurd (omega arith)

-- ---- its bits

said_size : (x : Option Encoded) (d : Option Decoded) (n : ℕ) → fit_check x ≡ Ok tt → Whole x d n → length (bytes_in x) ≡ n
unfolding Whole bytes_in
said_size (Some (Encoded.Half h)) d n f q = q.1
said_size (Some (Encoded.Pair h y)) d n f q = q.1
said_size None d n f q = let z : ◌≡◌ {A = ℕ} 0 1 = cc in absurd (omega arith)

said_decodes : (x : Option Encoded) (d : Option Decoded) (n : ℕ) → fit_check x ≡ Ok tt → Whole x d n → Decodes x d
unfolding Whole
said_decodes (Some (Encoded.Half h)) d n f q = q.0
said_decodes (Some (Encoded.Pair h y)) d n f q = q.0
said_decodes None d n f q = let z : ◌≡◌ {A = ℕ} 0 1 = cc in absurd (omega arith)

half_fits : (v : ℕ) (t : Bool) → ltb v 65536 ≡ t → fit_check (only t (Some (Encoded.Half v))) ≡ Ok tt
    → (v < 65536) × (bytes_in (only t (Some (Encoded.Half v))) ≡ v / 256 ∷ v % 256 ∷ [])
unfolding bytes_in
half_fits v true e f = (ltb-true v 65536 e, refl)
half_fits v false e f = let z : ◌≡◌ {A = ℕ} 0 1 = cc in absurd (omega arith)

word_bytes : (v : ℕ) → bytes_in (Some (Encoded.Pair (v / 65536) (v % 65536))) ≡ v / 16777216 ∷ v / 65536 % 256 ∷ v / 256 % 256 ∷ v % 256 ∷ []
unfolding bytes_in
word_bytes v =
    let p : v / 65536 / 256 ≡ v / 16777216 = omega arith in
    let q : v % 65536 / 256 ≡ v / 256 % 256 = omega arith in
    let r : v % 65536 % 256 ≡ v % 256 = omega arith in
    rw (p, q, r)

pub bits_size : (w : What) (a : ByteAddr) (b : List ℕ) (z : ℤ) → fit_check (line_bits w a b z) ≡ Ok tt → length (bytes_in (line_bits w a b z)) ≡ (shape_of w).size
unfolding line_bits bits_at shape_of
bits_size (What.Code k) a b z f = said_size _ _ _ f (bits_said_lem k a _ _ _ _)
bits_size What.Half a b z f = ap length (half_fits (bits_of z) _ refl f).1
bits_size What.Word a b z f = ap length (word_bytes (bits_of z))

pub bits_say : (w : What) (a : ByteAddr) (b : List ℕ) (z : ℤ) → bits_of z < 4294967296 → fit_check (line_bits w a b z) ≡ Ok tt → Says w a b z (line_bits w a b z)
unfolding line_bits bits_at shape_of
bits_say (What.Code k) a b z h f = said_decodes _ _ _ f (bits_said_lem k a _ _ _ _)
bits_say What.Half a b z h f = half_fits (bits_of z) _ refl f
bits_say What.Word a b z h f = (h, word_bytes (bits_of z))

pub line_size_lem : (t : Labels) (s : List ℕ) (a : ByteAddr) (y : Result Unit Refusal) (w : What) (l : List ℕ) → line_check t s a y w l ≡ Ok tt
    → length (line_bytes t a w l) ≡ (shape_of w).size
unfolding line_bytes value_in
line_size_lem t s a y w l e = let f = fine t s a y w l e in rw f.valued (bits_size w a (body_of l) f.value f.fits)
