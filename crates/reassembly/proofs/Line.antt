-- One line of a listing, assembled again.
-- Assumes nothing.
use Rattle.std.specs.Prelude.{None, Option, Some}
use Prim.Native.Nat.{ℕ, ◌/◌, ◌<◌}
use mathlib.Core.Path.{◌≡◌, refl, sym, ap, subst, ◌∙◌}
use mathlib.Core.Bool.{Bool, true, false, cond, ◌&&◌}
use mathlib.Core.List.{List, ◌∷◌, ◌++◌}
use native.Mathlib.Omega.{arith}
use lib.Dec.{leb, eqb}
use lib.IntN.{pos}
use lib.ListN.{length, drop}
use borrow.Author.Tests.{lt-ltb, ne_eqb}
use Rattle.word.specs.Addresses.{byte_sum}
use Rattle.word.specs.declared.ByteAddr.{ByteAddr}
use Rattle.word.proofs.Memory.{half_lt}
use Rattle.isa.specs.Codes.{kind_of}
use Rattle.isa.specs.Decode.{operands_of, decode_of, nib_c, nib_d, short_if}
use Rattle.isa.specs.Statements.{is_long, size_of}
use Rattle.isa.specs.declared.Kind.{Kind}
use Rattle.isa.specs.declared.Instr.{Instr}
use Rattle.isa.specs.declared.Decoded.{Decoded}
use Rattle.isa.specs.declared.Encoded.{Encoded}
use Rattle.isa.proofs.Theorems.{short_encodes, long_encodes}
use Rattle.listing.specs.Names.{place_of, half_place, name_at}
use Rattle.listing.specs.Listing.{row_of, row_text, shown_of, half_in, second_in, cut_by, entry_at}
use Rattle.listing.specs.declared.Operand.{Operand}
use Rattle.listing.specs.declared.Row.{Row}
use Rattle.listing.specs.declared.Shown.{Shown}
use Rattle.columns.specs.Columns.{Bytes}
use Rattle.columns.proofs.Plain.{plain_name}
use Rattle.columns.proofs.Bits.{field_text}
use Rattle.columns.proofs.Said.{Shows, whole, cut, shows, row_tab}
use Rattle.expr.specs.Expr.{Labels}
use Rattle.forms.specs.Form.{field_at, what_at, what_of, kind_shape, shape_of}
use Rattle.forms.specs.Says.{bits_of, bits_at}
use Rattle.asm.specs.Assemble.{sum_at}
use Rattle.forms.specs.declared.What.{What}
use Rattle.forms.specs.declared.Sort.{Sort}
use Rattle.reassembly.specs.Lines.{number_in}
use Rattle.reassembly.proofs.Fields.{field_name}
use Rattle.reassembly.proofs.Names.{place_by, not_half, code_named, half_named}
use Rattle.reassembly.proofs.Numbers.{says_value}
use Rattle.reassembly.proofs.Shapes.{Back, sum, bits_says, back_one}
use Rattle.reassembly.proofs.ByKind.{BackIf, back}

-- ---- the bytes that a kind takes

abbrev SizeIf : Kind → Option Decoded → Type 0
SizeIf k (Some (Decoded.Short i)) = (kind_shape k).size ≡ 2
SizeIf k (Some (Decoded.Long i)) = (kind_shape k).size ≡ 4
SizeIf k None = Unit {0}

if_size : (b : Bool) (k : Kind) (i : Instr) → (kind_shape k).size ≡ 2 → SizeIf k (short_if b i)
if_size true k i e = e
if_size false k i e = tt

sized : (h s : ℕ) (k : Kind) → SizeIf k (operands_of k h s)
unfolding operands_of kind_shape
sized h s Kind.Nothing = tt
sized h s (Kind.Alu op) = refl
sized h s (Kind.ShiftImm op) = refl
sized h s (Kind.Cmp op) = refl
sized h s (Kind.CmpImm op) = refl
sized h s (Kind.Cond op t) = refl
sized h s (Kind.CondImm t) = refl
sized h s Kind.Ldrpc = refl
sized h s (Kind.Imm op) = refl
sized h s (Kind.Load w) = refl
sized h s (Kind.Store w) = refl
sized h s Kind.Mfsfr = if_size (leb (nib_d h) 10) Kind.Mfsfr (Instr.Mfsfr (nib_c h) (nib_d h)) refl
sized h s Kind.Mtsfr = if_size (leb (nib_c h) 10) Kind.Mtsfr (Instr.Mtsfr (nib_c h) (nib_d h)) refl
sized h s Kind.Jr = if_size (eqb (nib_c h) 0) Kind.Jr (Instr.Jr (nib_d h)) refl
sized h s Kind.Jrl = if_size (eqb (nib_c h) 0) Kind.Jrl (Instr.Jrl (nib_d h)) refl
sized h s Kind.Jsfr = if_size (eqb (nib_c h) 0 && leb (nib_d h) 3) Kind.Jsfr (Instr.Jsfr (nib_d h)) refl
sized h s Kind.Swint = if_size (eqb (nib_c h) 0) Kind.Swint (Instr.Swint (nib_d h)) refl
sized h s (Kind.ShortJump op) = refl
sized h s (Kind.LongJump op) = refl

-- ---- what a line names

name_field : (p : ℕ) (r : Row) → field_at 1 (9 ∷ (name_at p ++ row_text r)) ≡ name_at p
name_field p r =
    ap (λ (l : List ℕ). field_at 1 (9 ∷ (name_at p ++ l))) (row_tab r) ∙ field_name (name_at p) (drop 1 (row_text r)) (plain_name p)

names_what : (p : ℕ) (r : Row) (w : What) → what_at (place_by (name_at p)) ≡ w → what_of (9 ∷ (name_at p ++ row_text r)) ≡ w
unfolding what_of
names_what p r w e = rw (name_field p r) e

-- ---- a line, by what is shown of it

abbrev pub body_by : Shown → List ℕ
body_by x = 9 ∷ (name_at x.place ++ row_text x.row)

abbrev pub what_by : ℕ → Shown → What
what_by h x = cond (eqb x.place half_place) What.Half (What.Code (kind_of (h / 256)))

abbrev pub bits_by : ℕ → ℕ → Shown → Option Encoded
bits_by h s x = cond x.long (Some (Encoded.Pair h s)) (Some (Encoded.Half h))

pub record Line (t : Labels) (a : ByteAddr) (h s : ℕ) (x : Shown) : Type 0 where
  pub what : what_of (body_by x) ≡ what_by h x
  pub bytes : (shape_of (what_by h x)).size ≡ cond x.long 4 2
  pub back : Back t a (what_by h x) (body_by x) (number_in x.row) (bits_by h s x)

module _ (t : Labels) (a : ByteAddr) (low : a.0 < 65536) (h s : ℕ) (hh : h < 65536) (hs : s < 65536) where
  made : (x : Shown) (w : What) → what_by h x ≡ w → what_of (body_by x) ≡ w → (shape_of w).size ≡ cond x.long 4 2
      → Back t a w (body_by x) (number_in x.row) (bits_by h s x) → Line t a h s x
  made x w q p r b =
      record {
        what = p ∙ sym q;
        bytes = ap (λ (v : What). (shape_of v).size) q ∙ r;
        back = subst (λ (v : What). Back t a v (body_by x) (number_in x.row) (bits_by h s x)) (sym q) b;
      }

  abbrev k : Kind
  k = kind_of (h / 256)

  -- an instruction's
  module _ (some : size_of (decode_of h s) ≡ 0 → ⊥) where
    not_half_here : eqb (place_of (h / 256)) half_place ≡ false
    not_half_here = ne_eqb (place_of (h / 256)) half_place (not_half h s hh some)

    code : (i : Instr) (b : Bool) → (shape_of (What.Code k)).size ≡ cond b 4 2
        → Back t a (What.Code k) (9 ∷ (name_at (place_of (h / 256)) ++ row_text (row_of a i))) (number_in (row_of a i)) (cond b (Some (Encoded.Pair h s)) (Some (Encoded.Half h)))
        → Line t a h s (record { long = b; place = place_of (h / 256); row = row_of a i })
    code i b e f =
        made (record { long = b; place = place_of (h / 256); row = row_of a i }) (What.Code k) (rw not_half_here)
        (names_what (place_of (h / 256)) (row_of a i) (What.Code k) (code_named h s hh some)) e f

  abbrev nm : List ℕ
  nm = name_at (place_of (h / 256))

  came : (d : Option Decoded) → Shows h s d → (size_of d ≡ 0 → ⊥) → d ≡ decode_of h s
  came d (whole e) f = e
  came d (cut e) f = absurd (f (ap size_of e))

  two : ◌≡◌ {A = ℕ} 2 0 → ⊥
  two e = omega arith

  four : ◌≡◌ {A = ℕ} 4 0 → ⊥
  four e = omega arith

  here : BackIf t a nm (plain_name (place_of (h / 256))) k (decode_of h s)
  unfolding decode_of
  here = back t a nm (plain_name (place_of (h / 256))) low h s k

  size_here : SizeIf k (decode_of h s)
  unfolding decode_of
  size_here = sized h s k

  half_back : Back t a What.Half (9 ∷ (name_at half_place ++ row_text (Row.One (Operand.Bits h)))) h (Some (Encoded.Half h))
  unfolding shape_of sum_at bits_at bits_of
  half_back =
      let f = bits_says h hh in
      back_one t a What.Half (Some (Encoded.Half h)) (name_at half_place) (plain_name half_place) 2 (pos h) (length (field_text (Operand.Bits h))) h refl
      (Operand.Bits h) Sort.Sum 0 (sum _ _ f) refl (says_value _ _ f t) (rw (lt-ltb h 65536 hh))

  pub line : (d : Option Decoded) → Shows h s d → Line t a h s (shown_of a h d)
  unfolding shown_of shape_of
  line (Some (Decoded.Short i)) u =
      let p = came (Some (Decoded.Short i)) u two in
      code (λ z. two (ap size_of p ∙ z)) i false (subst (SizeIf k) (sym p) size_here)
      (subst (Back t a (What.Code k) (9 ∷ (nm ++ row_text (row_of a i))) (number_in (row_of a i))) (short_encodes h s i hh hs (sym p))
      (subst (BackIf t a nm (plain_name (place_of (h / 256))) k) (sym p) here))
  line (Some (Decoded.Long i)) u =
      let p = came (Some (Decoded.Long i)) u four in
      code (λ z. four (ap size_of p ∙ z)) i true (subst (SizeIf k) (sym p) size_here)
      (subst (Back t a (What.Code k) (9 ∷ (nm ++ row_text (row_of a i))) (number_in (row_of a i))) (long_encodes h s i hh hs (sym p))
      (subst (BackIf t a nm (plain_name (place_of (h / 256))) k) (sym p) here))
  line None u =
      made (record { long = false; place = half_place; row = Row.One (Operand.Bits h) }) What.Half refl
      (names_what half_place (Row.One (Operand.Bits h)) What.Half half_named) refl half_back

-- the line at a in an image of bytes
pub second_low : (m : List ℕ) (a : ByteAddr) → Bytes m → second_in m a (half_in m a) < 65536
second_low m a bytes = go (is_long (half_in m a / 256))
  where
    go : (u : Bool) → cond u (half_in m (byte_sum a 2)) 0 < 65536
    go true = half_lt m (byte_sum a 2) bytes
    go false = omega arith

pub line_at : (t : Labels) (m : List ℕ) (a : ByteAddr) (e : ℕ) → Bytes m → a.0 < 65536 → Line t a (half_in m a) (second_in m a (half_in m a)) (entry_at m a e).shown
unfolding entry_at
line_at t m a e bytes low = line t a low h s (half_lt m a bytes) (second_low m a bytes) (cut_by e a (decode_of h s)) (shows e a h s)
  where
    h : ℕ
    h = half_in m a

    s : ℕ
    s = second_in m a h
