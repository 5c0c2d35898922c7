-- The first half alone decides whether it is an instruction, and its size: exactly the named patterns are.
-- Assumes nothing.
use mathlib.Core.Path.{◌≡◌, refl, sym, ◌∙◌}
use mathlib.Core.Bool.{Bool, true, false, cond, ◌&&◌, beq}
use Prim.Native.Nat.{ℕ, ◌/◌, ◌%◌, ◌<◌}
use native.Mathlib.Omega.{arith}
use lib.Dec.{ltb, leb, eqb}
use borrow.Author.Tests.{lt-ltb, le-ltb, ltb-true, leb-true, le-leb, eqb-true, eq-eqb}
use Rattle.isa.specs.Codes.{kind_of}
use Rattle.isa.specs.Decode.{operands_of, decode_of, nib_c, nib_d, short_if}
use Rattle.isa.specs.Statements.{size_of, bound_of, is_long, size_by}
use Rattle.isa.specs.declared.Kind.{Kind}
use Rattle.isa.specs.declared.Instr.{Instr}
use Rattle.isa.proofs.Rows.{and_left, and_right, each_at}

-- of a kind: whether its low nibble alone is bounded, the bound, the size
data Shape : Type 0 where
  shape : Bool → ℕ → ℕ → Shape

abbrev shape_of : Kind → Shape
shape_of Kind.Nothing = shape false 0 2
shape_of (Kind.Alu op) = shape false 256 2
shape_of (Kind.ShiftImm op) = shape false 256 2
shape_of (Kind.Cmp op) = shape false 256 2
shape_of (Kind.CmpImm op) = shape false 256 2
shape_of (Kind.Cond op t) = shape false 256 2
shape_of (Kind.CondImm t) = shape false 256 2
shape_of Kind.Ldrpc = shape false 256 2
shape_of (Kind.Imm op) = shape false 256 2
shape_of (Kind.Load w) = shape false 256 2
shape_of (Kind.Store w) = shape false 256 2
shape_of Kind.Mfsfr = shape true 11 2
shape_of Kind.Mtsfr = shape false 0xb0 2
shape_of Kind.Jr = shape false 16 2
shape_of Kind.Jrl = shape false 16 2
shape_of Kind.Jsfr = shape false 4 2
shape_of Kind.Swint = shape false 16 2
shape_of (Kind.ShortJump op) = shape false 256 2
shape_of (Kind.LongJump op) = shape false 256 4

abbrev size_in : Shape → ℕ → ℕ
size_in (shape t b z) h = cond (ltb (cond t (h % 16) (h % 256)) b) z 0

abbrev agrees : Shape → ℕ → Bool
agrees (shape t b z) n = beq t (eqb n 0x12) && eqb b (bound_of n) && eqb z (cond (is_long n) 4 2)

-- computed: all 256 first bytes
byte_shape : (n : ℕ) → n < 256 → agrees (shape_of (kind_of n)) n ≡ true
unfolding kind_of
byte_shape n h = each_at (λ (m : ℕ). agrees (shape_of (kind_of m)) m) 256 n refl h

beq_true : (a b : Bool) → beq a b ≡ true → a ≡ b
beq_true true true e = refl
beq_true true false e = sym e
beq_true false true e = e
beq_true false false e = refl

agreed : (x : Shape) (h : ℕ) → agrees x (h / 256) ≡ true → size_in x h ≡ size_by h
agreed (shape t b z) h e =
    let n : ℕ = h / 256 in
    let p = and_left (beq t (eqb n 0x12) && eqb b (bound_of n)) (eqb z (cond (is_long n) 4 2)) e in
    let et = beq_true t (eqb n 0x12) (and_left (beq t (eqb n 0x12)) (eqb b (bound_of n)) p) in
    let eb = eqb-true b (bound_of n) (and_right (beq t (eqb n 0x12)) (eqb b (bound_of n)) p) in
    let ez = eqb-true z (cond (is_long n) 4 2) (and_right (beq t (eqb n 0x12) && eqb b (bound_of n)) (eqb z (cond (is_long n) 4 2)) e) in
    rw (et, eb, ez)

-- two tests that follow from each other
same : (a b : Bool) → (a ≡ true → b ≡ true) → (b ≡ true → a ≡ true) → a ≡ b
same true b f g = sym (f refl)
same false true f g = g refl
same false false f g = refl

module _ (h : ℕ) where
  all : ltb (h % 256) 256 ≡ true
  all = lt-ltb (h % 256) 256 (omega arith)

  zero_nibble : eqb (nib_c h) 0 ≡ ltb (h % 256) 16
  zero_nibble =
      same _ _ (λ e. let p = eqb-true (nib_c h) 0 e in lt-ltb (h % 256) 16 (omega arith))
      λ e. let p = ltb-true (h % 256) 16 e in eq-eqb (nib_c h) 0 (omega arith)

  last_sfr : leb (nib_d h) 10 ≡ ltb (h % 16) 11
  last_sfr =
      same _ _ (λ e. let p = leb-true (nib_d h) 10 e in lt-ltb (h % 16) 11 (omega arith))
      λ e. let p = ltb-true (h % 16) 11 e in le-leb (nib_d h) 10 (omega arith)

  first_sfr : leb (nib_c h) 10 ≡ ltb (h % 256) 0xb0
  first_sfr =
      same _ _ (λ e. let p = leb-true (nib_c h) 10 e in lt-ltb (h % 256) 0xb0 (omega arith))
      λ e. let p = ltb-true (h % 256) 0xb0 e in le-leb (nib_c h) 10 (omega arith)

  low_sfr : (eqb (nib_c h) 0 && leb (nib_d h) 3) ≡ ltb (h % 256) 4
  low_sfr =
      same _ _
      (λ e. let p = eqb-true (nib_c h) 0 (and_left (eqb (nib_c h) 0) (leb (nib_d h) 3) e) in
      let q = leb-true (nib_d h) 3 (and_right (eqb (nib_c h) 0) (leb (nib_d h) 3) e) in
      lt-ltb (h % 256) 4 (omega arith))
      λ e. let p = ltb-true (h % 256) 4 e in
      rw (eq-eqb (nib_c h) 0 (omega arith)) (le-leb (nib_d h) 3 (omega arith))

if_size : (t u : Bool) (i : Instr) → t ≡ u → size_of (short_if t i) ≡ cond u 2 0
if_size true u i e = rw (sym e)
if_size false u i e = rw (sym e)

sizes : (k : Kind) (h s : ℕ) → size_of (operands_of k h s) ≡ size_in (shape_of k) h
unfolding operands_of
sizes Kind.Nothing h s = rw (le-ltb (h % 256) 0 (omega arith))
sizes (Kind.Alu op) h s = rw (all h)
sizes (Kind.ShiftImm op) h s = rw (all h)
sizes (Kind.Cmp op) h s = rw (all h)
sizes (Kind.CmpImm op) h s = rw (all h)
sizes (Kind.Cond op b) h s = rw (all h)
sizes (Kind.CondImm b) h s = rw (all h)
sizes Kind.Ldrpc h s = rw (all h)
sizes (Kind.Imm op) h s = rw (all h)
sizes (Kind.Load w) h s = rw (all h)
sizes (Kind.Store w) h s = rw (all h)
sizes Kind.Mfsfr h s = if_size _ _ _ (last_sfr h)
sizes Kind.Mtsfr h s = if_size _ _ _ (first_sfr h)
sizes Kind.Jr h s = if_size _ _ _ (zero_nibble h)
sizes Kind.Jrl h s = if_size _ _ _ (zero_nibble h)
sizes Kind.Jsfr h s = if_size _ _ _ (low_sfr h)
sizes Kind.Swint h s = if_size _ _ _ (zero_nibble h)
sizes (Kind.ShortJump op) h s = rw (all h)
sizes (Kind.LongJump op) h s = rw (all h)

pub size : (h s : ℕ) → h < 65536 → size_of (decode_of h s) ≡ size_by h
unfolding decode_of
size h s hh = sizes (kind_of (h / 256)) h s ∙ agreed (shape_of (kind_of (h / 256))) h (byte_shape (h / 256) (omega arith))
