-- The row of the instruction that a line of known form says is what its fields write.
-- Assumes nothing.
use Rattle.std.specs.Prelude.{None, Option, Some, Ok}
use Prim.Native.Nat.{ℕ, ◌<◌}
use mathlib.Core.Path.{◌≡◌, refl, sym, ap, ◌∙◌}
use mathlib.Core.Bool.{Bool, true, false, ◌&&◌}
use mathlib.Core.List.{List}
use native.Mathlib.Omega.{arith}
use lib.Dec.{ltb, eqb}
use lib.IntN.{ℤ}
use borrow.Author.Tests.{eqb-true}
use Rattle.word.specs.Numbers.{fits_of, product_of}
use Rattle.word.specs.Addresses.{jump_sum}
use Rattle.word.specs.Bytes.{bytes_of}
use Rattle.word.specs.declared.ByteAddr.{ByteAddr}
use Rattle.word.specs.declared.Width.{Width}
use Rattle.isa.specs.Encode.{encode_of}
use Rattle.isa.specs.Range.{nib, in_range}
use Rattle.isa.specs.Statements.{has_bits}
use Rattle.isa.specs.declared.Instr.{Instr}
use Rattle.isa.specs.declared.Kind.{Kind}
use Rattle.isa.specs.declared.Decoded.{Decoded}
use Rattle.isa.proofs.Rows.{and_left, and_right}
use Rattle.isa.proofs.Theorems.{bits_exactly_in_range}
use Rattle.cpu.specs.Exec.{data_address}
use Rattle.listing.specs.Listing.{row_of}
use Rattle.listing.specs.declared.Operand.{Operand}
use Rattle.listing.specs.declared.Row.{Row}
use Rattle.expr.specs.Expr.{Labels, value_of}
use Rattle.expr.specs.Expr.{Read as Valued}
use Rattle.expr.specs.declared.Value.{Value}
use Rattle.forms.specs.Form.{tabs_in, field_at, shape, kind_shape, number_at, is_of, fields_of, tabs_for, fits_shape}
use Rattle.forms.specs.Says.{bits_of, unfit, scaled, halves_to, words_to, says_of, bits_said}
use Rattle.forms.specs.declared.Sort.{Sort}
use Rattle.forms.specs.declared.Shape.{Shape}
use Rattle.asm.specs.Assemble.{sum_at, line_value}
use Rattle.written.specs.Written.{RowWrites}
use Rattle.written.proofs.Targets.{jump_lands, word_lands, offset_lands}
use Rattle.written.proofs.Fields.{operand_by, operand_writes}
use Rattle.written.proofs.Names.{kind_by}

-- a line's form, part by part
record Fits (s : Shape) (b : List ℕ) : Type 0 where
  tabs : tabs_in b ≡ tabs_for s
  first : is_of s.first (field_at 2 b) ≡ true
  second : is_of s.second (field_at 3 b) ≡ true
  third : is_of s.third (field_at 4 b) ≡ true

fits : (s : Shape) (b : List ℕ) → fits_shape s b ≡ true → Fits s b
unfolding fits_shape
fits s b e =
    let u : Bool = eqb (tabs_in b) (tabs_for s) in
    let v : Bool = u && is_of s.first (field_at 2 b) in
    let w : Bool = v && is_of s.second (field_at 3 b) in
    let k : w ≡ true = and_left w _ e in
    let l : v ≡ true = and_left v _ k in
    record { tabs = eqb-true _ _ (and_left u _ l); first = and_right u _ l; second = and_right v _ k; third = and_right w _ e }

-- ---- an instruction that has bits: what is no distance, and no number of accesses, is in no field's range

in_range_lem : (i : Instr) → has_bits (encode_of i) ≡ true → in_range i ≡ true
in_range_lem i e = sym (bits_exactly_in_range i) ∙ e

not_unfit : (f : ℕ → Bool) (v : ℕ) → f unfit ≡ false → f v ≡ true → v ≡ unfit → ⊥
not_unfit f v u e q = let z : ◌≡◌ {A = ℕ} 0 1 = let p : f v ≡ f unfit = ap f q in cc in omega arith

count_fits : (q x y : ℕ) → (nib q && nib x && nib y) ≡ true → q ≡ unfit → ⊥
count_fits q x y e = not_unfit nib q refl (and_left (nib q) (nib x) (and_left (nib q && nib x) (nib y) e))

-- ---- rows of one, two and three operands

-- the instruction of kind k that a line says at a, with the value z
abbrev pub said_by : Kind → ByteAddr → List ℕ → ℤ → Option Decoded
said_by k a b z =
    says_of k a (number_at (kind_shape k).first (field_at 2 b)) (number_at (kind_shape k).second (field_at 3 b)) (number_at (kind_shape k).third (field_at 4 b)) (bits_of z)

module _ (t : Labels) (b : List ℕ) (z : ℤ) (n : ℕ) where
  abbrev v : ℕ
  v = bits_of z

  abbrev read : Valued
  read = Ok (Value.Is z, n)

  -- the operand in a field; where it is an expression, the value is its own
  abbrev at : Sort → ℕ → Operand
  at s i = operand_by s (field_at i b) v

  -- a sort that has a field, and that field's value is z if it is an expression
  abbrev Reads : Sort → ℕ → Type 0
  Reads s i = (fields_of s ≡ 1) × (sum_at t s (field_at i b) read ≡ read)

  module _ (m : ℕ) (x : Sort) (rx : Reads x 2) where
    pub row_one : fits_shape (shape m x Sort.Nothing Sort.Nothing) b ≡ true → RowWrites t (Row.One (at x 2)) b
    row_one e =
        let f = fits _ b e in
        let c = rx.0 in
        (f.tabs ∙ omega arith, operand_writes t z n x _ c f.first rx.1)

    module _ (y : Sort) (ry : Reads y 3) where
      row_two : fits_shape (shape m x y Sort.Nothing) b ≡ true → RowWrites t (Row.Two (at x 2) (at y 3)) b
      row_two e =
          let f = fits _ b e in
          let c = rx.0 in
          let d = ry.0 in
          (f.tabs ∙ omega arith, operand_writes t z n x _ c f.first rx.1, operand_writes t z n y _ d f.second ry.1)

      row_three : (o : Sort) → Reads o 4 → fits_shape (shape m x y o) b ≡ true → RowWrites t (Row.Three (at x 2) (at y 3) (at o 4)) b
      row_three o ro e =
          let f = fits _ b e in
          let c = rx.0 in
          let d = ry.0 in
          let g = ro.0 in
          (f.tabs ∙ omega arith, operand_writes t z n x _ c f.first rx.1, operand_writes t z n y _ d f.second ry.1, operand_writes t z n o _ g f.third ro.1)

  -- ---- by kind

  module _ (a : ByteAddr) (ha : a.0 < 4294967296) where
    -- an instruction that was said is of kind k, and its row is what the fields write
    abbrev pub RowOf : Kind → Option Decoded → Type 0
    RowOf k (Some (Decoded.Short i)) = (kind_by i ≡ k) × RowWrites t (row_of a i) b
    RowOf k (Some (Decoded.Long i)) = (kind_by i ≡ k) × RowWrites t (row_of a i) b
    RowOf k None = Unit {0}

    registers : fits_shape (shape 2 Sort.Reg Sort.Reg Sort.Nothing) b ≡ true → RowWrites t (Row.Two (at Sort.Reg 2) (at Sort.Reg 3)) b
    unfolding sum_at
    registers = row_two 2 Sort.Reg (refl, refl) Sort.Reg (refl, refl)

    module _ (e : value_of t (field_at 3 b) ≡ read) where
      immediate : fits_shape (shape 2 Sort.Reg Sort.Sum Sort.Nothing) b ≡ true → RowWrites t (Row.Two (at Sort.Reg 2) (Operand.Number v)) b
      unfolding sum_at
      immediate = row_two 2 Sort.Reg (refl, refl) Sort.Sum (refl, e)

      load : (words_to a v ≡ unfit → ⊥) → fits_shape (shape 2 Sort.Reg Sort.Sum Sort.Nothing) b ≡ true
          → RowWrites t (Row.Two (at Sort.Reg 2) (Operand.Number (data_address Width.Word a.0 (words_to a v)).0)) b
      load u f = let r = immediate f in rw (word_lands a v ha r.2.0 u) r

      access : (w : Width) → (scaled w v ≡ unfit → ⊥) → fits_shape (shape 2 Sort.Reg Sort.Sum Sort.Reg) b ≡ true
          → RowWrites t (Row.Three (at Sort.Reg 2) (Operand.Number (product_of (scaled w v) (bytes_of w))) (at Sort.Reg 4)) b
      unfolding sum_at
      access w u f =
          let r = row_three 2 Sort.Reg (refl, refl) Sort.Sum (refl, e) Sort.Reg (refl, refl) f in
          rw (offset_lands w v r.2.0 u) r

    jump : (m : ℕ) → value_of t (field_at 2 b) ≡ read → ((halves_to a v).0 ≡ unfit → ⊥) → fits_shape (shape m Sort.Sum Sort.Nothing Sort.Nothing) b ≡ true
        → RowWrites t (Row.One (Operand.Number (jump_sum a (halves_to a v)).0)) b
    unfolding sum_at
    jump m e u f = let r = row_one m Sort.Sum (refl, e) f in rw (jump_lands a v ha r.1.0 u) r

    pub row_said : (k : Kind) → fits_shape (kind_shape k) b ≡ true → line_value t (kind_shape k) b ≡ read → has_bits (bits_said (said_by k a b z)) ≡ true
        → RowOf k (said_by k a b z)
    unfolding kind_shape says_of bits_said line_value sum_at row_of in_range
    row_said Kind.Nothing f e h = tt
    row_said (Kind.Alu op) f e h = (refl, registers f)
    row_said (Kind.ShiftImm op) f e h = (refl, immediate e f)
    row_said (Kind.Cmp op) f e h = (refl, registers f)
    row_said (Kind.CmpImm op) f e h = (refl, immediate e f)
    row_said (Kind.Cond op c) f e h = (refl, registers f)
    row_said (Kind.CondImm c) f e h = (refl, immediate e f)
    row_said Kind.Ldrpc f e h =
        let i = and_left (ltb (words_to a v) 256) _ (in_range_lem (Instr.Ldrpc (number_at Sort.Reg (field_at 2 b)) (words_to a v)) h) in
        (refl, load e (not_unfit (λ (q : ℕ). ltb q 256) (words_to a v) refl i) f)
    row_said (Kind.Imm op) f e h = (refl, immediate e f)
    row_said (Kind.Load w) f e h =
        let x : ℕ = number_at Sort.Reg (field_at 2 b) in
        let y : ℕ = number_at Sort.Reg (field_at 4 b) in
        (refl, access e w (count_fits (scaled w v) x y (in_range_lem (Instr.Load w x (scaled w v) y) h)) f)
    row_said (Kind.Store w) f e h =
        let x : ℕ = number_at Sort.Reg (field_at 2 b) in
        let y : ℕ = number_at Sort.Reg (field_at 4 b) in
        (refl, access e w (count_fits (scaled w v) x y (in_range_lem (Instr.Store w x (scaled w v) y) h)) f)
    row_said Kind.Mfsfr f e h = (refl, row_two 2 Sort.Reg (refl, refl) Sort.Sfr (refl, refl) f)
    row_said Kind.Mtsfr f e h = (refl, row_two 2 Sort.Sfr (refl, refl) Sort.Reg (refl, refl) f)
    row_said Kind.Jr f e h = (refl, row_one 2 Sort.Reg (refl, refl) f)
    row_said Kind.Jrl f e h = (refl, row_one 2 Sort.Reg (refl, refl) f)
    row_said Kind.Jsfr f e h = (refl, row_one 2 Sort.LowSfr (refl, refl) f)
    row_said Kind.Swint f e h = (refl, row_one 2 Sort.Sum (refl, e) f)
    row_said (Kind.ShortJump op) f e h =
        (refl, jump 2 e (not_unfit (fits_of 10) (halves_to a v).0 refl (in_range_lem (Instr.ShortJump op (halves_to a v)) h)) f)
    row_said (Kind.LongJump op) f e h =
        (refl, jump 4 e (not_unfit (fits_of 26) (halves_to a v).0 refl (in_range_lem (Instr.LongJump op (halves_to a v)) h)) f)
