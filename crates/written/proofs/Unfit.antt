-- What bytes show has a value that fits its place, so a value that is refused is shown by none.
-- Assumes nothing.
use Rattle.std.specs.Prelude.{Option, Some, Ok}
use Prim.Native.Nat.{ℕ, ◌%◌, ◌^◌, ◌<◌}
use mathlib.Core.Logic.{inl, inr}
use mathlib.Core.Path.{◌≡◌, refl, sym, ap, ◌∙◌}
use mathlib.Core.Bool.{true, not, ◌&&◌}
use mathlib.Core.List.{List}
use native.Mathlib.Omega.{arith}
use lib.Dec.{ltb, leb}
use lib.IntN.{ℤ, pos}
use borrow.Author.Tests.{ltb-true, lt-ltb, leb-true, eqb-true}
use Rattle.word.specs.Numbers.{fits_of, product_of}
use Rattle.word.specs.Bytes.{bytes_of}
use Rattle.word.specs.Addresses.{jump_sum}
use Rattle.word.specs.declared.ByteAddr.{ByteAddr}
use Rattle.word.specs.declared.Width.{Width}
use Rattle.isa.specs.Encode.{encode_of}
use Rattle.isa.specs.Range.{nib, imm_in, in_range}
use Rattle.isa.specs.Statements.{has_bits}
use Rattle.isa.specs.declared.Instr.{Instr}
use Rattle.isa.specs.declared.Encoded.{Encoded}
use Rattle.isa.proofs.Rows.{and_left, and_right}
use Rattle.isa.proofs.Theorems.{bits_exactly_in_range, short_encodes, long_encodes}
use Rattle.cpu.specs.Exec.{data_address}
use Rattle.listing.specs.Listing.{row_of}
use Rattle.listing.specs.declared.Operand.{Operand}
use Rattle.listing.specs.declared.Row.{Row}
use Rattle.expr.specs.Value.{signed_word}
use Rattle.expr.specs.Expr.{Labels}
use Rattle.expr.specs.Expr.{Read as Valued}
use Rattle.expr.specs.declared.Value.{Value}
use Rattle.forms.specs.Form.{body_of, field_at, what_of, what_in, kind_shape, shape_of, number_at}
use Rattle.forms.specs.Says.{bits_of, scaled, says_of, bits_said, bits_at}
use Rattle.forms.specs.declared.Sort.{Sort}
use Rattle.forms.specs.declared.What.{What}
use Rattle.asm.specs.Assemble.{address_of, sum_at, line_value, line_bits}
use Rattle.asm.specs.declared.Refusal.{Refusal}
use Rattle.written.specs.Assembly.{faults_of}
use Rattle.written.specs.Written.{RowWrites, Shows, short, long, half, word}
use Rattle.written.proofs.Names.{kind_by, instr_low, instr_what, half_what, word_what}
use Rattle.written.proofs.Rows.{said_by}
use Rattle.written.proofs.Values.{bits_of_lem}
use Rattle.written.proofs.Targets.{near, jump_from, word_from, offset_from}
use Rattle.written.proofs.Fields.{register, sfr, low_sfr}

-- ---- the line that writes an instruction's row says that instruction

module _ (t : Labels) (a : ByteAddr) (ha : a.0 < 4294967296) (b : List ℕ) where
  -- a line that names w has a value, and bits with it
  record Fit (w : What) : Type 0 where
    value : ℤ
    read : ℕ
    valued : line_value t (shape_of w) b ≡ Ok (Value.Is value, read)
    bits : has_bits (line_bits w a b value) ≡ true

  -- an instruction: the line has a value, and says it with that value
  Said : Instr → Type 0
  Said i = (z : ℤ) × (n : ℕ) × (line_value t (kind_shape (kind_by i)) b ≡ Ok (Value.Is z, n)) × (bits_said (said_by (kind_by i) a b z) ≡ encode_of i)

  -- the registers c and d in the fields 2 and 3
  two_registers : (c d : ℕ) → (nib c && nib d) ≡ true → RowWrites t (Row.Two (Operand.Reg c) (Operand.Reg d)) b
      → (number_at Sort.Reg (field_at 2 b) ≡ c) × (number_at Sort.Reg (field_at 3 b) ≡ d)
  two_registers c d h r =
      (register (field_at 2 b) c (ltb-true _ _ (and_left (nib c) (nib d) h)) r.1, register (field_at 3 b) d (ltb-true _ _ (and_right (nib c) (nib d) h)) r.2)

  -- the register c in field 2, and the number n in field 3
  with_number : (c n : ℕ) → nib c ≡ true → RowWrites t (Row.Two (Operand.Reg c) (Operand.Number n)) b
      → (number_at Sort.Reg (field_at 2 b) ≡ c) × (bits_of (signed_word n) ≡ n)
  with_number c n h r = (register (field_at 2 b) c (ltb-true _ _ h) r.1, bits_of_lem n r.2.0)

  -- an access of width w: the registers c and d, and n accesses as an offset between them
  an_access : (w : Width) (c n d : ℕ) → (nib n && nib c && nib d) ≡ true
      → RowWrites t (Row.Three (Operand.Reg c) (Operand.Number (product_of n (bytes_of w))) (Operand.Reg d)) b
      → (number_at Sort.Reg (field_at 2 b) ≡ c) × (scaled w (bits_of (signed_word (product_of n (bytes_of w)))) ≡ n) × (number_at Sort.Reg (field_at 4 b) ≡ d)
  an_access w c n d h r =
      let g = and_left (nib n && nib c) (nib d) h in
      let x = register (field_at 2 b) c (ltb-true _ _ (and_right (nib n) (nib c) g)) r.1 in
      let y = offset_from w n (ltb-true _ _ (and_left (nib n) (nib c) g)) in
      (x, ap (scaled w) (bits_of_lem _ r.2.0) ∙ y, register (field_at 4 b) d (ltb-true _ _ (and_right (nib n && nib c) (nib d) h)) r.3)

  said : (i : Instr) → in_range i ≡ true → RowWrites t (row_of a i) b → Said i
  unfolding Said kind_shape says_of bits_said line_value sum_at row_of in_range
  said (Instr.Alu op c d) h r = let x = two_registers c d h r in (pos 0, 0, refl, rw (x.0, x.1))
  said (Instr.ShiftImm op c n) h r = let x = with_number c n (and_left (nib c) (nib n) h) r in (signed_word n, _, r.2.1, rw (x.0, x.1))
  said (Instr.Cmp op c d) h r = let x = two_registers c d h r in (pos 0, 0, refl, rw (x.0, x.1))
  said (Instr.CmpImm op c n) h r = let x = with_number c n (and_right (fits_of 4 n) (nib c) h) r in (signed_word n, _, r.2.1, rw (x.0, x.1))
  said (Instr.Cond op u c d) h r = let x = two_registers c d h r in (pos 0, 0, refl, rw (x.0, x.1))
  said (Instr.CondImm u c n) h r = let x = with_number c n (and_right (fits_of 4 n) (nib c) h) r in (signed_word n, _, r.2.1, rw (x.0, x.1))
  said (Instr.Ldrpc c n) h r =
      let x = with_number c (data_address Width.Word a.0 n).0 (and_right (ltb n 256) (nib c) h) r in
      let y = word_from a ha n (ltb-true _ _ (and_left (ltb n 256) (nib c) h)) in
      (signed_word (data_address Width.Word a.0 n).0, _, r.2.1, rw (x.0, x.1, y))
  said (Instr.Imm op c n) h r = let x = with_number c n (and_right (imm_in op n) (nib c) h) r in (signed_word n, _, r.2.1, rw (x.0, x.1))
  said (Instr.Load w c n d) h r =
      let x = an_access w c n d h r in
      (signed_word (product_of n (bytes_of w)), _, r.2.1, rw (x.0, x.1, x.2))
  said (Instr.Store w c n d) h r =
      let x = an_access w c n d h r in
      (signed_word (product_of n (bytes_of w)), _, r.2.1, rw (x.0, x.1, x.2))
  said (Instr.Mfsfr c d) h r =
      let l = leb-true d 10 (and_left (leb d 10) (nib c) h) in
      let x = register (field_at 2 b) c (ltb-true _ _ (and_right (leb d 10) (nib c) h)) r.1 in
      let y = sfr (field_at 3 b) d (omega arith) r.2 in
      (pos 0, 0, refl, rw (x, y))
  said (Instr.Mtsfr c d) h r =
      let l = leb-true c 10 (and_left (leb c 10) (nib d) h) in
      let x = sfr (field_at 2 b) c (omega arith) r.1 in
      let y = register (field_at 3 b) d (ltb-true _ _ (and_right (leb c 10) (nib d) h)) r.2 in
      (pos 0, 0, refl, rw (x, y))
  said (Instr.Jr d) h r = (pos 0, 0, refl, rw (register (field_at 2 b) d (ltb-true _ _ h) r.1))
  said (Instr.Jrl d) h r = (pos 0, 0, refl, rw (register (field_at 2 b) d (ltb-true _ _ h) r.1))
  said (Instr.Jsfr d) h r = let l = leb-true d 3 h in (pos 0, 0, refl, rw (low_sfr (field_at 2 b) d (omega arith) r.1))
  said (Instr.Swint n) h r = (signed_word n, _, r.1.1, rw (bits_of_lem n r.1.0))
  said (Instr.ShortJump op d) h r =
      let y = jump_from a ha d (near 512 (d.0 % 2 ^ 10) d.0 (omega arith) (omega arith) (eqb-true _ _ h)) in
      (signed_word (jump_sum a d).0, _, r.1.1, rw (bits_of_lem _ r.1.0, y))
  said (Instr.LongJump op d) h r =
      let y = jump_from a ha d (near 33554432 (d.0 % 2 ^ 26) d.0 (omega arith) (omega arith) (eqb-true _ _ h)) in
      (signed_word (jump_sum a d).0, _, r.1.1, rw (bits_of_lem _ r.1.0, y))

  -- ---- so what bytes show fits

  instr_fits : (i : Instr) (x : Option Encoded) → encode_of i ≡ x → has_bits x ≡ true → RowWrites t (row_of a i) b → Fit (What.Code (kind_by i))
  unfolding Said line_bits bits_at shape_of
  instr_fits i x e h r =
      let g : has_bits (encode_of i) ≡ true = rw e h in
      let s = said i (sym (bits_exactly_in_range i) ∙ g) r in
      record { value = s.0; read = s.1; valued = s.2; bits = ap has_bits s.3 ∙ g }

  half_fits : (v : ℕ) → v < 65536 → RowWrites t (Row.One (Operand.Number v)) b → Fit What.Half
  unfolding line_bits bits_at shape_of line_value sum_at
  half_fits v h r = record { value = signed_word v; read = _; valued = r.1.1; bits = rw (bits_of_lem v r.1.0, lt-ltb v 65536 h) }

  word_fits : (v : ℕ) → RowWrites t (Row.One (Operand.Number v)) b → Fit What.Word
  unfolding line_bits bits_at shape_of line_value sum_at
  word_fits v r = record { value = signed_word v; read = _; valued = r.1.1; bits = refl }

  shown_fits : (c : List ℕ) → Shows t a b c → Fit (what_of b)
  shown_fits c (short h i e d (name, r)) =
      rw (instr_what h 0 i (inl (d 0)) b name) (instr_fits i (Some (Encoded.Half h)) (short_encodes h 0 i (instr_low h 0 i (inl (d 0))) (omega arith) (d 0)) refl r)
  shown_fits c (long h s i e l d (name, r)) =
      rw (instr_what h s i (inr d) b name) (instr_fits i (Some (Encoded.Pair h s)) (long_encodes h s i (instr_low h s i (inr d)) l d) refl r)
  shown_fits c (half v e h name r) = rw (half_what b name) (half_fits v h r)
  shown_fits c (word v e name r) = rw (word_what b name) (word_fits v r)

pub unfit_none : (t : Labels) (s : List ℕ) (p n : ℕ) (l : List ℕ) → faults_of t s p n l Refusal.Value ≡ true → (c : List ℕ) → Shows t (address_of p) (body_of l) c → ⊥
unfit_none t s p n l e c h =
    let f = shown_fits t (address_of p) (omega arith) (body_of l) c h in
    let g : not (has_bits (line_bits (what_in l) (address_of p) (body_of l) f.value)) ≡ true = rw f.valued at e in
    let k = f.bits in
    let z : ◌≡◌ {A = ℕ} 0 1 = cc in
    omega arith
