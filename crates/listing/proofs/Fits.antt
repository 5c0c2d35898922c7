-- Every line fits 48 bytes.
-- Assumes nothing.
use Rattle.std.specs.Prelude.{None, Option, Some}
use Prim.Native.Nat.{ℕ, zero, suc, ◌+◌, ◌-◌, ◌*◌, ◌/◌, ◌%◌, ◌^◌, ◌<◌, ◌≤◌}
use mathlib.Core.Path.{◌≡◌, refl}
use mathlib.Core.Bool.{Bool, true, false, cond, ◌&&◌}
use mathlib.Core.List.{List, [], ◌∷◌}
use native.Mathlib.Omega.{arith}
use lib.Dec.{ltb, leb, eqb}
use lib.ListN.{length, drop, length-append}
use borrow.Author.Tests.{ltb-true, ltb-false}
use Rattle.word.specs.Numbers.{signed_of, extend_of, wrap}
use Rattle.word.specs.declared.ByteAddr.{ByteAddr}
use Rattle.word.specs.declared.Width.{Width}
use Rattle.isa.specs.Codes.{kind_of}
use Rattle.isa.specs.Decode.{operands_of, decode_of, nib_c, nib_d, imm8, imm_of, short_if}
use Rattle.isa.specs.declared.ImmOp.{ImmOp}
use Rattle.isa.specs.declared.Kind.{Kind}
use Rattle.isa.specs.declared.Instr.{Instr}
use Rattle.isa.specs.declared.Decoded.{Decoded}
use Rattle.cpu.specs.Exec.{data_address}
use Rattle.text.specs.Digits.{hex_text, half_text, decimal_text, signed_text}
use Rattle.text.proofs.Theorems.{digits_length, decimal_length}
use Rattle.listing.specs.Names.{names, name_at, letters_in}
use Rattle.listing.specs.Listing.{row_of, operand_text, row_text, cut_by, shown_of, half_in, second_in, entry_at, second_text, line_text}
use Rattle.listing.specs.declared.Operand.{Operand}
use Rattle.listing.specs.declared.Row.{Row}
use Rattle.listing.specs.declared.Entry.{Entry}

-- ---- numbers of 32 bits

signed_lt : (k m : ℕ) → m < k + k → k + k ≤ 2 ^ 32 → signed_of k m < 2 ^ 32
signed_lt k m h l = go (ltb m k) refl
  where
    go : (t : Bool) → ltb m k ≡ t → cond t m (m + 2 ^ 32 - (k + k)) < 2 ^ 32
    go true e = let q = ltb-true m k e in omega arith
    go false e = omega arith

pub nibble_lt : (n : ℕ) → extend_of 4 n < 2 ^ 32
nibble_lt n = signed_lt 8 (n % 16) (omega arith) (omega arith)

pub imm_lt : (op : ImmOp) (h : ℕ) → imm_of op (imm8 h) < 2 ^ 32
imm_lt ImmOp.And h = omega arith
imm_lt ImmOp.Add h = signed_lt 128 (imm8 h % 256) (omega arith) (omega arith)
imm_lt ImmOp.Mov h = signed_lt 128 (imm8 h % 256) (omega arith) (omega arith)

pub wrap_lt : (n : ℕ) → wrap n < 2 ^ 32
wrap_lt n = omega arith

pub word_lt : (a n : ℕ) → (data_address Width.Word a n).0 < 2 ^ 32
unfolding data_address
word_lt a n = omega (arith, wrap_lt (a + n * 4))

-- ---- operands and rows

register : (n : ℕ) → n < 100 → length (operand_text (Operand.Reg n)) ≤ 4
unfolding operand_text
register n h = let q = decimal_length 2 n (omega arith) (omega arith) h in omega arith

sfr : (n : ℕ) → n < 100 → length (operand_text (Operand.Sfr n)) ≤ 6
unfolding operand_text
sfr n h = let q = decimal_length 2 n (omega arith) (omega arith) h in omega arith

number : (n : ℕ) → n < 2 ^ 32 → length (operand_text (Operand.Number n)) ≤ 12
unfolding operand_text signed_text
number n h = go (ltb n (2 ^ 31)) refl
  where
    go : (t : Bool) → ltb n (2 ^ 31) ≡ t → suc (length (cond t (decimal_text n) (45 ∷ decimal_text (2 ^ 32 - n)))) ≤ 12
    go true e = let q = decimal_length 10 n (omega arith) (omega arith) (omega arith) in omega arith
    go false e = let l = ltb-false n (2 ^ 31) e in let q = decimal_length 10 (2 ^ 32 - n) (omega arith) (omega arith) (omega arith) in omega arith

bits : (h : ℕ) → length (operand_text (Operand.Bits h)) ≤ 7
unfolding operand_text
bits h = let q : length (half_text h) ≡ 4 = digits_length 16 4 h in omega arith

one : (x : Operand) (n : ℕ) → length (operand_text x) ≤ n → n ≤ 20 → length (row_text (Row.One x)) ≤ 20
unfolding row_text
one x n h l = omega arith

two : (x y : Operand) (n k : ℕ) → length (operand_text x) ≤ n → length (operand_text y) ≤ k → n + k ≤ 20 → length (row_text (Row.Two x y)) ≤ 20
unfolding row_text
two x y n k h i l = rw length-append (omega arith)

three : (x y z : Operand) (n k j : ℕ) → length (operand_text x) ≤ n → length (operand_text y) ≤ k → length (operand_text z) ≤ j → n + k + j ≤ 20
    → length (row_text (Row.Three x y z)) ≤ 20
unfolding row_text
three x y z n k j h i m l = rw (length-append (operand_text x), length-append (operand_text y)) (omega arith)

-- a row has 20 bytes at most
abbrev RowFits : ByteAddr → Option Decoded → Type 0
RowFits a (Some (Decoded.Short i)) = length (row_text (row_of a i)) ≤ 20
RowFits a (Some (Decoded.Long i)) = length (row_text (row_of a i)) ≤ 20
RowFits a None = Unit {0}

if_fits : (t : Bool) (a : ByteAddr) (i : Instr) → length (row_text (row_of a i)) ≤ 20 → RowFits a (short_if t i)
if_fits true a i f = f
if_fits false a i f = tt

module _ (a : ByteAddr) (h s : ℕ) where
  registers : length (row_text (Row.Two (Operand.Reg (nib_c h)) (Operand.Reg (nib_d h)))) ≤ 20
  registers = two _ _ 4 4 (register (nib_c h) (omega arith)) (register (nib_d h) (omega arith)) (omega arith)

  with_number : (n : ℕ) → n < 2 ^ 32 → length (row_text (Row.Two (Operand.Reg (nib_c h)) (Operand.Number n))) ≤ 20
  with_number n l = two _ _ 4 12 (register (nib_c h) (omega arith)) (number n l) (omega arith)

  access : (n : ℕ) → n < 2 ^ 32 → length (row_text (Row.Three (Operand.Reg (nib_c h)) (Operand.Number n) (Operand.Reg (nib_d h)))) ≤ 20
  access n l = three _ _ _ 4 12 4 (register (nib_c h) (omega arith)) (number n l) (register (nib_d h) (omega arith)) (omega arith)

  target : (n : ℕ) → n < 2 ^ 32 → length (row_text (Row.One (Operand.Number n))) ≤ 20
  target n l = one _ 12 (number n l) (omega arith)

  row_fits : (k : Kind) → RowFits a (operands_of k h s)
  unfolding operands_of row_of
  row_fits Kind.Nothing = tt
  row_fits (Kind.Alu op) = registers
  row_fits (Kind.ShiftImm op) = with_number (nib_d h) (omega arith)
  row_fits (Kind.Cmp op) = registers
  row_fits (Kind.CmpImm op) = with_number _ (nibble_lt (nib_d h))
  row_fits (Kind.Cond op t) = registers
  row_fits (Kind.CondImm t) = with_number _ (nibble_lt (nib_d h))
  row_fits Kind.Ldrpc = with_number _ (word_lt a.0 (imm8 h))
  row_fits (Kind.Imm op) = with_number _ (imm_lt op h)
  row_fits (Kind.Load w) = access _ (wrap_lt _)
  row_fits (Kind.Store w) = access _ (wrap_lt _)
  row_fits Kind.Mfsfr = if_fits (leb (nib_d h) 10) a (Instr.Mfsfr (nib_c h) (nib_d h)) (two _ _ 4 6 (register (nib_c h) (omega arith)) (sfr (nib_d h) (omega arith)) (omega arith))
  row_fits Kind.Mtsfr = if_fits (leb (nib_c h) 10) a (Instr.Mtsfr (nib_c h) (nib_d h)) (two _ _ 6 4 (sfr (nib_c h) (omega arith)) (register (nib_d h) (omega arith)) (omega arith))
  row_fits Kind.Jr = if_fits (eqb (nib_c h) 0) a (Instr.Jr (nib_d h)) (one _ 4 (register (nib_d h) (omega arith)) (omega arith))
  row_fits Kind.Jrl = if_fits (eqb (nib_c h) 0) a (Instr.Jrl (nib_d h)) (one _ 4 (register (nib_d h) (omega arith)) (omega arith))
  row_fits Kind.Jsfr = if_fits (eqb (nib_c h) 0 && leb (nib_d h) 3) a (Instr.Jsfr (nib_d h)) (one _ 6 (sfr (nib_d h) (omega arith)) (omega arith))
  row_fits Kind.Swint = if_fits (eqb (nib_c h) 0) a (Instr.Swint (nib_d h)) (target (nib_d h) (omega arith))
  row_fits (Kind.ShortJump op) = target _ (wrap_lt _)
  row_fits (Kind.LongJump op) = target _ (wrap_lt _)

-- ---- lines

letters_length : (n : ℕ) (l : List ℕ) → length (letters_in n l) ≤ n
unfolding letters_in
letters_length zero l = omega arith
letters_length (suc n) [] = omega arith
letters_length (suc n) (c ∷ l) = go (eqb c 32) (letters_length n l)
  where
    go : (t : Bool) → length (letters_in n l) ≤ n → length (cond t [] (c ∷ letters_in n l)) ≤ suc n
    go true q = omega arith
    go false q = omega arith

name_length : (p : ℕ) → length (name_at p) ≤ 6
unfolding name_at
name_length p = letters_length 6 (drop (6 * p) names)

second_length : (t : Bool) (s : ℕ) → length (second_text t s) ≤ 4
second_length true s = let q : length (half_text s) ≡ 4 = digits_length 16 4 s in omega arith
second_length false s = omega arith

line_length : (x : Entry) → length (row_text x.shown.row) ≤ 20 → length (line_text x) ≤ 48
unfolding line_text
line_length x h =
    let a : length (hex_text x.at.0) ≡ 8 = digits_length 16 8 x.at.0 in
    let b : length (half_text x.first) ≡ 4 = digits_length 16 4 x.first in
    let c = second_length x.shown.long x.second in
    let d = name_length x.shown.place in
    rw (
      length-append (hex_text x.at.0),
      length-append (half_text x.first),
      length-append (second_text x.shown.long x.second),
      length-append (name_at x.shown.place),
      length-append (row_text x.shown.row),
    )
    (omega arith)

shown_fits : (a : ByteAddr) (h : ℕ) (d : Option Decoded) → RowFits a d → length (row_text (shown_of a h d).row) ≤ 20
unfolding shown_of
shown_fits a h (Some (Decoded.Short i)) f = f
shown_fits a h (Some (Decoded.Long i)) f = f
shown_fits a h None f = one _ 7 (bits h) (omega arith)

cut_fits : (e : ℕ) (a : ByteAddr) (d : Option Decoded) → RowFits a d → RowFits a (cut_by e a d)
cut_fits e a (Some (Decoded.Short i)) f = f
cut_fits e a (Some (Decoded.Long i)) f = go (leb (a.0 + 4) e)
  where
    go : (t : Bool) → RowFits a (cond t (Some (Decoded.Long i)) None)
    go true = f
    go false = tt
cut_fits e a None f = f

pub line_fits : (m : List ℕ) (a : ByteAddr) (e : ℕ) → length (line_text (entry_at m a e)) ≤ 48
unfolding entry_at decode_of
line_fits m a e =
    line_length (entry_at m a e)
    (shown_fits a h (cut_by e a (decode_of h s)) (cut_fits e a (decode_of h s) (row_fits a h s (kind_of (h / 256)))))
  where
    h : ℕ
    h = half_in m a

    s : ℕ
    s = second_in m a h
