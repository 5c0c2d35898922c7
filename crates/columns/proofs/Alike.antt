-- Instructions of one kind, at one address, whose operands are written alike are the same.
-- Assumes nothing.
use Rattle.std.specs.Prelude.{None, Option, Some}
use Prim.Native.Nat.{ℕ, ◌+◌, ◌*◌, ◌-◌, ◌/◌, ◌%◌, ◌^◌, ◌<◌, ◌≤◌}
use mathlib.Core.Path.{◌≡◌, refl, sym, ap, ap₂, ◌∙◌}
use mathlib.Core.Bool.{Bool, true, false, cond, ◌&&◌}
use native.Mathlib.Omega.{arith}
use native.Mathlib.Nat.{div-add-mod', add-mod_right, add-mul-mod_self_right, mod-mod_of_dvd, dvd-mul_left}
use lib.Dec.{ltb, leb, eqb}
use borrow.Author.Tests.{ltb-true, ltb-false}
use Rattle.word.specs.Numbers.{signed_of, product_of}
use Rattle.word.specs.Bytes.{bytes_of}
use Rattle.word.specs.Addresses.{jump_sum}
use Rattle.word.specs.declared.ByteAddr.{ByteAddr}
use Rattle.word.specs.declared.HalfDisp.{HalfDisp}
use Rattle.word.specs.declared.Width.{Width}
use Rattle.isa.specs.Decode.{operands_of, nib_b, nib_c, nib_d, imm8, short_if}
use Rattle.isa.specs.declared.Kind.{Kind}
use Rattle.isa.specs.declared.Instr.{Instr}
use Rattle.isa.specs.declared.Decoded.{Decoded}
use Rattle.cpu.specs.Exec.{data_address}
use Rattle.listing.specs.Listing.{row_of, row_text}
use Rattle.listing.specs.declared.Operand.{Operand}
use Rattle.listing.specs.declared.Row.{Row}
use Rattle.listing.proofs.Fits.{nibble_lt, imm_lt, wrap_lt, word_lt}
use Rattle.columns.proofs.Bits.{field_text}
use Rattle.columns.proofs.Operands.{one_same, two_same, three_same, register_same, sfr_same, number_same}

-- two that are written alike are the same; a short one and a long one are not of one kind
abbrev pub SameBy : ByteAddr → Option Decoded → Option Decoded → Type 0
SameBy a (Some (Decoded.Short i)) (Some (Decoded.Short j)) = row_text (row_of a i) ≡ row_text (row_of a j) → i ≡ j
SameBy a (Some (Decoded.Long i)) (Some (Decoded.Long j)) = row_text (row_of a i) ≡ row_text (row_of a j) → i ≡ j
SameBy a (Some (Decoded.Short i)) (Some (Decoded.Long j)) = ⊥
SameBy a (Some (Decoded.Long i)) (Some (Decoded.Short j)) = ⊥
SameBy a None (Some (Decoded.Short j)) = Unit {0}
SameBy a None (Some (Decoded.Long j)) = Unit {0}
SameBy a None None = Unit {0}
SameBy a (Some (Decoded.Short i)) None = Unit {0}
SameBy a (Some (Decoded.Long i)) None = Unit {0}

if_same : (t u : Bool) (a : ByteAddr) (i j : Instr) → (row_text (row_of a i) ≡ row_text (row_of a j) → i ≡ j) → SameBy a (short_if t i) (short_if u j)
if_same true true a i j f = f
if_same true false a i j f = tt
if_same false true a i j f = tt
if_same false false a i j f = tt

-- ---- numbers from what is written of them

-- numbers of one remainder that are less than 2^32 apart
same_turn : (x y : ℕ) → x % 2 ^ 32 ≡ y % 2 ^ 32 → x < y + 2 ^ 32 → y < x + 2 ^ 32 → x ≡ y
same_turn x y e h i = go (ltb p q) refl (ltb q p) refl
  where
    p : ℕ
    p = x / 2 ^ 32

    q : ℕ
    q = y / 2 ^ 32

    go : (t : Bool) → ltb p q ≡ t → (u : Bool) → ltb q p ≡ u → x ≡ y
    go true f u g = let l = ltb-true p q f in absurd (omega (arith, div-add-mod' x (2 ^ 32), div-add-mod' y (2 ^ 32)))
    go false f true g = let l = ltb-true q p g in absurd (omega (arith, div-add-mod' x (2 ^ 32), div-add-mod' y (2 ^ 32)))
    go false f false g =
        let l = ltb-false p q f in
        let r = ltb-false q p g in
        let z : p ≡ q = omega arith in
        omega (arith, div-add-mod' x (2 ^ 32), div-add-mod' y (2 ^ 32))

-- a displacement, small or a small negative one modulo 2^32
far_same : (k m n a : ℕ) → m < k + k → n < k + k → k ≤ 33554432 → (a + 2 * signed_of k m) % 2 ^ 32 ≡ (a + 2 * signed_of k n) % 2 ^ 32 → signed_of k m ≡ signed_of k n
far_same k m n a h i l e = go (ltb m k) refl (ltb n k) refl e
  where
    -- one of each: a turn less, the other is not reached yet
    apart : (x y : ℕ) → x < k → k ≤ y → y < k + k → (a + 2 * x) % 2 ^ 32 ≡ (a + 2 * (y + 2 ^ 32 - (k + k))) % 2 ^ 32 → ⊥
    apart x y p q r f =
        let z : a + 2 * (y + 2 ^ 32 - (k + k)) ≡ a + 2 * y + 2 ^ 32 - 4 * k + 2 ^ 32 = omega arith in
        let u : (a + 2 * x) % 2 ^ 32 ≡ (a + 2 * y + 2 ^ 32 - 4 * k) % 2 ^ 32 = f ∙ ap (λ (w : ℕ). w % 2 ^ 32) z ∙ add-mod_right (a + 2 * y + 2 ^ 32 - 4 * k) (2 ^ 32) in
        let v = same_turn (a + 2 * x) (a + 2 * y + 2 ^ 32 - 4 * k) u (omega arith) (omega arith) in
        omega arith

    go : (t : Bool) → ltb m k ≡ t → (u : Bool) → ltb n k ≡ u
        → (a + 2 * cond t m (m + 2 ^ 32 - (k + k))) % 2 ^ 32 ≡ (a + 2 * cond u n (n + 2 ^ 32 - (k + k))) % 2 ^ 32
        → cond t m (m + 2 ^ 32 - (k + k)) ≡ cond u n (n + 2 ^ 32 - (k + k))
    go true p true q f =
        let r = same_turn (a + 2 * m) (a + 2 * n) f (omega arith) (omega arith) in
        omega arith
    go true p false q f = absurd (apart m n (ltb-true m k p) (ltb-false n k q) i f)
    go false p true q f = absurd (apart n m (ltb-true n k q) (ltb-false m k p) h (sym f))
    go false p false q f =
        let r = same_turn (a + 2 * (m + 2 ^ 32 - (k + k))) (a + 2 * (n + 2 ^ 32 - (k + k))) f (omega arith) (omega arith) in
        omega arith

same_word : (x y : ℕ) → x / 4 * 4 ≡ y / 4 * 4 → x % 4 ≡ y % 4 → x ≡ y
same_word x y e f = omega arith

-- a word's address after the program counter's
word_same : (a n k : ℕ) → n < 256 → k < 256 → (data_address Width.Word a n).0 ≡ (data_address Width.Word a k).0 → n ≡ k
unfolding data_address
word_same a n k h i e =
    let r = same_word ((a + n * 4) % 2 ^ 32) ((a + k * 4) % 2 ^ 32) e (low n ∙ sym (low k)) in
    let s = same_turn (a + n * 4) (a + k * 4) r (omega arith) (omega arith) in
    omega arith
  where
    low : (x : ℕ) → (a + x * 4) % 2 ^ 32 % 4 ≡ a % 4
    low x = mod-mod_of_dvd 4 {b = 2 ^ 32} (a + x * 4) (dvd-mul_left 4 1073741824) ∙ add-mul-mod_self_right a x 4

-- an offset in bytes
offset_same : (w : Width) (n k : ℕ) → n < 16 → k < 16 → product_of n (bytes_of w) ≡ product_of k (bytes_of w) → n ≡ k
offset_same Width.Byte n k h i e = let r = same_turn (n * 1) (k * 1) e (omega arith) (omega arith) in omega arith
offset_same Width.Half n k h i e = let r = same_turn (n * 2) (k * 2) e (omega arith) (omega arith) in omega arith
offset_same Width.Word n k h i e = let r = same_turn (n * 4) (k * 4) e (omega arith) (omega arith) in omega arith

-- ---- by kind: halves h, s and g, t

module _ (a : ByteAddr) (h s g t : ℕ) where
  reg_c : field_text (Operand.Reg (nib_c h)) ≡ field_text (Operand.Reg (nib_c g)) → nib_c h ≡ nib_c g
  reg_c e = register_same (nib_c h) (nib_c g) (omega arith) (omega arith) e

  reg_d : field_text (Operand.Reg (nib_d h)) ≡ field_text (Operand.Reg (nib_d g)) → nib_d h ≡ nib_d g
  reg_d e = register_same (nib_d h) (nib_d g) (omega arith) (omega arith) e

  -- a register and a register, or a number that n and k determine
  registers : (f : ℕ → ℕ → Instr) → row_text (Row.Two (Operand.Reg (nib_c h)) (Operand.Reg (nib_d h))) ≡ row_text (Row.Two (Operand.Reg (nib_c g)) (Operand.Reg (nib_d g)))
      → f (nib_c h) (nib_d h) ≡ f (nib_c g) (nib_d g)
  registers f e = let p = two_same _ _ _ _ e in ap₂ f (reg_c p.0) (reg_d p.1)

  with_number : (f : ℕ → ℕ → Instr) (n k x y : ℕ) → x < 2 ^ 32 → y < 2 ^ 32 → (x ≡ y → n ≡ k)
      → row_text (Row.Two (Operand.Reg (nib_c h)) (Operand.Number x)) ≡ row_text (Row.Two (Operand.Reg (nib_c g)) (Operand.Number y))
      → f (nib_c h) n ≡ f (nib_c g) k
  with_number f n k x y i j w e = let p = two_same _ _ _ _ e in ap₂ f (reg_c p.0) (w (number_same x y i j p.1))

  access : (w : Width) (f : ℕ → ℕ → ℕ → Instr)
      → row_text (Row.Three (Operand.Reg (nib_c h)) (Operand.Number (product_of (nib_b h) (bytes_of w))) (Operand.Reg (nib_d h)))
      ≡ row_text (Row.Three (Operand.Reg (nib_c g)) (Operand.Number (product_of (nib_b g) (bytes_of w))) (Operand.Reg (nib_d g)))
      → f (nib_c h) (nib_b h) (nib_d h) ≡ f (nib_c g) (nib_b g) (nib_d g)
  access w f e =
      let p = three_same _ _ _ _ _ _ e in
      let b = offset_same w (nib_b h) (nib_b g) (omega arith) (omega arith) (number_same _ _ (wrap_lt _) (wrap_lt _) p.1) in
      ap₂ (λ (x y : ℕ). f x y (nib_d h)) (reg_c p.0) b ∙ ap (f (nib_c g) (nib_b g)) (reg_d p.2)

  jump : (k m n : ℕ) (f : HalfDisp → Instr) → m < k + k → n < k + k → k ≤ 33554432
      → row_text (Row.One (Operand.Number (jump_sum a (record { 0 = signed_of k m })).0)) ≡ row_text (Row.One (Operand.Number (jump_sum a (record { 0 = signed_of k n })).0))
      → f (record { 0 = signed_of k m }) ≡ f (record { 0 = signed_of k n })
  jump k m n f i j l e =
      ap (λ (x : ℕ). f (record { 0 = x })) (far_same k m n a.0 i j l (number_same _ _ (wrap_lt _) (wrap_lt _) (one_same _ _ e)))

  pub alike : (k : Kind) → SameBy a (operands_of k h s) (operands_of k g t)
  unfolding operands_of row_of
  alike Kind.Nothing = tt
  alike (Kind.Alu op) = λ e. registers (Instr.Alu op) e
  alike (Kind.ShiftImm op) = λ e. with_number (Instr.ShiftImm op) (nib_d h) (nib_d g) (nib_d h) (nib_d g) (omega arith) (omega arith) (λ q. q) e
  alike (Kind.Cmp op) = λ e. registers (Instr.Cmp op) e
  alike (Kind.CmpImm op) = λ e. with_number (Instr.CmpImm op) _ _ _ _ (nibble_lt (nib_d h)) (nibble_lt (nib_d g)) (λ q. q) e
  alike (Kind.Cond op b) = λ e. registers (Instr.Cond op b) e
  alike (Kind.CondImm b) = λ e. with_number (Instr.CondImm b) _ _ _ _ (nibble_lt (nib_d h)) (nibble_lt (nib_d g)) (λ q. q) e
  alike Kind.Ldrpc = λ e. with_number Instr.Ldrpc (imm8 h) (imm8 g) _ _ (word_lt a.0 (imm8 h)) (word_lt a.0 (imm8 g)) (word_same a.0 (imm8 h) (imm8 g) (omega arith) (omega arith)) e
  alike (Kind.Imm op) = λ e. with_number (Instr.Imm op) _ _ _ _ (imm_lt op h) (imm_lt op g) (λ q. q) e
  alike (Kind.Load w) = λ e. access w (Instr.Load w) e
  alike (Kind.Store w) = λ e. access w (Instr.Store w) e
  alike Kind.Mfsfr =
      if_same (leb (nib_d h) 10) (leb (nib_d g) 10) a (Instr.Mfsfr (nib_c h) (nib_d h)) (Instr.Mfsfr (nib_c g) (nib_d g))
      λ e. let p = two_same _ _ _ _ e in ap₂ Instr.Mfsfr (reg_c p.0) (sfr_same (nib_d h) (nib_d g) (omega arith) (omega arith) p.1)
  alike Kind.Mtsfr =
      if_same (leb (nib_c h) 10) (leb (nib_c g) 10) a (Instr.Mtsfr (nib_c h) (nib_d h)) (Instr.Mtsfr (nib_c g) (nib_d g))
      λ e. let p = two_same _ _ _ _ e in ap₂ Instr.Mtsfr (sfr_same (nib_c h) (nib_c g) (omega arith) (omega arith) p.0) (reg_d p.1)
  alike Kind.Jr =
      if_same (eqb (nib_c h) 0) (eqb (nib_c g) 0) a (Instr.Jr (nib_d h)) (Instr.Jr (nib_d g)) λ e. ap Instr.Jr (reg_d (one_same _ _ e))
  alike Kind.Jrl =
      if_same (eqb (nib_c h) 0) (eqb (nib_c g) 0) a (Instr.Jrl (nib_d h)) (Instr.Jrl (nib_d g)) λ e. ap Instr.Jrl (reg_d (one_same _ _ e))
  alike Kind.Jsfr =
      if_same (eqb (nib_c h) 0 && leb (nib_d h) 3) (eqb (nib_c g) 0 && leb (nib_d g) 3) a (Instr.Jsfr (nib_d h)) (Instr.Jsfr (nib_d g))
      λ e. ap Instr.Jsfr (sfr_same (nib_d h) (nib_d g) (omega arith) (omega arith) (one_same _ _ e))
  alike Kind.Swint =
      if_same (eqb (nib_c h) 0) (eqb (nib_c g) 0) a (Instr.Swint (nib_d h)) (Instr.Swint (nib_d g))
      λ e. ap Instr.Swint (number_same (nib_d h) (nib_d g) (omega arith) (omega arith) (one_same _ _ e))
  alike (Kind.ShortJump op) = λ e. jump 512 (h % 1024) (g % 1024) (Instr.ShortJump op) (omega arith) (omega arith) (omega arith) e
  alike (Kind.LongJump op) = λ e. jump 33554432 ((h * 65536 + s) % 67108864) ((g * 65536 + t) % 67108864) (Instr.LongJump op) (omega arith) (omega arith) (omega arith) e
