-- The register that an instruction writes, by the bits of its first half.
-- Assumes nothing.
use Rattle.std.specs.Prelude.{Some}
use Prim.Native.Nat.{ℕ, ◌/◌, ◌%◌, ◌<◌}
use mathlib.Core.Path.{◌≡◌, refl}
use mathlib.Core.Bool.{Bool, true, false, cond, beq, false≢true, ◌&&◌}
use native.Mathlib.Omega.{arith}
use lib.Dec.{leb, eqb}
use Rattle.isa.specs.Codes.{kind_of}
use Rattle.isa.specs.Decode.{nib_c, nib_d, short_if, operands_of, decode_of}
use Rattle.isa.specs.declared.Instr.{Instr}
use Rattle.isa.specs.declared.Kind.{Kind}
use Rattle.isa.specs.declared.Decoded.{Decoded}
use Rattle.isa.proofs.Rows.{each_at}
use Rattle.cpu.specs.Exec.{exec, makes}
use Rattle.cpu.specs.declared.Control.{Control}
use Rattle.values.specs.Words.{writes_rd, RdOf}

-- a kind whose instructions write a register stands in a place that says so, and another does not; where there is no kind, nothing is said
abbrev agrees : Kind → Bool → Bool
agrees Kind.Nothing b = true
agrees (Kind.Alu op) b = beq true b
agrees (Kind.ShiftImm op) b = beq true b
agrees (Kind.Cmp op) b = beq false b
agrees (Kind.CmpImm op) b = beq false b
agrees (Kind.Cond op t) b = beq true b
agrees (Kind.CondImm t) b = beq true b
agrees Kind.Ldrpc b = beq true b
agrees (Kind.Imm op) b = beq true b
agrees (Kind.Load w) b = beq true b
agrees (Kind.Store w) b = beq false b
agrees Kind.Mfsfr b = beq true b
agrees Kind.Mtsfr b = beq false b
agrees Kind.Jr b = beq false b
agrees Kind.Jrl b = beq false b
agrees Kind.Jsfr b = beq false b
agrees Kind.Swint b = beq false b
agrees (Kind.ShortJump op) b = beq false b
agrees (Kind.LongJump op) b = beq false b

rd : (n : ℕ) (b : Bool) → beq true b ≡ true → n ≡ cond b n 16
rd n true e = refl
rd n false e = absurd (false≢true e)

none : (n : ℕ) (b : Bool) → beq false b ≡ true → 16 ≡ cond b n 16
none n true e = absurd (false≢true e)
none n false e = refl

module _ (h s x y v : ℕ) (c : Control) where
  -- bits without a meaning are zero, or there is no instruction
  only : (t : Bool) (i : Instr) → RdOf (Some (Decoded.Short i)) h x y v c → RdOf (short_if t i) h x y v c
  only true i p = p
  only false i p = tt

  abbrev b : Bool
  b = writes_rd (h / 4096) (h / 256 % 16)

  by_kind : (k : Kind) → agrees k b ≡ true → RdOf (operands_of k h s) h x y v c
  unfolding operands_of exec makes
  by_kind Kind.Nothing e = tt
  by_kind (Kind.Alu op) e = rd (h / 16 % 16) b e
  by_kind (Kind.ShiftImm op) e = rd (h / 16 % 16) b e
  by_kind (Kind.Cmp op) e = none (h / 16 % 16) b e
  by_kind (Kind.CmpImm op) e = none (h / 16 % 16) b e
  by_kind (Kind.Cond op t) e = rd (h / 16 % 16) b e
  by_kind (Kind.CondImm t) e = rd (h / 16 % 16) b e
  by_kind Kind.Ldrpc e = rd (h / 16 % 16) b e
  by_kind (Kind.Imm op) e = rd (h / 16 % 16) b e
  by_kind (Kind.Load w) e = rd (h / 16 % 16) b e
  by_kind (Kind.Store w) e = none (h / 16 % 16) b e
  by_kind Kind.Mfsfr e = only (leb (nib_d h) 10) (Instr.Mfsfr (nib_c h) (nib_d h)) (rd (h / 16 % 16) b e)
  by_kind Kind.Mtsfr e = only (leb (nib_c h) 10) (Instr.Mtsfr (nib_c h) (nib_d h)) (none (h / 16 % 16) b e)
  by_kind Kind.Jr e = only (eqb (nib_c h) 0) (Instr.Jr (nib_d h)) (none (h / 16 % 16) b e)
  by_kind Kind.Jrl e = only (eqb (nib_c h) 0) (Instr.Jrl (nib_d h)) (none (h / 16 % 16) b e)
  by_kind Kind.Jsfr e = only (eqb (nib_c h) 0 && leb (nib_d h) 3) (Instr.Jsfr (nib_d h)) (none (h / 16 % 16) b e)
  by_kind Kind.Swint e = only (eqb (nib_c h) 0) (Instr.Swint (nib_d h)) (none (h / 16 % 16) b e)
  by_kind (Kind.ShortJump op) e = none (h / 16 % 16) b e
  by_kind (Kind.LongJump op) e = refl

-- .. computed at each of the 256 first bytes
kinds_agree : (n : ℕ) → n < 256 → agrees (kind_of n) (writes_rd (n / 16) (n % 16)) ≡ true
unfolding kind_of
kinds_agree n l = each_at (λ (n : ℕ). agrees (kind_of n) (writes_rd (n / 16) (n % 16))) 256 n refl l

pub rd_is : (h s x y v : ℕ) (c : Control) → h < 65536 → RdOf (decode_of h s) h x y v c
unfolding decode_of
rd_is h s x y v c l =
    let d : h / 256 / 16 ≡ h / 4096 = omega arith in
    by_kind h s x y v c (kind_of (h / 256)) (rw d at (kinds_agree (h / 256) (omega arith)))
