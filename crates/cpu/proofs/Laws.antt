-- Small laws that the functions' proofs cite.
-- Assumes nothing.
use Rattle.std.proofs.Common.{◌≡◌, ℕ, ◌/◌, ◌%◌, ◌^◌, ◌≤◌, false, [], ◌∷◌, sym, ap, ◌∙◌, arith}
use lib.ListN.{get_or-eq_default}
use Rattle.cpu.specs.Control.{sfr_of}
use Rattle.cpu.specs.Entries.{watch_hit}
use Rattle.cpu.specs.declared.Control.{Control}
use Rattle.word.specs.Bits.{on, field_of}
use Rattle.word.specs.declared.ByteAddr.{ByteAddr}

-- there is no SFR past 10
pub sfr_past : (n : ℕ) (c : Control) → 11 ≤ n → 0 ≡ sfr_of n c
sfr_past n c h =
    sym (get_or-eq_default
    (c.psw ∷ c.ra ∷ c.ipc ∷ c.timer ∷ c.ibase ∷ c.usreg ∷ c.hwdbg ∷ c.bp0 ∷ c.bp1 ∷ c.wp0 ∷ c.wp1 ∷ [])
    0
    h)

-- neither watchpoint is enabled
pub unwatched : (a : ByteAddr) (c : Control) → field_of c.hwdbg 4 2 ≡ 0 → watch_hit a c ≡ 0
unfolding watch_hit
unwatched a c z = rw (off_four, off_five)
  where
    two_off : (h : ℕ) → h % 4 ≡ 0 → (h % 2 ≡ 0) × (h / 2 % 2 ≡ 0)
    two_off h q = (omega arith, omega arith)

    off_four : on c.hwdbg 4 ≡ false
    off_four = let q : c.hwdbg / 2 ^ 4 % 2 ^ 1 ≡ 0 = (two_off (c.hwdbg / 2 ^ 4) z).0 in rw q

    off_five : on c.hwdbg 5 ≡ false
    off_five =
        let d : c.hwdbg / 2 ^ 5 ≡ c.hwdbg / 2 ^ 4 / 2 = omega arith in
        let q : c.hwdbg / 2 ^ 5 % 2 ^ 1 ≡ 0 = ap (λ (n : ℕ). n % 2 ^ 1) d ∙ (two_off (c.hwdbg / 2 ^ 4) z).1 in
        rw q
