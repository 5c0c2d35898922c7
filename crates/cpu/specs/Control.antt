-- The part of the state that is never marked but for TF and CY: the program counter, PSW, SFR 1 to 10 and "timer pending" (document 01, "What the
-- model has"), the cycle count (document 02, ticket 6), and the ways to change one place of it.
-- Assumes nothing.
use Rattle.std.specs.Prelude.{ℕ, Bool, false, cond, [], ◌∷◌, ◌==◌, slice_index_or}
use Rattle.std.specs.Bool.{beq}
use Rattle.word.specs.Bits.{on, with_bit}
use Rattle.word.specs.declared.ByteAddr.{ByteAddr}
use Rattle.cpu.specs.declared.Control.{Control}

-- "Fresh: all zero and unmarked, HWDBG 3"
abbrev pub fresh_control : Control
fresh_control =
    record { pc = 0; psw = 0; ra = 0; ipc = 0; timer = 0; ibase = 0; usreg = 0; hwdbg = 3; bp0 = 0; bp1 = 0; wp0 = 0; wp1 = 0; pending = false; cycles = 0 }

-- ---- the program counter

abbrev pub pc_of : Control → ByteAddr
pc_of c = record { 0 = c.pc }

unfoldable pub with_pc : Control → ByteAddr → Control
with_pc c a =
    record { pc = a.0; psw = c.psw; ra = c.ra; ipc = c.ipc; timer = c.timer; ibase = c.ibase; usreg = c.usreg; hwdbg = c.hwdbg; bp0 = c.bp0; bp1 = c.bp1; wp0 = c.wp0; wp1 = c.wp1; pending = c.pending; cycles = c.cycles }

-- ---- SFR 0 to 10 by number

abbrev pub sfr_of : ℕ → Control → ℕ
sfr_of n c =
    slice_index_or
    (c.psw ∷ c.ra ∷ c.ipc ∷ c.timer ∷ c.ibase ∷ c.usreg ∷ c.hwdbg ∷ c.bp0 ∷ c.bp1 ∷ c.wp0 ∷ c.wp1 ∷ [])
    n
    0

-- x at the place whose number is n, and y at any other
abbrev pub here : ℕ → ℕ → ℕ → ℕ → ℕ
here n i x y = cond (n == i) x y

unfoldable pub with_sfr : ℕ → Control → ℕ → Control
with_sfr n c x = record {
  pc = c.pc;
  psw = here n 0 x c.psw;
  ra = here n 1 x c.ra;
  ipc = here n 2 x c.ipc;
  timer = here n 3 x c.timer;
  ibase = here n 4 x c.ibase;
  usreg = here n 5 x c.usreg;
  hwdbg = here n 6 x c.hwdbg;
  bp0 = here n 7 x c.bp0;
  bp1 = here n 8 x c.bp1;
  wp0 = here n 9 x c.wp0;
  wp1 = here n 10 x c.wp1;
  pending = c.pending;
  cycles = c.cycles;
}

abbrev pub with_psw : Control → ℕ → Control
with_psw c x = with_sfr 0 c x

abbrev pub with_ipc : Control → ℕ → Control
with_ipc c x = with_sfr 2 c x

abbrev pub with_hwdbg : Control → ℕ → Control
with_hwdbg c x = with_sfr 6 c x

-- ---- TIMER and pending

unfoldable pub with_pending : Control → Bool → Control
with_pending c b =
    record { pc = c.pc; psw = c.psw; ra = c.ra; ipc = c.ipc; timer = c.timer; ibase = c.ibase; usreg = c.usreg; hwdbg = c.hwdbg; bp0 = c.bp0; bp1 = c.bp1; wp0 = c.wp0; wp1 = c.wp1; pending = b; cycles = c.cycles }

abbrev pub with_timer : Control → ℕ → Bool → Control
with_timer c x b = with_pending (with_sfr 3 c x) b

-- ---- "a cycle count modulo 2^32 in the state" (document 02, ticket 6)

unfoldable pub with_cycles : Control → ℕ → Control
with_cycles c n =
    record { pc = c.pc; psw = c.psw; ra = c.ra; ipc = c.ipc; timer = c.timer; ibase = c.ibase; usreg = c.usreg; hwdbg = c.hwdbg; bp0 = c.bp0; bp1 = c.bp1; wp0 = c.wp0; wp1 = c.wp1; pending = c.pending; cycles = n }

-- ---- TF is bit 8 of PSW, CY is bit 9 (the guide, "PSW")

abbrev pub tf : Control → Bool
tf c = on c.psw 8

abbrev pub cy : Control → Bool
cy c = on c.psw 9

-- TF says what the instruction wants
abbrev pub wants : Bool → Control → Bool
wants t c = beq (tf c) t

abbrev pub with_tf : Control → Bool → Control
with_tf c b = with_psw c (with_bit c.psw 8 b)

abbrev pub with_cy : Control → Bool → Control
with_cy c b = with_psw c (with_bit c.psw 9 b)
