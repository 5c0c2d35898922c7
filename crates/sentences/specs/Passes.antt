-- A step goes by: the timer's fall and the cycle count, in numbers (document 01, "Timer"; document 02, ticket 6).
-- Assumes nothing.
use Rattle.std.specs.Prelude.{ℕ, ◌+◌, ◌%◌, ◌^◌, ◌<◌, ◌≤◌, ◌≡◌, Bool, true, false}
use Rattle.cpu.specs.declared.Control.{Control}

-- From control part c to n in a step of cost k; te says that TE was 1 at its start and that TIMER was not written.
pub record Passes (te : Bool) (k : ℕ) (c n : Control) : Type 0 where
  -- "if TE was 1 at its start and TIMER isn't 0": not otherwise
  pub still : te ≡ false → (n.timer ≡ c.timer) × (n.pending ≡ c.pending)
  pub zero : c.timer ≡ 0 → (n.timer ≡ 0) × (n.pending ≡ c.pending)
  -- "TIMER falls by the step's cost": not yet at 0, and pending is not set
  pub falls : te ≡ true → k < c.timer → (n.timer + k ≡ c.timer) × (n.pending ≡ c.pending)
  -- "to no less than 0"; "reaching 0 sets pending"
  pub reaches : te ≡ true → 0 < c.timer → c.timer ≤ k → (n.timer ≡ 0) × (n.pending ≡ true)
  -- "a cycle count modulo 2^32"
  pub cycles : n.cycles ≡ (c.cycles + k) % 2 ^ 32
  -- "and nothing besides changes" (demand 2)
  pub pc : n.pc ≡ c.pc
  pub psw : n.psw ≡ c.psw
  pub ra : n.ra ≡ c.ra
  pub ipc : n.ipc ≡ c.ipc
  pub ibase : n.ibase ≡ c.ibase
  pub usreg : n.usreg ≡ c.usreg
  pub hwdbg : n.hwdbg ≡ c.hwdbg
  pub bp0 : n.bp0 ≡ c.bp0
  pub bp1 : n.bp1 ≡ c.bp1
  pub wp0 : n.wp0 ≡ c.wp0
  pub wp1 : n.wp1 ≡ c.wp1
