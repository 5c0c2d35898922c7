-- Sentences of documents 01 and 02 on instructions, entries and marks, each as a theorem on the definitions in other words than theirs; read this file alone with
-- specs/. docs/SENTENCES.md has the sentences, and slips/ the wrong definitions that these theorems refuse.
-- Assumes nothing.
use Prim.Native.Nat.{ℕ, ◌+◌, ◌*◌, ◌/◌, ◌%◌, ◌^◌, ◌<◌}
use mathlib.Core.Path.{◌≡◌, ap₂}
use mathlib.Core.Bool.{Bool, true, false, cond}
use mathlib.Core.List.{List}
use native.Mathlib.Omega.{arith}
use lib.Dec.{eqb}
use lib.ListN.{get_or}
use Rattle.word.specs.Bits.{on}
use Rattle.isa.specs.declared.Instr.{Instr}
use Rattle.cpu.specs.Control.{tf}
use Rattle.cpu.specs.Cycles.{cost_of, entry_cost}
use Rattle.cpu.specs.Entries.{entered, passed}
use Rattle.cpu.specs.declared.Control.{Control}
use Rattle.cpu.specs.declared.Entry.{Entry}
use Rattle.marks.specs.Marks.{with, taint, blocked}
use Rattle.marks.specs.Memory.{bits, mark_at}
use Rattle.sentences.specs.Classes.{class_of, cycles_of}
use Rattle.sentences.specs.Sources.{Found, any_of, reg_from, tf_from, cy_from, stop_from}
use Rattle.sentences.specs.Writes.{writes_psw, writes_hwdbg, Left, is_entry, is_timer, low_byte, adds_cycles}
use Rattle.sentences.specs.Passes.{Passes}
use Rattle.sentences.proofs.Costs.{class_cycles}
use Rattle.sentences.proofs.Sources.{marks_from_lem, stops_from}
use Rattle.sentences.proofs.Writes.{psw_left, hwdbg_left, places_left, pending_left, vector_of, adds}
use Rattle.sentences.proofs.Passes.{passes}

-- 1. An instruction costs what ticket 6's table has for its class, and an entry adds what the table says of it.
pub instruction_costs : (i : Instr) (y : ℕ) (c : Control) → cost_of i y c ≡ cycles_of (class_of i y (tf c))
instruction_costs = class_cycles

pub entry_costs : (e : Entry) → entry_cost e ≡ adds_cycles e
entry_costs = adds

-- 2. Results are marked if any of their sources is, no more and no less: the register's, TF's and CY's mark after an instruction; t is TF before it ..
pub marks_of_results : (g : Found) (i : Instr) (t : Bool)
    → taint i g.rd g.rb g.loaded t g.flags ≡ with (any_of g (reg_from i t)) (record { tf = any_of g (tf_from i); cy = any_of g (cy_from i) })
marks_of_results = marks_from_lem

-- .. and an instruction is stopped if one of the operands that document 01 lists is marked, and only then.
pub marks_that_stop : (g : Found) (i : Instr) → blocked i g.rb g.flags ≡ any_of g (stop_from i)
marks_that_stop = stops_from

-- 3. "one bit for each byte, lowest address in the lowest bit": memory's byte 8 q + r has its mark in bit r of the slice's byte q.
pub mark_bits : (k : List ℕ) (q r : ℕ) → r < 8 → mark_at (bits k) (8 * q + r) ≡ eqb (get_or k q 0 / 2 ^ r % 2) 1
mark_bits k q r h =
    let a : (8 * q + r) / 8 ≡ q = omega arith in
    let b : (8 * q + r) % 8 ≡ r = omega arith in
    ap₂ (λ (x y : ℕ). on (get_or k x 0) y) a b

-- 4. An entry leaves alone every bit of PSW and of HWDBG that it does not name, every SFR but these and IPC, the cycle count, and pending but for the timer's; it goes
-- to IBASE with its low byte replaced. (What it writes: an_entry_by_its_bits of crate laws.)
module _ (e : Entry) (c : Control) where
  pub entry_leaves_psw : (j : ℕ) → writes_psw e j ≡ false → on (entered e c).psw j ≡ on c.psw j
  entry_leaves_psw = psw_left e c

  pub entry_leaves_hwdbg : (j : ℕ) → writes_hwdbg e j ≡ false → on (entered e c).hwdbg j ≡ on c.hwdbg j
  entry_leaves_hwdbg = hwdbg_left e c

  pub entry_leaves_places : Left c (entered e c)
  entry_leaves_places = places_left e c

  pub entry_leaves_pending : (entered e c).pending ≡ cond (is_timer e) false c.pending
  entry_leaves_pending = pending_left e c

  pub entry_goes_to : is_entry e ≡ true → (entered e c).pc ≡ c.ibase / 256 * 256 + low_byte e
  entry_goes_to = vector_of e c

-- 5. A step of cost k goes by: when TIMER falls, how far, when pending is set, and nothing besides but the cycle count.
pub time_passes : (te : Bool) (k : ℕ) (c : Control) → Passes te k c (passed te k c)
time_passes = passes
