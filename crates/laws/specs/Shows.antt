-- Words that the theorems on the trace are stated in: what the line of a completed step says of that step.
-- Assumes nothing.
use Rattle.std.specs.Prelude.{ℕ, ◌+◌, ◌%◌, ◌≤◌, ◌<◌, ◌≡◌, true, false, not, ◌&&◌, List, get_or, Err, None, Ok, Option, Some}
use Rattle.word.specs.Bits.{on, field_of}
use Rattle.word.specs.Numbers.{lsl_of}
use Rattle.word.specs.Addresses.{aligned_of}
use Rattle.word.specs.declared.Width.{Width}
use Rattle.isa.specs.declared.Instr.{Instr}
use Rattle.cpu.specs.Control.{pc_of}
use Rattle.cpu.specs.Entries.{vector, entered, passed}
use Rattle.cpu.specs.Cycles.{entry_cost}
use Rattle.cpu.specs.Exec.{onward, exec, sources_of}
use Rattle.cpu.specs.declared.Control.{Control}
use Rattle.cpu.specs.declared.Effect.{Effect}
use Rattle.cpu.specs.declared.Entry.{Entry}
use Rattle.marks.specs.Memory.{Marks}
use Rattle.instruction.specs.Fetch.{fetch_of}
use Rattle.instruction.specs.Act.{reach_of, outside, loaded_from}
use Rattle.instruction.specs.declared.Halt.{Halt}
use Rattle.instruction.specs.declared.Reach.{Reach}
use Rattle.machine.specs.State.{value_at}
use Rattle.machine.specs.Step.{chosen, data_of}
use Rattle.machine.specs.declared.State.{State}
use Rattle.machine.specs.declared.Event.{Event}
use Rattle.machine.specs.declared.Done.{Done}
use Rattle.machine.specs.declared.Line.{Line}
use Rattle.word.specs.declared.ByteAddr.{ByteAddr}

-- what instruction i reaches in state s, and what it makes of values and control part there, before the entry that it may make
abbrev pub reach_in : Instr → State → Reach
reach_in i s = reach_of i (value_at s (sources_of i).second).value s.control

abbrev pub effect_in : Instr → State → List ℕ → Effect
effect_in i s m = exec i (value_at s (sources_of i).first).value (value_at s (sources_of i).second).value (loaded_from (reach_in i s) m) s.control

-- A completed step made d from state s, memory m and marks k on, with the tape's byte t, and shows line x. The entry that the line names is the one that was
-- made: on the control part before the step if an entry was chosen or the fetch was a bus error, on what the instruction left if one was done, and at the next
-- instruction if its data were outside memory; then the step's cost went by, and the timer fell or not.
pub data Shows (t : ℕ) (s : State) (m : List ℕ) (k : Marks) (d : Done) (x : Line) : Type 0 where
  by_choice : chosen t s.control ≡ Event.Enter x.entry → x.address ≡ None
      → d.control ≡ passed (on s.control.psw 4) (entry_cost x.entry) (entered x.entry s.control)
      → Shows t s m k d x
  by_instruction : (i : Instr) → chosen t s.control ≡ Event.Instruction → fetch_of (pc_of s.control) m k ≡ Ok i
      → outside (reach_in i s) m ≡ false → x.address ≡ data_of (reach_in i s)
      → d.control
      ≡ passed (on s.control.psw 4 && not (effect_in i s m).wrote) ((effect_in i s m).cost + entry_cost x.entry) (entered x.entry (effect_in i s m).control)
      → Shows t s m k d x
  by_fetch : chosen t s.control ≡ Event.Instruction → fetch_of (pc_of s.control) m k ≡ Err Halt.FetchOutside
      → x.entry ≡ Entry.FetchError → x.address ≡ None
      → d.control ≡ passed (on s.control.psw 4) 4 (entered Entry.FetchError s.control)
      → Shows t s m k d x
  by_data : (i : Instr) → chosen t s.control ≡ Event.Instruction → fetch_of (pc_of s.control) m k ≡ Ok i
      → outside (reach_in i s) m ≡ true → x.entry ≡ Entry.DataError → x.address ≡ data_of (reach_in i s)
      → d.control ≡ passed (on s.control.psw 4) 4 (entered Entry.DataError (onward 2 s.control))
      → Shows t s m k d x

-- what that step cost in cycles (document 02, ticket 6)
abbrev pub cost_in : {t : ℕ} {s : State} {m : List ℕ} {k : Marks} {d : Done} {x : Line} → Shows t s m k d x → ℕ
cost_in {x = x} (by_choice c a e) = entry_cost x.entry
cost_in {s = s} {m = m} {x = x} (by_instruction i c f o a e) = (effect_in i s m).cost + entry_cost x.entry
cost_in (by_fetch c f n a e) = 4
cost_in (by_data i c f o n a e) = 4

-- an entry by its vector and its bits, from control part c to n: IPC, IP and BIP, the program counter, and what its kind sets
pub record Entered (low : ℕ) (c n : Control) : Type 0 where
  pub vector : n.pc ≡ (vector low c).0
  pub ipc : n.ipc ≡ c.pc
  pub ip : on n.psw 3 ≡ true
  pub bip : on n.psw 6 ≡ on c.psw 3

abbrev pub Bits : Entry → Control → Control → Type 0
Bits Entry.Nothing c n = n ≡ c
Bits (Entry.Swint v) c n = Entered 4 c n × (on n.psw 0 ≡ true) × (field_of n.psw 16 4 ≡ v % 16)
Bits (Entry.Debug hit) c n = Entered 4 c n × (on n.psw 0 ≡ false) × (field_of n.psw 16 4 ≡ 15) × (field_of n.hwdbg 6 3 ≡ hit % 8)
Bits Entry.Timer c n = Entered 8 c n × (on n.psw 2 ≡ true) × (n.pending ≡ false)
Bits (Entry.External i) c n = Entered 12 c n × (on n.psw 1 ≡ true) × (field_of n.psw 26 6 ≡ lsl_of 1 i % 64)
Bits Entry.FetchError c n = Entered 16 c n × (on n.psw 15 ≡ true) × (on n.psw 14 ≡ on c.psw 14) × (n.hwdbg ≡ c.hwdbg)
Bits Entry.DataError c n = Entered 16 c n × (on n.psw 14 ≡ true) × (on n.psw 15 ≡ on c.psw 15) × (n.hwdbg ≡ c.hwdbg)

-- jsfr of IPC, from control part c to n: back at IPC, IP from BIP, BIP 0
pub record Returned (c n : Control) : Type 0 where
  pub pc : n.pc ≡ (aligned_of Width.Half (record { 0 = c.ipc })).0
  pub ip : on n.psw 3 ≡ on c.psw 6
  pub bip : on n.psw 6 ≡ false

-- the control part that jsfr of IPC leaves
abbrev pub back_from : Control → Control
back_from c = (exec (Instr.Jsfr 2) 0 0 0 c).control

-- memory before and after a step changed only where its line says, in the (at most four) bytes from that address on
abbrev pub ChangedAt : Option ByteAddr → List ℕ → List ℕ → Type 0
ChangedAt None m l = l ≡ m
ChangedAt (Some a) m l = (i : ℕ) → (a.0 ≤ i → i < a.0 + 4 → ⊥) → get_or l i 0 ≡ get_or m i 0
