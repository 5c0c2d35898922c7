-- What an instruction shows is the line of its step.
-- Assumes nothing.
use Rattle.std.specs.Prelude.{Option}
use Prim.Native.Nat.{ℕ}
use mathlib.Core.Path.{◌≡◌, refl}
use mathlib.Core.List.{List}
use Rattle.isa.specs.declared.Instr.{Instr}
use Rattle.cpu.specs.Exec.{sources_of}
use Rattle.cpu.specs.declared.Control.{Control}
use Rattle.marks.specs.declared.Flags.{Flags}
use Rattle.marks.specs.Memory.{Marks}
use Rattle.instruction.specs.Act.{reach_of, act_of}
use Rattle.instruction.specs.declared.Val.{Val}
use Rattle.instruction.specs.declared.Halt.{Halt}
use Rattle.instruction.specs.declared.Act.{Act}
use Rattle.machine.specs.State.{value_at}
use Rattle.machine.specs.Step.{data_of, halt_step, act_step, instr_step}
use Rattle.machine.specs.declared.State.{State}
use Rattle.trace.specs.Seen.{seen_in}
use Rattle.trace.specs.Parts.{seen_halt, seen_act}
use Rattle.word.specs.declared.ByteAddr.{ByteAddr}

pub seen_halt_lem : (h : Halt) (a : Option ByteAddr) (f : Flags) (c : Control) (m : List ℕ) (k : Marks) → seen_halt h a c ≡ seen_in (halt_step h a f c m k)
seen_halt_lem Halt.FetchOutside a f c m k = refl
seen_halt_lem Halt.FetchMarked a f c m k = refl
seen_halt_lem Halt.NoInstruction a f c m k = refl
seen_halt_lem Halt.MarkedOperand a f c m k = refl
seen_halt_lem Halt.DataOutside a f c m k = refl

seen_act_lem : (q : Act) (a : Option ByteAddr) (x : Val) (f : Flags) (c : Control) (m : List ℕ) (k : Marks) → seen_act q a c ≡ seen_in (act_step q a x f c m k)
seen_act_lem (Act.Halted h) a x f c m k = seen_halt_lem h a f c m k
seen_act_lem (Act.Does e t r) a x f c m k = refl

pub seen_instr : (i : Instr) (s : State) (m : List ℕ) (k : Marks)
    → seen_act (act_of i (value_at s (sources_of i).first) (value_at s (sources_of i).second) s.flags s.control m k)
    (data_of (reach_of i (value_at s (sources_of i).second).value s.control))
    s.control
    ≡ seen_in (instr_step i s m k)
unfolding instr_step
seen_instr i s m k =
    seen_act_lem (act_of i (value_at s (sources_of i).first) (value_at s (sources_of i).second) s.flags s.control m k)
    (data_of (reach_of i (value_at s (sources_of i).second).value s.control))
    (value_at s (sources_of i).first)
    s.flags
    s.control
    m
    k
