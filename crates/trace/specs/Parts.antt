-- Parts that only the contracts of this crate's helpers cite; proofs/Laws.antt ties them to seen_in.
-- Assumes nothing.
use Rattle.std.specs.Prelude.{None, Option, Some}
use Rattle.cpu.specs.Control.{pc_of}
use Rattle.cpu.specs.declared.Control.{Control}
use Rattle.cpu.specs.declared.Entry.{Entry}
use Rattle.instruction.specs.declared.Halt.{Halt}
use Rattle.instruction.specs.declared.Act.{Act}
use Rattle.machine.specs.Step.{line_of}
use Rattle.machine.specs.declared.Line.{Line}
use Rattle.word.specs.declared.ByteAddr.{ByteAddr}

-- the line of an entry e from control part c on, with data address a
abbrev pub entry_line : Entry → Option ByteAddr → Control → Option Line
entry_line e a c = Some (record { pc = pc_of c; entry = e; address = a })

-- what an instruction shows that is not done, and one that is done or not
abbrev pub seen_halt : Halt → Option ByteAddr → Control → Option Line
seen_halt Halt.FetchOutside a c = entry_line Entry.FetchError None c
seen_halt Halt.FetchMarked a c = None
seen_halt Halt.NoInstruction a c = None
seen_halt Halt.MarkedOperand a c = None
seen_halt Halt.DataOutside a c = entry_line Entry.DataError a c

abbrev pub seen_act : Act → Option ByteAddr → Control → Option Line
seen_act (Act.Halted h) a c = seen_halt h a c
seen_act (Act.Does e t r) a c = Some (line_of c e r)
