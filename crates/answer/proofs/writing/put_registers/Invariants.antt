use Rattle.answer.specs.Answer.{registers_text}
use Rattle.text.specs.Pages.{page, write_on}
use mathlib.Core.Path.{◌≡◌}
use Prim.Native.Nat.{◌-◌}
use Rattle.answer.proofs.writing.put_registers.Given as goal

abbrev pub invariant-loop-i : goal.invariant-loop-i
invariant-loop-i l = write_on (registers_text (16 - l.i) l.i l.regs l.marks) (page l.out l.at) ≡ write_on (registers_text 16 0 l.regs l.marks) (page l.initial.out l.initial.at)
