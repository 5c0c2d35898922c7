-- A state in form: the opposite of refusal 4, part by part.
-- Assumes nothing.
use Rattle.std.specs.Prelude.{◌%◌, ◌^◌, ◌<◌, ◌≡◌, true, false}
use Rattle.word.specs.Bits.{on, field_of}
use Rattle.cpu.specs.declared.Control.{Control}

pub record Form (c : Control) : Type 0 where
  pub even : c.pc % 2 ≡ 0
  pub twelve : on c.psw 12 ≡ false
  pub fixed : field_of c.hwdbg 0 2 ≡ 3
  pub high : c.hwdbg < 2 ^ 9
  pub late : c.pending ≡ true → c.timer ≡ 0
