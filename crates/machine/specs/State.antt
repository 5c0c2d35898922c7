-- The state (document 01, "What the model has"), and refusal 4.
-- Assumes nothing.
use Rattle.std.specs.Prelude.{ℕ, ◌%◌, Bool, false, not, ◌&&◌, ◌||◌, ltb, eqb, get_or, replicate}
use Rattle.word.specs.Bits.{on, field_of}
use Rattle.cpu.specs.Control.{fresh_control}
use Rattle.cpu.specs.declared.Control.{Control}
use Rattle.instruction.specs.declared.Val.{Val}
use Rattle.machine.specs.declared.State.{State}

-- "Fresh: all zero and unmarked, HWDBG 3"
abbrev pub fresh_state : State
fresh_state = record { regs = replicate 16 0; marks = replicate 16 false; flags = record { tf = false; cy = false }; control = fresh_control }

-- a register's value and mark
abbrev pub value_at : State → ℕ → Val
value_at s i = record { value = get_or s.regs i 0; mark = get_or s.marks i false }

-- refusal 4, "state out of form: odd program counter; PSW bit 12 set; HWDBG bits 0, 1 not both set or a bit of 9 to 31 set; timer pending with TIMER
-- not 0"
unfoldable pub out_of_form : Control → Bool
out_of_form c =
    eqb (c.pc % 2) 1
    || on c.psw 12
    || not (eqb (field_of c.hwdbg 0 2) 3)
    || ltb 511 c.hwdbg
    || (c.pending && ltb 0 c.timer)
