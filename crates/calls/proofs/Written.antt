-- What the small program writes of two ends of runs, letter by letter.
-- Assumes nothing.
use Prim.Native.Nat.{ℕ}
use mathlib.Core.Path.{◌≡◌, refl}
use mathlib.Core.Bool.{true}
use lib.ListN.{set}
use Rattle.cpu.specs.Control.{fresh_control, with_pc}
use Rattle.marks.specs.declared.Flags.{Flags}
use Rattle.instruction.specs.declared.Reply.{Reply}
use Rattle.machine.specs.State.{fresh_state}
use Rattle.machine.specs.declared.Ended.{Ended}
use Rattle.text.specs.Digits.{digits_of, glyph_of, zeros_of}
use Rattle.text.specs.Words.{ascii}
use Rattle.answer.specs.Answer.{end_text, pc_text, register_line, register_text, registers_text, state_text, ended_text}

-- r1 is 0x20, r15 is marked, and the program counter is 4
abbrev pub example_end : Flags → ℕ → Reply → Ended
example_end f n r =
    record {
      state =
          record {
            regs = set fresh_state.regs 1 0x20;
            marks = set fresh_state.marks 15 true;
            flags = f;
            control = with_pc fresh_control (record { 0 = 4 });
          };
      steps = n;
      reply = r;
      cycles = 0;
    }

pub end_written : (f : Flags) → ended_text (example_end f 3 Reply.Budget) ≡ ascii "end\t10\t3\npc\t00000004\nr1\t00000020\nr15\t********\n"
unfolding ended_text end_text pc_text register_line register_text registers_text state_text digits_of glyph_of zeros_of with_pc
end_written f = refl

pub refusal_written : (f : Flags) → ended_text (example_end f 0 Reply.Form) ≡ ascii "end\t4\t0\n"
unfolding ended_text end_text digits_of glyph_of zeros_of
refusal_written f = refl
