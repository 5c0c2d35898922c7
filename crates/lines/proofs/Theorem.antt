-- Document 01's sixteen lines hold: one statement, by computation over the table.
-- Assumes nothing.
use Prim.Native.Nat.{ℕ}
use mathlib.Core.Path.{◌≡◌, refl}
use mathlib.Core.List.{map}
use native.Mathlib.Nat.{div-one}
use Rattle.word.specs.Bits.{put}
use Rattle.isa.specs.Codes.{kind_of}
use Rattle.isa.specs.Decode.{operands_of, decode_of}
use Rattle.cpu.specs.Control.{with_pc, with_sfr}
use Rattle.cpu.specs.Exec.{onward, linked, jump, branch, alu_of, carried, cmp_of, makes, exec, data_address}
use Rattle.cpu.specs.Cycles.{cost_of}
use Rattle.instruction.specs.Act.{reach_of}
use Rattle.lines.specs.Lines.{Line, lines, sixteen}

-- There are sixteen lines, numbered 1 to 16, and each gives what the document says.
pub sixteen_lines : (x : ℕ)
    → (map (λ (l : Line). l.number) (lines x) ≡ sixteen)
    × (map (λ (l : Line). l.given) (lines x) ≡ map (λ (l : Line). l.says) (lines x))
unfolding decode_of operands_of kind_of alu_of carried cmp_of exec makes cost_of onward linked jump branch reach_of data_address with_pc with_sfr put
sixteen_lines x = (refl, rw (div-one x))
