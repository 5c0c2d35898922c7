-- One instruction with marks: where it reaches, and "operand marked, data outside", or all that it does (document 01, "Replies of a run").
-- Assumes nothing.
use Rattle.std.specs.Prelude.{ℕ, Bool, false, cond, not, List}
use Rattle.word.specs.Bytes.{bytes_of, inside, load_of}
use Rattle.word.specs.declared.Width.{Width}
use Rattle.isa.specs.declared.Instr.{Instr}
use Rattle.cpu.specs.Control.{tf}
use Rattle.cpu.specs.Exec.{exec, data_address}
use Rattle.cpu.specs.declared.Control.{Control}
use Rattle.marks.specs.Marks.{taint, blocked}
use Rattle.marks.specs.Memory.{Marks, marked_at}
use Rattle.marks.specs.declared.Flags.{Flags}
use Rattle.instruction.specs.declared.Val.{Val}
use Rattle.instruction.specs.declared.Halt.{Halt}
use Rattle.instruction.specs.declared.Reach.{Reach}
use Rattle.instruction.specs.declared.Act.{Act}

-- what an instruction reaches beside the registers: nothing, memory, or the entry of a swint
unfoldable pub reach_of : Instr → ℕ → Control → Reach
reach_of (Instr.Alu op d b) y c = Reach.Nowhere
reach_of (Instr.ShiftImm op d n) y c = Reach.Nowhere
reach_of (Instr.Cmp op d b) y c = Reach.Nowhere
reach_of (Instr.CmpImm op d n) y c = Reach.Nowhere
reach_of (Instr.Cond op t d b) y c = Reach.Nowhere
reach_of (Instr.CondImm t d n) y c = Reach.Nowhere
reach_of (Instr.Ldrpc d n) y c = Reach.Reads Width.Word (data_address Width.Word c.pc n)
reach_of (Instr.Imm op d n) y c = Reach.Nowhere
reach_of (Instr.Load w d n b) y c = Reach.Reads w (data_address w y n)
reach_of (Instr.Store w d n b) y c = Reach.Writes w (data_address w y n)
reach_of (Instr.Mfsfr d n) y c = Reach.Nowhere
reach_of (Instr.Mtsfr n b) y c = Reach.Nowhere
reach_of (Instr.Jr b) y c = Reach.Nowhere
reach_of (Instr.Jrl b) y c = Reach.Nowhere
reach_of (Instr.Jsfr n) y c = Reach.Nowhere
reach_of (Instr.Swint n) y c = Reach.Raises n
reach_of (Instr.ShortJump op d) y c = Reach.Nowhere
reach_of (Instr.LongJump op d) y c = Reach.Nowhere

abbrev pub outside : Reach → List ℕ → Bool
outside Reach.Nowhere m = false
outside (Reach.Reads w a) m = not (inside m a (bytes_of w))
outside (Reach.Writes w a) m = not (inside m a (bytes_of w))
outside (Reach.Raises n) m = false

-- what is loaded, and whether a byte of it is marked
abbrev pub loaded_from : Reach → List ℕ → ℕ
loaded_from Reach.Nowhere m = 0
loaded_from (Reach.Reads w a) m = load_of w m a
loaded_from (Reach.Writes w a) m = 0
loaded_from (Reach.Raises n) m = 0

abbrev pub loaded_mark : Reach → Marks → Bool
loaded_mark Reach.Nowhere k = false
loaded_mark (Reach.Reads w a) k = marked_at w k a
loaded_mark (Reach.Writes w a) k = false
loaded_mark (Reach.Raises n) k = false

-- what it does, x and y its operands; y is the base, the target or the source whose mark the rules test
unfoldable pub act_of : Instr → Val → Val → Flags → Control → List ℕ → Marks → Act
act_of i x y f c m k =
    cond (blocked i y.mark f) (Act.Halted Halt.MarkedOperand)
    (cond (outside (reach_of i y.value c) m) (Act.Halted Halt.DataOutside)
    (Act.Does (exec i x.value y.value (loaded_from (reach_of i y.value c) m) c)
    (taint i x.mark y.mark (loaded_mark (reach_of i y.value c) k) (tf c) f)
    (reach_of i y.value c)))
