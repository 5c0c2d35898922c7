-- Parts that only the contracts of this crate's helpers cite. None is needed to say what the machine does; proofs/Laws.antt ties them to fetch_of and act_of.
-- Assumes nothing.
use Rattle.std.specs.Prelude.{ℕ, ◌/◌, Bool, true, false, cond, not, List, Err, None, Ok, Option, Result, Some}
use Rattle.word.specs.Addresses.{is_odd}
use Rattle.word.specs.Bytes.{bytes_of, inside, load_of}
use Rattle.word.specs.declared.ByteAddr.{ByteAddr}
use Rattle.word.specs.declared.Width.{Width}
use Rattle.isa.specs.Codes.{kind_of}
use Rattle.isa.specs.Decode.{operands_of}
use Rattle.isa.specs.declared.Kind.{Kind}
use Rattle.isa.specs.declared.Decoded.{Decoded}
use Rattle.isa.specs.declared.Instr.{Instr}
use Rattle.cpu.specs.Exec.{exec}
use Rattle.cpu.specs.declared.Control.{Control}
use Rattle.marks.specs.Marks.{with}
use Rattle.marks.specs.Memory.{Marks, marked_at}
use Rattle.marks.specs.declared.Flags.{Flags}
use Rattle.instruction.specs.Fetch.{half_at, after_half}
use Rattle.instruction.specs.declared.Val.{Val}
use Rattle.instruction.specs.declared.Halt.{Halt}
use Rattle.instruction.specs.declared.Reach.{Reach}
use Rattle.instruction.specs.declared.Act.{Act}
use Rattle.cpu.specs.declared.Effect.{Effect}
use Rattle.marks.specs.declared.Taint.{Taint}

-- a value and its mark, and the marks of TF and CY, which the code passes apart
abbrev pub val : ℕ → Bool → Val
val v m = record { value = v; mark = m }

abbrev pub flags : Bool → Bool → Flags
flags tf cy = record { tf = tf; cy = cy }

-- ---- a fetch in two parts: the first half, and the rest by its kind

-- the half at a, or why it cannot be read
unfoldable pub half_of : ByteAddr → List ℕ → Marks → Result ℕ Halt
half_of a m k =
    cond (not (inside m a (bytes_of Width.Half))) (Err Halt.FetchOutside)
    (cond (marked_at Width.Half k a) (Err Halt.FetchMarked) (Ok (half_at m a)))

unfoldable pub first_half : ByteAddr → List ℕ → Marks → Result ℕ Halt
first_half a m k = cond (is_odd a) (Err Halt.NoInstruction) (half_of a m k)

-- the kinds of four bytes
abbrev pub is_long_kind : Kind → Bool
is_long_kind Kind.Nothing = false
is_long_kind (Kind.Alu op) = false
is_long_kind (Kind.ShiftImm op) = false
is_long_kind (Kind.Cmp op) = false
is_long_kind (Kind.CmpImm op) = false
is_long_kind (Kind.Cond op t) = false
is_long_kind (Kind.CondImm t) = false
is_long_kind Kind.Ldrpc = false
is_long_kind (Kind.Imm op) = false
is_long_kind (Kind.Load w) = false
is_long_kind (Kind.Store w) = false
is_long_kind Kind.Mfsfr = false
is_long_kind Kind.Mtsfr = false
is_long_kind Kind.Jr = false
is_long_kind Kind.Jrl = false
is_long_kind Kind.Jsfr = false
is_long_kind Kind.Swint = false
is_long_kind (Kind.ShortJump op) = false
is_long_kind (Kind.LongJump op) = true

-- a second half, 0 for the kinds of two bytes
unfoldable pub second_half : Kind → ByteAddr → List ℕ → Marks → Result ℕ Halt
second_half d a m k = cond (is_long_kind d) (half_of a m k) (Ok 0)

abbrev pub decoded_to : Option Decoded → Result Instr Halt
decoded_to (Some (Decoded.Short i)) = Ok i
decoded_to (Some (Decoded.Long i)) = Ok i
decoded_to None = Err Halt.NoInstruction

abbrev pub by_second : Result ℕ Halt → Kind → ℕ → Result Instr Halt
by_second (Err r) d h = Err r
by_second (Ok s) d h = decoded_to (operands_of d h s)

-- the first half is h, at a, and of kind d
unfoldable pub rest_by : Kind → ℕ → ByteAddr → List ℕ → Marks → Result Instr Halt
rest_by d h a m k = by_second (second_half d (after_half a) m k) d h

-- the fetch by its first half
abbrev pub by_first : Result ℕ Halt → ByteAddr → List ℕ → Marks → Result Instr Halt
by_first (Err r) a m k = Err r
by_first (Ok h) a m k = rest_by (kind_of (h / 256)) h a m k

-- ---- a load of register d and a store, at an address

abbrev pub load_act : Width → ByteAddr → ℕ → Flags → Control → List ℕ → Marks → Act
load_act w a d f c m k =
    cond (not (inside m a (bytes_of w))) (Act.Halted Halt.DataOutside)
    (Act.Does (exec (Instr.Ldrpc d 0) 0 0 (load_of w m a) c) (with (marked_at w k a) f) (Reach.Reads w a))

abbrev pub store_act : Width → ByteAddr → Flags → Control → List ℕ → Act
store_act w a f c m =
    cond (not (inside m a (bytes_of w))) (Act.Halted Halt.DataOutside)
    (Act.Does (exec (Instr.Store Width.Byte 0 0 0) 0 0 0 c) (with false f) (Reach.Writes w a))
