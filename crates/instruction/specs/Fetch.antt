-- The fetch of an instruction, or why it is not done (document 01: "first half outside, first half marked, not an instruction, second half outside, second
-- half marked"; "A program counter found odd inside a run answers 13, before all these"). What comes of that says crate machine, `halt_step`.
-- Assumes nothing.
use Rattle.std.specs.Prelude.{ℕ, cond, not, List, Err, None, Ok, Option, Result, Some}
use Rattle.word.specs.Addresses.{byte_sum, is_odd}
use Rattle.word.specs.Bytes.{bytes_of, inside, load_of}
use Rattle.word.specs.declared.ByteAddr.{ByteAddr}
use Rattle.word.specs.declared.Width.{Width}
use Rattle.isa.specs.Decode.{decode_of}
use Rattle.isa.specs.declared.Decoded.{Decoded}
use Rattle.marks.specs.Memory.{Marks, marked_at}
use Rattle.instruction.specs.declared.Halt.{Halt}
use Rattle.isa.specs.declared.Instr.{Instr}

-- the half at a, and the address of the half after it
unfoldable pub half_at : List ℕ → ByteAddr → ℕ
half_at m a = load_of Width.Half m a

abbrev pub after_half : ByteAddr → ByteAddr
after_half a = byte_sum a 2

-- a half at a is read: "outside", "marked", or what comes of it
abbrev pub guarded : ByteAddr → List ℕ → Marks → Result Instr Halt → Result Instr Halt
guarded a m k x =
    cond (not (inside m a (bytes_of Width.Half))) (Err Halt.FetchOutside)
    (cond (marked_at Width.Half k a) (Err Halt.FetchMarked) x)

-- what the halves decode to; b is where the second one is, which only an instruction of four bytes has
abbrev pub found : Option Decoded → ByteAddr → List ℕ → Marks → Result Instr Halt
found (Some (Decoded.Short i)) b m k = Ok i
found (Some (Decoded.Long i)) b m k = guarded b m k (Ok i)
found None b m k = Err Halt.NoInstruction

unfoldable pub fetch_of : ByteAddr → List ℕ → Marks → Result Instr Halt
fetch_of a m k =
    cond (is_odd a) (Err Halt.NoInstruction)
    (guarded a m k (found (decode_of (half_at m a) (half_at m (after_half a))) (after_half a) m k))
