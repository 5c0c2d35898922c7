-- Words that the theorems of this crate are stated in (proofs/Theorems.antt has the statements).
-- Assumes nothing.
use Rattle.std.specs.Prelude.{ℕ, List, Option, Some}
use Rattle.word.specs.declared.ByteAddr.{ByteAddr}
use Rattle.isa.specs.Decode.{decode_of}
use Rattle.isa.specs.declared.Instr.{Instr}
use Rattle.isa.specs.declared.Decoded.{Decoded}
use Rattle.isa.specs.declared.Encoded.{Encoded}
use Rattle.instruction.specs.Fetch.{half_at, after_half}

-- the half at a and the one after it, decoded
abbrev pub decoded_at : List ℕ → ByteAddr → Option Decoded
decoded_at m a = decode_of (half_at m a) (half_at m (after_half a))

-- d is instruction i, of two bytes or of four
pub data Is (i : Instr) : Option Decoded → Type 0 where
  short : Is i (Some (Decoded.Short i))
  long : Is i (Some (Decoded.Long i))

-- bits that stand at a
pub data At (m : List ℕ) (a : ByteAddr) : Option Encoded → Type 0 where
  two : At m a (Some (Encoded.Half (half_at m a)))
  four : At m a (Some (Encoded.Pair (half_at m a) (half_at m (after_half a))))
