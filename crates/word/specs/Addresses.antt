-- "Displacements count halfwords and addresses count bytes" (document 01): two types, joined by the jump sum alone.
-- Assumes nothing.
use Rattle.std.specs.Prelude.{ℕ, ◌+◌, ◌*◌, ◌/◌, ◌%◌, Bool, ◌==◌}
use Rattle.word.specs.Numbers.{wrap}
use Rattle.word.specs.Bytes.{bytes_of}
use Rattle.word.specs.declared.ByteAddr.{ByteAddr}
use Rattle.word.specs.declared.HalfDisp.{HalfDisp}
use Rattle.word.specs.declared.Width.{Width}

-- a jump's target: its own address, and two bytes for each halfword
abbrev pub jump_sum : ByteAddr → HalfDisp → ByteAddr
jump_sum a d = record { 0 = wrap (a.0 + 2 * d.0) }

-- an address and a number of bytes
abbrev pub byte_sum : ByteAddr → ℕ → ByteAddr
byte_sum a n = record { 0 = wrap (a.0 + n) }

-- "Addresses are aligned down to the access size after the sum"
abbrev pub aligned_of : Width → ByteAddr → ByteAddr
aligned_of w a = record { 0 = a.0 / bytes_of w * bytes_of w }

abbrev pub is_odd : ByteAddr → Bool
is_odd a = a.0 % 2 == 1
