-- What a line of known form says: the instruction or the data, its bits, and which values fit (document 02, ticket 4).
-- Assumes nothing.
use Rattle.std.specs.Prelude.{ℕ, ◌-◌, ◌/◌, ◌%◌, ◌^◌, false, cond, List, [], ◌∷◌, ltb, eqb, ℤ, pos, negsuc, None, Option, Some}
use Rattle.word.specs.Numbers.{difference_of, asr_of}
use Rattle.word.specs.Addresses.{aligned_of}
use Rattle.word.specs.Bytes.{bytes_of}
use Rattle.word.specs.declared.ByteAddr.{ByteAddr}
use Rattle.word.specs.declared.HalfDisp.{HalfDisp}
use Rattle.word.specs.declared.Width.{Width}
use Rattle.isa.specs.Encode.{only, encode_of}
use Rattle.isa.specs.declared.Instr.{Instr}
use Rattle.isa.specs.declared.Kind.{Kind}
use Rattle.isa.specs.declared.Decoded.{Decoded}
use Rattle.isa.specs.declared.Encoded.{Encoded}
use Rattle.forms.specs.declared.What.{What}

-- a value as 32 bits
unfoldable pub bits_of : ℤ → ℕ
bits_of (pos n) = n
bits_of (negsuc n) = 4294967295 - n

-- a number that is in no field's range: what doesn't fit its place
abbrev pub unfit : ℕ
unfit = 2 ^ 30

-- an offset counts accesses: "no multiple of the access size" fits nowhere
unfoldable pub scaled : Width → ℕ → ℕ
scaled w v = cond (eqb (v % bytes_of w) 0) (v / bytes_of w) unfit

-- a target's distance in halves from the jump's own address, modulo 2^32; an odd one fits nowhere
unfoldable pub halves_to : ByteAddr → ℕ → HalfDisp
halves_to a v = record { 0 = cond (eqb (difference_of v a.0 false % 2) 0) (asr_of (difference_of v a.0 false) 1) unfit }

-- an address's distance in words from the instruction's own, aligned down; one that is no multiple of 4 fits nowhere
unfoldable pub words_to : ByteAddr → ℕ → ℕ
words_to a v = cond (eqb (v % 4) 0) (difference_of v (aligned_of Width.Word a).0 false / 4) unfit

-- the instruction at a, with the numbers x, y, z of its register and SFR operands and the value v of its expression
unfoldable pub says_of : Kind → ByteAddr → ℕ → ℕ → ℕ → ℕ → Option Decoded
says_of Kind.Nothing a x y z v = None
says_of (Kind.Alu op) a x y z v = Some (Decoded.Short (Instr.Alu op x y))
says_of (Kind.ShiftImm op) a x y z v = Some (Decoded.Short (Instr.ShiftImm op x v))
says_of (Kind.Cmp op) a x y z v = Some (Decoded.Short (Instr.Cmp op x y))
says_of (Kind.CmpImm op) a x y z v = Some (Decoded.Short (Instr.CmpImm op x v))
says_of (Kind.Cond op t) a x y z v = Some (Decoded.Short (Instr.Cond op t x y))
says_of (Kind.CondImm t) a x y z v = Some (Decoded.Short (Instr.CondImm t x v))
says_of Kind.Ldrpc a x y z v = Some (Decoded.Short (Instr.Ldrpc x (words_to a v)))
says_of (Kind.Imm op) a x y z v = Some (Decoded.Short (Instr.Imm op x v))
says_of (Kind.Load w) a x y z v = Some (Decoded.Short (Instr.Load w x (scaled w v) z))
says_of (Kind.Store w) a x y z v = Some (Decoded.Short (Instr.Store w x (scaled w v) z))
says_of Kind.Mfsfr a x y z v = Some (Decoded.Short (Instr.Mfsfr x y))
says_of Kind.Mtsfr a x y z v = Some (Decoded.Short (Instr.Mtsfr x y))
says_of Kind.Jr a x y z v = Some (Decoded.Short (Instr.Jr x))
says_of Kind.Jrl a x y z v = Some (Decoded.Short (Instr.Jrl x))
says_of Kind.Jsfr a x y z v = Some (Decoded.Short (Instr.Jsfr x))
says_of Kind.Swint a x y z v = Some (Decoded.Short (Instr.Swint v))
says_of (Kind.ShortJump op) a x y z v = Some (Decoded.Short (Instr.ShortJump op (halves_to a v)))
says_of (Kind.LongJump op) a x y z v = Some (Decoded.Long (Instr.LongJump op (halves_to a v)))

-- "The encoder answers 'no instruction' .. exactly if a field is out of its range" (document 01): a value that doesn't fit its place
unfoldable pub bits_said : Option Decoded → Option Encoded
bits_said (Some (Decoded.Short i)) = encode_of i
bits_said (Some (Decoded.Long i)) = encode_of i
bits_said None = None

-- "`word` and `half` (0 to 65,535) for data"
unfoldable pub bits_at : What → ByteAddr → ℕ → ℕ → ℕ → ℕ → Option Encoded
bits_at (What.Code k) a x y z v = bits_said (says_of k a x y z v)
bits_at What.Half a x y z v = only (ltb v 65536) (Some (Encoded.Half v))
bits_at What.Word a x y z v = Some (Encoded.Pair (v / 65536) (v % 65536))

-- big-endian
unfoldable pub bytes_in : Option Encoded → List ℕ
bytes_in (Some (Encoded.Half h)) = h / 256 ∷ h % 256 ∷ []
bytes_in (Some (Encoded.Pair h s)) = h / 256 ∷ h % 256 ∷ s / 256 ∷ s % 256 ∷ []
bytes_in None = []
