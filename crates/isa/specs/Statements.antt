-- Words that the theorems of this crate are stated in (proofs/Theorems.antt has the statements).
-- Assumes nothing.
use Rattle.std.specs.Prelude.{ℕ, ◌/◌, ◌%◌, ◌≡◌, Bool, true, false, cond, ◌&&◌, ltb, leb, eqb, None, Option, Some}
use Rattle.isa.specs.Decode.{decode_of}
use Rattle.isa.specs.Encode.{encode_of}
use Rattle.isa.specs.declared.Instr.{Instr}
use Rattle.isa.specs.declared.Decoded.{Decoded}
use Rattle.isa.specs.declared.Encoded.{Encoded}

-- the encoder has bits
abbrev pub has_bits : Option Encoded → Bool
has_bits (Some (Encoded.Half h)) = true
has_bits (Some (Encoded.Pair h s)) = true
has_bits None = false

-- these bits decode to i, whatever half follows a short one
abbrev pub DecodesTo : Option Encoded → Instr → Type 0
DecodesTo (Some (Encoded.Half h)) i = (s : ℕ) → decode_of h s ≡ Some (Decoded.Short i)
DecodesTo (Some (Encoded.Pair h s)) i = decode_of h s ≡ Some (Decoded.Long i)
DecodesTo None i = Unit {0}

-- what h and s decode to has just these bits
abbrev pub EncodesTo : Option Decoded → ℕ → ℕ → Type 0
EncodesTo (Some (Decoded.Short i)) h s = encode_of i ≡ Some (Encoded.Half h)
EncodesTo (Some (Decoded.Long i)) h s = encode_of i ≡ Some (Encoded.Pair h s)
EncodesTo None h s = Unit {0}

-- the size in bytes, 0 where there is no instruction
abbrev pub size_of : Option Decoded → ℕ
size_of (Some (Decoded.Short i)) = 2
size_of (Some (Decoded.Long i)) = 4
size_of None = 0

-- Every first half that document 01 and the guide name, by its first byte n: the rest of the half, its low byte, or its low nibble for mfsfr,
-- is below a bound. 0 says that no half with this first byte is named: 0x00 to 0x07, udi0 to udi3, 0x11, 0x14 to 0x1b, 0x1f, 0xfc to 0xff.
abbrev pub low_part : ℕ → ℕ → ℕ
low_part n h = cond (eqb n 0x12) (h % 16) (h % 256)

abbrev pub bound_of : ℕ → ℕ
bound_of n =
    cond (ltb n 0x0c) 0
    (cond (ltb n 0x10) 256  -- lsli, lsri, asri, multi
    (cond (ltb n 0x11) 16  -- swint: 4 bits, 7:4 zero
    (cond (ltb n 0x12) 0
    (cond (ltb n 0x13) 11  -- mfsfr: SFR 0 to 10 in 3:0
    (cond (ltb n 0x14) 0xb0  -- mtsfr: SFR 0 to 10 in 7:4
    (cond (ltb n 0x1c) 0
    (cond (ltb n 0x1e) 16  -- jr, jrl: 7:4 zero
    (cond (ltb n 0x1f) 4  -- jsfr: SFR 0 to 3, 7:2 zero
    (cond (ltb n 0x20) 0
    (cond (ltb n 0xfc) 256 0))))))))))

abbrev pub named : ℕ → Bool
named h = ltb (low_part (h / 256) h) (bound_of (h / 256))

-- jf, jt, j and jl have four bytes: top six bits 111000, 111010, 111100, 111110
abbrev pub is_long : ℕ → Bool
is_long n = leb 0xe0 n && eqb (n / 4 % 2) 0

-- the size that a first half says
abbrev pub size_by : ℕ → ℕ
size_by h = cond (named h) (cond (is_long (h / 256)) 4 2) 0
