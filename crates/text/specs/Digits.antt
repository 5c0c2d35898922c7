-- Digits and numbers (document 01, "Written form in our tools": "lower-case hex", "decimals without leading zeros"), once over the base.
-- Assumes nothing.
use Rattle.std.specs.Prelude.{ℕ, zero, suc, ◌+◌, ◌-◌, ◌*◌, ◌/◌, ◌%◌, ◌^◌, Bool, true, cond, ◌&&◌, List, [], ◌∷◌, ◌++◌, ltb, leb, eqb, length, get_or, drop, None, Option, Some}
use Rattle.text.specs.Words.{ascii}

-- what a byte is worth as a digit, `0` to `9` and `a` to `f`; 16 for any other byte
unfoldable pub value_of : ℕ → ℕ
value_of c = cond (ltb c 48) 16 (cond (ltb c 58) (c - 48) (cond (ltb c 97) 16 (cond (ltb c 103) (c - 87) 16)))

-- the digit of a number below 16
unfoldable pub glyph_of : ℕ → ℕ
glyph_of d = cond (ltb d 10) (48 + d) (87 + d)

-- the sixteen of them
abbrev pub glyphs : List ℕ
glyphs = ascii "0123456789abcdef"

-- the number that digits of a base write after v, or nothing if a byte is no such digit
unfoldable pub digits_read : ℕ → ℕ → List ℕ → Option ℕ
digits_read base v [] = Some v
digits_read base v (c ∷ l) = cond (ltb (value_of c) base) (digits_read base (v * base + value_of c) l) None

-- how many digits of a base lead, of the first n bytes
unfoldable pub digits_in : ℕ → ℕ → List ℕ → ℕ
digits_in base zero l = 0
digits_in base (suc n) [] = 0
digits_in base (suc n) (c ∷ l) = cond (ltb (value_of c) base) (suc (digits_in base n l)) 0

-- the last w digits of n in a base, the highest first
unfoldable pub digits_of : ℕ → ℕ → ℕ → List ℕ
digits_of base zero n = []
digits_of base (suc w) n = digits_of base w (n / base) ++ (glyph_of (n % base) ∷ [])

-- ---- decimals: "1 to 5 digits", none of them a leading zero

abbrev pub leading_zero : List ℕ → Bool
leading_zero l = ltb 1 (length l) && eqb (get_or l 0 0) 48

abbrev pub is_short : List ℕ → Bool
is_short l = leb 1 (length l) && leb (length l) 5

abbrev pub decimal_of : List ℕ → Option ℕ
decimal_of l = cond (is_short l) (cond (leading_zero l) None (digits_read 10 0 l)) None

-- how many zeros lead, before the last digit
unfoldable pub zeros_of : List ℕ → ℕ
zeros_of [] = 0
zeros_of (c ∷ []) = 0
zeros_of (c ∷ d ∷ l) = cond (eqb c 48) (suc (zeros_of (d ∷ l))) 0

-- ---- hex: an address, "8 hex digits", and bytes, two digits each

abbrev pub address_of : List ℕ → Option ℕ
address_of l = cond (eqb (length l) 8) (digits_read 16 0 l) None

unfoldable pub are_hex : List ℕ → Bool
are_hex [] = true
are_hex (c ∷ l) = ltb (value_of c) 16 && are_hex l

-- the byte of two digits
abbrev pub pair_of : ℕ → ℕ → ℕ
pair_of c d = (value_of c * 16 + value_of d) % 256

abbrev pub hex_text : ℕ → List ℕ
hex_text n = digits_of 16 8 n

-- "decimals without leading zeros"; twenty digits hold every 64-bit number
abbrev pub decimal_text : ℕ → List ℕ
decimal_text n = drop (zeros_of (digits_of 10 20 n)) (digits_of 10 20 n)

-- a half: four digits
abbrev pub half_text : ℕ → List ℕ
half_text n = digits_of 16 4 n

-- "signed decimals": of 32 bits, a number from 2^31 on is the one that is 2^32 below it
unfoldable pub signed_text : ℕ → List ℕ
signed_text n = cond (ltb n (2 ^ 31)) (decimal_text n) (45 ∷ decimal_text (2 ^ 32 - n))
