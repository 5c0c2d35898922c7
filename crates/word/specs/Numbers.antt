-- Arithmetic of 32-bit words: document 01, "Instructions", and the guide's instruction tables.
-- Assumes nothing.
use Rattle.std.specs.Prelude.{ℕ, ◌+◌, ◌-◌, ◌*◌, ◌/◌, ◌%◌, ◌^◌, Bool, cond, ◌==◌, nat_le, nat_lt}
use Rattle.word.specs.Bits.{num, on}

-- "Arithmetic wraps modulo 2^32"
abbrev pub wrap : ℕ → ℕ
wrap n = n % 2 ^ 32

-- x + y + c, and "CY to the carry out"
abbrev pub sum_of : ℕ → ℕ → Bool → ℕ
sum_of x y c = wrap (x + y + num c)

abbrev pub carry_of : ℕ → ℕ → Bool → Bool
carry_of x y c = nat_le (2 ^ 32) (x + y + num c)

-- x - y - c, and "CY to the borrow"
abbrev pub difference_of : ℕ → ℕ → Bool → ℕ
difference_of x y c = wrap (x + 2 ^ 33 - (y + num c))

abbrev pub borrow_of : ℕ → ℕ → Bool → Bool
borrow_of x y c = nat_lt x (y + num c)

abbrev pub product_of : ℕ → ℕ → ℕ
product_of x y = wrap (x * y)

-- n bits at the top of a word, each of them the sign of x
abbrev pub signs : ℕ → ℕ → ℕ
signs x n = cond (on x 31) (2 ^ 32 - 2 ^ (32 - n)) 0

-- "Over 31: lsl, lsr give 0, asr gives 32 copies of the sign"
abbrev pub lsl_of : ℕ → ℕ → ℕ
lsl_of x n = cond (nat_lt 31 n) 0 (wrap (x * 2 ^ n))

abbrev pub lsr_of : ℕ → ℕ → ℕ
lsr_of x n = cond (nat_lt 31 n) 0 (x / 2 ^ n)

abbrev pub asr_of : ℕ → ℕ → ℕ
asr_of x n = cond (nat_lt 31 n) (signs x 32) (x / 2 ^ n + signs x n)

-- the order of the signed numbers that two words stand for
abbrev pub less_of : ℕ → ℕ → Bool
less_of x y = nat_lt (wrap (x + 2 ^ 31)) (wrap (y + 2 ^ 31))

-- of 2k patterns n, the number from -k to k - 1 that it stands for, modulo 2^32
abbrev pub signed_of : ℕ → ℕ → ℕ
signed_of k n = cond (nat_lt n k) n (n + 2 ^ 32 - (k + k))

-- the low w bits of n, sign extended: the guide's sxt
abbrev pub extend_of : ℕ → ℕ → ℕ
extend_of w n = signed_of (2 ^ (w - 1)) (n % 2 ^ w)

-- x, modulo 2^32, is a signed number of w bits: it is what its own low w bits stand for
abbrev pub fits_of : ℕ → ℕ → Bool
fits_of w x = extend_of w x == x
