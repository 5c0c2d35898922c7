-- The encoder has bits for an instruction exactly if its fields are in range.
-- Assumes nothing.
use Rattle.std.specs.Prelude.{Option, Some}
use mathlib.Core.Path.{◌≡◌, refl, ◌∙◌}
use mathlib.Core.Bool.{Bool, true, false, ◌&&◌, and-true}
use Prim.Native.Nat.{ℕ, ◌+◌, ◌*◌, ◌/◌, ◌%◌, ◌^◌, ◌<◌}
use native.Mathlib.Omega.{arith}
use lib.Dec.{ltb, leb, lit<}
use borrow.Author.Tests.{lt-ltb, ltb-true, leb-true}
use Rattle.word.specs.Numbers.{fits_of}
use Rattle.isa.specs.Codes.{load_no, store_no}
use Rattle.isa.specs.Encode.{only, nibs_of, nibs_signed, nibs_byte, nibs_signed_byte, encode_imm, encode_short, encode_long, encode_of}
use Rattle.isa.specs.Range.{nib, in_range}
use Rattle.isa.specs.Statements.{has_bits}
use Rattle.isa.specs.declared.ImmOp.{ImmOp}
use Rattle.isa.specs.declared.Kind.{Kind}
use Rattle.isa.specs.declared.Instr.{Instr}
use Rattle.isa.specs.declared.Encoded.{Encoded}
use Rattle.isa.proofs.Codes as codes
use Rattle.isa.proofs.Codes.{Code}

only_bits : (t : Bool) (e : Option Encoded) (r : Bool) → (t ≡ true → has_bits e ≡ r) → has_bits (only t e) ≡ (t && r)
only_bits true e r f = f refl
only_bits false e r f = refl

nibs_bits : (a b c d : ℕ) → a < 16 → has_bits (nibs_of a b c d) ≡ (nib b && nib c && nib d)
unfolding nibs_of
nibs_bits a b c d ha =
    rw (lt-ltb a 16 ha)
    (only_bits (nib b && nib c && nib d) (Some (Encoded.Half (a * 4096 + b * 256 + c * 16 + d))) true (λ _. refl) ∙ and-true (nib b && nib c && nib d))

-- two operands, or one beside a nibble that is in range
two_bits : {a b : ℕ} {k : Kind} (c d : ℕ) → Code a b k → has_bits (nibs_of a b c d) ≡ (nib c && nib d)
two_bits {a} {b} c d k = nibs_bits a b c d k.first ∙ rw (lt-ltb b 16 k.second)

one_bits : {a b : ℕ} {k : Kind} (c d : ℕ) → Code a b k → d < 16 → has_bits (nibs_of a b c d) ≡ nib c
one_bits c d k hd = two_bits c d k ∙ rw (lt-ltb d 16 hd) (and-true (nib c))

last_bits : {b : ℕ} {k : Kind} (d : ℕ) → Code 1 b k → has_bits (nibs_of 1 b 0 d) ≡ nib d
last_bits d k = two_bits 0 d k

signed_bits : {b : ℕ} {k : Kind} (c x : ℕ) → Code 3 b k → has_bits (nibs_signed b c x) ≡ (fits_of 4 x && nib c)
unfolding nibs_signed
signed_bits c x k = only_bits (fits_of 4 x) _ _ (λ _. one_bits c (x % 2 ^ 4) k (omega arith))

-- an immediate of eight bits lies in two nibbles
byte_bits : {a : ℕ} {k : Kind} (c n : ℕ) → ((b : ℕ) → b < 16 → Code a b k) → has_bits (nibs_byte a c n) ≡ (ltb n 256 && nib c)
unfolding nibs_byte
byte_bits c n k =
    only_bits (ltb n 256) _ _ λ t.
    let h : n < 256 = ltb-true n 256 t in
    one_bits c (n % 16) (k (n / 16) (omega arith)) (omega arith)

signed_byte_bits : {a : ℕ} {k : Kind} (c x : ℕ) → ((b : ℕ) → b < 16 → Code a b k) → has_bits (nibs_signed_byte a c x) ≡ (fits_of 8 x && nib c)
unfolding nibs_signed_byte
signed_byte_bits c x k =
    only_bits (fits_of 8 x) _ _ λ _. byte_bits c (x % 2 ^ 8) k ∙ rw (lt-ltb (x % 2 ^ 8) 256 (omega arith))

-- a bound that keeps the number below 16 leaves the other operand's test
sfr_bits : {b : ℕ} {k : Kind} (c d : ℕ) → Code 1 b k → has_bits (only (leb d 10) (nibs_of 1 b c d)) ≡ (leb d 10 && nib c)
sfr_bits c d k = only_bits (leb d 10) _ _ λ t. one_bits c d k (let h = leb-true d 10 t in omega arith)

pub exactly : (i : Instr) → has_bits (encode_of i) ≡ in_range i
unfolding encode_of in_range encode_imm encode_short encode_long
exactly (Instr.Alu op c d) = two_bits c d (codes.alu op)
exactly (Instr.ShiftImm op c d) = two_bits c d (codes.shift op)
exactly (Instr.Cmp op c d) = two_bits c d (codes.cmp op)
exactly (Instr.CmpImm op c x) = signed_bits c x (codes.cmp_imm op)
exactly (Instr.Cond op t c d) = two_bits c d (codes.conditional op t)
exactly (Instr.CondImm t c x) = signed_bits c x (codes.conditional_imm t)
exactly (Instr.Ldrpc c n) = byte_bits c n codes.ldrpc
exactly (Instr.Imm ImmOp.And c x) = byte_bits c x (codes.imm ImmOp.And)
exactly (Instr.Imm ImmOp.Add c x) = signed_byte_bits c x (codes.imm ImmOp.Add)
exactly (Instr.Imm ImmOp.Mov c x) = signed_byte_bits c x (codes.imm ImmOp.Mov)
exactly (Instr.Load w c b d) = nibs_bits (load_no w) b c d (codes.load w 0 (lit< tt)).first
exactly (Instr.Store w c b d) = nibs_bits (store_no w) b c d (codes.store w 0 (lit< tt)).first
exactly (Instr.Mfsfr c d) = sfr_bits c d codes.mfsfr
exactly (Instr.Mtsfr c d) =
    only_bits (leb c 10) _ _ λ t. two_bits c d codes.mtsfr ∙ rw (lt-ltb c 16 (let h = leb-true c 10 t in omega arith))
exactly (Instr.Jr d) = last_bits d codes.jr
exactly (Instr.Jrl d) = last_bits d codes.jrl
exactly (Instr.Jsfr d) =
    only_bits (leb d 3) _ true (λ t. last_bits d codes.jsfr ∙ lt-ltb d 16 (let h = leb-true d 3 t in omega arith)) ∙ and-true _
exactly (Instr.Swint d) = last_bits d codes.swint
exactly (Instr.ShortJump op x) = only_bits (fits_of 10 x.0) _ true (λ _. refl) ∙ and-true _
exactly (Instr.LongJump op x) = only_bits (fits_of 26 x.0) _ true (λ _. refl) ∙ and-true _
