-- The bits of an instruction decode to it.
-- Assumes nothing.
use Rattle.std.specs.Prelude.{Option, Some}
use mathlib.Core.Path.{◌≡◌, refl, ap, ◌∙◌}
use mathlib.Core.Bool.{Bool, true, false, ◌&&◌}
use Prim.Native.Nat.{ℕ, ◌+◌, ◌*◌, ◌/◌, ◌%◌, ◌^◌, ◌<◌}
use native.Mathlib.Omega.{arith}
use lib.Dec.{ltb, leb, lit<, lit≤}
use borrow.Author.Tests.{ltb-true}
use Rattle.word.specs.Numbers.{extend_of, fits_of}
use Rattle.word.specs.declared.HalfDisp.{HalfDisp}
use Rattle.word.proofs.Numbers.{extend_fits}
use Rattle.isa.specs.Codes.{kind_of, short_no, long_no}
use Rattle.isa.specs.Decode.{operands_of, decode_of, nib_b, nib_c, nib_d, imm8}
use Rattle.isa.specs.Encode.{only, nibs_of, nibs_signed, nibs_byte, nibs_signed_byte, encode_imm, encode_short, encode_long, encode_of}
use Rattle.isa.specs.Statements.{DecodesTo}
use Rattle.isa.specs.declared.ImmOp.{ImmOp}
use Rattle.isa.specs.declared.ShortOp.{ShortOp}
use Rattle.isa.specs.declared.LongOp.{LongOp}
use Rattle.isa.specs.declared.Kind.{Kind}
use Rattle.isa.specs.declared.Instr.{Instr}
use Rattle.isa.specs.declared.Decoded.{Decoded}
use Rattle.isa.specs.declared.Encoded.{Encoded}
use Rattle.isa.proofs.Codes as codes
use Rattle.isa.proofs.Codes.{Code}
use Rattle.isa.proofs.Rows.{and_left, and_right}

only_back : (t : Bool) (e : Option Encoded) (i : Instr) → (t ≡ true → DecodesTo e i) → DecodesTo (only t e) i
only_back true e i f = f refl
only_back false e i f = tt

module _ (a b c d : ℕ) (ha : a < 16) (hb : b < 16) (hc : c < 16) (hd : d < 16) where
  byte_of : (a * 4096 + b * 256 + c * 16 + d) / 256 ≡ a * 16 + b
  byte_of = omega arith

  b_of : (a * 4096 + b * 256 + c * 16 + d) / 256 % 16 ≡ b
  b_of = omega arith

  c_of : (a * 4096 + b * 256 + c * 16 + d) / 16 % 16 ≡ c
  c_of = omega arith

  d_of : (a * 4096 + b * 256 + c * 16 + d) % 16 ≡ d
  d_of = omega arith

-- a half of kind k, with b, c and d in its nibbles, is i
abbrev Means : Kind → ℕ → ℕ → ℕ → Instr → Type 0
Means k b c d i = (h s : ℕ) → nib_b h ≡ b → nib_c h ≡ c → nib_d h ≡ d → operands_of k h s ≡ Some (Decoded.Short i)

nibs_back : (a b c d : ℕ) (k : Kind) (i : Instr) → (b < 16 → Code a b k) → Means k b c d i → DecodesTo (nibs_of a b c d) i
unfolding nibs_of decode_of
nibs_back a b c d k i code f =
    only_back (ltb a 16 && ltb b 16 && ltb c 16 && ltb d 16) _ i λ t. λ s.
    let tc = and_left (ltb a 16 && ltb b 16 && ltb c 16) (ltb d 16) t in
    let tb = and_left (ltb a 16 && ltb b 16) (ltb c 16) tc in
    let ha = ltb-true a 16 (and_left (ltb a 16) (ltb b 16) tb) in
    let hb = ltb-true b 16 (and_right (ltb a 16) (ltb b 16) tb) in
    let hc = ltb-true c 16 (and_right (ltb a 16 && ltb b 16) (ltb c 16) tc) in
    let hd = ltb-true d 16 (and_right (ltb a 16 && ltb b 16 && ltb c 16) (ltb d 16) t) in
    let h : ℕ = a * 4096 + b * 256 + c * 16 + d in
    ap (λ (n : ℕ). operands_of (kind_of n) h s) (byte_of a b c d ha hb hc hd)
    ∙ ap (λ (q : Kind). operands_of q h s) (code hb).kind
    ∙ f h s (b_of a b c d ha hb hc hd) (c_of a b c d ha hb hc hd) (d_of a b c d ha hb hc hd)

signed_back : (b c x : ℕ) (k : Kind) (i : Instr) → Code 3 b k
    → ((h s : ℕ) → nib_c h ≡ c → extend_of 4 (nib_d h) ≡ x → operands_of k h s ≡ Some (Decoded.Short i)) → DecodesTo (nibs_signed b c x) i
unfolding nibs_signed
signed_back b c x k i code f =
    only_back (fits_of 4 x) _ i λ t. nibs_back 3 b c (x % 2 ^ 4) k i (λ _. code)
    λ h s eb ec ed. f h s ec (ap (λ (n : ℕ). extend_of 4 n) ed ∙ extend_fits 4 (lit< tt) (lit≤ tt) x t)

byte_back : (a c n : ℕ) (k : Kind) (i : Instr) → ((b : ℕ) → b < 16 → Code a b k)
    → ((h s : ℕ) → nib_c h ≡ c → imm8 h ≡ n → operands_of k h s ≡ Some (Decoded.Short i)) → DecodesTo (nibs_byte a c n) i
unfolding nibs_byte
byte_back a c n k i code f =
    only_back (ltb n 256) _ i λ t. nibs_back a (n / 16) c (n % 16) k i (code (n / 16))
    λ h s eb ec ed. f h s ec (omega arith)

signed_byte_back : (a c x : ℕ) (k : Kind) (i : Instr) → ((b : ℕ) → b < 16 → Code a b k)
    → ((h s : ℕ) → nib_c h ≡ c → extend_of 8 (imm8 h) ≡ x → operands_of k h s ≡ Some (Decoded.Short i)) → DecodesTo (nibs_signed_byte a c x) i
unfolding nibs_signed_byte
signed_byte_back a c x k i code f =
    only_back (fits_of 8 x) _ i λ t. byte_back a c (x % 2 ^ 8) k i code
    λ h s ec en. f h s ec (ap (λ (n : ℕ). extend_of 8 n) en ∙ extend_fits 8 (lit< tt) (lit≤ tt) x t)

short_back : (op : ShortOp) (d : HalfDisp) → DecodesTo (encode_short op d) (Instr.ShortJump op d)
unfolding encode_short decode_of operands_of
short_back op d =
    only_back (fits_of 10 d.0) _ _ λ t. λ s.
    let n : ℕ = d.0 % 2 ^ 10 in
    let h : ℕ = short_no op * 1024 + n in
    let e : h / 256 ≡ short_no op * 4 + n / 256 = omega arith in
    let r : h % 2 ^ 10 ≡ n % 2 ^ 10 = omega arith in
    ap (λ (m : ℕ). operands_of (kind_of m) h s) e
    ∙ ap (λ (k : Kind). operands_of k h s) (codes.short_jump_lem op (n / 256) (omega arith))
    ∙ ap (λ (m : ℕ). Some (Decoded.Short (Instr.ShortJump op (record { 0 = m }))))
    (ap (λ (m : ℕ). Rattle.word.specs.Numbers.signed_of 512 m) r ∙ extend_fits 10 (lit< tt) (lit≤ tt) d.0 t)

long_back : (op : LongOp) (d : HalfDisp) → DecodesTo (encode_long op d) (Instr.LongJump op d)
unfolding encode_long decode_of operands_of
long_back op d =
    only_back (fits_of 26 d.0) _ _ λ t.
    let n : ℕ = d.0 % 2 ^ 26 in
    let h : ℕ = long_no op * 1024 + n / 65536 in
    let e : h / 256 ≡ long_no op * 4 + n / 65536 / 256 = omega arith in
    let r : (h * 65536 + n % 65536) % 2 ^ 26 ≡ n % 2 ^ 26 = omega arith in
    ap (λ (m : ℕ). operands_of (kind_of m) h (n % 65536)) e
    ∙ ap (λ (k : Kind). operands_of k h (n % 65536)) (codes.long_jump_lem op (n / 65536 / 256) (omega arith))
    ∙ ap (λ (m : ℕ). Some (Decoded.Long (Instr.LongJump op (record { 0 = m }))))
    (ap (λ (m : ℕ). Rattle.word.specs.Numbers.signed_of 33554432 m) r ∙ extend_fits 26 (lit< tt) (lit≤ tt) d.0 t)

pub decodes : (i : Instr) → DecodesTo (encode_of i) i
unfolding encode_of encode_imm operands_of
decodes (Instr.Alu op c d) = nibs_back _ _ c d _ _ (λ _. codes.alu op) λ h s eb ec ed. rw (ec, ed)
decodes (Instr.ShiftImm op c d) = nibs_back _ _ c d _ _ (λ _. codes.shift op) λ h s eb ec ed. rw (ec, ed)
decodes (Instr.Cmp op c d) = nibs_back _ _ c d _ _ (λ _. codes.cmp op) λ h s eb ec ed. rw (ec, ed)
decodes (Instr.CmpImm op c x) = signed_back _ c x _ _ (codes.cmp_imm op) λ h s ec ex. rw (ec, ex)
decodes (Instr.Cond op t c d) = nibs_back _ _ c d _ _ (λ _. codes.conditional op t) λ h s eb ec ed. rw (ec, ed)
decodes (Instr.CondImm t c x) = signed_back _ c x _ _ (codes.conditional_imm t) λ h s ec ex. rw (ec, ex)
decodes (Instr.Ldrpc c n) = byte_back _ c n _ _ codes.ldrpc λ h s ec en. rw (ec, en)
decodes (Instr.Imm ImmOp.And c x) = byte_back _ c x _ _ (codes.imm ImmOp.And) λ h s ec en. rw (ec, en)
decodes (Instr.Imm ImmOp.Add c x) = signed_byte_back _ c x _ _ (codes.imm ImmOp.Add) λ h s ec en. rw (ec, en)
decodes (Instr.Imm ImmOp.Mov c x) = signed_byte_back _ c x _ _ (codes.imm ImmOp.Mov) λ h s ec en. rw (ec, en)
decodes (Instr.Load w c b d) = nibs_back _ b c d _ _ (codes.load w b) λ h s eb ec ed. rw (eb, ec, ed)
decodes (Instr.Store w c b d) = nibs_back _ b c d _ _ (codes.store w b) λ h s eb ec ed. rw (eb, ec, ed)
decodes (Instr.Mfsfr c d) =
    only_back (leb d 10) _ _ λ t. nibs_back _ _ c d _ _ (λ _. codes.mfsfr) λ h s eb ec ed. rw (ec, ed, t)
decodes (Instr.Mtsfr c d) =
    only_back (leb c 10) _ _ λ t. nibs_back _ _ c d _ _ (λ _. codes.mtsfr) λ h s eb ec ed. rw (ec, ed, t)
decodes (Instr.Jr d) = nibs_back _ _ 0 d _ _ (λ _. codes.jr) λ h s eb ec ed. rw (ec, ed)
decodes (Instr.Jrl d) = nibs_back _ _ 0 d _ _ (λ _. codes.jrl) λ h s eb ec ed. rw (ec, ed)
decodes (Instr.Jsfr d) =
    only_back (leb d 3) _ _ λ t. nibs_back _ _ 0 d _ _ (λ _. codes.jsfr) λ h s eb ec ed. rw (ec, ed, t)
decodes (Instr.Swint d) = nibs_back _ _ 0 d _ _ (λ _. codes.swint) λ h s eb ec ed. rw (ec, ed)
decodes (Instr.ShortJump op x) = short_back op x
decodes (Instr.LongJump op x) = long_back op x
