-- Document 01's "Instructions" in other words than the definitions': by bits, by numbers, or by another instruction. Each theorem has its statement here; read this
-- file alone with specs/. In all of them x is the value of Rd, y that of Rb and v what the instruction loads, as far as it reads them, and c the control part
-- before it.
-- Assumes nothing.
use Prim.Native.Nat.{ℕ, ◌+◌, ◌*◌, ◌-◌, ◌%◌, ◌^◌, ◌≤◌, ◌<◌}
use mathlib.Core.Path.{◌≡◌, refl, sym, ap, ◌∙◌}
use mathlib.Core.Bool.{Bool, true, false, cond, not, xor, ◌&&◌, ◌||◌}
use mathlib.Core.List.{List}
use mathlib.Core.Logic.{◌↔◌}
use native.Mathlib.Nat.{mod-lt}
use native.Mathlib.Omega.{arith}
use lib.Dec.{ltb, leb, eqb}
use lib.ListN.{length, get_or}
use lib.Pow.{pow_pos}
use borrow.Author.Tests.{leb-true, le-leb, eqb-true, eq-eqb}
use Rattle.word.specs.Bits.{num}
use Rattle.word.specs.Numbers.{less_of}
use Rattle.word.specs.Bytes.{bytes_of, load_of, store_of}
use Rattle.word.specs.declared.ByteAddr.{ByteAddr}
use Rattle.word.specs.declared.HalfDisp.{HalfDisp}
use Rattle.word.specs.declared.Width.{Width}
use Rattle.isa.specs.declared.AluOp.{AluOp}
use Rattle.isa.specs.declared.ShiftOp.{ShiftOp}
use Rattle.isa.specs.declared.CmpOp.{CmpOp}
use Rattle.isa.specs.declared.CmpImmOp.{CmpImmOp}
use Rattle.isa.specs.declared.CondOp.{CondOp}
use Rattle.isa.specs.declared.ImmOp.{ImmOp}
use Rattle.isa.specs.declared.ShortOp.{ShortOp}
use Rattle.isa.specs.declared.LongOp.{LongOp}
use Rattle.isa.specs.declared.Instr.{Instr}
use Rattle.isa.specs.Decode.{decode_of}
use Rattle.cpu.specs.Control.{with_pc, with_sfr, with_pending, sfr_of}
use Rattle.cpu.specs.Exec.{exec, makes, onward, go_to, linked, jump, alu_of, carried, shift_of, cmp_of, cmp_imm_of, cond_of, imm_value, accepted, timer_written, written, data_address}
use Rattle.cpu.specs.declared.Control.{Control}
use Rattle.cpu.specs.declared.Effect.{Effect}
use Rattle.values.specs.Words.{bit, lsl_bit, lsr_bit, asr_bit, extend_bit, exchange_bit, Shifts, Wraps, Sums, Differs, carry_in, Below, imm_plain, cond_plain, cmp_plain, touched, RdOf, Leaves, Numbered, ignored, Jumps, Branches, Drops, byte_no, AlignedDown}
use Rattle.values.proofs.Bits.{bit_mod, bit_and_lem, bit_or_lem, bit_xor_lem, put_else, as_number, same_bits}
use Rattle.values.proofs.Sums.{wraps, drops, sum_whole, difference_whole, tells, less_below, below_less, same, other}
use Rattle.values.proofs.Places.{alu_bits, psw_bits, hwdbg_bits, written_plain, accepted_is, leave_bits}
use Rattle.values.proofs.Touches.{leaves_rest, next_is, wrote_is, branches}
use Rattle.values.proofs.Rd.{rd_is}
use Rattle.values.proofs.Memory.{byte_loaded, half_loaded, word_loaded, byte_stored, aligned_down}
use Rattle.values.proofs.Shifts.{lsl_bits, lsr_bits, asr_bits, extend_bits, exchange_bits}

-- 0. A number is determined by its bits, so what is said below of every bit determines the value.
pub bits_determine : (x y : ℕ) → ((j : ℕ) → bit x j ≡ bit y j) → x ≡ y
bits_determine = same_bits

-- 1. Shifts, for every amount: "Over 31: lsl, lsr give 0, asr gives 32 copies of the sign".
pub lsl_by_bits : Shifts lsl_bit AluOp.Lsl ShiftOp.Lsl
unfolding exec makes alu_of shift_of
lsl_by_bits = record { by_register = λ d b x y v c hx j. lsl_bits x (y % 64) j; by_immediate = λ d n x y v c hx j. lsl_bits x n j }

pub lsr_by_bits : Shifts lsr_bit AluOp.Lsr ShiftOp.Lsr
unfolding exec makes alu_of shift_of
lsr_by_bits = record { by_register = λ d b x y v c hx j. lsr_bits x hx (y % 64) j; by_immediate = λ d n x y v c hx j. lsr_bits x hx n j }

pub asr_by_bits : Shifts asr_bit AluOp.Asr ShiftOp.Asr
unfolding exec makes alu_of shift_of
asr_by_bits = record { by_register = λ d b x y v c hx j. asr_bits x hx (y % 64) j; by_immediate = λ d n x y v c hx j. asr_bits x hx n j }

module _ (d b x y v : ℕ) (c : Control) (hx : x < 2 ^ 32) (hy : y < 2 ^ 32) where
  abbrev alu : AluOp → Effect
  alu op = exec (Instr.Alu op d b) x y v c

  abbrev cmp : CmpOp → Effect
  cmp op = exec (Instr.Cmp op d b) x y v c

  -- 2. Sums and differences: "add, addc set CY to the carry out; sub, subc set CY to the borrow" ..
  pub add_sums : Sums (alu AluOp.Add) (x + y)
  unfolding exec makes alu_of carried onward with_pc with_sfr
  add_sums =
      let z : x + y + 0 ≡ x + y = omega arith in
      record { word = mod-lt (x + y + 0) (pow_pos 32); whole = sum_whole c.psw x y false hx hy ∙ z }

  pub addc_sums : Sums (alu AluOp.Addc) (x + y + carry_in c)
  unfolding exec makes alu_of carried onward with_pc with_sfr
  addc_sums =
      let k : Bool = bit c.psw 9 in
      record {
        word = mod-lt (x + y + num k) (pow_pos 32);
        whole = sum_whole c.psw x y k hx hy ∙ ap (λ (n : ℕ). x + y + n) (sym (as_number c.psw 9 k refl));
      }

  pub sub_differs : Differs (alu AluOp.Sub) x y
  unfolding exec makes alu_of carried onward with_pc with_sfr
  sub_differs =
      let z : y + 0 ≡ y = omega arith in
      record {
        word = mod-lt (x + 2 ^ 33 - (y + 0)) (pow_pos 32);
        whole = ap (λ (n : ℕ). (x + 2 ^ 33 - (y + 0)) % 2 ^ 32 + n) (sym z) ∙ difference_whole c.psw x y false hx hy;
      }

  pub subc_differs : Differs (alu AluOp.Subc) x (y + carry_in c)
  unfolding exec makes alu_of carried onward with_pc with_sfr
  subc_differs =
      let k : Bool = bit c.psw 9 in
      record {
        word = mod-lt (x + 2 ^ 33 - (y + num k)) (pow_pos 32);
        whole =
            ap (λ (n : ℕ). (x + 2 ^ 33 - (y + num k)) % 2 ^ 32 + (y + n)) (as_number c.psw 9 k refl)
            ∙ difference_whole c.psw x y k hx hy;
      }

  -- .. and no other bit of PSW.
  pub alu_keeps : (op : AluOp) (j : ℕ) → (j ≡ 9 → ⊥) → bit (alu op).control.psw j ≡ bit c.psw j
  unfolding exec makes onward with_pc
  alu_keeps op j h = alu_bits op x y c j h

  -- 3. Products, by a register and by an immediate.
  pub mult_wraps : Wraps (alu AluOp.Mult).value (x * y)
  unfolding exec makes alu_of
  mult_wraps = wraps (x * y)

  pub multi_wraps : (n : ℕ) → Wraps (exec (Instr.ShiftImm ShiftOp.Mult d n) x y v c).value (x * n)
  unfolding exec makes shift_of
  multi_wraps n = wraps (x * n)

  -- 4. Logic, for every bit.
  pub and_by_bits : (j : ℕ) → bit (alu AluOp.And).value j ≡ (bit x j && bit y j)
  unfolding exec makes alu_of
  and_by_bits j = bit_and_lem x y j

  pub or_by_bits : (j : ℕ) → bit (alu AluOp.Or).value j ≡ (bit x j || bit y j)
  unfolding exec makes alu_of
  or_by_bits j = bit_or_lem x y j

  pub xor_by_bits : (j : ℕ) → bit (alu AluOp.Xor).value j ≡ xor (bit x j) (bit y j)
  unfolding exec makes alu_of
  xor_by_bits j = bit_xor_lem x y j

  -- 5. Moves and extensions.
  pub mov_is : (alu AluOp.Mov).value ≡ y
  unfolding exec makes alu_of
  mov_is = refl

  pub sxb_by_bits : (j : ℕ) → bit (alu AluOp.Sxb).value j ≡ extend_bit 8 y j
  unfolding exec makes alu_of
  sxb_by_bits j = extend_bits 8 (omega arith) (omega arith) y j

  pub sxh_by_bits : (j : ℕ) → bit (alu AluOp.Sxh).value j ≡ extend_bit 16 y j
  unfolding exec makes alu_of
  sxh_by_bits j = extend_bits 16 (omega arith) (omega arith) y j

  pub zxh_by_bits : (j : ℕ) → bit (alu AluOp.Zxh).value j ≡ (ltb j 16 && bit y j)
  unfolding exec makes alu_of
  zxh_by_bits j = bit_mod y 16 j

  pub xhw_by_bits : (j : ℕ) → bit (alu AluOp.Xhw).value j ≡ exchange_bit y j
  unfolding exec makes alu_of
  xhw_by_bits j = exchange_bits y j hy

  -- 6. Compares: TF (bit 8 of PSW) tells the order of the numbers, or of the signed numbers ..
  pub eq_tells : (bit (cmp CmpOp.Eq).control.psw 8 ≡ true) ↔ (x ≡ y)
  unfolding exec makes cmp_of onward with_pc with_sfr
  eq_tells = tells c.psw (eqb x y) (x ≡ y) (eqb-true x y) (eq-eqb x y)

  pub hs_tells : (bit (cmp CmpOp.Hs).control.psw 8 ≡ true) ↔ (y ≤ x)
  unfolding exec makes cmp_of onward with_pc with_sfr
  hs_tells = tells c.psw (leb y x) (y ≤ x) (leb-true y x) (le-leb y x)

  pub ls_tells : (bit (cmp CmpOp.Ls).control.psw 8 ≡ true) ↔ (x ≤ y)
  unfolding exec makes cmp_of onward with_pc with_sfr
  ls_tells = tells c.psw (leb x y) (x ≤ y) (leb-true x y) (le-leb x y)

  pub lt_tells : (bit (cmp CmpOp.Lt).control.psw 8 ≡ true) ↔ Below x y
  unfolding exec makes cmp_of onward with_pc with_sfr
  lt_tells = tells c.psw (less_of x y) (Below x y) (less_below x y hx hy) (below_less x y hx hy)

  pub gt_tells : (bit (cmp CmpOp.Gt).control.psw 8 ≡ true) ↔ Below y x
  unfolding exec makes cmp_of onward with_pc with_sfr
  gt_tells = tells c.psw (less_of y x) (Below y x) (less_below y x hy hx) (below_less y x hy hx)

  -- .. and no other bit of PSW changes.
  pub cmp_keeps : (op : CmpOp) (j : ℕ) → (j ≡ 8 → ⊥) → bit (cmp op).control.psw j ≡ bit c.psw j
  unfolding exec makes onward with_pc with_sfr
  cmp_keeps op j h = put_else c.psw 8 (cmp_of op x y) j h

-- 7. An instruction by an immediate n, which is extended already, does what the one of the same name does by a register with n in Rb; but addi leaves PSW (11).
module _ (d b n x y v : ℕ) (c : Control) where
  pub immediate_as_register : (op : ImmOp) → (exec (Instr.Imm op d n) x y v c).value ≡ (exec (Instr.Alu (imm_plain op) d b) x n v c).value
  unfolding exec makes imm_value alu_of
  immediate_as_register ImmOp.And = refl
  immediate_as_register ImmOp.Add = refl
  immediate_as_register ImmOp.Mov = refl

  pub compare_as_register : (op : CmpImmOp) → (exec (Instr.CmpImm op d n) x y v c).control ≡ (exec (Instr.Cmp (cmp_plain op) d b) x n v c).control
  unfolding exec makes cmp_imm_of cmp_of
  compare_as_register CmpImmOp.Eq = refl
  compare_as_register CmpImmOp.Lt = refl
  compare_as_register CmpImmOp.Gt = refl

-- 8. Conditional instructions: if TF is the t that they want, the value of the instruction of the same name without a condition; otherwise "Rd keeps value". They leave
-- PSW (11).
module _ (d b n x y v : ℕ) (c : Control) (t : Bool) where
  pub wanted : bit c.psw 8 ≡ t → (op : CondOp) → (exec (Instr.Cond op t d b) x y v c).value ≡ (exec (Instr.Alu (cond_plain op) d b) x y v c).value
  unfolding exec makes cond_of alu_of
  wanted e CondOp.Mov = rw (e, same t)
  wanted e CondOp.Sub = rw (e, same t)
  wanted e CondOp.Add = rw (e, same t)

  pub wanted_immediate : bit c.psw 8 ≡ t → (exec (Instr.CondImm t d n) x y v c).value ≡ (exec (Instr.Alu AluOp.Add d b) x n v c).value
  unfolding exec makes alu_of
  wanted_immediate e = rw (e, same t)

  pub unwanted : bit c.psw 8 ≡ not t → (op : CondOp) → (exec (Instr.Cond op t d b) x y v c).value ≡ x
  unfolding exec makes
  unwanted e op = rw (e, other t)

  pub unwanted_immediate : bit c.psw 8 ≡ not t → (exec (Instr.CondImm t d n) x y v c).value ≡ x
  unfolding exec makes
  unwanted_immediate e = rw (e, other t)

-- 9. The value of a load is what it loads (22 and 23 say what that is, and from where).
pub load_is : (w : Width) (d n b x y v : ℕ) (c : Control) → (exec (Instr.Load w d n b) x y v c).value ≡ v
unfolding exec makes
load_is w d n b x y v c = refl

pub ldrpc_is : (d n x y v : ℕ) (c : Control) → (exec (Instr.Ldrpc d n) x y v c).value ≡ v
unfolding exec makes
ldrpc_is d n x y v c = refl

-- 10. The register that an instruction writes, by the bits of its first half h.
pub rd_by_bits : (h s x y v : ℕ) (c : Control) → h < 65536 → RdOf (decode_of h s) h x y v c
rd_by_bits = rd_is

-- 11. What an instruction leaves: "No other ALU, shift, multiply or conditional instruction touches PSW", none but jl and jrl set RA, and so on, as `touched` lists.
-- Every instruction but a jump goes on by two bytes.
pub leaves : (x y v : ℕ) (c : Control) (i : Instr) → Leaves (touched i).sfr c (exec i x y v c).control
leaves = leaves_rest

pub goes_on : (x y v : ℕ) (c : Control) (i : Instr) → (touched i).jumps ≡ false → Wraps (exec i x y v c).control.pc (c.pc + 2)
goes_on = next_is

-- 12. Conditional jumps, of two and of four bytes ..
pub sjf_branches : (d : HalfDisp) → Branches (Instr.ShortJump ShortOp.Sjf d) d 2 false
unfolding exec makes
sjf_branches d = branches (Instr.ShortJump ShortOp.Sjf d) d 2 false (λ x y v c. refl)

pub sjt_branches : (d : HalfDisp) → Branches (Instr.ShortJump ShortOp.Sjt d) d 2 true
unfolding exec makes
sjt_branches d = branches (Instr.ShortJump ShortOp.Sjt d) d 2 true (λ x y v c. refl)

pub jf_branches : (d : HalfDisp) → Branches (Instr.LongJump LongOp.Jf d) d 4 false
unfolding exec makes
jf_branches d = branches (Instr.LongJump LongOp.Jf d) d 4 false (λ x y v c. refl)

pub jt_branches : (d : HalfDisp) → Branches (Instr.LongJump LongOp.Jt d) d 4 true
unfolding exec makes
jt_branches d = branches (Instr.LongJump LongOp.Jt d) d 4 true (λ x y v c. refl)

-- .. and jumps that are always taken.
pub sj_jumps : (d : HalfDisp) → Jumps (Instr.ShortJump ShortOp.Sj d) d
unfolding exec makes jump with_pc
sj_jumps d x y v c = wraps (c.pc + 2 * d.0)

pub j_jumps : (d : HalfDisp) → Jumps (Instr.LongJump LongOp.J d) d
unfolding exec makes jump with_pc
j_jumps d x y v c = wraps (c.pc + 2 * d.0)

pub jl_jumps : (d : HalfDisp) → Jumps (Instr.LongJump LongOp.Jl d) d
unfolding exec makes jump linked with_pc with_sfr
jl_jumps d x y v c = wraps (c.pc + 2 * d.0)

-- 13. A displacement is signed: one of -k halfwords, which is 2^32 - k, goes 2k bytes back.
pub goes_back : (n p d k : ℕ) → Wraps n (p + 2 * d) → d + k ≡ 2 ^ 32 → p < 2 ^ 32 → 2 * k ≤ p → n + 2 * k ≡ p
goes_back n p d k w e h l = let a = w.word in let b = w.whole in omega arith

-- 14. "jl and jrl set RA to the program counter + 4".
module _ (x y v : ℕ) (c : Control) where
  pub jl_links : (d : HalfDisp) → Wraps (exec (Instr.LongJump LongOp.Jl d) x y v c).control.ra (c.pc + 4)
  unfolding exec makes jump linked with_pc with_sfr
  jl_links d = wraps (c.pc + 4)

  pub jrl_links : (b : ℕ) → Wraps (exec (Instr.Jrl b) x y v c).control.ra (c.pc + 4)
  unfolding exec makes go_to linked with_pc with_sfr
  jrl_links b = wraps (c.pc + 4)

  -- 15. "Register jumps, jsfr among them, drop bit 0".
  pub jr_drops : (b : ℕ) → Drops (exec (Instr.Jr b) x y v c).control.pc y
  unfolding exec makes go_to with_pc
  jr_drops b = drops y

  pub jrl_drops : (b : ℕ) → Drops (exec (Instr.Jrl b) x y v c).control.pc y
  unfolding exec makes go_to with_pc
  jrl_drops b = drops y

  pub jsfr_drops : (n : ℕ) → Drops (exec (Instr.Jsfr n) x y v c).control.pc (sfr_of n c)
  unfolding exec makes go_to with_pc
  jsfr_drops n = drops (sfr_of n c)

  -- 16. jsfr of IPC: "BIP goes to IP, and BIP becomes 0" (document 02, ticket 3): bits 6 and 3 of PSW, and no other. jsfr of another SFR leaves PSW (11).
  pub return_by_bits : (j : ℕ)
      → bit (exec (Instr.Jsfr 2) x y v c).control.psw j ≡ cond (eqb j 6) false (cond (eqb j 3) (bit c.psw 6) (bit c.psw j))
  unfolding exec makes go_to with_pc
  return_by_bits j = leave_bits c j

  -- 17. mfsfr reads the SFRs by document 01's numbers.
  pub mfsfr_by_number : (d : ℕ) → Numbered (λ n. (exec (Instr.Mfsfr d n) x y v c).value) c
  unfolding exec makes
  mfsfr_by_number d =
      record { psw = refl; ra = refl; ipc = refl; timer = refl; ibase = refl; usreg = refl; hwdbg = refl; bp0 = refl; bp1 = refl; wp0 = refl; wp1 = refl }

  -- 18. "mtsfr psw keeps bits 12 .. and 26 to 31"; every other bit is the register's, 14 and 15 too (document 02, ticket 5).
  pub psw_by_bits : (b j : ℕ) → y < 2 ^ 32 → c.psw < 2 ^ 32
      → bit (exec (Instr.Mtsfr 0 b) x y v c).control.psw j ≡ cond (eqb j 12 || leb 26 j) (bit c.psw j) (bit y j)
  unfolding exec makes onward with_pc written with_sfr
  psw_by_bits b j hy hp = psw_bits c.psw y j hp hy

  -- 19. "mtsfr hwdbg writes bits 2 to 5 only".
  pub hwdbg_by_bits : (b j : ℕ)
      → bit (exec (Instr.Mtsfr 6 b) x y v c).control.hwdbg j ≡ cond (leb 2 j && leb j 5) (bit y j) (bit c.hwdbg j)
  unfolding exec makes onward with_pc
  hwdbg_by_bits b j = hwdbg_bits y c j

  -- 20. "Writing TIMER is ignored if IP is 1 and TI is 0"; "an accepted write clears pending and takes the place of that step's fall": wrote says that there was one, and
  -- no other instruction says so.
  pub timer_ignored : (b : ℕ) → ignored c ≡ true
      → ((exec (Instr.Mtsfr 3 b) x y v c).control.timer ≡ c.timer) × ((exec (Instr.Mtsfr 3 b) x y v c).control.pending ≡ c.pending)
  unfolding exec makes onward with_pc written timer_written with_sfr with_pending
  timer_ignored b e = let a : accepted c ≡ false = accepted_is c ∙ rw e in (rw a, rw a)

  pub timer_accepted : (b : ℕ) → ignored c ≡ false
      → ((exec (Instr.Mtsfr 3 b) x y v c).control.timer ≡ y) × ((exec (Instr.Mtsfr 3 b) x y v c).control.pending ≡ false)
  unfolding exec makes onward with_pc written timer_written with_sfr with_pending
  timer_accepted b e = let a : accepted c ≡ true = accepted_is c ∙ rw e in (rw a, rw a)

  pub timer_wrote : (i : Instr) → (exec i x y v c).wrote ≡ (eqb (touched i).sfr 3 && not (ignored c))
  timer_wrote = wrote_is x y v c

  -- 21. Every other SFR, 1, 2, 4, 5 and 7 to 10, becomes the register's value.
  pub sfr_is : (n b : ℕ) → n ≤ 10 → (n ≡ 0 → ⊥) → (n ≡ 3 → ⊥) → (n ≡ 6 → ⊥) → sfr_of n (exec (Instr.Mtsfr n b) x y v c).control ≡ y
  unfolding exec makes onward with_pc
  sfr_is n b h p q r = written_plain y c n h p q r

-- 22. What is loaded, where it lies inside memory: the first byte the highest, and "loads of bytes and halves are zero-extended".
module _ (m : List ℕ) (a : ByteAddr) where
  pub byte_is : a.0 + 1 ≤ length m → load_of Width.Byte m a ≡ get_or m a.0 0
  byte_is = byte_loaded m a

  pub half_is : a.0 + 2 ≤ length m → load_of Width.Half m a ≡ 256 * get_or m a.0 0 + get_or m (a.0 + 1) 0
  half_is = half_loaded m a

  pub word_is : a.0 + 4 ≤ length m
      → load_of Width.Word m a ≡ 2 ^ 24 * get_or m a.0 0 + 2 ^ 16 * get_or m (a.0 + 1) 0 + 2 ^ 8 * get_or m (a.0 + 2) 0 + get_or m (a.0 + 3) 0
  word_is = word_loaded m a

-- .. and what is stored: of k bytes byte i is the value's byte k - 1 - i, counted from its lowest. Other bytes and the length stay (store_kept and store_length of
-- crate word).
pub store_by_bytes : (w : Width) (m : List ℕ) (a : ByteAddr) (v i : ℕ) → a.0 + bytes_of w ≤ length m → i < bytes_of w
    → get_or (store_of w m a v) (a.0 + i) 0 ≡ byte_no v (bytes_of w - 1 - i)
store_by_bytes = byte_stored

-- 23. "Addresses are aligned down to the access size after the sum": z is the sum, modulo 2^32, of base y and of offset n, which counts accesses of this size.
pub address_aligned : (w : Width) (y n z : ℕ) → Wraps z (y + n * bytes_of w) → AlignedDown (data_address w y n).0 (bytes_of w) z
address_aligned = aligned_down
