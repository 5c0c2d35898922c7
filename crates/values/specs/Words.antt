-- Words that the theorems of this crate are stated in (proofs/Theorems.antt has the statements): bits and numbers, and `exec`, which they judge.
-- Assumes nothing.
use Rattle.std.specs.Prelude.{ℕ, ◌+◌, ◌*◌, ◌-◌, ◌/◌, ◌%◌, ◌^◌, min, ◌≤◌, ◌<◌, ◌≡◌, Bool, true, false, cond, not, ◌&&◌, ◌||◌, ltb, leb, eqb, None, Option, Some}
use Rattle.word.specs.declared.HalfDisp.{HalfDisp}
use Rattle.isa.specs.Codes.{alu_no, long_no}
use Rattle.isa.specs.declared.AluOp.{AluOp}
use Rattle.isa.specs.declared.ShiftOp.{ShiftOp}
use Rattle.isa.specs.declared.CmpOp.{CmpOp}
use Rattle.isa.specs.declared.CmpImmOp.{CmpImmOp}
use Rattle.isa.specs.declared.CondOp.{CondOp}
use Rattle.isa.specs.declared.ImmOp.{ImmOp}
use Rattle.isa.specs.declared.Instr.{Instr}
use Rattle.isa.specs.declared.Decoded.{Decoded}
use Rattle.cpu.specs.Control.{sfr_of}
use Rattle.cpu.specs.Exec.{exec}
use Rattle.cpu.specs.declared.Control.{Control}
use Rattle.cpu.specs.declared.Effect.{Effect}

-- ---- bits

-- bit j of x, as 0 or 1, and whether it is 1
abbrev pub bit_no : ℕ → ℕ → ℕ
bit_no x j = x / 2 ^ j % 2

abbrev pub bit : ℕ → ℕ → Bool
bit x j = eqb (bit_no x j) 1

-- the bit of the word x that a shift by n brings to place j, 0 where it brings none: lsl brings up the bit that stood n places below, lsr and asr bring down the one
-- n above, and past the top asr brings the sign, bit 31
abbrev pub lsl_bit : ℕ → ℕ → ℕ → Bool
lsl_bit x n j = ltb j 32 && (leb n j && bit x (j - n))

abbrev pub lsr_bit : ℕ → ℕ → ℕ → Bool
lsr_bit x n j = bit x (j + n)

abbrev pub asr_bit : ℕ → ℕ → ℕ → Bool
asr_bit x n j = ltb j 32 && bit x (min 31 (j + n))

-- .. the one that stands there once the low w bits are extended by their sign, bit w - 1; and once the halves are exchanged
abbrev pub extend_bit : ℕ → ℕ → ℕ → Bool
extend_bit w x j = ltb j 32 && bit x (min (w - 1) j)

abbrev pub exchange_bit : ℕ → ℕ → Bool
exchange_bit x j = ltb j 32 && bit x ((j + 16) % 32)

-- a shift's value by its bits, for every amount: "A shift by register uses its low 6 bits"; by immediate, the amount is the immediate
pub record Shifts (brought : ℕ → ℕ → ℕ → Bool) (op : AluOp) (im : ShiftOp) : Type 0 where
  pub by_register : (d b x y v : ℕ) (c : Control) → x < 2 ^ 32 → (j : ℕ) → bit (exec (Instr.Alu op d b) x y v c).value j ≡ brought x (y % 64) j
  pub by_immediate : (d n x y v : ℕ) (c : Control) → x < 2 ^ 32 → (j : ℕ) → bit (exec (Instr.ShiftImm im d n) x y v c).value j ≡ brought x n j

-- ---- numbers

-- "Arithmetic wraps modulo 2^32": the word n is t but for full turns
pub record Wraps (n t : ℕ) : Type 0 where
  pub word : n < 2 ^ 32
  pub turns : ℕ
  pub whole : n + 2 ^ 32 * turns ≡ t

-- CY (bit 9 of PSW) as a number
abbrev pub carry_in : Control → ℕ
carry_in c = bit_no c.psw 9

-- "CY to the carry out": value and CY, which is worth 2^32, make up the sum t
pub record Sums (e : Effect) (t : ℕ) : Type 0 where
  pub word : e.value < 2 ^ 32
  pub whole : e.value + 2 ^ 32 * carry_in e.control ≡ t

-- "CY to the borrow": the value and t, which was taken away, make up x and, if CY says that it was borrowed, 2^32
pub record Differs (e : Effect) (x t : ℕ) : Type 0 where
  pub word : e.value < 2 ^ 32
  pub whole : e.value + t ≡ x + 2 ^ 32 * carry_in e.control

-- word x stands for the signed number x - 2^32 * bit 31 of x; that of x is below that of y
abbrev pub Below : ℕ → ℕ → Type 0
Below x y = x + 2 ^ 32 * bit_no y 31 < y + 2 ^ 32 * bit_no x 31

-- ---- mnemonics

-- the RR instruction of the same name as one by an immediate, as a conditional one, and as a compare by an immediate
abbrev pub imm_plain : ImmOp → AluOp
imm_plain ImmOp.And = AluOp.And
imm_plain ImmOp.Add = AluOp.Add
imm_plain ImmOp.Mov = AluOp.Mov

abbrev pub cond_plain : CondOp → AluOp
cond_plain CondOp.Mov = AluOp.Mov
cond_plain CondOp.Sub = AluOp.Sub
cond_plain CondOp.Add = AluOp.Add

abbrev pub cmp_plain : CmpImmOp → CmpOp
cmp_plain CmpImmOp.Eq = CmpOp.Eq
cmp_plain CmpImmOp.Lt = CmpOp.Lt
cmp_plain CmpImmOp.Gt = CmpOp.Gt

-- ---- the control part

-- what an instruction may change in the control part: one SFR, by its number (11: none), and whether it sets the program counter itself
pub record Touch : Type 0 where
  pub sfr : ℕ
  pub jumps : Bool

abbrev pub touch : ℕ → Bool → Touch
touch n b = record { sfr = n; jumps = b }

-- sub, add, subc and addc have the guide's codes 0 to 3, and jl has 111110
abbrev pub touched : Instr → Touch
touched (Instr.Alu op d b) = touch (cond (leb (alu_no op) 3) 0 11) false
touched (Instr.ShiftImm op d n) = touch 11 false
touched (Instr.Cmp op d b) = touch 0 false
touched (Instr.CmpImm op d n) = touch 0 false
touched (Instr.Cond op t d b) = touch 11 false
touched (Instr.CondImm t d n) = touch 11 false
touched (Instr.Ldrpc d n) = touch 11 false
touched (Instr.Imm op d n) = touch 11 false
touched (Instr.Load w d n b) = touch 11 false
touched (Instr.Store w d n b) = touch 11 false
touched (Instr.Mfsfr d n) = touch 11 false
touched (Instr.Mtsfr n b) = touch n false
touched (Instr.Jr b) = touch 11 true
touched (Instr.Jrl b) = touch 1 true
touched (Instr.Jsfr n) = touch (cond (eqb n 2) 0 11) true
touched (Instr.Swint n) = touch 11 false
touched (Instr.ShortJump op d) = touch 11 true
touched (Instr.LongJump op d) = touch (cond (eqb (long_no op) 0x3e) 1 11) true

-- Whether an instruction writes Rd, bits 7:4 of its first half, by that half's first two digits a and b: of 0x1? mfsfr does, of 0x3? the conditional ones do, and of
-- the rest all but the stores (0x9?, 0xb?, 0xd?) and the jumps (0xe?, 0xf?)
abbrev pub writes_rd : ℕ → ℕ → Bool
writes_rd a b = cond (eqb a 1) (eqb b 2) (cond (eqb a 3) (leb 8 b) (leb a 8 || (eqb a 0xa || eqb a 0xc)))

-- the register that an instruction of first half h writes; 16 is none
abbrev pub RdOf : Option Decoded → ℕ → ℕ → ℕ → ℕ → Control → Type 0
RdOf (Some (Decoded.Short i)) h x y v c = (exec i x y v c).reg ≡ cond (writes_rd (h / 4096) (h / 256 % 16)) (h / 16 % 16) 16
RdOf (Some (Decoded.Long i)) h x y v c = (exec i x y v c).reg ≡ 16
RdOf None h x y v c = Unit {0}

-- from c to n nothing changed but the program counter, SFR k, and "timer pending" if that is TIMER, SFR 3. The theorem mfsfr_by_number says which SFR has which
-- number
pub record Leaves (k : ℕ) (c n : Control) : Type 0 where
  pub sfr : (m : ℕ) → (m ≡ k → ⊥) → sfr_of m n ≡ sfr_of m c
  pub pending : (k ≡ 3 → ⊥) → n.pending ≡ c.pending
  pub cycles : n.cycles ≡ c.cycles

-- f gives the SFRs of c by number: PSW is 0, and "RA, IPC, TIMER, IBASE, USREG, HWDBG, BP0, BP1, WP0, WP1 (SFR 1 to 10)"
pub record Numbered (f : ℕ → ℕ) (c : Control) : Type 0 where
  pub psw : f 0 ≡ c.psw
  pub ra : f 1 ≡ c.ra
  pub ipc : f 2 ≡ c.ipc
  pub timer : f 3 ≡ c.timer
  pub ibase : f 4 ≡ c.ibase
  pub usreg : f 5 ≡ c.usreg
  pub hwdbg : f 6 ≡ c.hwdbg
  pub bp0 : f 7 ≡ c.bp0
  pub bp1 : f 8 ≡ c.bp1
  pub wp0 : f 9 ≡ c.wp0
  pub wp1 : f 10 ≡ c.wp1

-- "Writing TIMER is ignored if IP is 1 and TI is 0": bits 3 and 2 of PSW
abbrev pub ignored : Control → Bool
ignored c = bit c.psw 3 && not (bit c.psw 2)

-- ---- jumps

-- i goes d halfwords on from its own address
abbrev pub Jumps : Instr → HalfDisp → Type 0
Jumps i d = (x y v : ℕ) (c : Control) → Wraps (exec i x y v c).control.pc (c.pc + 2 * d.0)

-- i does so if TF (bit 8 of PSW) is t, and otherwise goes on to the next instruction, n bytes further
pub record Branches (i : Instr) (d : HalfDisp) (n : ℕ) (t : Bool) : Type 0 where
  pub taken : (x y v : ℕ) (c : Control) → bit c.psw 8 ≡ t → Wraps (exec i x y v c).control.pc (c.pc + 2 * d.0)
  pub passed : (x y v : ℕ) (c : Control) → bit c.psw 8 ≡ not t → Wraps (exec i x y v c).control.pc (c.pc + n)

-- "drop bit 0": n is t without it
pub record Drops (n t : ℕ) : Type 0 where
  pub even : bit_no n 0 ≡ 0
  pub rest : n + bit_no t 0 ≡ t

-- ---- memory

-- byte i of v, from the lowest
abbrev pub byte_no : ℕ → ℕ → ℕ
byte_no v i = v / 256 ^ i % 256

-- "aligned down to the access size": a is the highest multiple of k that is not above z
pub record AlignedDown (a k z : ℕ) : Type 0 where
  pub multiple : a % k ≡ 0
  pub below : a ≤ z
  pub last : z < a + k
