-- The control part by its places: what a write to one SFR leaves, and the written SFRs by their bits.
-- Assumes nothing.
use Prim.Native.Nat.{ℕ, zero, suc, ◌+◌, ◌-◌, ◌/◌, ◌^◌, ◌≤◌, ◌<◌}
use mathlib.Core.Path.{◌≡◌, refl, sym, ap, subst, ◌∙◌}
use mathlib.Core.Bool.{Bool, true, false, cond, not, ◌&&◌, ◌||◌}
use native.Mathlib.Nat.{not-suc-le-zero}
use native.Mathlib.Decide.{dec_le, ℕ_discrete}
use native.Mathlib.Omega.{arith}
use lib.Dec.{ltb, leb, eqb, leb-suc-suc}
use borrow.Author.Tests.{lt-ltb, le-ltb, le-leb, lt-leb, eq-eqb, ne_eqb}
use Rattle.word.specs.Bits.{num, field_of, put}
use Rattle.word.specs.Numbers.{carry_of, borrow_of}
use Rattle.word.specs.declared.ByteAddr.{ByteAddr}
use Rattle.word.proofs.Fields.{put_lt}
use Rattle.isa.specs.Codes.{alu_no}
use Rattle.isa.specs.declared.AluOp.{AluOp}
use Rattle.cpu.specs.Control.{with_pc, with_sfr, with_psw, with_pending, with_timer, with_cy, cy, sfr_of}
use Rattle.cpu.specs.Exec.{carried, accepted, timer_written, psw_written, written, leave}
use Rattle.cpu.specs.declared.Control.{Control}
use Rattle.cpu.proofs.Laws.{sfr_past}
use Rattle.values.specs.Words.{bit, Leaves, ignored}
use Rattle.values.proofs.Bits.{none_past, bit_shr, bit_mod, put_bits, put_bit, put_else}

-- what holds of 0 to k - 1, one by one, holds of every number below k
abbrev Each : ℕ → (ℕ → Type 0) → Type 0
Each zero P = Unit {0}
Each (suc k) P = Each k P × P k

each : (k : ℕ) (P : ℕ → Type 0) → Each k P → (n : ℕ) → n < k → P n
each zero P a n h = absurd (not-suc-le-zero h)
each (suc k) P a n h = elim (ℕ_discrete n k) [
  | yes e ↦ subst P (sym e) a.1
  | no e ↦ each k P a.0 n (omega arith)
]

-- the SFR that was written, and every other
sfr_with : (m n x : ℕ) (c : Control) → m < 11 → sfr_of m (with_sfr n c x) ≡ cond (eqb n m) x (sfr_of m c)
unfolding with_sfr
sfr_with m n x c h =
    each 11 (λ (i : ℕ). sfr_of i (with_sfr n c x) ≡ cond (eqb n i) x (sfr_of i c))
    (((((((((((tt, refl), refl), refl), refl), refl), refl), refl), refl), refl), refl), refl)
    m h

sfr_here : (n x : ℕ) (c : Control) → n < 11 → sfr_of n (with_sfr n c x) ≡ x
sfr_here n x c h = sfr_with n n x c h ∙ rw (eq-eqb n n refl)

sfr_else : (m n x : ℕ) (c : Control) → (m ≡ n → ⊥) → sfr_of m (with_sfr n c x) ≡ sfr_of m c
sfr_else m n x c h = elim (dec_le 11 m) [
  | yes l ↦ sym (sfr_past m (with_sfr n c x) l) ∙ sfr_past m c l
  | no l ↦ sfr_with m n x c (omega arith) ∙ rw (ne_eqb n m (λ (e : n ≡ m). h (sym e)))
]

-- ---- what is left

pub leaves_all : (k : ℕ) (c : Control) → Leaves k c c
leaves_all k c = record { sfr = λ m h. refl; pending = λ h. refl; cycles = refl }

pub leaves_else : (k x : ℕ) (c : Control) → Leaves k c (with_sfr k c x)
unfolding with_sfr
leaves_else k x c = record { sfr = λ m h. sfr_else m k x c h; pending = λ h. refl; cycles = refl }

leaves_timer : (x : ℕ) (b : Bool) (c : Control) → Leaves 3 c (with_timer c x b)
unfolding with_sfr with_pending
leaves_timer x b c = record { sfr = λ m h. sfr_else m 3 x c h; pending = λ h. absurd (h refl); cycles = refl }

-- the program counter is no SFR
pub leaves_moved : (k : ℕ) (c n : Control) (a : ByteAddr) → Leaves k c n → Leaves k c (with_pc n a)
unfolding with_pc
leaves_moved k c n a l = record { sfr = l.sfr; pending = l.pending; cycles = l.cycles }

-- an ALU instruction changes CY, if its code is 0 to 3, or nothing
carried_by_code : (op : AluOp) (x y : ℕ) (c : Control) → (k : Bool) × (carried op x y c ≡ cond (leb (alu_no op) 3) (with_cy c k) c)
unfolding carried
carried_by_code AluOp.Sub x y c = (borrow_of x y false, refl)
carried_by_code AluOp.Add x y c = (carry_of x y false, refl)
carried_by_code AluOp.Subc x y c = (borrow_of x y (cy c), refl)
carried_by_code AluOp.Addc x y c = (carry_of x y (cy c), refl)
carried_by_code AluOp.Mov x y c = (false, refl)
carried_by_code AluOp.And x y c = (false, refl)
carried_by_code AluOp.Or x y c = (false, refl)
carried_by_code AluOp.Xor x y c = (false, refl)
carried_by_code AluOp.Sxb x y c = (false, refl)
carried_by_code AluOp.Xhw x y c = (false, refl)
carried_by_code AluOp.Sxh x y c = (false, refl)
carried_by_code AluOp.Zxh x y c = (false, refl)
carried_by_code AluOp.Lsl x y c = (false, refl)
carried_by_code AluOp.Lsr x y c = (false, refl)
carried_by_code AluOp.Asr x y c = (false, refl)
carried_by_code AluOp.Mult x y c = (false, refl)

-- .. so it leaves the program counter, all SFRs but 0 if its code is one of these, and all bits of PSW but CY
module _ (op : AluOp) (x y : ℕ) (c : Control) where
  pub leaves_alu : Leaves (cond (leb (alu_no op) 3) 0 11) c (carried op x y c)
  leaves_alu = let r = carried_by_code op x y c in rw r.1 (go (leb (alu_no op) 3) r.0)
    where
      go : (t k : Bool) → Leaves (cond t 0 11) c (cond t (with_cy c k) c)
      go true k = leaves_else 0 (put c.psw 9 1 (num k)) c
      go false k = leaves_all 11 c

  pub alu_pc : (carried op x y c).pc ≡ c.pc
  unfolding with_sfr
  alu_pc = let r = carried_by_code op x y c in rw r.1 (go (leb (alu_no op) 3) r.0)
    where
      go : (t k : Bool) → (cond t (with_cy c k) c).pc ≡ c.pc
      go true k = refl
      go false k = refl

  pub alu_bits : (j : ℕ) → (j ≡ 9 → ⊥) → bit (carried op x y c).psw j ≡ bit c.psw j
  unfolding with_sfr
  alu_bits j h = let r = carried_by_code op x y c in rw r.1 (go (leb (alu_no op) 3) r.0)
    where
      go : (t k : Bool) → bit (cond t (with_cy c k) c).psw j ≡ bit c.psw j
      go true k = put_else c.psw 9 k j h
      go false k = refl

-- ---- SFR n written

-- a field copied from p to v
copied : (p v i w j : ℕ) → bit (put v i w (field_of p i w)) j ≡ cond (leb i j && ltb j (i + w)) (bit p j) (bit v j)
copied p v i w j = put_bits v i w (field_of p i w) j ∙ go (dec_le i j) (dec_le (i + w) j)
  where
    go : Dec (i ≤ j) → Dec (i + w ≤ j)
        → cond (leb i j && ltb j (i + w)) (bit (field_of p i w) (j - i)) (bit v j) ≡ cond (leb i j && ltb j (i + w)) (bit p j) (bit v j)
    go (no l) u = rw (lt-leb i j (omega arith))
    go (yes l) (yes u) = rw (le-leb i j l, le-ltb j (i + w) u)
    go (yes l) (no u) =
        let e : i + (j - i) ≡ j = omega arith in
        rw (le-leb i j l, lt-ltb j (i + w) (omega arith))
        (bit_mod (p / 2 ^ i) w (j - i) ∙ rw (lt-ltb (j - i) w (omega arith)) (bit_shr p i (j - i) ∙ ap (bit p) e))

-- "mtsfr psw keeps bits 12 .. and 26 to 31"
pub psw_bits : (p v j : ℕ) → p < 2 ^ 32 → v < 2 ^ 32 → bit (psw_written p v) j ≡ cond (eqb j 12 || leb 26 j) (bit p j) (bit v j)
unfolding psw_written
psw_bits p v j hp hv = copied p (put v 12 1 (field_of p 12 1)) 26 6 j ∙ go (dec_le 26 j) (dec_le 32 j) (ℕ_discrete j 12)
  where
    q : ℕ
    q = put v 12 1 (field_of p 12 1)

    twelve : Dec (j ≡ 12) → j < 26 → bit q j ≡ cond (eqb j 12 || leb 26 j) (bit p j) (bit v j)
    twelve (yes e) l = rw e (copied p v 12 1 12)
    twelve (no n) l = copied p v 12 1 j ∙ rw (ne_eqb j 12 n, lt-leb 26 j l) (off (dec_le 12 j))
      where
        off : Dec (12 ≤ j) → cond (leb 12 j && ltb j 13) (bit p j) (bit v j) ≡ bit v j
        off (yes m) = rw (le-leb 12 j m, le-ltb j 13 (omega arith))
        off (no m) = rw (lt-leb 12 j (omega arith))

    go : Dec (26 ≤ j) → Dec (32 ≤ j) → Dec (j ≡ 12) → cond (leb 26 j && ltb j 32) (bit p j) (bit q j) ≡ cond (eqb j 12 || leb 26 j) (bit p j) (bit v j)
    go (no l) u e = rw (lt-leb 26 j (omega arith)) (twelve e (omega arith) ∙ rw (lt-leb 26 j (omega arith)))
    go (yes l) (no u) e = rw (le-leb 26 j l, lt-ltb j 32 (omega arith), ne_eqb j 12 (λ (e : j ≡ 12). omega arith))
    go (yes l) (yes u) e =
        rw (le-leb 26 j l, le-ltb j 32 u, ne_eqb j 12 (λ (e : j ≡ 12). omega arith))
        (none_past q 32 j (put_lt 32 v 12 1 (field_of p 12 1) (omega arith) hv) u ∙ sym (none_past p 32 j hp u))

module _ (v : ℕ) (c : Control) where
  timer_leaves : Leaves 3 c (timer_written v c)
  unfolding timer_written
  timer_leaves = go (accepted c)
    where
      go : (t : Bool) → Leaves 3 c (cond t (with_timer c v false) c)
      go true = leaves_timer v false c
      go false = leaves_all 3 c

  pub written_leaves : (n : ℕ) → Leaves n c (written n v c)
  unfolding written
  written_leaves n = by (ℕ_discrete n 0) (ℕ_discrete n 3) (ℕ_discrete n 6)
    where
      by : Dec (n ≡ 0) → Dec (n ≡ 3) → Dec (n ≡ 6) → Leaves n c (written n v c)
      by (yes e) q r = rw e (leaves_else 0 _ c)
      by (no p) (yes e) r = rw e timer_leaves
      by (no p) (no q) (yes e) = rw e (leaves_else 6 _ c)
      by (no p) (no q) (no r) = rw (ne_eqb n 0 p, ne_eqb n 3 q, ne_eqb n 6 r) (leaves_else n v c)

  pub written_pc : (n : ℕ) → (written n v c).pc ≡ c.pc
  unfolding written timer_written with_sfr with_pending
  written_pc n = by (ℕ_discrete n 0) (ℕ_discrete n 3) (ℕ_discrete n 6)
    where
      timer : (t : Bool) → (cond t (with_timer c v false) c).pc ≡ c.pc
      timer true = refl
      timer false = refl

      by : Dec (n ≡ 0) → Dec (n ≡ 3) → Dec (n ≡ 6) → (written n v c).pc ≡ c.pc
      by (yes e) q r = rw e
      by (no p) (yes e) r = rw e (timer (accepted c))
      by (no p) (no q) (yes e) = rw e
      by (no p) (no q) (no r) = rw (ne_eqb n 0 p, ne_eqb n 3 q, ne_eqb n 6 r)

  pub written_plain : (n : ℕ) → n ≤ 10 → (n ≡ 0 → ⊥) → (n ≡ 3 → ⊥) → (n ≡ 6 → ⊥) → sfr_of n (written n v c) ≡ v
  unfolding written
  written_plain n h p q r = rw (ne_eqb n 0 p, ne_eqb n 3 q, ne_eqb n 6 r) (sfr_here n v c (omega arith))

  -- "mtsfr hwdbg writes bits 2 to 5 only"
  pub hwdbg_bits : (j : ℕ) → bit (written 6 v c).hwdbg j ≡ cond (leb 2 j && leb j 5) (bit v j) (bit c.hwdbg j)
  unfolding written with_sfr
  hwdbg_bits j = copied v c.hwdbg 2 4 j ∙ rw (leb-suc-suc j 5)

-- accepted is what is not ignored
pub accepted_is : (c : Control) → accepted c ≡ not (ignored c)
accepted_is c = go (bit c.psw 3) (bit c.psw 2)
  where
    go : (i t : Bool) → (not i || t) ≡ not (i && not t)
    go true true = refl
    go true false = refl
    go false t = refl

-- ---- jsfr

pub leave_leaves : (n : ℕ) (c : Control) → Leaves (cond (eqb n 2) 0 11) c (leave n c)
unfolding leave
leave_leaves n c = go (eqb n 2) _
  where
    go : (t : Bool) (z : ℕ) → Leaves (cond t 0 11) c (cond t (with_psw c z) c)
    go true z = leaves_else 0 z c
    go false z = leaves_all 11 c

-- IP from BIP, then BIP 0
pub leave_bits : (c : Control) (j : ℕ) → bit (leave 2 c).psw j ≡ cond (eqb j 6) false (cond (eqb j 3) (bit c.psw 6) (bit c.psw j))
unfolding leave with_sfr
leave_bits c j =
    put_bit (put c.psw 3 1 (num (bit c.psw 6))) 6 false j
    ∙ ap (λ (b : Bool). cond (eqb j 6) false b) (put_bit c.psw 3 (bit c.psw 6) j)
