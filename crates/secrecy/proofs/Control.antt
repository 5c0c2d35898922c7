-- The control part in two runs: each way to change it keeps SameControl.
-- Assumes nothing.
use Prim.Native.Nat.{ℕ, ◌+◌, ◌-◌, ◌%◌, ◌^◌}
use mathlib.Core.Path.{◌≡◌, refl, sym, ap, ap₂, subst, ◌∙◌}
use mathlib.Core.Bool.{Bool, true, false, cond, not, beq, ◌&&◌, ◌||◌}
use native.Mathlib.Omega.{arith}
use lib.Dec.{ltb, eqb, leb, lit≤}
use Rattle.word.specs.Bits.{num, on, field_of, with_field}
use Rattle.word.specs.Numbers.{lsl_of}
use Rattle.word.specs.declared.ByteAddr.{ByteAddr}
use Rattle.word.specs.declared.HalfDisp.{HalfDisp}
use Rattle.cpu.specs.Control.{with_pc, with_sfr, with_psw, with_pending, with_timer, with_cycles, with_tf, with_cy}
use Rattle.cpu.specs.Entries.{enter, entered, is_break, watch_hit, watch_entry, fallen, passed}
use Rattle.cpu.specs.Exec.{onward, go_to, linked, jump, branch, accepted, timer_written, written, leave}
use Rattle.cpu.specs.declared.Control.{Control}
use Rattle.cpu.specs.declared.Entry.{Entry}
use Rattle.marks.specs.declared.Flags.{Flags}
use Rattle.secrecy.specs.Same.{SamePsw, SameControl}
use Rattle.secrecy.proofs.Psw.{bit_under, put_under, put_over, put_tf, put_cy, psw_like, psw_written_lem}

-- a test that answers the same in both runs
pub pick : {f : Flags} {a b c d : Control} (t u : Bool) → t ≡ u → SameControl f a c → SameControl f b d → SameControl f (cond t a b) (cond u c d)
pick true true e s r = s
pick false false e s r = r
pick true false e s r = let z : ◌≡◌ {A = ℕ} 0 1 = cc in absurd (omega arith)
pick false true e s r = let z : ◌≡◌ {A = ℕ} 0 1 = cc in absurd (omega arith)

-- PSW and another SFR may change places
apart : (n x : ℕ) (c : Control) → eqb n 0 ≡ false → with_psw (with_sfr n c x) 0 ≡ with_sfr n (with_psw c 0) x
unfolding with_sfr
apart n x c p = rw p

module _ {f : Flags} {a b : Control} (s : SameControl f a b) where
  -- one place
  pub pc_same : a.pc ≡ b.pc
  unfolding with_sfr
  pc_same = ap (λ (c : Control). c.pc) s.rest

  pub psw : {g : Flags} (p q : ℕ) → SamePsw g p q → SameControl g (with_psw a p) (with_psw b q)
  unfolding with_sfr
  psw p q e = record { rest = s.rest; psw = e }

  sfr : (n x y : ℕ) → eqb n 0 ≡ false → x ≡ y → SameControl f (with_sfr n a x) (with_sfr n b y)
  unfolding with_sfr
  sfr n x y p e =
      record {
        rest = apart n x a p ∙ ap₂ (λ (c : Control) (v : ℕ). with_sfr n c v) s.rest e ∙ sym (apart n y b p);
        psw = rw p s.psw;
      }

  pending : (x : Bool) → SameControl f (with_pending a x) (with_pending b x)
  unfolding with_pending with_sfr
  pending x = record { rest = ap (λ (c : Control). with_pending c x) s.rest; psw = s.psw }

module _ {f : Flags} {a b : Control} (s : SameControl f a b) where
  timer : (x : ℕ) (t : Bool) → SameControl f (with_timer a x t) (with_timer b x t)
  timer x t = pending (sfr s 3 x x refl refl) t

  pub sets_tf : (m u v : Bool) → (m ≡ false → u ≡ v) → SameControl (record { tf = m; cy = f.cy }) (with_tf a u) (with_tf b v)
  sets_tf m u v e = psw s _ _ (put_tf s.psw m u v e)

  pub sets_cy : (m u v : Bool) → (m ≡ false → u ≡ v) → SameControl (record { tf = f.tf; cy = m }) (with_cy a u) (with_cy b v)
  sets_cy m u v e = psw s _ _ (put_cy s.psw m u v e)

  -- the program counter and the timer
  pub onwards : (n : ℕ) → SameControl f (onward n a) (onward n b)
  unfolding onward with_pc with_sfr
  onwards n = record { rest = ap (onward n) s.rest; psw = s.psw }

  pub goes : (x y : ℕ) → x ≡ y → SameControl f (go_to x a) (go_to y b)
  unfolding go_to with_pc with_sfr
  goes x y e = record { rest = ap₂ (λ (n : ℕ) (c : Control). go_to n c) e s.rest; psw = s.psw }

  pub links : SameControl f (linked a) (linked b)
  unfolding linked with_sfr
  links = record { rest = ap linked s.rest; psw = s.psw }

  pub jumps : (d : HalfDisp) → SameControl f (jump d a) (jump d b)
  unfolding jump with_pc with_sfr
  jumps d = record { rest = ap (jump d) s.rest; psw = s.psw }

  falls_once : (n : ℕ) → SameControl f (with_timer a (a.timer - n) (a.pending || leb a.timer n)) (with_timer b (b.timer - n) (b.pending || leb b.timer n))
  unfolding with_sfr with_pending
  falls_once n = record { rest = ap (λ (c : Control). with_timer c (c.timer - n) (c.pending || leb c.timer n)) s.rest; psw = s.psw }

  runs : (t u : Bool) → t ≡ u → (t && ltb 0 a.timer) ≡ (u && ltb 0 b.timer)
  unfolding with_sfr
  runs t u e = ap₂ (λ (x : Bool) (c : Control). x && ltb 0 c.timer) e s.rest

  falls : (t u : Bool) (n : ℕ) → t ≡ u → SameControl f (fallen t n a) (fallen u n b)
  unfolding fallen
  falls t u n e = pick (t && ltb 0 a.timer) (u && ltb 0 b.timer) (runs t u e) (falls_once n) s

  counts : (n : ℕ) → SameControl f (with_cycles a n) (with_cycles b n)
  unfolding with_cycles with_sfr
  counts n = record { rest = ap (λ (c : Control). with_cycles c n) s.rest; psw = s.psw }

  pub cycles_same : a.cycles ≡ b.cycles
  unfolding with_sfr
  cycles_same = ap (λ (c : Control). c.cycles) s.rest

-- a step's cost goes by
pub passes : {f : Flags} {a b : Control} → SameControl f a b → (t u : Bool) (n k : ℕ) → t ≡ u → n ≡ k → SameControl f (passed t n a) (passed u k b)
unfolding passed
passes {f} {a} {b} s t u n k e g =
    subst (λ (i : ℕ). SameControl f (passed t n a) (passed u i b)) g
    (subst (λ (i : ℕ). SameControl f (passed t n a) (with_cycles (fallen u n b) ((i + n) % 2 ^ 32))) (cycles_same s) (counts (falls s t u n e) ((a.cycles + n) % 2 ^ 32)))

module _ {f : Flags} {a b : Control} (s : SameControl f a b) where
  -- what all entries have in common
  enters_rest : (low : ℕ) → with_psw (enter low a) 0 ≡ with_psw (enter low b) 0
  unfolding enter with_pc with_sfr
  enters_rest low = ap (λ (c : Control). with_psw (enter low c) 0) s.rest

  enters_psw : (low : ℕ) → SamePsw f (enter low a).psw (enter low b).psw
  unfolding enter with_pc with_sfr
  enters_psw low =
      put_under (put_under s.psw 6 1 (num (on a.psw 3)) (num (on b.psw 3)) (lit≤ tt) (ap num (bit_under s.psw 3 (lit≤ tt)))) 3 1 1 1 (lit≤ tt) refl

  enters : (low : ℕ) → SameControl f (enter low a) (enter low b)
  enters low = record { rest = enters_rest low; psw = enters_psw low }

  shows : (h : ℕ) → with_field a.hwdbg 6 3 h ≡ with_field b.hwdbg 6 3 h
  unfolding with_sfr
  shows h = ap (λ (c : Control). with_field c.hwdbg 6 3 h) s.rest

-- every entry
pub entries : {f : Flags} {a b : Control} → SameControl f a b → (e : Entry) → SameControl f (entered e a) (entered e b)
unfolding entered
entries s Entry.Nothing = s
entries s (Entry.Swint n) = enters (psw s _ _ (put_under (put_over s.psw 16 4 n n (lit≤ tt) refl) 0 1 1 1 (lit≤ tt) refl)) 4
entries s (Entry.Debug h) =
    enters (sfr (psw s _ _ (put_under (put_over s.psw 16 4 15 15 (lit≤ tt) refl) 0 1 0 0 (lit≤ tt) refl)) 6 _ _ refl (shows s h)) 4
entries s Entry.Timer = enters (pending (psw s _ _ (put_under s.psw 2 1 1 1 (lit≤ tt) refl)) false) 8
entries s (Entry.External i) =
    enters (psw s _ _ (put_under (put_over s.psw 26 6 (lsl_of 1 i) (lsl_of 1 i) (lit≤ tt) refl) 1 1 1 1 (lit≤ tt) refl)) 12
entries s Entry.FetchError = enters (psw s _ _ (put_over s.psw 15 1 1 1 (lit≤ tt) refl)) 16
entries s Entry.DataError = enters (psw s _ _ (put_over s.psw 14 1 1 1 (lit≤ tt) refl)) 16

module _ {f : Flags} {a b : Control} (s : SameControl f a b) where
  pub breaks : is_break a ≡ is_break b
  unfolding is_break with_sfr
  breaks = ap is_break s.rest

  pub watches : (x : ByteAddr) → watch_entry x a ≡ watch_entry x b
  unfolding watch_entry watch_hit with_sfr
  watches x = ap (watch_entry x) s.rest

  -- jumps by TF, and SFR
  pub branches : (t : Bool) (d : HalfDisp) (n : ℕ) → f.tf ≡ false → SameControl f (branch t d n a) (branch t d n b)
  unfolding branch
  branches t d n h =
      pick (beq (on a.psw 8) t) (beq (on b.psw 8) t) (ap (λ (u : Bool). beq u t) (s.psw.tf h)) (jumps s d) (onwards s n)

  pub leaves : (n : ℕ) → SameControl f (leave n a) (leave n b)
  unfolding leave
  leaves n =
      pick
      (eqb n 2)
      (eqb n 2)
      refl
      (psw s _ _ (put_under (put_under s.psw 3 1 (num (on a.psw 6)) (num (on b.psw 6)) (lit≤ tt) (ap num (bit_under s.psw 6 (lit≤ tt)))) 6 1 0 0 (lit≤ tt) refl))
      s

  pub accepts : accepted a ≡ accepted b
  accepts = ap₂ (λ (x y : Bool). not x || y) (bit_under s.psw 3 (lit≤ tt)) (bit_under s.psw 2 (lit≤ tt))

  timed : (v : ℕ) → SameControl f (timer_written v a) (timer_written v b)
  unfolding timer_written
  timed v = pick (accepted a) (accepted b) accepts (timer s v false) s

  debug_bits : (v : ℕ) → with_field a.hwdbg 2 4 (field_of v 2 4) ≡ with_field b.hwdbg 2 4 (field_of v 2 4)
  unfolding with_sfr
  debug_bits v = ap (λ (c : Control). with_field c.hwdbg 2 4 (field_of v 2 4)) s.rest

  -- mtsfr psw leaves TF and CY unmarked, and no other mtsfr touches them
  pub writes_psw_lem : {g : Flags} (v : ℕ) → SameControl g (written 0 v a) (written 0 v b)
  unfolding written
  writes_psw_lem v = psw s _ _ (psw_like (psw_written_lem s.psw v))

  pub writes_other : (n v : ℕ) → eqb n 0 ≡ false → SameControl f (written n v a) (written n v b)
  unfolding written
  writes_other n v p =
      rw p
      (pick (eqb n 3) (eqb n 3) refl (timed v)
      (pick (eqb n 6) (eqb n 6) refl (sfr s 6 _ _ refl (debug_bits v)) (sfr s n v v p refl)))
