-- PSW in two runs: each change of it keeps "differs in TF and CY alone, and only where marked".
-- Assumes nothing.
use Prim.Native.Nat.{ℕ, ◌+◌, ◌*◌, ◌/◌, ◌%◌, ◌^◌, ◌<◌, ◌≤◌}
use mathlib.Core.Path.{◌≡◌, refl, sym, ap, ap₂, ◌∙◌}
use mathlib.Core.Bool.{Bool, true, false}
use native.Mathlib.Omega.{arith}
use lib.Dec.{eqb, lit≤}
use borrow.Author.Tests.{eqb-true, eqb-false}
use Rattle.word.specs.Bits.{num, on, field_of, put}
use Rattle.word.proofs.Fields.{above, below, read_back, kept_above, kept_below, order}
use Rattle.cpu.specs.Exec.{psw_written}
use Rattle.marks.specs.declared.Flags.{Flags}
use Rattle.secrecy.specs.Same.{hide, SamePsw}

-- bits 8 and 9 do not count
hidden : (p q : ℕ) → p / 2 ^ 10 ≡ q / 2 ^ 10 → p % 2 ^ 8 ≡ q % 2 ^ 8 → hide p ≡ hide q
unfolding put
hidden p q a b = ap₂ (λ (m n : ℕ). (m * 2 ^ 2 + 0 % 2 ^ 2) * 2 ^ 8 + n) a b

hide_tf : (p v : ℕ) → hide (put p 8 1 v) ≡ hide p
hide_tf p v = hidden (put p 8 1 v) p (halved (put p 8 1 v) p (above p 8 1 v)) (below p 8 1 v)
  where
    halved : (x y : ℕ) → x / 2 ^ 9 ≡ y / 2 ^ 9 → x / 2 ^ 10 ≡ y / 2 ^ 10
    halved x y e = omega arith

hide_cy : (p v : ℕ) → hide (put p 9 1 v) ≡ hide p
hide_cy p v = hidden (put p 9 1 v) p (above p 9 1 v) (lower (put p 9 1 v) p (below p 9 1 v))
  where
    lower : (x y : ℕ) → x % 2 ^ 9 ≡ y % 2 ^ 9 → x % 2 ^ 8 ≡ y % 2 ^ 8
    lower x y e = omega arith

-- a bit that was written
bit_back : (p i : ℕ) (b : Bool) → on (put p i 1 (num b)) i ≡ b
bit_back p i b = ap (λ (n : ℕ). eqb n 1) (read_back p i 1 (num b)) ∙ go b
  where
    go : (b : Bool) → eqb (num b % 2 ^ 1) 1 ≡ b
    go true = refl
    go false = refl

-- a bit past the end of a field that was written, and one before its start
past : (p i w v j : ℕ) → i + w ≤ j → on (put p i w v) j ≡ on p j
past p i w v j h = ap (λ (n : ℕ). eqb n 1) (kept_above p i w v j 1 h)

before : (p i w v j : ℕ) → j + 1 ≤ i → on (put p i w v) j ≡ on p j
before p i w v j h = ap (λ (n : ℕ). eqb n 1) (kept_below p i w v j 1 h)

module _ {f : Flags} {p q : ℕ} (s : SamePsw f p q) where
  -- what is read outside of bits 8 and 9 is equal
  pub field_under : (i w : ℕ) → i + w ≤ 8 → field_of p i w ≡ field_of q i w
  field_under i w h = sym (kept_below p 8 2 0 i w h) ∙ ap (λ (n : ℕ). field_of n i w) s.rest ∙ kept_below q 8 2 0 i w h

  pub field_over : (i w : ℕ) → 10 ≤ i → field_of p i w ≡ field_of q i w
  field_over i w h = sym (kept_above p 8 2 0 i w h) ∙ ap (λ (n : ℕ). field_of n i w) s.rest ∙ kept_above q 8 2 0 i w h

  pub bit_under : (i : ℕ) → i + 1 ≤ 8 → on p i ≡ on q i
  bit_under i h = ap (λ (n : ℕ). eqb n 1) (field_under i 1 h)

  pub bit_over : (i : ℕ) → 10 ≤ i → on p i ≡ on q i
  bit_over i h = ap (λ (n : ℕ). eqb n 1) (field_over i 1 h)

  -- a field written outside of them
  pub put_under : (i w v x : ℕ) → i + w ≤ 8 → v ≡ x → SamePsw f (put p i w v) (put q i w x)
  put_under i w v x h e =
      record {
        rest = order p i w v 8 2 0 h ∙ ap₂ (λ (m n : ℕ). put m i w n) s.rest e ∙ sym (order q i w x 8 2 0 h);
        tf = λ t. past p i w v 8 h ∙ s.tf t ∙ sym (past q i w x 8 h);
        cy = λ t. past p i w v 9 (omega arith) ∙ s.cy t ∙ sym (past q i w x 9 (omega arith));
      }

  pub put_over : (i w v x : ℕ) → 10 ≤ i → v ≡ x → SamePsw f (put p i w v) (put q i w x)
  put_over i w v x h e =
      record {
        rest = sym (order p 8 2 0 i w v h) ∙ ap₂ (λ (m n : ℕ). put m i w n) s.rest e ∙ order q 8 2 0 i w x h;
        tf = λ t. before p i w v 8 (omega arith) ∙ s.tf t ∙ sym (before q i w x 8 (omega arith));
        cy = λ t. before p i w v 9 h ∙ s.cy t ∙ sym (before q i w x 9 h);
      }

  -- TF and CY written
  pub put_tf : (m u v : Bool) → (m ≡ false → u ≡ v) → SamePsw (record { tf = m; cy = f.cy }) (put p 8 1 (num u)) (put q 8 1 (num v))
  put_tf m u v e =
      record {
        rest = hide_tf p (num u) ∙ s.rest ∙ sym (hide_tf q (num v));
        tf = λ h. bit_back p 8 u ∙ e h ∙ sym (bit_back q 8 v);
        cy = λ h. past p 8 1 (num u) 9 (lit≤ tt) ∙ s.cy h ∙ sym (past q 8 1 (num v) 9 (lit≤ tt));
      }

  pub put_cy : (m u v : Bool) → (m ≡ false → u ≡ v) → SamePsw (record { tf = f.tf; cy = m }) (put p 9 1 (num u)) (put q 9 1 (num v))
  put_cy m u v e =
      record {
        rest = hide_cy p (num u) ∙ s.rest ∙ sym (hide_cy q (num v));
        tf = λ h. before p 9 1 (num u) 8 (lit≤ tt) ∙ s.tf h ∙ sym (before q 9 1 (num v) 8 (lit≤ tt));
        cy = λ h. bit_back p 9 u ∙ e h ∙ sym (bit_back q 9 v);
      }

  -- mtsfr psw keeps nothing of TF and CY
  pub psw_written_lem : (v : ℕ) → psw_written p v ≡ psw_written q v
  unfolding psw_written
  psw_written_lem v =
      ap₂ (λ (m n : ℕ). put m 26 6 n) (ap (λ (n : ℕ). put v 12 1 n) (field_over 12 1 (lit≤ tt))) (field_over 26 6 (lit≤ tt))

-- equal words differ nowhere, whatever is marked
pub psw_like : {f : Flags} {p q : ℕ} → p ≡ q → SamePsw f p q
psw_like e = record { rest = ap hide e; tf = λ h. ap (λ (n : ℕ). on n 8) e; cy = λ h. ap (λ (n : ℕ). on n 9) e }

-- equal words, if neither TF nor CY is marked
pub one_bit : (x y : ℕ) → x < 2 → y < 2 → eqb x 1 ≡ eqb y 1 → x ≡ y
one_bit x y h l e = go (eqb x 1) refl
  where
    go : (t : Bool) → eqb x 1 ≡ t → x ≡ y
    go true q =
        let a = eqb-true x 1 q in
        let b = eqb-true y 1 (sym e ∙ q) in
        omega arith
    go false q =
        let a = eqb-false x 1 q in
        let b = eqb-false y 1 (sym e ∙ q) in
        omega (arith, a, b)

parts : (p q : ℕ) → p / 1024 ≡ q / 1024 → p % 256 ≡ q % 256 → p / 256 % 2 ≡ q / 256 % 2 → p / 512 % 2 ≡ q / 512 % 2 → p ≡ q
parts p q a b c d = whole p q (half (p / 256) (q / 256) (twice p q (half (p / 512) (q / 512) (thrice p q a) d)) c) b
  where
    half : (x y : ℕ) → x / 2 ≡ y / 2 → x % 2 ≡ y % 2 → x ≡ y
    half x y e h = omega arith

    whole : (x y : ℕ) → x / 256 ≡ y / 256 → x % 256 ≡ y % 256 → x ≡ y
    whole x y e h = omega arith

    thrice : (x y : ℕ) → x / 1024 ≡ y / 1024 → x / 512 / 2 ≡ y / 512 / 2
    thrice x y e = omega arith

    twice : (x y : ℕ) → x / 512 ≡ y / 512 → x / 256 / 2 ≡ y / 256 / 2
    twice x y e = omega arith

shut_parts : (p q : ℕ) → hide p ≡ hide q → (p / 1024 ≡ q / 1024) × (p % 256 ≡ q % 256)
unfolding put
shut_parts p q e = (omega arith, omega arith)

pub psw_equal : {f : Flags} {p q : ℕ} → SamePsw f p q → f.tf ≡ false → f.cy ≡ false → p ≡ q
psw_equal {f} {p} {q} s h l =
    let w = shut_parts p q s.rest in
    parts p q w.0 w.1
    (one_bit (p / 256 % 2) (q / 256 % 2) (omega arith) (omega arith) (s.tf h))
    (one_bit (p / 512 % 2) (q / 512 % 2) (omega arith) (omega arith) (s.cy l))
