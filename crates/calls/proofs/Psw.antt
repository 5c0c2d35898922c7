-- PSW in a record, byte by byte: TF is bit 0 and CY bit 1 of byte 86.
-- Assumes nothing.
use Prim.Native.Nat.{ℕ, ◌+◌, ◌*◌, ◌/◌, ◌%◌, ◌^◌, ◌<◌}
use mathlib.Core.Path.{◌≡◌, sym, ap, ap₂, subst₃, ◌∙◌}
use mathlib.Core.Bool.{false}
use mathlib.Core.List.{List}
use native.Mathlib.Nat.{zero-add}
use native.Mathlib.Omega.{arith}
use lib.Arith.{digits_div, digits_mod}
use lib.Dec.{ltb, eqb}
use lib.ListN.{length, get_or}
use lib.Pow.{shr-shr}
use borrow.Author.Tests.{ltb-false}
use Rattle.word.specs.Bits.{on, put}
use Rattle.word.specs.Bytes.{load}
use Rattle.word.proofs.Fields.{above, below}
use Rattle.marks.specs.declared.Flags.{Flags}
use Rattle.machine.specs.declared.State.{State}
use Rattle.secrecy.specs.Same.{hide, SamePsw}
use Rattle.secrecy.proofs.Psw.{one_bit}
use Rattle.abi.specs.Record.{word_at, flag_at, each, control_at, state_at, Bytes}
use Rattle.abi.proofs.Laws.{load_one}
use Rattle.abi.proofs.Parts.{in_parts}
use Rattle.calls.specs.Records.{PswClause, SamePswBytes}

-- two bytes behind each other
abbrev pair : ℕ → ℕ → ℕ
pair a b = a * 256 + b

apart : (a b c d : ℕ) → b < 256 → d < 256 → pair a b ≡ pair c d → (a ≡ c) × (b ≡ d)
apart a b c d h l e = (omega arith, omega arith)

-- the third byte without its two low bits, below what stands before it
quarter : (a b : ℕ) → pair a b / 4 ≡ a * 64 + b / 4
quarter a b = omega arith

quarters : (a b c d : ℕ) → b < 256 → d < 256 → a * 64 + b / 4 ≡ c * 64 + d / 4 → (a ≡ c) × (b / 4 ≡ d / 4)
quarters a b c d h l e = (omega arith, omega arith)

-- w is what stands before the last byte d
module _ (w d : ℕ) (h : d < 256) where
  high : pair w d / 2 ^ 10 ≡ w / 4
  high = sym (shr-shr (pair w d) 8 2) ∙ ap (λ (n : ℕ). n / 4) (digits_div w h)

  low : pair w d % 2 ^ 8 ≡ d
  low = digits_mod w h

  bit : (i : ℕ) → on (pair w d) (8 + i) ≡ on w i
  bit i = ap (λ (n : ℕ). eqb (n % 2 ^ 1) 1) (sym (shr-shr (pair w d) 8 i) ∙ ap (λ (n : ℕ). n / 2 ^ i) (digits_div w h))

-- TF and CY, of a third byte c
bit_tf : (v c d : ℕ) → d < 256 → on (pair (pair v c) d) 8 ≡ eqb (c % 2) 1
bit_tf v c d h =
    let e : pair v c / 1 % 2 ≡ c % 2 = omega arith in
    bit (pair v c) d h 0 ∙ ap (λ (n : ℕ). eqb n 1) e

bit_cy : (v c d : ℕ) → d < 256 → on (pair (pair v c) d) 9 ≡ eqb (c / 2 % 2) 1
bit_cy v c d h =
    let e : pair v c / 2 % 2 ≡ c / 2 % 2 = omega arith in
    bit (pair v c) d h 1 ∙ ap (λ (n : ℕ). eqb n 1) e

-- all but TF and CY
module _ (v c d w g h : ℕ) (hc : c < 256) (hd : d < 256) (hg : g < 256) (hh : h < 256) where
  hide_apart : hide (pair (pair v c) d) ≡ hide (pair (pair w g) h) → (v ≡ w) × (c / 4 ≡ g / 4) × (d ≡ h)
  hide_apart e =
      let p : ℕ = pair (pair v c) d in
      let q : ℕ = pair (pair w g) h in
      let x : p / 2 ^ 10 ≡ q / 2 ^ 10 = sym (above p 8 2 0) ∙ ap (λ (n : ℕ). n / 2 ^ 10) e ∙ above q 8 2 0 in
      let y : p % 2 ^ 8 ≡ q % 2 ^ 8 = sym (below p 8 2 0) ∙ ap (λ (n : ℕ). n % 2 ^ 8) e ∙ below q 8 2 0 in
      let z = quarters v c w g hc hg (sym (high (pair v c) d hd ∙ quarter v c) ∙ x ∙ high (pair w g) h hh ∙ quarter w g) in
      (z.0, z.1, sym (low (pair v c) d hd) ∙ y ∙ low (pair w g) h hh)

  hide_joined : v ≡ w → c / 4 ≡ g / 4 → d ≡ h → hide (pair (pair v c) d) ≡ hide (pair (pair w g) h)
  unfolding put
  hide_joined x y z =
      ap₂ (λ (m n : ℕ). (m * 2 ^ 2 + 0 % 2 ^ 2) * 2 ^ 8 + n)
      (high (pair v c) d hd ∙ quarter v c ∙ ap₂ (λ (m n : ℕ). m * 64 + n) x y ∙ sym (high (pair w g) h hh ∙ quarter w g))
      (low (pair v c) d hd ∙ z ∙ sym (low (pair w g) h hh))

-- ---- in a record

module _ (r : List ℕ) (n : length r ≡ 160) where
  -- PSW and both marks as they are read
  psw_word : word_at r 84 ≡ pair (pair (load 2 r 84) (get_or r 86 0)) (get_or r 87 0)
  unfolding state_at control_at each load
  psw_word = ap (λ (s : State). s.control.psw) (in_parts r n)

  psw_flags : ◌≡◌ {A = Flags} (record { tf = flag_at r 88; cy = flag_at r 89 }) (record { tf = ltb 0 (get_or r 88 0); cy = ltb 0 (get_or r 89 0) })
  unfolding state_at each
  psw_flags =
      ap (λ (s : State). s.flags) (in_parts r n)
      ∙ ap₂ {C = Flags} (λ (x y : ℕ). record { tf = ltb 0 x; cy = ltb 0 y }) (load_one r 88) (load_one r 89)

two_bytes : (r : List ℕ) → load 2 r 84 ≡ pair (get_or r 84 0) (get_or r 85 0)
unfolding load
two_bytes r = ap (λ (x : ℕ). pair x (get_or r 85 0)) (zero-add (get_or r 84 0))

unmarked : (x : ℕ) → ltb 0 x ≡ false → x ≡ 0
unmarked x h = let l = ltb-false 0 x h in omega arith

module _ (r q : List ℕ) (b : Bytes r) (c : Bytes q) (n : length r ≡ 160) (o : length q ≡ 160) where
  pub psw_apart : PswClause r q → SamePswBytes r q
  psw_apart s =
      let t = subst₃ SamePsw (psw_flags r n) (psw_word r n) (psw_word q o) s in
      let x = hide_apart (load 2 r 84) (get_or r 86 0) (get_or r 87 0) (load 2 q 84) (get_or q 86 0) (get_or q 87 0) (b 86) (b 87) (c 86) (c 87) t.rest in
      let y = apart (get_or r 84 0) (get_or r 85 0) (get_or q 84 0) (get_or q 85 0) (b 85) (c 85) (sym (two_bytes r) ∙ x.0 ∙ two_bytes q) in
      record {
        first = y.0;
        second = y.1;
        third = x.1;
        tf = λ z. one_bit (get_or r 86 0 % 2) (get_or q 86 0 % 2) (omega arith) (omega arith) (sym (bit_tf _ _ _ (b 87)) ∙ t.tf (ap (ltb 0) z) ∙ bit_tf _ _ _ (c 87));
        cy = λ z. one_bit (get_or r 86 0 / 2 % 2) (get_or q 86 0 / 2 % 2) (omega arith) (omega arith) (sym (bit_cy _ _ _ (b 87)) ∙ t.cy (ap (ltb 0) z) ∙ bit_cy _ _ _ (c 87));
        fourth = x.2;
      }

  pub psw_joined : SamePswBytes r q → PswClause r q
  psw_joined s =
      subst₃ SamePsw (sym (psw_flags r n)) (sym (psw_word r n)) (sym (psw_word q o))
      (record {
        rest =
            hide_joined (load 2 r 84) (get_or r 86 0) (get_or r 87 0) (load 2 q 84) (get_or q 86 0) (get_or q 87 0) (b 86) (b 87) (c 86) (c 87)
            (two_bytes r ∙ ap₂ pair s.first s.second ∙ sym (two_bytes q))
            s.third
            s.fourth;
        tf = λ z. bit_tf _ _ _ (b 87) ∙ ap (λ (x : ℕ). eqb x 1) (s.tf (unmarked _ z)) ∙ sym (bit_tf _ _ _ (c 87));
        cy = λ z. bit_cy _ _ _ (b 87) ∙ ap (λ (x : ℕ). eqb x 1) (s.cy (unmarked _ z)) ∙ sym (bit_cy _ _ _ (c 87));
      })
