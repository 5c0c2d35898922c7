-- The order of a fetch's tests.
-- Assumes nothing.
use Rattle.std.specs.Prelude.{Err, None, Ok, Option, Result, Some}
use Prim.Native.Nat.{ℕ, ◌+◌, ◌%◌}
use mathlib.Core.Path.{◌≡◌, refl, sym, ap, ◌∙◌}
use mathlib.Core.Bool.{Bool, true, false, cond, not, ◌||◌}
use mathlib.Core.Logic.{◌⊎◌, inl, inr}
use mathlib.Core.List.{List}
use mathlib.Mathlib.Data.Bool.Basic.{or-eq-false-eq-eq-false-and-eq-false as neither}
use native.Mathlib.Omega.{arith}
use lib.Dec.{leb, eqb}
use lib.ListN.{length}
use borrow.Author.Tests.{leb-true, leb-false, eqb-true, eqb-false}
use Rattle.word.specs.declared.ByteAddr.{ByteAddr}
use Rattle.isa.specs.declared.Decoded.{Decoded}
use Rattle.marks.specs.Memory.{Marks, mark_at, any_mark}
use Rattle.instruction.specs.Fetch.{guarded, found, fetch_of}
use Rattle.instruction.specs.declared.Halt.{Halt}
use Rattle.steps.specs.Order.{Within, Past, Clear, Marked, second, says, Fetches, odd, outside, marked, nothing, short, long_outside, long_marked, long}
use Rattle.isa.specs.declared.Instr.{Instr}

-- ---- a half: what its two tests say

either : (a b : Bool) → (a || b) ≡ true → (a ≡ true) ⊎ (b ≡ true)
either true b e = inl refl
either false b e = inr e

module _ (a : ℕ) (k : Marks) where
  at_first : mark_at k (a + 0) ≡ mark_at k a
  at_first = ap (mark_at k) (omega arith)

  half_marked : any_mark 2 k a ≡ true → Marked a k
  unfolding any_mark
  half_marked e = go (either (mark_at k (a + 0)) (mark_at k (a + 1)) e)
    where
      go : (mark_at k (a + 0) ≡ true) ⊎ (mark_at k (a + 1) ≡ true) → Marked a k
      go (inl q) = inl (sym at_first ∙ q)
      go (inr q) = inr q

  half_clear : any_mark 2 k a ≡ false → Clear a k
  unfolding any_mark
  half_clear e = let q = (neither (mark_at k (a + 0)) (mark_at k (a + 1))).0 e in (sym at_first ∙ q.0, q.1)

-- what is read where a half is guarded: P holds of what comes if it is outside, if it is marked, and if neither
half : (P : Result Instr Halt → Type 0) (a : ByteAddr) (m : List ℕ) (k : Marks) (x : Result Instr Halt)
    → (Past a.0 m → P (Err Halt.FetchOutside)) → (Within a.0 m → Marked a.0 k → P (Err Halt.FetchMarked))
    → (Within a.0 m → Clear a.0 k → P x) → P (guarded a m k x)
half P a m k x f g h = go (leb (a.0 + 2) (length m)) (any_mark 2 k a.0) refl refl
  where
    go : (t u : Bool) → leb (a.0 + 2) (length m) ≡ t → any_mark 2 k a.0 ≡ u
        → P (cond (not t) (Err Halt.FetchOutside) (cond u (Err Halt.FetchMarked) x))
    go false u p q = f (leb-false _ _ p)
    go true true p q = g (leb-true _ _ p) (half_marked a.0 k q)
    go true false p q = h (leb-true _ _ p) (half_clear a.0 k q)

-- ---- the fetch

module _ (a : ByteAddr) (m : List ℕ) (k : Marks) where
  abbrev F : Result Instr Halt → Type 0
  F = Fetches a.0 m k

  found_in_lem : a.0 % 2 ≡ 0 → Within a.0 m → Clear a.0 k → (d : Option Decoded) → says a.0 m ≡ d → F (found d (record { 0 = second a.0 }) m k)
  found_in_lem e w c (Some (Decoded.Short i)) p = short i e w c p
  found_in_lem e w c (Some (Decoded.Long i)) p =
      half F (record { 0 = second a.0 }) m k (Ok i) (λ q. long_outside i e w c p q) (λ q r. long_marked i e w c p q r) (λ q r. long i e w c p q r)
  found_in_lem e w c None p = nothing e w c p

  pub fetches : F (fetch_of a m k)
  unfolding fetch_of
  fetches = go (eqb (a.0 % 2) 1) refl
    where
      go : (o : Bool) → eqb (a.0 % 2) 1 ≡ o
          → F (cond o (Err Halt.NoInstruction) (guarded a m k (found (says a.0 m) (record { 0 = second a.0 }) m k)))
      go true p = odd (eqb-true _ _ p)
      go false p =
          let n = eqb-false (a.0 % 2) 1 p in
          let e : a.0 % 2 ≡ 0 = omega (arith, n) in
          half F a m k _ (λ q. outside e q) (λ q r. marked e q r) (λ q r. found_in_lem e q r (says a.0 m) refl)

-- no fetch meets a marked operand or data outside memory
abbrev pub FetchHalts : Result Instr Halt → Type 0
FetchHalts (Err Halt.FetchOutside) = Unit {0}
FetchHalts (Err Halt.FetchMarked) = Unit {0}
FetchHalts (Err Halt.NoInstruction) = Unit {0}
FetchHalts (Err Halt.MarkedOperand) = ⊥
FetchHalts (Err Halt.DataOutside) = ⊥
FetchHalts (Ok i) = Unit {0}

pub fetch_halts : {a : ℕ} {m : List ℕ} {k : Marks} {x : Result Instr Halt} → Fetches a m k x → FetchHalts x
fetch_halts (odd e) = tt
fetch_halts (outside e p) = tt
fetch_halts (marked e w p) = tt
fetch_halts (nothing e w c p) = tt
fetch_halts (short i e w c p) = tt
fetch_halts (long_outside i e w c p q) = tt
fetch_halts (long_marked i e w c p q r) = tt
fetch_halts (long i e w c p q r) = tt
