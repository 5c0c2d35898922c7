-- The theorems of this crate, each with its statement; read this file alone with specs/. The decoder that runs is the decoder that is proved inverse to the
-- encoder (crates/isa/proofs/Theorems.antt).
-- Assumes nothing.
use Rattle.std.specs.Prelude.{Err, None, Ok, Option, Result, Some}
use Prim.Native.Nat.{ℕ, ◌%◌, ◌<◌}
use mathlib.Core.Path.{◌≡◌, refl, sym, subst}
use mathlib.Core.Bool.{Bool, true, false, cond, not}
use mathlib.Core.List.{List}
use native.Mathlib.Omega.{arith}
use lib.Dec.{eqb}
use lib.ListN.{get_or}
use Rattle.word.specs.Bytes.{inside}
use Rattle.word.specs.declared.ByteAddr.{ByteAddr}
use Rattle.word.specs.declared.Width.{Width}
use Rattle.word.proofs.Memory.{half_lt}
use Rattle.isa.specs.Encode.{encode_of}
use Rattle.isa.specs.declared.Instr.{Instr}
use Rattle.isa.specs.declared.Decoded.{Decoded}
use Rattle.isa.proofs.Theorems.{short_encodes, long_encodes}
use Rattle.marks.specs.Memory.{Marks, marked_at}
use Rattle.instruction.specs.Fetch.{half_at, after_half, found, fetch_of}
use Rattle.instruction.specs.Statements.{decoded_at, Is, short, long, At, two, four}
use Rattle.instruction.specs.declared.Halt.{Halt}

module _ (a : ByteAddr) (m : List ℕ) (k : Marks) where
  -- 1. What is run at an address is what the halves there decode to ..
  pub runs_what_decodes : (i : Instr) → fetch_of a m k ≡ Ok i → Is i (decoded_at m a)
  unfolding fetch_of
  runs_what_decodes i e = go (eqb (a.0 % 2) 1) (not (inside m a 2)) (marked_at Width.Half k a) (decoded_at m a) e
    where
      second : (t u : Bool) (j : Instr)
          → cond t (Err Halt.FetchOutside) (cond u (Err Halt.FetchMarked) (Ok j)) ≡ Ok i → Is i (Some (Decoded.Long j))
      second true u j p = let z : ◌≡◌ {A = ℕ} 0 1 = cc in absurd (omega arith)
      second false true j p = let z : ◌≡◌ {A = ℕ} 0 1 = cc in absurd (omega arith)
      second false false j p = let q : i ≡ j = cc in subst (λ (n : Instr). Is i (Some (Decoded.Long n))) q long

      go : (o t u : Bool) (d : Option Decoded)
          → cond o (Err Halt.NoInstruction)
          (cond t (Err Halt.FetchOutside) (cond u (Err Halt.FetchMarked) (found d (after_half a) m k)))
          ≡ Ok i
          → Is i d
      go true t u d p = let z : ◌≡◌ {A = ℕ} 0 1 = cc in absurd (omega arith)
      go false true u d p = let z : ◌≡◌ {A = ℕ} 0 1 = cc in absurd (omega arith)
      go false false true d p = let z : ◌≡◌ {A = ℕ} 0 1 = cc in absurd (omega arith)
      go false false false (Some (Decoded.Short j)) p = let q : i ≡ j = cc in subst (λ (n : Instr). Is i (Some (Decoded.Short n))) q short
      go false false false (Some (Decoded.Long j)) p = second (not (inside m (after_half a) 2)) (marked_at Width.Half k (after_half a)) j p
      go false false false None p = let z : ◌≡◌ {A = ℕ} 0 1 = cc in absurd (omega arith)

  -- .. and the bits there are that instruction's: the round trip speaks of what the machine runs.
  pub runs_its_bits : ((j : ℕ) → get_or m j 0 < 256) → (i : Instr) → fetch_of a m k ≡ Ok i → At m a (encode_of i)
  unfolding half_at
  runs_its_bits bytes i e = go (decoded_at m a) (runs_what_decodes i e) refl
    where
      fits : (b : ByteAddr) → half_at m b < 65536
      fits b = half_lt m b bytes

      go : (d : Option Decoded) → Is i d → decoded_at m a ≡ d → At m a (encode_of i)
      go d short p = subst (At m a) (sym (short_encodes _ _ i (fits a) (fits (after_half a)) p)) two
      go d long p = subst (At m a) (sym (long_encodes _ _ i (fits a) (fits (after_half a)) p)) four

  -- 2. At an even address the fetch stops with 13 only if the halves there decode to nothing ..
  pub thirteen_only_if_nothing : eqb (a.0 % 2) 1 ≡ false → fetch_of a m k ≡ Err Halt.NoInstruction → decoded_at m a ≡ None
  unfolding fetch_of
  thirteen_only_if_nothing o e = go (not (inside m a 2)) (marked_at Width.Half k a) (decoded_at m a) (rw o at e)
    where
      second : (t u : Bool) (j : Instr)
          → cond t (Err Halt.FetchOutside) (cond u (Err Halt.FetchMarked) (Ok j)) ≡ Err Halt.NoInstruction
          → Some (Decoded.Long j) ≡ None
      second true u j p = let z : ◌≡◌ {A = ℕ} 0 1 = cc in absurd (omega arith)
      second false true j p = let z : ◌≡◌ {A = ℕ} 0 1 = cc in absurd (omega arith)
      second false false j p = let z : ◌≡◌ {A = ℕ} 0 1 = cc in absurd (omega arith)

      go : (t u : Bool) (d : Option Decoded)
          → cond t (Err Halt.FetchOutside) (cond u (Err Halt.FetchMarked) (found d (after_half a) m k))
          ≡ Err Halt.NoInstruction
          → d ≡ None
      go true u d p = let z : ◌≡◌ {A = ℕ} 0 1 = cc in absurd (omega arith)
      go false true d p = let z : ◌≡◌ {A = ℕ} 0 1 = cc in absurd (omega arith)
      go false false (Some (Decoded.Short j)) p = let z : ◌≡◌ {A = ℕ} 0 1 = cc in absurd (omega arith)
      go false false (Some (Decoded.Long j)) p = second (not (inside m (after_half a) 2)) (marked_at Width.Half k (after_half a)) j p
      go false false None p = refl

  -- .. and, where the first half can be read, if they do.
  pub nothing_stops_with_13 : inside m a 2 ≡ true → marked_at Width.Half k a ≡ false → decoded_at m a ≡ None
      → fetch_of a m k ≡ Err Halt.NoInstruction
  unfolding fetch_of
  nothing_stops_with_13 t u d = rw (t, u, d) (go (eqb (a.0 % 2) 1))
    where
      go : (o : Bool) → ◌≡◌ {A = Result Instr Halt} (cond o (Err Halt.NoInstruction) (Err Halt.NoInstruction)) (Err Halt.NoInstruction)
      go true = refl
      go false = refl
