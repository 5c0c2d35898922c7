-- A listing's mnemonic names what it was written for.
-- Assumes nothing.
use Prim.Native.Nat.{ℕ, ◌/◌, ◌<◌}
use mathlib.Core.Path.{◌≡◌, refl, ap, ◌∙◌}
use mathlib.Core.Bool.{Bool, true, ◌&&◌, ◌||◌}
use mathlib.Core.List.{List}
use native.Mathlib.Omega.{arith}
use lib.Dec.{ltb, eqb}
use lib.ListN.{length}
use borrow.Author.Tests.{lt-ltb, le-ltb, ltb-true, eqb-true, ne_eqb}
use Rattle.isa.specs.Codes.{kind_of}
use Rattle.isa.specs.Decode.{decode_of, operands_of}
use Rattle.isa.specs.Statements.{size_of, low_part, bound_of}
use Rattle.isa.specs.declared.Kind.{Kind}
use Rattle.isa.proofs.Rows.{each_at, and_left, and_right, or_right}
use Rattle.isa.proofs.Theorems.{size_by_first_half}
use Rattle.listing.specs.Names.{names, letters_in, name_at, place_of, half_place}
use Rattle.columns.proofs.Names.{same_kind, none_at_half}
use Rattle.expr.specs.Expr.{run_of, key_from, index_of}
use Rattle.forms.specs.Form.{named, named_from, mnemonics, byte_of, what_at}
use Rattle.forms.specs.declared.What.{What}

-- the place that a mnemonic names
abbrev pub place_by : List ℕ → ℕ
place_by f = index_of mnemonics (named f)

-- computed: each place's name names it
found_each : (p : ℕ) → p < 82 → (eqb (length (name_at p)) 0 || eqb (place_by (name_at p)) p) ≡ true
unfolding name_at names letters_in mnemonics named_from index_of key_from run_of
found_each p h = each_at (λ (q : ℕ). eqb (length (name_at q)) 0 || eqb (place_by (name_at q)) q) 82 p refl h

-- computed: every first byte that is some instruction's has a name, and its place's byte has its place
abbrev is_back : ℕ → Bool
is_back n = ltb (place_of n) 82 && (ltb (byte_of (place_of n)) 256 && eqb (place_of (byte_of (place_of n))) (place_of n))

named_each : (n : ℕ) → n < 256 → (eqb (bound_of n) 0 || ltb 0 (length (name_at (place_of n)))) ≡ true
unfolding name_at names letters_in place_of
named_each n h = each_at (λ (k : ℕ). eqb (bound_of k) 0 || ltb 0 (length (name_at (place_of k)))) 256 n refl h

back_each : (n : ℕ) → n < 256 → is_back n ≡ true
unfolding place_of byte_of
back_each n h = each_at is_back 256 n refl h

module _ (h s : ℕ) (hh : h < 65536) (some : size_of (decode_of h s) ≡ 0 → ⊥) where
  abbrev n : ℕ
  n = h / 256

  low : n < 256
  low = omega arith

  bound : bound_of n ≡ 0 → ⊥
  bound e = some (size_by_first_half h s hh ∙ rw (e, le-ltb (low_part n h) 0 (omega arith)))

  place_low : place_of n < 82
  place_low = ltb-true _ _ (and_left (ltb (place_of n) 82) _ (back_each n low))

  rest : (ltb (byte_of (place_of n)) 256 && eqb (place_of (byte_of (place_of n))) (place_of n)) ≡ true
  rest = and_right (ltb (place_of n) 82) _ (back_each n low)

  pub place_named_lem : place_by (name_at (place_of n)) ≡ place_of n
  place_named_lem =
      let l : 0 < length (name_at (place_of n)) = ltb-true _ _ (or_right (eqb (bound_of n) 0) _ (named_each n low) (ne_eqb _ _ bound)) in
      eqb-true _ _ (or_right (eqb (length (name_at (place_of n))) 0) _ (found_each (place_of n) place_low) (ne_eqb (length (name_at (place_of n))) 0 (λ q. omega arith)))

  -- no instruction has the place of `half`
  pub not_half : place_of n ≡ half_place → ⊥
  unfolding decode_of operands_of
  not_half e = some (ap (λ (k : Kind). size_of (operands_of k h s)) (none_at_half n low e))

  pub code_named : what_at (place_by (name_at (place_of n))) ≡ What.Code (kind_of n)
  unfolding what_at
  code_named =
      let k : kind_of (byte_of (place_of n)) ≡ kind_of n
      = same_kind (byte_of (place_of n)) n (ltb-true _ _ (and_left _ _ rest)) low (eqb-true _ _ (and_right (ltb (byte_of (place_of n)) 256) _ rest)) in
      let l = place_low in
      let f = not_half in
      rw (place_named_lem, lt-ltb (place_of n) 81 (omega arith), k)

pub half_named : what_at (place_by (name_at half_place)) ≡ What.Half
unfolding name_at names letters_in mnemonics named_from index_of key_from run_of what_at
half_named = refl
