-- A mnemonic's place, from its letters; and a kind, from its place.
-- Assumes nothing.
use Prim.Native.Nat.{ℕ, ◌+◌, ◌-◌, ◌/◌, ◌%◌, ◌<◌}
use mathlib.Core.Path.{◌≡◌, refl, sym, ap, ◌∙◌}
use mathlib.Core.Bool.{Bool, true, false, cond, not, ◌||◌}
use mathlib.Core.List.{List, [], ◌∷◌}
use native.Mathlib.Omega.{arith}
use lib.Dec.{ltb, eqb}
use borrow.Author.Tests.{lt-ltb, le-ltb, ltb-true, ltb-false, eqb-true, ne_eqb}
use Rattle.isa.specs.Codes.{kind_of, kind_in, fixed_row, jump_row, low_kind}
use Rattle.isa.specs.declared.Kind.{Kind}
use Rattle.isa.specs.Decode.{decode_of}
use Rattle.isa.specs.Statements.{size_of, low_part, bound_of}
use Rattle.isa.proofs.Rows.{each_at, or_right}
use Rattle.isa.proofs.Theorems.{size_by_first_half}
use Rattle.text.specs.Fields.{same_of}
use Rattle.listing.specs.Names.{names, letters_in, name_at, place_of, half_place}
use Rattle.columns.specs.Columns.{place_in, place_named}

abbrev is_none : List ℕ → Bool
is_none [] = true
is_none (c ∷ l) = false

-- computed: each name is found at its own place, and only there
found_each : (p : ℕ) → p < 82 → (is_none (name_at p) || eqb (place_named (name_at p)) p) ≡ true
unfolding name_at names letters_in place_in same_of
found_each p h = each_at (λ (q : ℕ). is_none (name_at q) || eqb (place_named (name_at q)) q) 82 p refl h

-- computed: every first byte that is some instruction's has a name
named_each : (n : ℕ) → n < 256 → (eqb (bound_of n) 0 || not (is_none (name_at (place_of n)))) ≡ true
unfolding name_at names letters_in place_of
named_each n h = each_at (λ (k : ℕ). eqb (bound_of k) 0 || not (is_none (name_at (place_of k)))) 256 n refl h

place_low : (n : ℕ) → n < 256 → place_of n < 82
unfolding place_of
place_low n h = go (ltb n 64) refl (ltb n 224) refl
  where
    go : (t : Bool) → ltb n 64 ≡ t → (u : Bool) → ltb n 224 ≡ u → cond t n (cond u (60 + n / 16) (18 + n / 4)) < 82
    go true e u f = let q = ltb-true n 64 e in omega arith
    go false e true f = let q = ltb-true n 224 f in omega arith
    go false e false f = omega arith

some : (a : Bool) → not a ≡ true → a ≡ false
some true e = sym e
some false e = refl

-- the place that has a name is the name's
place_back : (p : ℕ) → p < 82 → is_none (name_at p) ≡ false → place_named (name_at p) ≡ p
place_back p h e = eqb-true _ _ (or_right (is_none (name_at p)) (eqb (place_named (name_at p)) p) (found_each p h) e)

-- an instruction's
pub byte_back : (h s : ℕ) → h < 65536 → (size_of (decode_of h s) ≡ 0 → ⊥) → place_named (name_at (place_of (h / 256))) ≡ place_of (h / 256)
byte_back h s k f =
    place_back (place_of n) (place_low n (omega arith))
    (some (is_none (name_at (place_of n))) (or_right (eqb (bound_of n) 0) (not (is_none (name_at (place_of n)))) (named_each n (omega arith)) (ne_eqb (bound_of n) 0 bound)))
  where
    n : ℕ
    n = h / 256

    bound : bound_of n ≡ 0 → ⊥
    bound e = f (size_by_first_half h s k ∙ rw (e, le-ltb (low_part n h) 0 (omega arith)))

-- and that of `half`
pub half_back : place_named (name_at half_place) ≡ half_place
unfolding name_at names letters_in
half_back = place_back half_place (omega arith) refl

-- ---- the kind that stands at a place

abbrev kind_at : ℕ → Kind
kind_at p = cond (ltb p 64) (low_kind (p / 16) (p % 16)) (cond (ltb p 74) (kind_in fixed_row (p - 64)) (kind_in jump_row (p - 74)))

kind_at_lem : (n : ℕ) → n < 256 → kind_of n ≡ kind_at (place_of n)
unfolding kind_of place_of
kind_at_lem n h = go (ltb n 64) refl (ltb n 224) refl
  where
    go : (t : Bool) → ltb n 64 ≡ t → (u : Bool) → ltb n 224 ≡ u
        → cond t (low_kind (n / 16) (n % 16)) (cond u (kind_in fixed_row (n / 16 - 4)) (kind_in jump_row (n / 4 - 56)))
        ≡ kind_at (cond t n (cond u (60 + n / 16) (18 + n / 4)))
    go true e u f = sym (rw e)
    go false e true f =
        let q = ltb-true n 224 f in
        let l = ltb-false n 64 e in
        let z : 60 + n / 16 - 64 ≡ n / 16 - 4 = omega arith in
        sym (rw (le-ltb (60 + n / 16) 64 (omega arith), lt-ltb (60 + n / 16) 74 (omega arith), z))
    go false e false f =
        let q = ltb-false n 224 f in
        let z : 18 + n / 4 - 74 ≡ n / 4 - 56 = omega arith in
        sym (rw (le-ltb (18 + n / 4) 64 (omega arith), le-ltb (18 + n / 4) 74 (omega arith), z))

pub same_kind : (n k : ℕ) → n < 256 → k < 256 → place_of n ≡ place_of k → kind_of n ≡ kind_of k
same_kind n k h i e = kind_at_lem n h ∙ ap kind_at e ∙ sym (kind_at_lem k i)

-- no mnemonic stands for two kinds of instruction
pub one_kind : (h s k t : ℕ) → h < 65536 → k < 65536 → (size_of (decode_of h s) ≡ 0 → ⊥) → (size_of (decode_of k t) ≡ 0 → ⊥)
    → name_at (place_of (h / 256)) ≡ name_at (place_of (k / 256)) → kind_of (h / 256) ≡ kind_of (k / 256)
one_kind h s k t hh hk f g e =
    same_kind (h / 256) (k / 256) (omega arith) (omega arith) (sym (byte_back h s hh f) ∙ ap place_named e ∙ byte_back k t hk g)

-- no instruction has the place of `half`
pub none_at_half : (n : ℕ) → n < 256 → place_of n ≡ half_place → kind_of n ≡ Kind.Nothing
none_at_half n h e = kind_at_lem n h ∙ ap kind_at e
