-- What an entry leaves alone: every bit of PSW and HWDBG and every SFR that it does not write.
-- Assumes nothing.
use Prim.Native.Nat.{ℕ, ◌+◌, ◌*◌, ◌/◌, ◌<◌, ◌≤◌}
use mathlib.Core.Path.{◌≡◌, refl, ap, ◌∙◌}
use mathlib.Core.Bool.{Bool, true, false, cond, ◌&&◌, ◌||◌}
use mathlib.Mathlib.Data.Bool.Basic.{or-eq-false-eq-eq-false-and-eq-false as or_off}
use native.Mathlib.Omega.{arith}
use lib.Dec.{leb, eqb, lit≤}
use borrow.Author.Tests.{leb-true, leb-false, eqb-false}
use Rattle.word.specs.Bits.{num, on, put}
use Rattle.word.specs.Numbers.{lsl_of}
use Rattle.word.proofs.Fields.{kept_above, kept_below}
use Rattle.cpu.specs.Control.{with_pc, with_sfr, with_pending}
use Rattle.cpu.specs.Cycles.{entry_cost}
use Rattle.cpu.specs.Entries.{enter, entered}
use Rattle.cpu.specs.declared.Control.{Control}
use Rattle.cpu.specs.declared.Entry.{Entry}
use Rattle.sentences.specs.Writes.{among, saves, writes_psw, writes_hwdbg, Left, is_entry, is_timer, low_byte, adds_cycles}

-- ---- a bit that is not among those of a field

-- j is not one of the w bits from i on
abbrev Apart : ℕ → ℕ → ℕ → Type 0
Apart i w j = (i ≤ j → j < i + w → ⊥)

beside : (i e w j : ℕ) → e + 1 ≡ i + w → among i e j ≡ false → Apart i w j
beside i e w j q h a b = go (leb i j) (leb j e) refl refl h
  where
    go : (s t : Bool) → leb i j ≡ s → leb j e ≡ t → (s && t) ≡ false → ⊥
    go false t p r u = let l : j < i = leb-false _ _ p in omega arith
    go true false p r u = let l : e < j = leb-false _ _ r in omega arith
    go true true p r u = let z : ◌≡◌ {A = ℕ} 0 1 = cc in omega arith

other : (i j : ℕ) → eqb j i ≡ false → Apart i 1 j
other i j h a b = let e : j ≡ i = omega arith in eqb-false j i h e

kept : (p i w v j : ℕ) → Apart i w j → on (put p i w v) j ≡ on p j
kept p i w v j h = go (leb (i + w) j) refl
  where
    go : (t : Bool) → leb (i + w) j ≡ t → on (put p i w v) j ≡ on p j
    go true e = ap (λ (n : ℕ). eqb n 1) (kept_above p i w v j 1 (leb-true _ _ e))
    go false e = ap (λ (n : ℕ). eqb n 1) (kept_below p i w v j 1 (below (leb (j + 1) i) refl))
      where
        below : (t : Bool) → leb (j + 1) i ≡ t → j + 1 ≤ i
        below true q = leb-true _ _ q
        below false q = absurd (let l : i < j + 1 = leb-false _ _ q in let u : j < i + w = leb-false _ _ e in h (omega arith) u)

-- IP and BIP are written by every entry
saved : (p j : ℕ) (b : Bool) → saves j ≡ false → on (put (put p 6 1 (num b)) 3 1 1) j ≡ on p j
saved p j b h =
    let q = (or_off (eqb j 3) (eqb j 6)).0 h in
    kept (put p 6 1 (num b)) 3 1 1 j (other 3 j q.0) ∙ kept p 6 1 (num b) j (other 6 j q.1)

-- .. and beside them one bit, or a field and a bit
one_more : (p i v j : ℕ) → (saves j || eqb j i) ≡ false → on (put (put (put p i 1 v) 6 1 (num (on (put p i 1 v) 3))) 3 1 1) j ≡ on p j
one_more p i v j h =
    let q = (or_off (saves j) (eqb j i)).0 h in
    saved (put p i 1 v) j (on (put p i 1 v) 3) q.0 ∙ kept p i 1 v j (other i j q.1)

two_more : (p f e w x i v j : ℕ) → e + 1 ≡ f + w → (saves j || eqb j i || among f e j) ≡ false
    → on (put (put (put (put p f w x) i 1 v) 6 1 (num (on (put (put p f w x) i 1 v) 3))) 3 1 1) j ≡ on p j
two_more p f e w x i v j g h =
    let q = (or_off (saves j || eqb j i) (among f e j)).0 h in
    one_more (put p f w x) i v j q.0 ∙ kept p f w x j (beside f e w j g q.1)

pub psw_left : (e : Entry) (c : Control) (j : ℕ) → writes_psw e j ≡ false → on (entered e c).psw j ≡ on c.psw j
unfolding entered enter with_pc with_sfr with_pending
psw_left Entry.Nothing c j h = refl
psw_left (Entry.Swint n) c j h = two_more c.psw 16 19 4 n 0 1 j refl h
psw_left (Entry.Debug hit) c j h = two_more c.psw 16 19 4 15 0 0 j refl h
psw_left Entry.Timer c j h = one_more c.psw 2 1 j h
psw_left (Entry.External i) c j h = two_more c.psw 26 31 6 (lsl_of 1 i) 1 1 j refl h
psw_left Entry.FetchError c j h = one_more c.psw 15 1 j h
psw_left Entry.DataError c j h = one_more c.psw 14 1 j h

pub hwdbg_left : (e : Entry) (c : Control) (j : ℕ) → writes_hwdbg e j ≡ false → on (entered e c).hwdbg j ≡ on c.hwdbg j
unfolding entered enter with_pc with_sfr with_pending
hwdbg_left Entry.Nothing c j h = refl
hwdbg_left (Entry.Swint n) c j h = refl
hwdbg_left (Entry.Debug hit) c j h = kept c.hwdbg 6 3 hit j (beside 6 8 3 j refl h)
hwdbg_left Entry.Timer c j h = refl
hwdbg_left (Entry.External i) c j h = refl
hwdbg_left Entry.FetchError c j h = refl
hwdbg_left Entry.DataError c j h = refl

pub places_left : (e : Entry) (c : Control) → Left c (entered e c)
unfolding entered enter with_pc with_sfr with_pending
places_left Entry.Nothing c = record { ra = refl; timer = refl; ibase = refl; usreg = refl; bp0 = refl; bp1 = refl; wp0 = refl; wp1 = refl; cycles = refl }
places_left (Entry.Swint n) c = record { ra = refl; timer = refl; ibase = refl; usreg = refl; bp0 = refl; bp1 = refl; wp0 = refl; wp1 = refl; cycles = refl }
places_left (Entry.Debug hit) c = record { ra = refl; timer = refl; ibase = refl; usreg = refl; bp0 = refl; bp1 = refl; wp0 = refl; wp1 = refl; cycles = refl }
places_left Entry.Timer c = record { ra = refl; timer = refl; ibase = refl; usreg = refl; bp0 = refl; bp1 = refl; wp0 = refl; wp1 = refl; cycles = refl }
places_left (Entry.External i) c = record { ra = refl; timer = refl; ibase = refl; usreg = refl; bp0 = refl; bp1 = refl; wp0 = refl; wp1 = refl; cycles = refl }
places_left Entry.FetchError c = record { ra = refl; timer = refl; ibase = refl; usreg = refl; bp0 = refl; bp1 = refl; wp0 = refl; wp1 = refl; cycles = refl }
places_left Entry.DataError c = record { ra = refl; timer = refl; ibase = refl; usreg = refl; bp0 = refl; bp1 = refl; wp0 = refl; wp1 = refl; cycles = refl }

pub pending_left : (e : Entry) (c : Control) → (entered e c).pending ≡ cond (is_timer e) false c.pending
unfolding entered enter with_pc with_sfr with_pending
pending_left Entry.Nothing c = refl
pending_left (Entry.Swint n) c = refl
pending_left (Entry.Debug hit) c = refl
pending_left Entry.Timer c = refl
pending_left (Entry.External i) c = refl
pending_left Entry.FetchError c = refl
pending_left Entry.DataError c = refl

-- ---- where an entry goes, and what it adds to the cost

-- IBASE with its low byte replaced, in numbers
goes : (b low : ℕ) → low < 256 → put b 0 8 low ≡ b / 256 * 256 + low
unfolding put
goes b low h = omega arith

pub vector_of : (e : Entry) (c : Control) → is_entry e ≡ true → (entered e c).pc ≡ c.ibase / 256 * 256 + low_byte e
unfolding entered enter with_pc with_sfr with_pending
vector_of Entry.Nothing c h = let z : ◌≡◌ {A = ℕ} 0 1 = cc in absurd (omega arith)
vector_of (Entry.Swint n) c h = goes c.ibase 4 (lit≤ tt)
vector_of (Entry.Debug hit) c h = goes c.ibase 4 (lit≤ tt)
vector_of Entry.Timer c h = goes c.ibase 8 (lit≤ tt)
vector_of (Entry.External i) c h = goes c.ibase 12 (lit≤ tt)
vector_of Entry.FetchError c h = goes c.ibase 16 (lit≤ tt)
vector_of Entry.DataError c h = goes c.ibase 16 (lit≤ tt)

pub adds : (e : Entry) → entry_cost e ≡ adds_cycles e
unfolding entry_cost
adds Entry.Nothing = refl
adds (Entry.Swint n) = refl
adds (Entry.Debug hit) = refl
adds Entry.Timer = refl
adds (Entry.External i) = refl
adds Entry.FetchError = refl
adds Entry.DataError = refl
