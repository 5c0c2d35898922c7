-- A refusal is the lowest number whose fault holds.
-- Assumes nothing.
use Rattle.std.specs.Prelude.{Err, Ok}
use Prim.Native.Nat.{ℕ, zero, suc, ◌+◌, ◌*◌, ◌-◌, ◌/◌, ◌%◌, ◌<◌, ◌≤◌}
use mathlib.Core.Path.{◌≡◌, refl, sym, subst, ◌∙◌}
use mathlib.Core.Bool.{Bool, true, false, cond, not, ◌&&◌, ◌||◌, true≢false, and-eq-true_iff as both}
use mathlib.Core.List.{List, [], ◌∷◌}
use mathlib.Mathlib.Data.Bool.Basic.{or-eq-false-eq-eq-false-and-eq-false as neither}
use native.Mathlib.Omega.{arith}
use lib.Dec.{ltb, eqb, lit≤}
use lib.ListN.{length, get_or, take}
use borrow.Author.Tests.{ltb-true, ltb-false, eqb-true, eqb-false, not-true, not-false, lt-ltb}
use Rattle.word.specs.Bits.{on, field_of}
use Rattle.word.specs.Bytes.{any_above}
use Rattle.cpu.specs.declared.Control.{Control}
use Rattle.marks.specs.Memory.{Marks, bits, mark_at, any_mark, bad_room, bad_mark}
use Rattle.marks.proofs.Places.{none_marked, off_past}
use Rattle.instruction.specs.declared.Reply.{Reply}
use Rattle.machine.specs.State.{out_of_form}
use Rattle.machine.specs.Run.{bad_length, judge}
use Rattle.machine.specs.declared.State.{State}
use Rattle.steps.specs.Refusals.{Fault, empty, large, uneven, few_marks, many_marks, mark_past, odd, bit_12, low_bits, high_bits, early, short_tape, high_line, Lowest}

-- one that is marked, and one that is above
some_marked : (n : ℕ) (k : Marks) (i : ℕ) → any_mark n k i ≡ true → (j : ℕ) × (j < n) × (mark_at k (i + j) ≡ true)
unfolding any_mark
some_marked zero k i e = absurd (true≢false (sym e))
some_marked (suc n) k i e = go (any_mark n k i) (λ p. some_marked n k i p) e
  where
    go : (b : Bool) → (b ≡ true → (j : ℕ) × (j < n) × (mark_at k (i + j) ≡ true)) → (b || mark_at k (i + n)) ≡ true
        → (j : ℕ) × (j < suc n) × (mark_at k (i + j) ≡ true)
    go true f q = let r = f refl in (r.0, let l = r.1 in omega arith, r.2)
    go false f q = (n, omega arith, q)

some_above : (n b : ℕ) (l : List ℕ) → any_above n (take b l) ≡ true → (i : ℕ) × (i < b) × (n < get_or l i 0)
unfolding any_above
some_above n zero l e = absurd (true≢false (sym e))
some_above n (suc b) [] e = absurd (true≢false (sym e))
some_above n (suc b) (x ∷ l) e = go (ltb n x) refl (λ p. some_above n b l p) e
  where
    go : (t : Bool) → ltb n x ≡ t → (any_above n (take b l) ≡ true → (i : ℕ) × (i < b) × (n < get_or l i 0)) → (t || any_above n (take b l)) ≡ true
        → (i : ℕ) × (i < suc b) × (n < get_or (x ∷ l) i 0)
    go true p f q = (0, omega arith, ltb-true _ _ p)
    go false p f q = let r = f q in (suc r.0, let h = r.1 in omega arith, r.2)

none_above : (n b : ℕ) (l : List ℕ) → any_above n (take b l) ≡ false → (i : ℕ) → i < b → n < get_or l i 0 → ⊥
unfolding any_above
none_above n zero l e i h g = omega arith
none_above n (suc b) [] e i h g = omega arith
none_above n (suc b) (x ∷ l) e zero h g = true≢false (sym (lt-ltb n x g) ∙ ((neither (ltb n x) (any_above n (take b l))).0 e).0)
none_above n (suc b) (x ∷ l) e (suc i) h g = none_above n b l ((neither (ltb n x) (any_above n (take b l))).0 e).1 i (omega arith) g

module _ (b : ℕ) (t : List ℕ) (s : State) (m k : List ℕ) where
  abbrev c : Control
  c = s.control

  abbrev F : ℕ → Type 0
  F = Fault b t c m k

  -- ---- each test says whether there is such a fault

  length_fault : bad_length (length m) ≡ true → F 1
  length_fault e = go (eqb (length m) 0) (ltb 65536 (length m)) refl refl e
    where
      go : (x y : Bool) → eqb (length m) 0 ≡ x → ltb 65536 (length m) ≡ y → (x || y || not (eqb (length m % 4) 0)) ≡ true → F 1
      go true y p q r = empty (eqb-true _ _ p)
      go false true p q r = large (ltb-true _ _ q)
      go false false p q r = uneven (eqb-false _ _ (not-true _ r))

  length_fine : bad_length (length m) ≡ false → F 1 → ⊥
  length_fine e f = go f
    where
      two : ((eqb (length m) 0 || ltb 65536 (length m)) ≡ false) × (not (eqb (length m % 4) 0) ≡ false)
      two = (neither (eqb (length m) 0 || ltb 65536 (length m)) (not (eqb (length m % 4) 0))).0 e

      one : (eqb (length m) 0 ≡ false) × (ltb 65536 (length m) ≡ false)
      one = (neither (eqb (length m) 0) (ltb 65536 (length m))).0 two.0

      go : F 1 → ⊥
      go (empty p) = eqb-false _ _ one.0 p
      go (large p) = let q : length m ≤ 65536 = ltb-false _ _ one.1 in omega arith
      go (uneven p) = p (eqb-true _ _ (not-false _ two.1))

  room_fault : bad_room (length m) (bits k) ≡ true → F 2
  room_fault e = go (ltb (8 * length k) (length m)) refl
    where
      ne : length k ≡ (length m + 7) / 8 → ⊥
      ne = eqb-false _ _ (not-true _ e)

      go : (x : Bool) → ltb (8 * length k) (length m) ≡ x → F 2
      go true p = few_marks (ltb-true _ _ p)
      go false p = let q : length m ≤ 8 * length k = ltb-false _ _ p in many_marks (omega (arith, ne))

  room_fine : bad_room (length m) (bits k) ≡ false → F 2 → ⊥
  room_fine e f = go f
    where
      eq : length k ≡ (length m + 7) / 8
      eq = eqb-true _ _ (not-false _ e)

      go : F 2 → ⊥
      go (few_marks p) = omega (arith, eq)
      go (many_marks p) = omega (arith, eq)

  mark_fault_lem : bad_mark (length m) (bits k) ≡ true → F 3
  mark_fault_lem e = let r = some_marked (8 - length m % 8) (bits k) (length m) e in mark_past (length m + r.0) (omega arith) r.2

  mark_fine : bad_room (length m) (bits k) ≡ false → bad_mark (length m) (bits k) ≡ false → F 3 → ⊥
  mark_fine g e (mark_past p h q) = true≢false (sym q ∙ go (ltb p (length m + (8 - length m % 8))) refl)
    where
      eq : length k ≡ (length m + 7) / 8
      eq = eqb-true _ _ (not-false _ g)

      there : length m + (p - length m) ≡ p
      there = omega arith

      go : (x : Bool) → ltb p (length m + (8 - length m % 8)) ≡ x → mark_at (bits k) p ≡ false
      go true l =
          let u : p < length m + (8 - length m % 8) = ltb-true _ _ l in
          subst (λ (n : ℕ). mark_at (bits k) n ≡ false) there (none_marked (8 - length m % 8) (bits k) (length m) (p - length m) e (omega arith))
      go false l = let u : length m + (8 - length m % 8) ≤ p = ltb-false _ _ l in off_past k p (omega (arith, eq))

  form_fault : out_of_form c ≡ true → F 4
  unfolding out_of_form
  form_fault e = go (eqb (c.pc % 2) 1) (on c.psw 12) (eqb (field_of c.hwdbg 0 2) 3) (ltb 511 c.hwdbg) refl refl refl refl e
    where
      low : c.hwdbg % 4 ≡ 3 → field_of c.hwdbg 0 2 ≡ 3
      low h = omega arith

      go : (w x y z : Bool) → eqb (c.pc % 2) 1 ≡ w → on c.psw 12 ≡ x → eqb (field_of c.hwdbg 0 2) 3 ≡ y → ltb 511 c.hwdbg ≡ z
          → (w || x || not y || z || (c.pending && ltb 0 c.timer)) ≡ true → F 4
      go true x y z p q r u e = odd (eqb-true _ _ p)
      go false true y z p q r u e = bit_12 q
      go false false false z p q r u e = low_bits (λ h. eqb-false _ _ r (low h))
      go false false true true p q r u e = high_bits (let l : 511 < c.hwdbg = ltb-true _ _ u in omega arith)
      go false false true false p q r u e = let d = (both c.pending (ltb 0 c.timer)).0 e in early d.0 (ltb-true _ _ d.1)

  form_fine : out_of_form c ≡ false → F 4 → ⊥
  unfolding out_of_form
  form_fine e f = go f
    where
      bad : Bool
      bad = not (eqb (field_of c.hwdbg 0 2) 3)

      four : ((eqb (c.pc % 2) 1 || on c.psw 12 || bad || ltb 511 c.hwdbg) ≡ false) × ((c.pending && ltb 0 c.timer) ≡ false)
      four = (neither (eqb (c.pc % 2) 1 || on c.psw 12 || bad || ltb 511 c.hwdbg) (c.pending && ltb 0 c.timer)).0 e

      three : ((eqb (c.pc % 2) 1 || on c.psw 12 || bad) ≡ false) × (ltb 511 c.hwdbg ≡ false)
      three = (neither (eqb (c.pc % 2) 1 || on c.psw 12 || bad) (ltb 511 c.hwdbg)).0 four.0

      two : ((eqb (c.pc % 2) 1 || on c.psw 12) ≡ false) × (bad ≡ false)
      two = (neither (eqb (c.pc % 2) 1 || on c.psw 12) bad).0 three.0

      one : (eqb (c.pc % 2) 1 ≡ false) × (on c.psw 12 ≡ false)
      one = (neither (eqb (c.pc % 2) 1) (on c.psw 12)).0 two.0

      high : c.hwdbg % 4 ≡ 3
      high = let q : field_of c.hwdbg 0 2 ≡ 3 = eqb-true _ _ (not-false _ two.1) in omega arith

      go : F 4 → ⊥
      go (odd p) = eqb-false _ _ one.0 p
      go (bit_12 p) = true≢false (sym p ∙ one.1)
      go (low_bits p) = p high
      go (high_bits p) = let q : c.hwdbg ≤ 511 = ltb-false _ _ three.1 in omega arith
      go (early p q) = true≢false (rw (p, lt-ltb 0 c.timer q) at four.1)

  tape_fault : ltb (length t) b ≡ true → F 5
  tape_fault e = short_tape (ltb-true _ _ e)

  tape_fine : ltb (length t) b ≡ false → F 5 → ⊥
  tape_fine e (short_tape p) = let q : b ≤ length t = ltb-false _ _ e in omega arith

  line_fault : any_above 63 (take b t) ≡ true → F 6
  line_fault e = let r = some_above 63 b t e in high_line r.0 r.1 r.2

  line_fine : any_above 63 (take b t) ≡ false → F 6 → ⊥
  line_fine e (high_line i h g) = none_above 63 b t e i h g

  -- ---- the lowest

  -- no fault below r, if none of the six is one
  lower : (r : ℕ) → (1 < r → F 1 → ⊥) → (2 < r → F 2 → ⊥) → (3 < r → F 3 → ⊥) → (4 < r → F 4 → ⊥) → (5 < r → F 5 → ⊥) → (6 < r → F 6 → ⊥)
      → {n : ℕ} → n < r → F n → ⊥
  lower r f1 f2 f3 f4 f5 f6 l (empty p) = f1 l (empty p)
  lower r f1 f2 f3 f4 f5 f6 l (large p) = f1 l (large p)
  lower r f1 f2 f3 f4 f5 f6 l (uneven p) = f1 l (uneven p)
  lower r f1 f2 f3 f4 f5 f6 l (few_marks p) = f2 l (few_marks p)
  lower r f1 f2 f3 f4 f5 f6 l (many_marks p) = f2 l (many_marks p)
  lower r f1 f2 f3 f4 f5 f6 l (mark_past i p q) = f3 l (mark_past i p q)
  lower r f1 f2 f3 f4 f5 f6 l (odd p) = f4 l (odd p)
  lower r f1 f2 f3 f4 f5 f6 l (bit_12 p) = f4 l (bit_12 p)
  lower r f1 f2 f3 f4 f5 f6 l (low_bits p) = f4 l (low_bits p)
  lower r f1 f2 f3 f4 f5 f6 l (high_bits p) = f4 l (high_bits p)
  lower r f1 f2 f3 f4 f5 f6 l (early p q) = f4 l (early p q)
  lower r f1 f2 f3 f4 f5 f6 l (short_tape p) = f5 l (short_tape p)
  lower r f1 f2 f3 f4 f5 f6 l (high_line i p q) = f6 l (high_line i p q)

  small : {n : ℕ} → F n → n < 7
  small (empty p) = lit≤ tt
  small (large p) = lit≤ tt
  small (uneven p) = lit≤ tt
  small (few_marks p) = lit≤ tt
  small (many_marks p) = lit≤ tt
  small (mark_past i p q) = lit≤ tt
  small (odd p) = lit≤ tt
  small (bit_12 p) = lit≤ tt
  small (low_bits p) = lit≤ tt
  small (high_bits p) = lit≤ tt
  small (early p q) = lit≤ tt
  small (short_tape p) = lit≤ tt
  small (high_line i p q) = lit≤ tt

  pub lowest : Lowest F (judge b t s m (bits k))
  unfolding judge
  lowest =
      go (bad_length (length m)) (bad_room (length m) (bits k)) (bad_mark (length m) (bits k)) (out_of_form c) (ltb (length t) b) (any_above 63 (take b t))
      refl refl refl refl refl refl
    where
      none : {A : Type 0} {n r : ℕ} → r ≤ n → n < r → A → ⊥
      none e l a = omega arith

      go : (t1 t2 t3 t4 t5 t6 : Bool) → bad_length (length m) ≡ t1 → bad_room (length m) (bits k) ≡ t2 → bad_mark (length m) (bits k) ≡ t3
          → out_of_form c ≡ t4 → ltb (length t) b ≡ t5 → any_above 63 (take b t) ≡ t6
          → Lowest F
          (cond t1 (Err Reply.MemoryLength)
          (cond t2 (Err Reply.MarkLength)
          (cond t3 (Err Reply.MarkPastEnd)
          (cond t4 (Err Reply.Form)
          (cond t5 (Err Reply.TapeLength)
          (cond t6 (Err Reply.TapeByte)
          (Ok tt)))))))
      go true t2 t3 t4 t5 t6 e1 e2 e3 e4 e5 e6 =
          (length_fault e1, λ n l. lower 1 (none (omega arith)) (none (omega arith)) (none (omega arith)) (none (omega arith)) (none (omega arith)) (none (omega arith)) l)
      go false true t3 t4 t5 t6 e1 e2 e3 e4 e5 e6 =
          (room_fault e2, λ n l. lower 2 (λ q. length_fine e1) (none (omega arith)) (none (omega arith)) (none (omega arith)) (none (omega arith)) (none (omega arith)) l)
      go false false true t4 t5 t6 e1 e2 e3 e4 e5 e6 =
          (mark_fault_lem e3, λ n l. lower 3 (λ q. length_fine e1) (λ q. room_fine e2) (none (omega arith)) (none (omega arith)) (none (omega arith)) (none (omega arith)) l)
      go false false false true t5 t6 e1 e2 e3 e4 e5 e6 =
          (form_fault e4, λ n l. lower 4 (λ q. length_fine e1) (λ q. room_fine e2) (λ q. mark_fine e2 e3) (none (omega arith)) (none (omega arith)) (none (omega arith)) l)
      go false false false false true t6 e1 e2 e3 e4 e5 e6 =
          (tape_fault e5, λ n l. lower 5 (λ q. length_fine e1) (λ q. room_fine e2) (λ q. mark_fine e2 e3) (λ q. form_fine e4) (none (omega arith)) (none (omega arith)) l)
      go false false false false false true e1 e2 e3 e4 e5 e6 =
          (line_fault e6, λ n l. lower 6 (λ q. length_fine e1) (λ q. room_fine e2) (λ q. mark_fine e2 e3) (λ q. form_fine e4) (λ q. tape_fine e5) (none (omega arith)) l)
      go false false false false false false e1 e2 e3 e4 e5 e6 =
          λ n f. lower 7 (λ q. length_fine e1) (λ q. room_fine e2) (λ q. mark_fine e2 e3) (λ q. form_fine e4) (λ q. tape_fine e5) (λ q. line_fine e6) (small f) f
