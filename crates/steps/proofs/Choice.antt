-- The choice of a step, as facts in their order.
-- Assumes nothing.
use Prim.Native.Nat.{ℕ, zero, suc, ◌+◌, ◌<◌, ◌≤◌}
use mathlib.Core.Path.{◌≡◌, refl, sym, ap, subst, ◌∙◌}
use mathlib.Core.Bool.{Bool, true, false, cond, ◌&&◌, ◌||◌, true≢false, and-eq-true_iff as both, or-true}
use native.Mathlib.Decide.{ℕ_discrete}
use native.Mathlib.Omega.{arith}
use lib.Dec.{ltb, eqb}
use borrow.Author.Tests.{ltb-true, ltb-false, eqb-true, eq-eqb}
use Rattle.word.specs.Bits.{on}
use Rattle.cpu.specs.Cycles.{entry_cost}
use Rattle.cpu.specs.Entries.{is_break}
use Rattle.cpu.specs.declared.Control.{Control}
use Rattle.cpu.specs.declared.Entry.{Entry}
use Rattle.machine.specs.Step.{lowest, or_break, line_or, chosen}
use Rattle.machine.specs.declared.Event.{Event}
use Rattle.steps.specs.Choice.{is_permitted, is_due, is_asked, Quiet, Breaks, at_bp0, at_bp1, Chooses, timer, line, breakpoint, instruction}

-- ---- the lowest of n lines from i on

pub record Lowest (asked : ℕ → Bool) (i e r : ℕ) : Type 0 where
  pub from : i ≤ r
  pub to : r ≤ e
  pub first : r < e → asked r ≡ true
  pub before : (j : ℕ) → i ≤ j → j < r → asked j ≡ false

lowest_of : (n i t : ℕ) (c : Control) → Lowest (is_asked t c) i (i + n) (lowest n i t c.psw)
unfolding lowest
lowest_of zero i t c = record { from = omega arith; to = omega arith; first = λ h. absurd (omega arith); before = λ j a b. absurd (omega arith) }
lowest_of (suc n) i t c = go (is_asked t c i) refl (lowest_of n (i + 1) t c)
  where
    go : (b : Bool) → is_asked t c i ≡ b → Lowest (is_asked t c) (i + 1) (i + 1 + n) (lowest n (i + 1) t c.psw)
        → Lowest (is_asked t c) i (i + suc n) (cond b i (lowest n (i + 1) t c.psw))
    go true e r = record { from = omega arith; to = omega arith; first = λ h. e; before = λ j a b. absurd (omega arith) }
    go false e r =
        let f = r.from in
        let o = r.to in
        record {
          from = omega arith;
          to = omega arith;
          first = λ h. r.first (omega arith);
          before = λ j a b. here j a b (ℕ_discrete j i);
        }
      where
        here : (j : ℕ) → i ≤ j → j < lowest n (i + 1) t c.psw → Dec (j ≡ i) → is_asked t c j ≡ false
        here j a b (yes q) = ap (is_asked t c) q ∙ e
        here j a b (no q) = r.before j (omega (arith, q)) b

-- ---- breakpoints

module _ (c : Control) where
  breaks : is_break c ≡ true → Breaks c
  unfolding is_break
  breaks e = go (on c.hwdbg 2 && eqb c.bp0 c.pc) refl e
    where
      go : (a : Bool) → (on c.hwdbg 2 && eqb c.bp0 c.pc) ≡ a → (a || (on c.hwdbg 3 && eqb c.bp1 c.pc)) ≡ true → Breaks c
      go true p q = let h = (both _ _).0 p in at_bp0 h.0 (eqb-true _ _ h.1)
      go false p q = let h = (both _ _).0 q in at_bp1 h.0 (eqb-true _ _ h.1)

  is_break_lem : Breaks c → is_break c ≡ true
  unfolding is_break
  is_break_lem (at_bp0 e q) = rw (e, eq-eqb c.bp0 c.pc q)
  is_break_lem (at_bp1 e q) = rw (e, eq-eqb c.bp1 c.pc q) (or-true (on c.hwdbg 2 && eqb c.bp0 c.pc))

-- ---- the choice

module _ (t : ℕ) (c : Control) where
  or_break_lem : Quiet t c → Chooses t c (or_break c)
  or_break_lem h = go (is_break c) refl
    where
      go : (b : Bool) → is_break c ≡ b → Chooses t c (cond b (Event.Enter (Entry.Debug 1)) Event.Instruction)
      go true e = breakpoint h (breaks c e)
      go false e = instruction h (λ b. true≢false (sym (is_break_lem c b) ∙ e))

  line_or_lem : is_permitted c ≡ true → is_due c ≡ false → Lowest (is_asked t c) 0 6 (lowest 6 0 t c.psw) → Chooses t c (line_or (lowest 6 0 t c.psw) c)
  line_or_lem p d r = go (ltb (lowest 6 0 t c.psw) 6) refl
    where
      go : (b : Bool) → ltb (lowest 6 0 t c.psw) 6 ≡ b → Chooses t c (cond b (Event.Enter (Entry.External (lowest 6 0 t c.psw))) (or_break c))
      go true e =
          let l : lowest 6 0 t c.psw < 6 = ltb-true _ _ e in
          line (lowest 6 0 t c.psw) p d l (r.first l) (λ j q. r.before j (omega arith) q)
      go false e =
          let l : 6 ≤ lowest 6 0 t c.psw = ltb-false _ _ e in
          or_break_lem (λ q. (d, λ i a. r.before i (omega arith) (omega arith)))

  pub chooses : Chooses t c (chosen t c)
  unfolding chosen
  chooses = go (is_permitted c) refl
    where
      due : (b : Bool) → is_permitted c ≡ true → is_due c ≡ b
          → Chooses t c (cond b (Event.Enter Entry.Timer) (line_or (lowest 6 0 t c.psw) c))
      due true p e = timer p e
      due false p e = line_or_lem p e (lowest_of 6 0 t c)

      go : (b : Bool) → is_permitted c ≡ b
          → Chooses t c (cond b (cond (is_due c) (Event.Enter Entry.Timer) (line_or (lowest 6 0 t c.psw) c)) (or_break c))
      go true p = due (is_due c) p refl
      go false p = or_break_lem (λ q. absurd (true≢false (sym q ∙ p)))

-- an entry that is chosen costs 4: it is none of a swint, and there is one
abbrev Costs4 : Event → Type 0
Costs4 (Event.Enter e) = entry_cost e ≡ 4
Costs4 Event.Instruction = Unit {0}

costs_4 : {t : ℕ} {c : Control} {v : Event} → Chooses t c v → Costs4 v
unfolding entry_cost
costs_4 (timer p d) = refl
costs_4 (line i p d l a b) = refl
costs_4 (breakpoint q b) = refl
costs_4 (instruction q b) = tt

pub chosen_costs : (t : ℕ) (c : Control) (e : Entry) → chosen t c ≡ Event.Enter e → entry_cost e ≡ 4
chosen_costs t c e h = subst Costs4 h (costs_4 (chooses t c))
