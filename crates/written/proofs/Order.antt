-- Of a line's faults the one with the lowest number is told.
-- Assumes nothing.
use Rattle.std.specs.Prelude.{Err, None, Ok, Option, Result, Some}
use Prim.Native.Nat.{ℕ, suc, ◌+◌, ◌≤◌, ◌<◌}
use mathlib.Core.Path.{◌≡◌, refl, sym, ap, ◌∙◌}
use mathlib.Core.Bool.{Bool, true, false, cond, not, ◌&&◌}
use mathlib.Core.List.{List}
use native.Mathlib.Omega.{arith}
use lib.Dec.{ltb, leb, eqb}
use lib.ListN.{length}
use borrow.Author.Tests.{ltb-true, ltb-false, le-leb, lt-leb}
use Rattle.word.specs.declared.ByteAddr.{ByteAddr}
use Rattle.isa.specs.Statements.{has_bits}
use Rattle.isa.specs.declared.Encoded.{Encoded}
use Rattle.expr.specs.Expr.{Labels}
use Rattle.expr.specs.Expr.{Read as Valued}
use Rattle.expr.specs.declared.Value.{Value}
use Rattle.forms.specs.Form.{body_of, what_in, shape_of, is_known}
use Rattle.asm.specs.Assemble.{address_of, line_bits, is_set, has_room, number_of, before, refused_if, label_check, fit_check, value_check, line_check, room_check}
use Rattle.forms.specs.declared.What.{What}
use Rattle.asm.specs.declared.Refusal.{Refusal}
use Rattle.written.specs.Assembly.{is_in, own_label, check_at, value_in, is_deep, is_unknown, is_unfit, faults_of, Lowest}
use Rattle.written.proofs.Text.{some_name}
use Rattle.written.proofs.Labels.{set_is_in}

-- ---- a line's check is the first of its faults

-- one after the other, by their numbers: from 31 on, and all
later_of : (Refusal → Bool) → Result Unit Refusal
later_of f =
    before (refused_if (f Refusal.Deep) Refusal.Deep) (before (refused_if (f Refusal.Label) Refusal.Label)
    (before (refused_if (f Refusal.Twice) Refusal.Twice) (before (refused_if (f Refusal.Many) Refusal.Many)
    (before (refused_if (f Refusal.Value) Refusal.Value) (refused_if (f Refusal.Room) Refusal.Room)))))

first_of : (Refusal → Bool) → Result Unit Refusal
first_of f = before (refused_if (f Refusal.Form) Refusal.Form) (later_of f)

fit_first : (x : Option Encoded) → fit_check x ≡ refused_if (not (has_bits x)) Refusal.Value
fit_first (Some (Encoded.Half h)) = refl
fit_first (Some (Encoded.Pair h s)) = refl
fit_first None = refl

value_first : (w : What) (a : ByteAddr) (b : List ℕ) (x y : Result Unit Refusal) (v : Valued)
    → value_check w a b x y v
    ≡ before (refused_if (is_deep v) Refusal.Deep) (before (refused_if (is_unknown v) Refusal.Label) (before x (before (refused_if (is_unfit w a b v) Refusal.Value) y)))
unfolding value_check
value_first w a b x y (Err e) = refl
value_first w a b x y (Ok (Value.Unknown, n)) = refl
value_first w a b x y (Ok (Value.Large, n)) = refl
value_first w a b x y (Ok (Value.Is z, n)) = ap (λ (c : Result Unit Refusal). before x (before c y)) (fit_first (line_bits w a b z))

no_room : (s : List ℕ) → not (has_room s) ≡ leb 256 (length s)
no_room s = go (has_room s) refl
  where
    go : (u : Bool) → has_room s ≡ u → not u ≡ leb 256 (length s)
    go true e = sym (lt-leb 256 (length s) (ltb-true (length s) 256 e))
    go false e = sym (le-leb 256 (length s) (ltb-false (length s) 256 e))

label_first : (s : List ℕ) (k : ℕ) (y : Result Unit Refusal)
    → before (label_check s k) y
    ≡ before (refused_if (ltb 0 k && is_in k s) Refusal.Twice) (before (refused_if (ltb 0 k && leb 256 (length s)) Refusal.Many) y)
unfolding label_check
label_first s k y = rw (some_name k, ← set_is_in s k, ← no_room s) (go (eqb k 0) (is_set s k))
  where
    go : (u v : Bool)
        → before (cond u (Ok tt) (before (refused_if v Refusal.Twice) (refused_if (not (has_room s)) Refusal.Many))) y
        ≡ before (refused_if (not u && v) Refusal.Twice) (before (refused_if (not u && not (has_room s)) Refusal.Many) y)
    go true v = refl
    go false true = refl
    go false false = refl

module _ (t : Labels) (s : List ℕ) (p n : ℕ) (l : List ℕ) where
  check_first : check_at t s p n l ≡ first_of (faults_of t s p n l)
  unfolding line_check room_check first_of later_of
  check_first = go (is_known l)
    where
      y : Result Unit Refusal
      y = refused_if (ltb n (p + (shape_of (what_in l)).size)) Refusal.Room

      v : Valued
      v = value_in t l

      go : (u : Bool) → cond u (value_check (what_in l) (address_of p) (body_of l) (label_check s (own_label l)) y v) (Err Refusal.Form)
          ≡ before (refused_if (not u) Refusal.Form) (later_of (faults_of t s p n l))
      go true = value_first (what_in l) (address_of p) (body_of l) (label_check s (own_label l)) y v ∙ rw (label_first s (own_label l))
      go false = refl

-- ---- the first has the lowest number

refusal_at : ℕ → Refusal
refusal_at n =
    cond (eqb n 29) Refusal.Start (cond (eqb n 30) Refusal.Form (cond (eqb n 31) Refusal.Deep (cond (eqb n 32) Refusal.Label
    (cond (eqb n 33) Refusal.Twice (cond (eqb n 34) Refusal.Many (cond (eqb n 35) Refusal.Value Refusal.Room))))))

named_by : (q : Refusal) → refusal_at (number_of q) ≡ q
unfolding refusal_at
named_by Refusal.Start = refl
named_by Refusal.Form = refl
named_by Refusal.Deep = refl
named_by Refusal.Label = refl
named_by Refusal.Twice = refl
named_by Refusal.Many = refl
named_by Refusal.Value = refl
named_by Refusal.Room = refl

number_in : (q : Refusal) → (29 ≤ number_of q) × (number_of q < 37)
number_in Refusal.Start = (omega arith, omega arith)
number_in Refusal.Form = (omega arith, omega arith)
number_in Refusal.Deep = (omega arith, omega arith)
number_in Refusal.Label = (omega arith, omega arith)
number_in Refusal.Twice = (omega arith, omega arith)
number_in Refusal.Many = (omega arith, omega arith)
number_in Refusal.Value = (omega arith, omega arith)
number_in Refusal.Room = (omega arith, omega arith)

module _ (f : Refusal → Bool) where
  abbrev NoneBelow : ℕ → Type 0
  NoneBelow n = (q : Refusal) → number_of q < n → f q ≡ false

  one_more : (r : Refusal) → f r ≡ false → NoneBelow (number_of r) → NoneBelow (suc (number_of r))
  one_more r e h q k = go (ltb (number_of q) (number_of r)) refl
    where
      go : (u : Bool) → ltb (number_of q) (number_of r) ≡ u → f q ≡ false
      go true i = h q (ltb-true _ _ i)
      go false i =
          let a = ltb-false (number_of q) (number_of r) i in
          let b : number_of q ≡ number_of r = omega arith in
          let c : q ≡ r = sym (named_by q) ∙ ap refusal_at b ∙ named_by r in
          ap f c ∙ e

  step : (r : Refusal) (rest : Result Unit Refusal) → NoneBelow (number_of r) → (NoneBelow (suc (number_of r)) → Lowest f rest) → Lowest f (before (refused_if (f r) r) rest)
  step r rest h k = go (f r) refl
    where
      go : (u : Bool) → f r ≡ u → Lowest f (before (refused_if u r) rest)
      go true e = (e, h)
      go false e = k (one_more r e h)

  last : NoneBelow 36 → Lowest f (refused_if (f Refusal.Room) Refusal.Room)
  last h = go (f Refusal.Room) refl
    where
      go : (u : Bool) → f Refusal.Room ≡ u → Lowest f (refused_if u Refusal.Room)
      go true e = (e, h)
      go false e = λ q. one_more Refusal.Room e h q (number_in q).1

  lowest : f Refusal.Start ≡ false → Lowest f (first_of f)
  unfolding first_of later_of
  lowest e =
      step Refusal.Form _ (one_more Refusal.Start e (λ q k. let i = (number_in q).0 in absurd (omega arith))) λ a.
      step Refusal.Deep _ a λ b.
      step Refusal.Label _ b λ c.
      step Refusal.Twice _ c λ d.
      step Refusal.Many _ d λ g.
      step Refusal.Value _ g λ h.
      last h

pub lowest_told : (t : Labels) (s : List ℕ) (p n : ℕ) (l : List ℕ) → Lowest (faults_of t s p n l) (check_at t s p n l)
lowest_told t s p n l = rw check_first (lowest (faults_of t s p n l) refl)
