use Rattle.std.proofs.Common.{◌≡◌, Option, Some, None, refl}
use borrow.Author.Tests.{eq-eqb, ne_eqb}
use Rattle.machine.specs.declared.Line.{Line}
use Rattle.abi_show.specs.Show.{show_of}
use Rattle.abi_show.proofs.manik_show.Goals.{else-line-eq12-via-then-line-eq12+else-is_shaped, else-line-eq12-via-else-line-eq12}
use Rattle.abi_show.proofs.manik_show.Goals as goal

nothing : (o : Option Line) → ((x : Line) → o ≡ Some x → ⊥) → o ≡ None
nothing None h = refl
nothing (Some x) h = absurd (h x refl)

pub returns-in-Some : goal.returns-in-Some
unfolding show_of
returns-in-Some c = rw (c.write_line.ensures, ← c.state_at.ensures, ← c.look.ensures, c.in-Some.is, ← c.is_shaped.ensures, c.if-is_shaped.true, eq-eqb _ _ c.if-line-eq12.true) (record { value = refl; line_after = refl })

pub returns-in_default : goal.returns-in_default
unfolding show_of
returns-in_default c = rw (← c.state_at.ensures, ← c.look.ensures, nothing _ c.in_default.not-Some, ← c.is_shaped.ensures, c.if-is_shaped.true, eq-eqb _ _ c.if-line-eq12.true) (record { value = refl; line_after = refl })

pub returns-else-line-eq12 : goal.returns-else-line-eq12
unfolding show_of
returns-else-line-eq12 c = elim c.else-line-eq12.branch [
  | else-line-eq12-via-then-line-eq12+else-is_shaped w ↦ rw (← w.is_shaped.ensures, w.if-is_shaped.false, eq-eqb _ _ w.if-line-eq12.true) (record { value = refl; line_after = refl })
  | else-line-eq12-via-else-line-eq12 w ↦ rw (ne_eqb _ _ w.if-line-eq12.false) (record { value = refl; line_after = refl })
]
