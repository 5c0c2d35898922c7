use borrow.Author.Rules.{rules}
use Rattle.listing.proofs.Ranged.{step_short, step_long, step_kept, step_fits, place_is, next_place, kept_front, none_long}
use lib.ListN.{length}
use mathlib.Core.Bool.{cond}
use mathlib.Core.Path.{◌≡◌, refl, ◌∙◌}
use native.Mathlib.Omega.{arith}
use Rattle.listing.proofs.ranges.put_lines.Goals.{then-keep, else-keep}
use Rattle.listing.proofs.ranges.put_lines.Goals as goal

pub overflow_sub-total : goal.overflow_sub-total
overflow_sub-total c = omega (arith, place_is _ _ _ _ c.put_entry-after.ensures (omega (arith, step_fits _ _ c.requires.1 _ c.loop-at-test.true _ _ c.entry_at-x.ensures refl c.args.keep _ (length c.args.out.now) _ c.loop-at.invariant.0 c.requires.2, c.loop-at.invariant.1, c.loop-at.invariant.3)))

pub overflow_add-total : goal.overflow_add-total
overflow_add-total c = record { fits = omega (arith, place_is _ _ _ _ c.put_entry-after.ensures (omega (arith, step_fits _ _ c.requires.1 _ c.loop-at-test.true _ _ c.entry_at-x.ensures refl c.args.keep _ (length c.args.out.now) _ c.loop-at.invariant.0 c.requires.2, c.loop-at.invariant.1, c.loop-at.invariant.3)), step_short _ _ c.requires.1 _ c.loop-at-test.true _ _ c.entry_at-x.ensures refl, c.loop-at.invariant.4, c.loop-at.invariant.5) }

pub loop-at-preserved : goal.loop-at-preserved
loop-at-preserved c =
    let i = c.loop-at.invariant in
    let to : c.if-keep.to ≡ cond c.args.keep c.put_entry-after.result 0 = elim c.if-keep.branch [ then-keep w ↦ rw (w.to-is, w.if-keep.true) | else-keep w ↦ rw (w.to-is, w.if-keep.false) ] in
    let after = place_is _ _ _ _ c.put_entry-after.ensures (omega (arith, step_fits _ _ c.requires.1 _ c.loop-at-test.true _ _ c.entry_at-x.ensures refl c.args.keep _ (length c.args.out.now) _ c.loop-at.invariant.0 c.requires.2, c.loop-at.invariant.1, c.loop-at.invariant.3)) in (
      omega (arith, after, step_long _ _ c.requires.1 _ c.loop-at-test.true _ _ c.entry_at-x.ensures c.size-at.ensures.0, i.0),
      to ∙ next_place c.args.keep _ _ _ i.1 (omega (arith, after)),
      step_kept _ _ c.requires.1 _ c.loop-at-test.true _ _ c.entry_at-x.ensures c.size-at.ensures.0 _ _ _ _ _ c.args.keep _ c.put_entry-after.ensures to i.2,
      search rules,
      omega (arith, after, step_short _ _ c.requires.1 _ c.loop-at-test.true _ _ c.entry_at-x.ensures refl, i.4, c.size-at.ensures.1),
      omega (arith, c.loop-at-test.true, c.requires.1, c.size-at.ensures.2),
    )

pub returns : goal.returns
returns c =
    let i = c.loop-at.invariant in (record { value = omega (arith, none_long c.args.image.now _ c.requires.1 _ c.loop-at-test.false, i.0); kept = λ k. kept_front _ _ _ _ _ _ _ _ c.requires.1 c.loop-at-test.false k c.requires.2 (i.2 k) })
