use mathlib.Core.Path.{refl, sym, ap, ◌∙◌}
use lib.ListN.{length}
use Rattle.expr.specs.Expr.{Labels}
use Rattle.forms.proofs.Cuts.{line_next}
use Rattle.asm.proofs.Laws.{names_length, line_fits, labels_on, labels_end, known_on, known_end}
use Rattle.asm.proofs.passes.Source.collect.Goals as goal

pub overflow_add-at : goal.overflow_add-at
overflow_add-at c = record { fits = (line_fits c.args.self.now.text.now c.new-line.result.text.now c.loop-at.at c.new-line.result.cut c.loop-at-test.true (c.new-line.ensures ∙ c.end_part.ensures) c.new-line.result.is_cut c.loop-at.invariant.fits).0 }

pub overflow_add-at-in-loop-at : goal.overflow_add-at-in-loop-at
overflow_add-at-in-loop-at c = record { fits = (line_fits c.args.self.now.text.now c.new-line.result.text.now c.loop-at.at c.new-line.result.cut c.loop-at-test.true (c.new-line.ensures ∙ c.end_part.ensures) c.new-line.result.is_cut c.loop-at.invariant.fits).1 }

pub loop-at-preserved : goal.loop-at-preserved
loop-at-preserved c =
    let l = c.new-line.result in
    let g = line_next c.args.self.now.text.now l.text.now c.loop-at.at l.cut c.loop-at-test.true (c.new-line.ensures ∙ c.end_part.ensures) l.is_cut in
    record {
      within = g.within;
      labels = labels_on _ _ _ _ _ _ _ _ _ _ _ g.lines c.what-w.ensures c.is_known_as-is_known.ensures c.label_for.ensures c.add.ensures c.bytes_for.ensures c.byte_sum-a.ensures ∙ c.loop-at.invariant.labels;
      known = known_on _ _ _ _ c.loop-at.known _ _ g.lines c.what-w.ensures c.is_known_as-is_known.ensures refl ∙ c.loop-at.invariant.known;
      fits = c.loop-at.invariant.fits;
    }

pub returns : goal.returns
returns c =
    let i = c.loop-at.invariant in
    let x = c.args.self.now.text.now in
    record { labels_after = sym (labels_end x c.loop-at.at c.loop-at-test.false _ _) ∙ i.labels; count_value = sym (names_length c.labels-count.result.now) ∙ ap (λ (t : Labels). length t.keys) c.labels-count.ensures; known_value = known_end x c.loop-at.at c.loop-at-test.false c.loop-at.known ∙ i.known }
