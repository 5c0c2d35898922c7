use mathlib.Core.Path.{sym, ap, ◌∙◌}
use borrow.Author.Rules.{rules}
use Rattle.forms.specs.declared.Shape.{Shape}
use Rattle.forms.proofs.Cuts.{line_next}
use Rattle.asm.specs.Assemble.{bytes_for}
use Rattle.asm.proofs.Laws.{line_fits, code_on, code_end}
use Rattle.asm.proofs.passes.Source.put_code.Goals as goal

pub overflow_add-at : goal.overflow_add-at
overflow_add-at c = record { fits = (line_fits c.args.self.now.text.now c.new-line.result.text.now c.loop-at.at c.new-line.result.cut c.loop-at-test.true (c.new-line.ensures ∙ c.end_part.ensures) c.new-line.result.is_cut c.loop-at.invariant.fits).0 }

pub overflow_add-at-in-loop-at : goal.overflow_add-at-in-loop-at
overflow_add-at-in-loop-at c = record { fits = (line_fits c.args.self.now.text.now c.new-line.result.text.now c.loop-at.at c.new-line.result.cut c.loop-at-test.true (c.new-line.ensures ∙ c.end_part.ensures) c.new-line.result.is_cut c.loop-at.invariant.fits).1 }

pub loop-at-preserved : goal.loop-at-preserved
unfolding bytes_for
loop-at-preserved c =
    let l = c.new-line.result in
    let g = line_next c.args.self.now.text.now l.text.now c.loop-at.at l.cut c.loop-at-test.true (c.new-line.ensures ∙ c.end_part.ensures) l.is_cut in
    record {
      within = g.within;
      same = search rules;
      written = code_on _ _ _ _ _ _ _ _ _ _ _ g.lines c.what-w.ensures (ap (λ (x : Shape). x.size) c.shape_of.ensures) c.byte_sum-a.ensures c.encoded.ensures c.put_bits-to.ensures ∙ c.loop-at.invariant.written;
      fits = c.loop-at.invariant.fits;
    }

pub returns : goal.returns
returns c = sym (code_end c.args.self.now.text.now c.loop-at.at c.loop-at-test.false _ _ _) ∙ c.loop-at.invariant.written
