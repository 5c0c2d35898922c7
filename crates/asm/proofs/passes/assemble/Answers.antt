use mathlib.Core.Path.{ap, ◌∙◌}
use Rattle.expr.specs.Expr.{Labels}
use Rattle.forms.specs.Form.{lines_of}
use Rattle.asm.specs.Assemble.{address_of, labels_of, verdict_in, assembled_of}
use Rattle.asm.specs.Parts.{assembled_with}
use Rattle.asm.proofs.passes.assemble.Goals as goal

pub returns-then-is_outside : goal.returns-then-is_outside
unfolding assembled_of verdict_in
returns-then-is_outside c = rw (← c.is_outside.ensures, c.if-is_outside.true)

pub returns : goal.returns
unfolding assembled_of verdict_in assembled_with
returns c =
    rw (← c.is_outside.ensures, c.if-is_outside.false)
    (c.assemble_with.ensures
    ∙ ap (λ (t : Labels). assembled_with t (lines_of c.args.text.now) c.args.start c.args.image.now) (c.labels.ensures ∙ c.collect-found.ensures.labels_after ∙ ap (λ (t : Labels). labels_of t (address_of c.args.start) (lines_of c.args.text.now)) c.new-labels.ensures))
