use mathlib.Core.Path.{◌≡◌, sym, ap, ◌∙◌}
use lib.ListN.{length}
use borrow.Author.Rules.{rules}
use Rattle.expr.specs.Expr.{Labels}
use Rattle.asm.specs.Assemble.{is_new}
use Rattle.asm.proofs.Laws.{added, kept}
use Rattle.asm.proofs.labels.Table.add.Goals as goal

pub returns-then-is_new : goal.returns-then-is_new
returns-then-is_new c =
    let i = c.self.inside in
    let q : length i.entries ≡ 256 = search rules in
    let n = ap (λ (t : Labels). is_new t.keys c.args.k) c.self.view_is ∙ sym c.is_new.ensures ∙ c.if-is_new.true in
    rw (← c.self.view_is) (added i.entries i.count c.args.k c.args.at q c.self.invariant n)

pub returns-else-is_new : goal.returns-else-is_new
returns-else-is_new c = kept c.args.self.now c.args.k c.args.at (sym c.is_new.ensures ∙ c.if-is_new.false)
