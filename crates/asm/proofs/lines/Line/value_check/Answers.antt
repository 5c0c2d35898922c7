use mathlib.Core.Path.{sym, ap, ◌∙◌}
use mir.Syntax.{w32}
use mir.ValLaws.{to_z-of_z}
use borrow.Author.Rules.{rules}
use Rattle.std.proofs.lemmas.Result.{err_from_is_err_and}
use Rattle.forms.specs.Form.{body_of}
use Rattle.forms.specs.Parts.{first_line}
use Rattle.asm.specs.Assemble.{line_bits, value_check}
use Rattle.asm.proofs.Laws.{fit_some, or_none, or_some}
use Rattle.asm.proofs.lines.Line.value_check.Goals as goal

pub returns-in_default : goal.returns-in_default
unfolding value_check
returns-in_default c = rw c.in_default.is

pub returns-in_err-label-in-Is : goal.returns-in_err-label-in-Is
unfolding value_check
returns-in_err-label-in-Is c =
    let p = err_from_is_err_and c.from_residual.result c.from_residual.ensures.1 in
    rw (p.1, p.2, c.in-Ok.is, c.in-Is.is, c.in_err-label-in-Is.was)

pub returns-in_err-ok_or-in-Is : goal.returns-in_err-ok_or-in-Is
unfolding value_check
returns-in_err-ok_or-in-Is c =
    let p = err_from_is_err_and c.from_residual-in_err-ok_or-in-Is.result c.from_residual-in_err-ok_or-in-Is.ensures.1 in
    let b = c.bits.ensures ∙ ap (line_bits c.args.w c.args.at (body_of (first_line c.args.self.now.text.now))) (to_z-of_z w32 c.in-Is.i (record { sfits = search rules })) in
    let n = or_none _ _ _ (sym c.ok_or.ensures.value ∙ c.in_err-ok_or-in-Is.was) in
    rw (p.1, p.2, c.in-Ok.is, c.in-Is.is, c.in_ok-label-in-Is.was, ← b, n.0, n.1)

pub returns-in_err-label-in-Large : goal.returns-in_err-label-in-Large
unfolding value_check
returns-in_err-label-in-Large c =
    let p = err_from_is_err_and c.from_residual-in_err-label-in-Large.result c.from_residual-in_err-label-in-Large.ensures.1 in
    rw (p.1, p.2, c.in-Ok.is, c.in-Large.is, c.in_err-label-in-Large.was)

pub returns-in_ok-ok_or-in-Is : goal.returns-in_ok-ok_or-in-Is
unfolding value_check
returns-in_ok-ok_or-in-Is c =
    let b = c.bits.ensures ∙ ap (line_bits c.args.w c.args.at (body_of (first_line c.args.self.now.text.now))) (to_z-of_z w32 c.in-Is.i (record { sfits = search rules })) in
    let n = or_some _ _ _ (sym c.ok_or.ensures.value ∙ c.in_ok-ok_or-in-Is.was) in
    rw (c.in-Ok.is, c.in-Is.is, c.in_ok-label-in-Is.was, ← b, n) (sym (fit_some _ _))

pub returns-in_ok-label-in-Large : goal.returns-in_ok-label-in-Large
unfolding value_check
returns-in_ok-label-in-Large c = rw (c.in-Ok.is, c.in-Large.is, c.in_ok-label-in-Large.was)

pub returns-in-Unknown : goal.returns-in-Unknown
unfolding value_check
returns-in-Unknown c = rw (c.in-Ok.is, c.in-Unknown.is)
