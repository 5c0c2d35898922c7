use Rattle.std.specs.Prelude.{Ok}
use Prim.Native.Nat.{ℕ}
use mathlib.Core.List.{List}
use mathlib.Core.Path.{sym, ap, ◌∙◌}
use Rattle.std.proofs.lemmas.Result.{err_from_is_err_and}
use Rattle.text.specs.Pages.{Page}
use Rattle.asm.specs.Assemble.{answered}
use Rattle.asm.specs.Parts.{assembled_with}
use Rattle.asm.proofs.passes.Source.assemble_with.Goals as goal

pub returns-in_err-lines : goal.returns-in_err-lines
unfolding assembled_with
returns-in_err-lines c =
    let p = err_from_is_err_and c.from_residual.result c.from_residual.ensures.1 in
    rw (p.1, p.2, sym c.judge.ensures ∙ c.in_err-lines.was)

pub returns : goal.returns
unfolding assembled_with
returns c =
    rw (sym c.judge.ensures ∙ c.in_ok-lines.was)
    (ap (λ (m : List ℕ). answered (Ok (c.in_ok-lines.lines, c.in_ok-lines.after)) m) (ap (λ (q : Page). q.text) c.put_code.ensures))
