use Rattle.std.proofs.Common.{◌≡◌, sym, ◌∙◌, refl, arith, rules, tests}
use Rattle.std.proofs.lemmas.Iterator.{YieldsList-from_slice, IsFirst-from_position, index_from_first}
use borrow.Author.Tests.{eq-eqb, ne_eqb}
use mathlib.Core.Logic.{◌≢◌}
use Rattle.text.specs.Fields.{tab_of}
use Rattle.text.proofs.tab_in.Goals as goal

pub returns-clause-place : goal.returns-clause-place
unfolding tab_of
returns-clause-place c =
    let first = IsFirst-from_position _ _ _ (λ x. x ≡ 9) (λ x. x ≢ 9) c.position.ensures.ran (YieldsList-from_slice c.args.l.now cc) (λ x q k. search (rules, tests)) (λ x q k. search (rules, tests)) in
    c.unwrap_or.ensures ∙ sym (index_from_first tab_of (λ x. x ≡ 9) (λ x. x ≢ 9) refl (λ x l h. rw (eq-eqb _ _ h)) (λ x l h. rw (ne_eqb _ _ h) (omega arith)) _ _ first)
