use mathlib.Core.Path.{ap, ◌∙◌}
use mathlib.Core.List.{List}
use Prim.Native.Nat.{ℕ}
use Rattle.std.proofs.lemmas.List.{map-id}
use Rattle.expr.specs.Expr.{index_of}
use Rattle.expr.proofs.labels.find.Goals as goal

pub returns : goal.returns
returns c = (c.first.ensures.place ∙ ap (λ (l : List ℕ). index_of l c.args.k) (map-id c.args.keys.now), c.first.ensures.within)
