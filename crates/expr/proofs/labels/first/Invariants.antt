use Rattle.std.proofs.Common.{◌≡◌, length, map, drop, ◌+◌, ◌-◌, ◌≤◌}
use Rattle.expr.specs.Expr.{index_of}
use Rattle.expr.proofs.labels.first.Given as goal

abbrev pub invariant-loop-rest : goal.invariant-loop-rest
invariant-loop-rest g l = record {
  place : index_of (map g.T.Keyed.key l.all) l.k ≡ index_of (map g.T.Keyed.key l.rest) l.k + (length l.all - length l.rest);
  within : length l.rest ≤ length l.all;
}

abbrev pub decreases-loop-rest : goal.decreases-loop-rest
decreases-loop-rest g l = length l.rest

abbrev pub invariant-loop-i : goal.invariant-loop-i
invariant-loop-i g l = index_of (map g.T.Keyed.key l.rest) l.k ≡ index_of (map g.T.Keyed.key (drop l.i l.rest)) l.k + l.i
