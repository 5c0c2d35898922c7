use Prim.Native.Nat.{◌-◌, ◌^◌, ◌<◌, ◌≤◌}
use mathlib.Core.Path.{◌≡◌}
use mathlib.Core.Bool.{true}
use mathlib.Core.List.{[]}
use lib.ListN.{length, drop}
use Rattle.expr.specs.Expr.{labels_in}
use Rattle.forms.specs.Form.{lines_of}
use Rattle.asm.specs.Parts.{all_known}
use Rattle.asm.specs.Assemble.{verdict_of}
use Rattle.asm.proofs.passes.Source.judge.Given as goal

abbrev pub invariant-loop-at : goal.invariant-loop-at
invariant-loop-at l = record {
  within : l.at ≤ length l.self.text.now;
  room : l.to ≤ l.end;
  counted : l.lines ≤ l.at;
  verdict : verdict_of (labels_in l.labels) l.seen.keys l.to l.end l.lines (lines_of (drop l.at l.self.text.now)) ≡ verdict_of (labels_in l.labels) [] l.self.start l.end 0 (lines_of l.self.text.now);
  fits : length l.self.text.now < 2 ^ 64;
  known : l.sure ≡ true → all_known (lines_of (drop l.at l.self.text.now)) ≡ true;
}

abbrev pub decreases-loop-at : goal.decreases-loop-at
decreases-loop-at l = length l.self.text.now - l.at
