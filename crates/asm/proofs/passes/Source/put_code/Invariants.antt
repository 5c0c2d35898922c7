use Prim.Native.Nat.{◌-◌, ◌^◌, ◌<◌, ◌≤◌}
use mathlib.Core.Path.{◌≡◌}
use lib.ListN.{length, drop}
use Rattle.text.specs.Pages.{page, write_on}
use Rattle.expr.specs.Expr.{labels_in}
use Rattle.forms.specs.Form.{lines_of}
use Rattle.asm.specs.Assemble.{address_of, code_of}
use Rattle.asm.proofs.passes.Source.put_code.Given as goal

abbrev pub invariant-loop-at : goal.invariant-loop-at
invariant-loop-at l = record {
  within : l.at ≤ length l.self.text.now;
  same : length l.image ≡ length l.initial.image;
  written : write_on (code_of (labels_in l.labels) l.a (lines_of (drop l.at l.self.text.now))) (page l.image l.to) ≡ write_on (code_of (labels_in l.labels) (address_of l.self.start) (lines_of l.self.text.now)) (page l.initial.image l.self.start);
  fits : length l.self.text.now < 2 ^ 64;
}

abbrev pub decreases-loop-at : goal.decreases-loop-at
decreases-loop-at l = length l.self.text.now - l.at
