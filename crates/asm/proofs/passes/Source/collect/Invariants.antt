use Prim.Native.Nat.{◌-◌, ◌^◌, ◌<◌, ◌≤◌}
use mathlib.Core.Path.{◌≡◌}
use mathlib.Core.Bool.{◌&&◌}
use lib.ListN.{length, drop}
use Rattle.forms.specs.Form.{lines_of}
use Rattle.asm.specs.Parts.{all_known}
use Rattle.asm.specs.Assemble.{address_of, labels_of}
use Rattle.asm.proofs.passes.Source.collect.Given as goal

abbrev pub invariant-loop-at : goal.invariant-loop-at
invariant-loop-at l = record {
  within : l.at ≤ length l.self.text.now;
  labels : labels_of l.labels l.a (lines_of (drop l.at l.self.text.now)) ≡ labels_of l.initial.labels (address_of l.self.start) (lines_of l.self.text.now);
  known : (l.known && all_known (lines_of (drop l.at l.self.text.now))) ≡ all_known (lines_of l.self.text.now);
  fits : length l.self.text.now < 2 ^ 64;
}

abbrev pub decreases-loop-at : goal.decreases-loop-at
decreases-loop-at l = length l.self.text.now - l.at
