use Rattle.std.proofs.Common.{◌≡◌, ◌*◌, ◌^◌, ◌<◌}
use Rattle.word.specs.Bytes.{load}
use Rattle.word.proofs.access.load_bytes.Given as goal

abbrev pub invariant-loop-x : goal.invariant-loop-x
invariant-loop-x l = (l.v < 2 ^ (8 * l.x-index)) × (l.v ≡ load l.x-index l.m l.at)
