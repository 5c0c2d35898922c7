use Rattle.std.proofs.Common.{◌≡◌, ◌+◌, ◌*◌, ◌-◌, ◌++◌, length, take}
use Rattle.word.specs.Bytes.{bytes_of, load_of}
use Rattle.abi.specs.Record.{each}
use Rattle.abi.proofs.sixteen_at.Given as goal

abbrev pub invariant-loop-i : goal.invariant-loop-i
invariant-loop-i g l =
    (length l.all ≡ 16)
    × (take l.i l.all ++ each (λ a. g.T.Field.read (load_of g.T.Field.width l.r (record { 0 = a }))) (bytes_of g.T.Field.width) (16 - l.i) (l.from + bytes_of g.T.Field.width * l.i)
    ≡ each (λ a. g.T.Field.read (load_of g.T.Field.width l.r (record { 0 = a }))) (bytes_of g.T.Field.width) 16 l.from)
