use Rattle.std.proofs.Common.{◌≡◌, ◌+◌, ◌*◌, ◌≤◌, length, drop, map}
use Rattle.std.proofs.lemmas.List.Edits.{sets}
use Rattle.word.specs.Bytes.{bytes_of}
use Rattle.abi.specs.Record.{laid}
use Rattle.abi.proofs.put.Given as goal

abbrev pub invariant-loop-x : goal.invariant-loop-x
invariant-loop-x g l =
    (length l.r ≤ 160)
    × (l.to + bytes_of g.T.Field.width * length (drop l.x-index l.l) ≤ length l.r)
    × (sets l.r l.to (laid (bytes_of g.T.Field.width) (drop l.x-index (map g.T.Field.number l.l)))
    ≡ sets l.initial.r l.at (laid (bytes_of g.T.Field.width) (map g.T.Field.number l.l)))
