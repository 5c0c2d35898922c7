use Rattle.std.proofs.Common.{◌≡◌, ◌-◌, ◌/◌, ◌%◌, arith}
use Rattle.isa.proofs.Rows.{upper}
use Rattle.isa.proofs.kinds.low_kind.Goals as goal

pub returns-then-byte-ge32 : goal.returns-then-byte-ge32
returns-then-byte-ge32 c = rw c.upper_kind.ensures (upper c.args.byte c.if-byte-ge32.true c.requires)

pub returns-then-byte-ge16 : goal.returns-then-byte-ge16
returns-then-byte-ge16 c =
    let q : c.args.byte / 16 ≡ 1 = omega arith in
    let r : c.args.byte % 16 ≡ c.args.byte - 16 = omega arith in
    rw (c.system_kind.ensures, q, r)

pub returns-else-byte-ge16 : goal.returns-else-byte-ge16
returns-else-byte-ge16 c =
    let q : c.args.byte / 16 ≡ 0 = omega arith in
    let r : c.args.byte % 16 ≡ c.args.byte = omega arith in
    rw (c.shift_kind.ensures, q, r)
