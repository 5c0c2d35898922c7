use native.Mathlib.Omega.{arith}
use Rattle.marks.proofs.Masks.{set_small, byte_set, byte_cleared}
use borrow.Author.Rules.{rules}
use Rattle.marks.proofs.memory.with_bit.Goals as goal

pub overflow_cast-result-then-m : goal.overflow_cast-result-then-m
overflow_cast-result-then-m c = let q = set_small c.args.b c.args.s c.requires (omega arith) in search rules

pub returns-then-m : goal.returns-then-m
returns-then-m c = byte_set _ _ _ c.requires c.if-m.true

pub returns : goal.returns
returns c = byte_cleared _ _ _ c.requires (omega arith) c.if-m.false
