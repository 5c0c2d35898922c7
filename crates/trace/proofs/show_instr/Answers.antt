use Rattle.marks.specs.Memory.{bits}
use Rattle.trace.proofs.Laws.{seen_instr}
use Rattle.trace.proofs.show_instr.Goals as goal

pub returns : goal.returns
returns c = rw (c.show_act.ensures, c.address_of.ensures, c.act_on-a.ensures, c.value_at-y.ensures, c.value_at-x.ensures, c.sources_of-o.ensures) (seen_instr c.args.i c.args.s c.args.m.now (bits c.args.mk.now))
