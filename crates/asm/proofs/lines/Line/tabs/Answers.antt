use native.Mathlib.Omega.{arith}
use Rattle.forms.proofs.Cuts.{cut_there}
use mathlib.Core.Path.{ap}
use lib.ListN.{length}
use Rattle.asm.proofs.lines.Line.tabs.Goals as goal

pub part-requires : goal.part-requires
part-requires c = let g = cut_there c.args.self.now.text.now c.args.self.now.cut c.args.self.now.is_cut in (omega arith, omega arith)

pub overflow_sub-result : goal.overflow_sub-result
overflow_sub-result c = let g = cut_there c.args.self.now.text.now c.args.self.now.cut c.args.self.now.is_cut in omega arith

pub overflow_sub-result-2 : goal.overflow_sub-result-2
overflow_sub-result-2 c = let g = cut_there c.args.self.now.text.now c.args.self.now.cut c.args.self.now.is_cut in omega arith

pub overflow_add-result : goal.overflow_add-result
overflow_add-result c = let g = cut_there c.args.self.now.text.now c.args.self.now.cut c.args.self.now.is_cut in omega arith

pub overflow_sub-result-3 : goal.overflow_sub-result-3
overflow_sub-result-3 c = let g = cut_there c.args.self.now.text.now c.args.self.now.cut c.args.self.now.is_cut in omega arith

pub overflow_add-result-2 : goal.overflow_add-result-2
overflow_add-result-2 c = let g = cut_there c.args.self.now.text.now c.args.self.now.cut c.args.self.now.is_cut in omega arith

pub overflow_sub-result-4 : goal.overflow_sub-result-4
overflow_sub-result-4 c = let g = cut_there c.args.self.now.text.now c.args.self.now.cut c.args.self.now.is_cut in omega arith

pub overflow_add-result-3 : goal.overflow_add-result-3
overflow_add-result-3 c = let g = cut_there c.args.self.now.text.now c.args.self.now.cut c.args.self.now.is_cut in omega arith

pub overflow_add-result-4 : goal.overflow_add-result-4
overflow_add-result-4 c = let g = cut_there c.args.self.now.text.now c.args.self.now.cut c.args.self.now.is_cut in let t = c.tabs_in-more.ensures.1 in let e = ap length c.part.ensures in omega arith

pub returns : goal.returns
returns c = let g = cut_there c.args.self.now.text.now c.args.self.now.cut c.args.self.now.is_cut in rw (c.tabs_in-more.ensures.0, c.part.ensures) g.tabs
