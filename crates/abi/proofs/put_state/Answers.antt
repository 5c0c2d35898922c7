use Rattle.std.proofs.Common.{◌≡◌, length, rules}
use Rattle.abi.proofs.Parts.{written}
use Rattle.std.proofs.lemmas.List.{map-id}
use borrow.Author.Tests.{eq-eqb}
use Rattle.abi.proofs.put_state.Goals as goal

pub returns-then-r-eq160 : goal.returns-then-r-eq160
returns-then-r-eq160 c =
    let n : length c.args.s.regs ≡ 16 = search rules in
    let l : length c.args.s.marks ≡ 16 = search rules in
    let e = c.if-r-eq160.true in
    rw (c.put_control.ensures, c.put-then-r-eq160.ensures, c.put.ensures, map-id c.args.s.regs, eq-eqb _ _ e)
    (written c.args.r.now c.args.s e n l)
