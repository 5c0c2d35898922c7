use Rattle.std.proofs.KnownBytes.{Appends-trans}
use Rattle.saying.proofs.write_failure.Goals as goal

pub returns : goal.returns
returns g c =
    let two = Appends-trans (g.W.Write.contents c.args.to.now) _ (g.W.Write.contents c.write_all-parted.new.self) _ _ c.in_ok-told.ensures.bytes c.in_ok-parted.ensures.bytes in
    let three = Appends-trans (g.W.Write.contents c.args.to.now) _ (g.W.Write.contents c.write_all-reasoned.new.self) _ _ two c.in_ok-reasoned.ensures.bytes in
    (c.words-why.result.now, Appends-trans _ _ _ _ _ three c.in_ok-ended.ensures.bytes)
