use Rattle.std.specs.Prelude.{Result}
use Prim.Native.Nat.{◌+◌, ◌^◌, ◌<◌}
use mathlib.Core.Path.{sym, ap, ap₂, ◌∙◌}
use native.Mathlib.Numerals.{add-one}
use native.Mathlib.Omega.{arith}
use Rattle.word.specs.declared.ByteAddr.{ByteAddr}
use Rattle.expr.specs.Expr.{Labels, labels_in}
use Rattle.forms.specs.Parts.{first_line}
use Rattle.forms.specs.declared.Shape.{Shape}
use Rattle.forms.proofs.Cuts.{line_next}
use Rattle.asm.specs.declared.Refusal.{Refusal}
use Rattle.asm.specs.Parts.{check_sure}
use Rattle.asm.specs.Assemble.{bytes_for}
use Rattle.asm.proofs.Laws.{line_fits, fine_room, verdict_on, verdict_stops, verdict_end, first_known, rest_known, sure_check, keys_with}
use Rattle.asm.proofs.passes.Source.judge.Goals as goal

pub overflow_add-lines : goal.overflow_add-lines
overflow_add-lines c =
    let k = c.loop-at.invariant.fits in
    let n = c.loop-at.invariant.counted in
    let h : c.loop-at.lines + 1 < 2 ^ 64 = omega arith in
    record { fits = h }

pub overflow_add-to : goal.overflow_add-to
overflow_add-to c =
    let l = c.new-line.result in
    let g = line_next c.args.self.now.text.now l.text.now c.loop-at.at l.cut c.loop-at-test.true (c.new-line.ensures ∙ c.end_part.ensures) l.is_cut in
    let d = c.check.ensures ∙ ap₂ (λ (x : ByteAddr) (y : Result Unit Refusal). check_sure c.args.sure (labels_in c.args.labels.now) c.loop-at.seen.keys x y c.what-w.result (first_line l.text.now)) c.address_of-a.ensures c.room_check-room.ensures ∙ sure_check c.args.sure (labels_in c.args.labels.now) c.loop-at.seen.keys _ _ c.what-w.result (first_line l.text.now) (λ e. first_known _ _ (first_line l.text.now) c.what-w.result g.lines c.what-w.ensures (c.loop-at.invariant.known e)) in
    let h = fine_room _ _ _ _ _ _ _ _ (sym d ∙ c.in_default.is) in
    let f = c.ranges.end in
    let k : c.loop-at.to + c.shape_of-n.result.size < 2 ^ 64 = omega arith in
    record { fits = k }

pub overflow_add-at : goal.overflow_add-at
overflow_add-at c = record { fits = (line_fits c.args.self.now.text.now c.new-line.result.text.now c.loop-at.at c.new-line.result.cut c.loop-at-test.true (c.new-line.ensures ∙ c.end_part.ensures) c.new-line.result.is_cut c.loop-at.invariant.fits).0 }

pub overflow_add-at-in-loop-at : goal.overflow_add-at-in-loop-at
overflow_add-at-in-loop-at c = record { fits = (line_fits c.args.self.now.text.now c.new-line.result.text.now c.loop-at.at c.new-line.result.cut c.loop-at-test.true (c.new-line.ensures ∙ c.end_part.ensures) c.new-line.result.is_cut c.loop-at.invariant.fits).1 }

pub loop-at-preserved : goal.loop-at-preserved
unfolding bytes_for
loop-at-preserved c =
    let l = c.new-line.result in
    let g = line_next c.args.self.now.text.now l.text.now c.loop-at.at l.cut c.loop-at-test.true (c.new-line.ensures ∙ c.end_part.ensures) l.is_cut in
    let d = c.check.ensures ∙ ap₂ (λ (x : ByteAddr) (y : Result Unit Refusal). check_sure c.args.sure (labels_in c.args.labels.now) c.loop-at.seen.keys x y c.what-w.result (first_line l.text.now)) c.address_of-a.ensures c.room_check-room.ensures ∙ sure_check c.args.sure (labels_in c.args.labels.now) c.loop-at.seen.keys _ _ c.what-w.result (first_line l.text.now) (λ e. first_known _ _ (first_line l.text.now) c.what-w.result g.lines c.what-w.ensures (c.loop-at.invariant.known e)) in
    let p = g.some in
    let i = c.loop-at.invariant.counted in
    record {
      within = g.within;
      room = fine_room _ _ _ _ _ _ _ _ (sym d ∙ c.in_default.is);
      counted = omega arith;
      verdict = verdict_on _ _ _ _ _ _ _ _ _ _ _ _ _ _ g.lines c.what-w.ensures (ap (λ (x : Shape). x.size) c.shape_of-n.ensures) d c.in_default.is c.label.ensures (ap (λ (t : Labels). t.keys) c.add.ensures ∙ keys_with _ _ _) (add-one _) ∙ c.loop-at.invariant.verdict;
      fits = c.loop-at.invariant.fits;
      known = λ e. rest_known _ _ _ _ g.lines c.what-w.ensures (c.loop-at.invariant.known e);
    }

pub returns-in-Err : goal.returns-in-Err
unfolding bytes_for
returns-in-Err c =
    let l = c.new-line.result in
    let g = line_next c.args.self.now.text.now l.text.now c.loop-at.at l.cut c.loop-at-test.true (c.new-line.ensures ∙ c.end_part.ensures) l.is_cut in
    let d = c.check.ensures ∙ ap₂ (λ (x : ByteAddr) (y : Result Unit Refusal). check_sure c.args.sure (labels_in c.args.labels.now) c.loop-at.seen.keys x y c.what-w.result (first_line l.text.now)) c.address_of-a.ensures c.room_check-room.ensures ∙ sure_check c.args.sure (labels_in c.args.labels.now) c.loop-at.seen.keys _ _ c.what-w.result (first_line l.text.now) (λ e. first_known _ _ (first_line l.text.now) c.what-w.result g.lines c.what-w.ensures (c.loop-at.invariant.known e)) in
    verdict_stops _ _ _ _ _ _ _ _ _ _ _ _ _ g.lines c.what-w.ensures (ap (λ (x : Shape). x.size) c.shape_of-n.ensures) d c.in-Err.is (add-one _) ∙ c.loop-at.invariant.verdict

pub returns : goal.returns
returns c = sym (verdict_end c.args.self.now.text.now c.loop-at.at c.loop-at-test.false _ _ _ _ _) ∙ c.loop-at.invariant.verdict
