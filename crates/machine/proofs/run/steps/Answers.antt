use native.Mathlib.Omega.{arith}
use mathlib.Core.Path.{◌≡◌, refl, sym, ap, ◌∙◌}
use lib.ListN.{length, length-set}
use lib.Seq.{set_out}
use Rattle.machine.specs.Run.{Final}
use Rattle.machine.proofs.Laws.{mark_stays, steps_end, out_stops, out_errs, out_goes}
use Rattle.machine.proofs.run.steps.Goals.{in-Err+in-Ok-halt, in-Ok+then-d-lt16+then-marks-z, in-Ok+then-d-lt16+else-marks-z, in-Ok+else-d-lt16}
use Rattle.machine.proofs.run.steps.Goals as goal

pub returns-in-Err-halt : goal.returns-in-Err-halt
returns-in-Err-halt c =
    let o = rw c.from.ensures at c.begin-g.ensures in
    let h = c.make_step-out.ensures in
    let z = out_stops _ _ _ _ _ _ _ _ _ c.loop-n-test.true _ o _ c.low_byte-lo.ensures _ (sym c.in-Err.is ∙ h.value) _ (sym c.in-Err-halt.is ∙ c.halt.ensures) in
    let e = sym z.0 ∙ c.loop-n.invariant.2 in
    (record { value = rw c.end_at.ensures (ap (λ (f : Final). f.ended) e); m_after = h.m_after ∙ z.1 ∙ ap (λ (f : Final). f.mem) e; k_after = h.mk_after ∙ z.2 ∙ ap (λ (f : Final). f.marks) e })

pub loop-n-preserved : goal.loop-n-preserved
loop-n-preserved c =
    let o = rw c.from.ensures at c.begin-g.ensures in
    let i = c.loop-n.invariant in
    let h = c.make_step-out.ensures in
    let m = c.make_step-out.auto.m ∙ i.0 in
    let k = c.make_step-out.auto.mk ∙ i.1 in
    elim c.match-out.branch [
      | in-Err+in-Ok-halt w ↦ rw (w.regs-is, w.marks-is, w.flags-is, w.control-is) (
        m,
        k,
        sym (out_errs _ _ _ _ _ _ _ _ _ c.loop-n-test.true _ o _ c.low_byte-lo.ensures _ (sym w.in-Err.is ∙ h.value) _ (sym w.in-Ok-halt.is ∙ w.halt.ensures) i.3 i.4 _ _ h.m_after h.mk_after) ∙ i.2,
        i.3,
        i.4,
      )
      | in-Ok+then-d-lt16+then-marks-z w ↦ rw (w.regs-is, w.marks-is, w.flags-is, w.control-is) (
        m,
        k,
        sym (out_goes _ _ _ _ _ _ _ _ _ c.loop-n-test.true _ o _ c.low_byte-lo.ensures _ (sym w.in-Ok.is ∙ h.value) _ _ _ _ (refl) (sym (mark_stays _ _ _ w.if-marks-z.true)) h.m_after h.mk_after) ∙ i.2,
        length-set c.loop-n.regs w.in-Ok.d.reg w.in-Ok.d.value ∙ i.3,
        i.4,
      )
      | in-Ok+then-d-lt16+else-marks-z w ↦ rw (w.regs-is, w.marks-is, w.flags-is, w.control-is) (
        m,
        k,
        sym (out_goes _ _ _ _ _ _ _ _ _ c.loop-n-test.true _ o _ c.low_byte-lo.ensures _ (sym w.in-Ok.is ∙ h.value) _ _ _ _ w.put-regs.ensures w.put-marks.ensures h.m_after h.mk_after) ∙ i.2,
        ap length w.put-regs.ensures ∙ length-set c.loop-n.regs w.in-Ok.d.reg w.in-Ok.d.value ∙ i.3,
        ap length w.put-marks.ensures ∙ length-set c.loop-n.marks w.in-Ok.d.reg w.in-Ok.d.mark ∙ i.4,
      )
      | in-Ok+else-d-lt16 w ↦ rw (w.regs-is, w.marks-is, w.flags-is, w.control-is) (
        m,
        k,
        sym (out_goes _ _ _ _ _ _ _ _ _ c.loop-n-test.true _ o _ c.low_byte-lo.ensures _ (sym w.in-Ok.is ∙ h.value) _ _ _ _ (sym (set_out _ _ _ (omega (arith, w.if-d-lt16.false, i.3)))) (sym (set_out _ _ _ (omega (arith, w.if-d-lt16.false, i.4)))) h.m_after h.mk_after) ∙ i.2,
        i.3,
        i.4,
      )
    ]

pub returns : goal.returns
returns c =
    let end : c.loop-n.n ≡ c.args.b = omega arith in
    let e = sym (steps_end _ _ _ _ _ _ c.loop-n-test.false) ∙ c.loop-n.invariant.2 in
    (record { value = rw c.end_at-2.ensures (rw end at (ap (λ (f : Final). f.ended) e)); m_after = ap (λ (f : Final). f.mem) e; k_after = ap (λ (f : Final). f.marks) e })
