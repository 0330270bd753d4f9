use Rattle.kp_symbolic.specs.View.{state_view}
use Rattle.kp_unify.specs.Views.{signature_of}
use Rattle.kp_step.specs.Limits.{PassesNone}
use Rattle.kp_step.specs.Views.{limit_view, part_told}
use Rattle.kp_step.proofs.LimitLemmas.{told_with, passes_here, passes_none, first_more, first_here}
use Rattle.kp_step.proofs.LoopLemmas.{all_more}
use Rattle.kp_step.proofs.limits.remainder_limit.Goals as goal

pub returns-in-Some : goal.returns-in-Some
returns-in-Some c =
    let g = signature_of c.args.setting in
    let l = limit_view c.in-Some.limit in
    let x = c.part-item.result in
    let o = c.in_ok-limit.field-0 in
    let told = told_with g (state_view x.state) o c.deref.result.now x.added.items c.deref.ensures.value c.in_ok-limit.ensures in
    first_here g part_told c.args.remainder.now c.loop-part.part-index x l c.loop-part-test.true c.part-item.is (passes_here g (part_told x) o c.in-Some.limit c.in-Some.is told) (c.loop-part.invariant.1 l)

pub loop-part-preserved : goal.loop-part-preserved
loop-part-preserved c =
    let g = signature_of c.args.setting in
    let x = c.part-item.result in
    let o = c.in_ok-limit.field-0 in
    let told = told_with g (state_view x.state) o c.deref.result.now x.added.items c.deref.ensures.value c.in_ok-limit.ensures in
    let none = passes_none g (part_told x) o c.in_default.is told in (
      all_more (λ s. PassesNone g s) part_told c.args.remainder.now c.loop-part.part-index x c.loop-part-test.true c.part-item.is none c.loop-part.invariant.0,
      (λ m. first_more g part_told c.args.remainder.now c.loop-part.part-index x m c.loop-part-test.true c.part-item.is none (c.loop-part.invariant.1 m)),
    )
