use Rattle.kp_symbolic.specs.View.{state_view}
use Rattle.kp_unify.specs.Views.{signature_of}
use Rattle.kp_step.specs.Limits.{PassesNone}
use Rattle.kp_step.specs.Views.{limit_view, next_told}
use Rattle.kp_step.proofs.LimitLemmas.{told_with, passes_here, passes_none, first_more, first_here}
use Rattle.kp_step.proofs.LoopLemmas.{all_more}
use Rattle.kp_step.proofs.limits.next_limit.Goals as goal

pub returns-in-Some : goal.returns-in-Some
returns-in-Some c =
    let g = signature_of c.args.setting in
    let l = limit_view c.in-Some.limit in
    let x = c.next-item.result in
    let o = c.in_ok-limit.field-0 in
    let told = told_with g (state_view x.state) o c.deref.result.now x.part.added.items c.deref.ensures.value c.in_ok-limit.ensures in
    first_here g next_told c.args.nexts.now c.loop-next.next-index x l c.loop-next-test.true c.next-item.is (passes_here g (next_told x) o c.in-Some.limit c.in-Some.is told) (c.loop-next.invariant.1 l)

pub loop-next-preserved : goal.loop-next-preserved
loop-next-preserved c =
    let g = signature_of c.args.setting in
    let x = c.next-item.result in
    let o = c.in_ok-limit.field-0 in
    let told = told_with g (state_view x.state) o c.deref.result.now x.part.added.items c.deref.ensures.value c.in_ok-limit.ensures in
    let none = passes_none g (next_told x) o c.in_default.is told in (
      all_more (λ s. PassesNone g s) next_told c.args.nexts.now c.loop-next.next-index x c.loop-next-test.true c.next-item.is none c.loop-next.invariant.0,
      (λ m. first_more g next_told c.args.nexts.now c.loop-next.next-index x m c.loop-next-test.true c.next-item.is none (c.loop-next.invariant.1 m)),
    )
