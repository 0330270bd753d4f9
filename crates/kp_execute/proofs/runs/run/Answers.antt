use Rattle.std.proofs.Common.{◌≡◌, refl, subst, arith, ℕ, suc, ◌+◌}
use Rattle.kp_symbolic.specs.View.{state_view}
use Rattle.kp_unify.specs.Views.{signature_of}
use Rattle.kp_results.specs.View.{options_view}
use Rattle.kp_execute.specs.Endings.{IsUnderWay}
use Rattle.kp_execute.specs.Onward.{IsRightOnward}
use Rattle.kp_execute.proofs.RunLemmas.{run_begins, run_goes_on, run_ends, run_stops, run_is_long, bound_told}
use Rattle.kp_execute.specs.declared.ending.Ending.TheVariants.{Terminal}
use Rattle.kp_execute.proofs.runs.run.Goals as goal

one_more : (d : ℕ) → suc d ≡ d + 1
one_more d = omega arith

pub loop-depth-init : goal.loop-depth-init
loop-depth-init c = λ t used from. run_begins t (options_view c.args.options.now) used (state_view c.args.state) c.args.next from.ready

pub loop-depth-preserved : goal.loop-depth-preserved
loop-depth-preserved c = λ t used from.
    let o = options_view c.args.options.now in
    let now = state_view c.loop-depth.state in
    let u = c.loop-depth.invariant t used from in
    let h = c.in_ok-ending.ensures t used (record { steps = from.steps; setting = from.setting; ready = u.ready }) in
    subst (IsUnderWay t o used (state_view c.args.state) (state_view c.in-Steps.after) c.in-Steps.number) (one_more c.loop-depth.depth)
    (run_goes_on t o used (state_view c.args.state) now (state_view c.in-Steps.after) c.loop-depth.next c.in-Steps.number c.loop-depth.depth u (subst (IsRightOnward t o used now) c.in-Steps.is h))

pub returns-in-Ends : goal.returns-in-Ends
returns-in-Ends c = λ t used from.
    let o = options_view c.args.options.now in
    let now = state_view c.loop-depth.state in
    let u = c.loop-depth.invariant t used from in
    let h = c.in_ok-ending.ensures t used (record { steps = from.steps; setting = from.setting; ready = u.ready }) in
    run_ends t o used (state_view c.args.state) (record { state = c.loop-depth.state; next = c.loop-depth.next; depth = c.loop-depth.depth; ending = c.in-Ends.ending }) u c.loop-depth-test.true (subst (IsRightOnward t o used now) c.in-Ends.is h)

pub returns-in-Stops : goal.returns-in-Stops
returns-in-Stops c = λ t used from.
    let o = options_view c.args.options.now in
    let now = state_view c.loop-depth.state in
    let u = c.loop-depth.invariant t used from in
    let h = c.in_ok-ending.ensures t used (record { steps = from.steps; setting = from.setting; ready = u.ready }) in
    run_stops t o used (state_view c.args.state) now c.loop-depth.next c.loop-depth.depth c.in-Stops.rule (record { state = c.in-Stops.last; next = c.in-Stops.number; depth = c.loop-depth.depth + 1; ending = Terminal c.in-Stops.rule }) u c.loop-depth-test.true (subst (IsRightOnward t o used now) c.in-Stops.is h) (omega arith) refl

pub returns : goal.returns
returns c t used from =
    let o = options_view c.args.options.now in
    let now = state_view c.loop-depth.state in
    let u = c.loop-depth.invariant t used from in
    let same : c.loop-depth.depth ≡ c.args.options.now.bound = omega (arith, c.loop-depth-test.false, c.loop-depth.auto.depth-end) in
    run_is_long t o used (state_view c.args.state) (record { state = c.loop-depth.state; next = c.loop-depth.next; depth = c.args.options.now.bound; ending = c.in_ok-ending-2.ending })
    (subst (IsUnderWay t o used (state_view c.args.state) now c.loop-depth.next) same u) refl
    (bound_told t used now c.loop-depth.next (signature_of c.args.setting) c.in_ok-ending-2.ending from.steps.signature u.ready c.in_ok-ending-2.ensures)
