use Rattle.std.proofs.Common.{◌≡◌, subst, inl, inr}
use Rattle.std.proofs.lemmas.Result.{err_from_is_err_and}
use Rattle.std.specs.Prelude.{string_bytes}
use Rattle.kp_kore.specs.View.{sort_view}
use Rattle.kp_kore.specs.Sorted.{IsSorted}
use Rattle.kp_signature.specs.View.{signature_view}
use Rattle.kp_ground.specs.View.{value_view}
use Rattle.kp_run.specs.Runs.{IsAt, IsStuck, IsFirstUnknown, GoesOnlyTo, IsNext, IsWrittenNext, written_of}
use Rattle.kp_run.specs.Shallow.{HasDepths}
use Rattle.kp_run.proofs.Runs.{goes_on, not_final, first_is_unknown}
use Rattle.kp_run.proofs.States.{only_goes_on, states_go_on, told_at, told_more, ends_told, untold_later}
use Rattle.kp_run.proofs.run.execute.Goals as goal

pub loop-depth-preserved : goal.loop-depth-preserved
loop-depth-preserved c = record {
  goes = λ t runs at.
      let now = value_view c.loop-depth.state.value in
      let before = c.loop-depth.invariant.goes t runs at in
      let step : GoesOnlyTo t now (value_view c.in-Stepped.next.value) × IsAt t c.in-Stepped.next =
      subst (IsNext t now) c.in-Stepped.is (c.in_ok-next.ensures.next t runs (sort_view c.loop-depth.state.sort, before.1)) in
      (goes_on t c.loop-depth.depth (value_view c.args.state.value) now (value_view c.in-Stepped.next.value) before.0 step.0, step.1);
  states = λ t runs at.
      let sorted : IsSorted t.signature (value_view c.loop-depth.state.value) = (sort_view c.loop-depth.state.sort, (c.loop-depth.invariant.goes t runs at).1) in
      states_go_on t c.loop-depth.depth (written_of c.args.state) (written_of c.loop-depth.state) (written_of c.in-Stepped.next) (c.loop-depth.invariant.states t runs at)
      (subst (IsWrittenNext t (written_of c.loop-depth.state)) c.in-Stepped.is (c.in_ok-next.ensures.written t runs sorted));
  only = λ t runs at.
      let sorted : IsSorted t.signature (value_view c.loop-depth.state.value) = (sort_view c.loop-depth.state.sort, (c.loop-depth.invariant.goes t runs at).1) in
      only_goes_on t c.loop-depth.depth (written_of c.args.state) (written_of c.loop-depth.state) (written_of c.in-Stepped.next) (c.loop-depth.invariant.only t runs at)
      (told_at t (written_of c.loop-depth.state) (c.in_ok-next.ensures.answered t runs sorted))
      (subst (IsWrittenNext t (written_of c.loop-depth.state)) c.in-Stepped.is (c.in_ok-next.ensures.written t runs sorted));
  told = λ t runs at.
      let sorted : IsSorted t.signature (value_view c.loop-depth.state.value) = (sort_view c.loop-depth.state.sort, (c.loop-depth.invariant.goes t runs at).1) in
      told_more t c.loop-depth.depth (written_of c.args.state) (written_of c.loop-depth.state) (c.loop-depth.invariant.told t runs at) (c.loop-depth.invariant.only t runs at)
      (told_at t (written_of c.loop-depth.state) (c.in_ok-next.ensures.answered t runs sorted));
  counted = subst (HasDepths (signature_view c.args.rules.now.signature.value)) c.in-Stepped.is c.in_ok-next.ensures.counted;
}

pub returns-in_err-next-clause-not_answered : goal.returns-in_err-next-clause-not_answered
returns-in_err-next-clause-not_answered c = λ t runs at.
    let p = err_from_is_err_and c.from_residual-in_err-next.result c.from_residual-in_err-next.ensures.1 in
    rw (p.1, p.2) (λ is. untold_later t c.loop-depth.depth c.args.bound (written_of c.args.state) (written_of c.loop-depth.state) (c.loop-depth.invariant.states t runs at) c.loop-depth-test.true
    (c.in_err-next.ensures.not_answered t runs (sort_view c.loop-depth.state.sort, (c.loop-depth.invariant.goes t runs at).1) is))

pub returns-in-Stuck-clause-answered : goal.returns-in-Stuck-clause-answered
returns-in-Stuck-clause-answered c = λ t runs at.
    let now = value_view c.loop-depth.state.value in
    let sorted : IsSorted t.signature now = (sort_view c.loop-depth.state.sort, (c.loop-depth.invariant.goes t runs at).1) in
    let stuck : IsStuck t now = subst (IsNext t now) c.in-Stuck.is (c.in_ok-next.ensures.next t runs sorted) in
    ends_told t c.loop-depth.depth c.args.bound (written_of c.args.state) (written_of c.loop-depth.state) (c.loop-depth.invariant.told t runs at) (c.loop-depth.invariant.only t runs at)
    (told_at t (written_of c.loop-depth.state) (c.in_ok-next.ensures.answered t runs sorted))
    (λ next to. not_final t now next.value to.steps (inr stuck.0))

pub returns-in-ForeignRule-clause-answered : goal.returns-in-ForeignRule-clause-answered
returns-in-ForeignRule-clause-answered c = λ t runs at.
    let now = value_view c.loop-depth.state.value in
    let sorted : IsSorted t.signature now = (sort_view c.loop-depth.state.sort, (c.loop-depth.invariant.goes t runs at).1) in
    let first : IsFirstUnknown t now (string_bytes c.in-ForeignRule.id) = subst (IsNext t now) c.in-ForeignRule.is (c.in_ok-next.ensures.next t runs sorted) in
    ends_told t c.loop-depth.depth c.args.bound (written_of c.args.state) (written_of c.loop-depth.state) (c.loop-depth.invariant.told t runs at) (c.loop-depth.invariant.only t runs at)
    (told_at t (written_of c.loop-depth.state) (c.in_ok-next.ensures.answered t runs sorted))
    (λ next to. not_final t now next.value to.steps (inl (first_is_unknown t now (string_bytes c.in-ForeignRule.id) first)))

pub returns-in-ForeignRule-clause-is_run : goal.returns-in-ForeignRule-clause-is_run
returns-in-ForeignRule-clause-is_run c = λ t runs at.
    let now = value_view c.loop-depth.state.value in
    let goes = c.loop-depth.invariant.goes t runs at in
    let sorted : IsSorted t.signature now = (sort_view c.loop-depth.state.sort, goes.1) in
    let first : IsFirstUnknown t now (string_bytes c.in-ForeignRule.id) = subst (IsNext t now) c.in-ForeignRule.is (c.in_ok-next.ensures.next t runs sorted) in
    record {
      steps = goes.0;
      sorted = goes.1;
      stuck = λ e. absurd (cc);
      foreign = λ id e.
          let same : c.in-ForeignRule.id ≡ id = cc in
          (c.loop-depth-test.true, subst (λ x. IsFirstUnknown t now (string_bytes x)) same first);
      at_bound = λ e. absurd (cc);
    }

pub returns-in-Stuck-clause-is_run : goal.returns-in-Stuck-clause-is_run
returns-in-Stuck-clause-is_run c = λ t runs at.
    let now = value_view c.loop-depth.state.value in
    let goes = c.loop-depth.invariant.goes t runs at in
    let sorted : IsSorted t.signature now = (sort_view c.loop-depth.state.sort, goes.1) in
    let stuck : IsStuck t now = subst (IsNext t now) c.in-Stuck.is (c.in_ok-next.ensures.next t runs sorted) in
    record {
      steps = goes.0;
      sorted = goes.1;
      stuck = λ e. (c.loop-depth-test.true, stuck);
      foreign = λ id e. absurd (cc);
      at_bound = λ e. absurd (cc);
    }
