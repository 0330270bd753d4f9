use Rattle.std.proofs.Common.{sym, subst}
use Rattle.std.proofs.lemmas.Result.{err_from_is_err_and}
use Rattle.kp_kore.specs.View.{sort_view}
use Rattle.kp_signature.specs.View.{signature_view}
use Rattle.kp_ground.specs.View.{value_view}
use Rattle.kp_run.specs.View.{AreDepthsOf}
use Rattle.kp_run.specs.Causes.{IsWrittenAt}
use Rattle.kp_run.specs.Runs.{IsNext, IsWrittenNext, written_of}
use Rattle.kp_run.specs.Shallow.{HasDepths}
use Rattle.kp_run.specs.Turns.{IsTurn, IsAfterFiring, IsFollowed, NotFollowed}
use Rattle.kp_run.proofs.Answered.{stuck_without, goes_without}
use Rattle.kp_run.proofs.Causes.{wide_stops, several_stop, not_followed_stops, next_written, one_here}
use Rattle.kp_run.proofs.Shallow.{match_of}
use Rattle.kp_run.proofs.Theories.{stuck_here, goes_here}
use Rattle.kp_run.proofs.step.known_next.Goals as goal

pub returns-in-Nobody-clause-next : goal.returns-in-Nobody-clause-next
returns-in-Nobody-clause-next c = λ t runs s known.
    stuck_here t c.args.rules.now (value_view c.args.state.now.value) runs s known
    (subst (IsTurn (signature_view c.args.rules.now.signature.value) (value_view c.args.state.now.value) c.args.rules.now.rules.items) c.in-Nobody.is c.in_ok-turn_on.ensures.turn)

pub returns-in-Nobody-clause-answered : goal.returns-in-Nobody-clause-answered
returns-in-Nobody-clause-answered c = λ t runs s known.
    stuck_without t c.args.rules.now c.args.state.now runs s c.in_ok-turn_on.ensures.narrow
    (stuck_here t c.args.rules.now (value_view c.args.state.now.value) runs s known
    (subst (IsTurn (signature_view c.args.rules.now.signature.value) (value_view c.args.state.now.value) c.args.rules.now.rules.items) c.in-Nobody.is c.in_ok-turn_on.ensures.turn))

pub returns-in_err-turn_on-clause-not_answered : goal.returns-in_err-turn_on-clause-not_answered
returns-in_err-turn_on-clause-not_answered c = λ t runs s known.
    let p = err_from_is_err_and c.from_residual.result c.from_residual.ensures.1 in
    rw (p.1, p.2) (λ is. wide_stops t c.args.rules.now c.args.state.now runs s (c.in_err-turn_on.ensures.wide is))

pub returns-in-Several-clause-not_answered : goal.returns-in-Several-clause-not_answered
returns-in-Several-clause-not_answered c = λ t runs s known _.
    several_stop t c.args.rules.now c.args.state.now c.in-Several.field-0 runs s
    (subst (IsTurn (signature_view c.args.rules.now.signature.value) (value_view c.args.state.now.value) c.args.rules.now.rules.items) c.in-Several.is c.in_ok-turn_on.ensures.turn)

pub returns-in_err-after-in-One-clause-not_answered : goal.returns-in_err-after-in-One-clause-not_answered
returns-in_err-after-in-One-clause-not_answered c = λ t runs s known.
    let p = err_from_is_err_and c.from_residual-in_err-after-in-One.result c.from_residual-in_err-after-in-One.ensures.1 in
    rw (p.1, p.2) (λ is. not_followed_stops t c.args.rules.now c.args.state.now c.in-One.firing runs s known
    (subst (IsTurn (signature_view c.args.rules.now.signature.value) (value_view c.args.state.now.value) c.args.rules.now.rules.items) c.in-One.is c.in_ok-turn_on.ensures.turn)
    (subst (λ s. NotFollowed (signature_view s) c.in-One.firing (sort_view c.args.state.now.sort)) c.deref.ensures (c.in_err-after-in-One.ensures.not_followed is)))

pub returns-in_ok-after-in-One-clause-next : goal.returns-in_ok-after-in-One-clause-next
returns-in_ok-after-in-One-clause-next c = λ t runs s known.
    subst (IsNext t (value_view c.args.state.now.value)) (sym c.stepped.ensures)
    (goes_here t c.args.rules.now (value_view c.args.state.now.value) c.in-One.firing c.in_ok-after-in-One.field-0.0 runs s known
    (subst (IsTurn (signature_view c.args.rules.now.signature.value) (value_view c.args.state.now.value) c.args.rules.now.rules.items) c.in-One.is c.in_ok-turn_on.ensures.turn)
    (subst (λ s. IsAfterFiring (signature_view s) c.in-One.firing c.in_ok-after-in-One.field-0.0) c.deref.ensures c.in_ok-after-in-One.ensures.after))

pub returns-in_ok-after-in-One-clause-written : goal.returns-in_ok-after-in-One-clause-written
returns-in_ok-after-in-One-clause-written c = λ t runs s known.
    let turn = subst (IsTurn (signature_view c.args.rules.now.signature.value) (value_view c.args.state.now.value) c.args.rules.now.rules.items) c.in-One.is c.in_ok-turn_on.ensures.turn in
    let goes = (goes_here t c.args.rules.now (value_view c.args.state.now.value) c.in-One.firing c.in_ok-after-in-One.field-0.0 runs s known turn (subst (λ s. IsAfterFiring (signature_view s) c.in-One.firing c.in_ok-after-in-One.field-0.0) c.deref.ensures c.in_ok-after-in-One.ensures.after)).0 in
    subst (IsWrittenNext t (written_of c.args.state.now)) (sym c.stepped.ensures) (record {
      only = goes.1;
      steps = goes.0;
      written = next_written t c.args.rules.now c.args.state.now c.in_ok-after-in-One.field-0.0 c.in-One.firing runs s turn (subst (λ s. IsWrittenAt (signature_view s) (sort_view c.in-One.firing.rewrite.now.right_sort) (sort_view c.args.state.now.sort) (sort_view c.in_ok-after-in-One.field-0.0.sort)) c.deref.ensures c.in_ok-after-in-One.ensures.written);
    })

pub returns-in_ok-after-in-One-clause-answered : goal.returns-in_ok-after-in-One-clause-answered
returns-in_ok-after-in-One-clause-answered c = λ t runs s known.
    goes_without t c.args.rules.now c.args.state.now c.in_ok-after-in-One.field-0.0 c.in-One.firing runs s c.in_ok-turn_on.ensures.narrow
    (one_here t c.args.rules.now (value_view c.args.state.now.value) c.in-One.firing runs s
    (subst (IsTurn (signature_view c.args.rules.now.signature.value) (value_view c.args.state.now.value) c.args.rules.now.rules.items) c.in-One.is c.in_ok-turn_on.ensures.turn))
    (record {
      after = subst (λ s. IsAfterFiring (signature_view s) c.in-One.firing c.in_ok-after-in-One.field-0.0) c.deref.ensures c.in_ok-after-in-One.ensures.after;
      followed = subst (λ s. IsFollowed (signature_view s) c.in-One.firing c.in_ok-after-in-One.field-0.0) c.deref.ensures c.in_ok-after-in-One.ensures.followed;
      written = subst (λ s. IsWrittenAt (signature_view s) (sort_view c.in-One.firing.rewrite.now.right_sort) (sort_view c.args.state.now.sort) (sort_view c.in_ok-after-in-One.field-0.0.sort)) c.deref.ensures c.in_ok-after-in-One.ensures.written;
    })

pub after-requires-clause-matched : goal.after-requires-clause-matched
after-requires-clause-matched c =
    match_of (signature_view c.args.rules.now.signature.value) (value_view c.args.state.now.value) c.in-One.firing c.in-One.firing.priority c.args.rules.now.rules.items
    (subst (IsTurn (signature_view c.args.rules.now.signature.value) (value_view c.args.state.now.value) c.args.rules.now.rules.items) c.in-One.is c.in_ok-turn_on.ensures.turn)

pub returns-in_ok-after-in-One-clause-counted : goal.returns-in_ok-after-in-One-clause-counted
returns-in_ok-after-in-One-clause-counted c =
    let its = c.in_ok-after-in-One.field-0 in
    subst (HasDepths (signature_view c.args.rules.now.signature.value)) (sym c.stepped.ensures)
    (subst (λ s. AreDepthsOf (signature_view s) (value_view its.0.value) its.1) c.deref.ensures c.in_ok-after-in-One.ensures.counted)
