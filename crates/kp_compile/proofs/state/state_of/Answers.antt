use Rattle.kp_kore.specs.View.{view, sort_view}
use Rattle.kp_signature.specs.View.{signature_view}
use Rattle.kp_ground.specs.View.{value_view}
use Rattle.kp_compile.specs.Spelled.{first_foreign}
use Rattle.std.proofs.lemmas.Result.{err_from_is_err_and}
use Rattle.kp_signature.specs.Places.{the_top}
use Rattle.kp_compile.proofs.GroundStates.{ground_state, none_told, no_foreign, is_ground}
use Rattle.kp_compile.proofs.state.state_of.Goals as goal

pub returns-in_ok-value_of-in-None-clause-state : goal.returns-in_ok-value_of-in-None-clause-state
returns-in_ok-value_of-in-None-clause-state c = λ h.
    ground_state (signature_view c.args.signature.now) (view c.args.pattern.now) (sort_view c.args.sort) (value_view c.in_ok-value_of-in-None.field-0) h
    (none_told c.in_ok-name.field-0 (first_foreign (signature_view c.args.signature.now) (view c.args.pattern.now)) c.in_ok-name.ensures c.in-None.is)
    c.in_ok-value_of-in-None.ensures.term c.in_ok-value_of-in-None.ensures.closed c.in_ok-value_of-in-None.ensures.meant

pub returns-in_err-value_of-in-None-clause-other_shape : goal.returns-in_err-value_of-in-None-clause-other_shape
returns-in_err-value_of-in-None-clause-other_shape c = λ verified.
    let g = signature_view c.args.signature.now in
    let p = view c.args.pattern.now in
    let told = none_told c.in_ok-name.field-0 (first_foreign g p) c.in_ok-name.ensures c.in-None.is in
    let from = err_from_is_err_and c.from_residual-in_err-value_of-in-None.result c.from_residual-in_err-value_of-in-None.ensures.1 in
    rw (from.1, from.2) (c.in_err-value_of-in-None.ensures.other_shape the_top verified.0 (no_foreign g p told))

pub returns-in_ok-value_of-in-None-clause-shape : goal.returns-in_ok-value_of-in-None-clause-shape
returns-in_ok-value_of-in-None-clause-shape c =
    is_ground (signature_view c.args.signature.now) (view c.args.pattern.now)
    c.in_ok-value_of-in-None.ensures.term c.in_ok-value_of-in-None.ensures.closed c.in_ok-value_of-in-None.ensures.narrow
