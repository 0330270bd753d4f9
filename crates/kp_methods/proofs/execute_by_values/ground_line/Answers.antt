use Rattle.std.proofs.Common.{subst}
use Rattle.std.specs.Option.{IfSome}
use Rattle.kp_kore.specs.View.{view}
use Rattle.kp_rpc.specs.View.{options_view}
use Rattle.kp_methods.specs.ExecutedByValues.{IsEndOf}
use Rattle.kp_methods.proofs.execute_by_values.ground_line.Goals as goal

pub returns-in-Some : goal.returns-in-Some
returns-in-Some c = λ s runs here verified.
    let p = view c.args.pattern.now in
    let options = options_view c.args.options.now in
    c.end_line.ensures s options p runs here (subst (λ o. IfSome o (IsEndOf s.theory options p)) c.in-Some.is (c.in_ok-end.ensures s.theory runs verified))
