use Rattle.std.proofs.Common.{MatchOption}
use Rattle.kp_imports.specs.Walks.{IsOver}
use Rattle.kp_modules.proofs.Kept.{none_of_it}
use Rattle.kp_modules.proofs.own_walk.order_from.Goals as goal

pub returns-in-Ok : goal.returns-in-Ok
returns-in-Ok c name is at none = c.in-Ok.ensures.order name is at

pub returns-in-Err : goal.returns-in-Err
returns-in-Err c name is at none =
    none_of_it (λ o. MatchOption o ⊥ (λ order. IsOver c.args.modules.now name order.items)) c.none_told.result c.in-Err.error c.none_told.ensures
    (λ f e. none f (c.in-Err.ensures.err name is at f e))
