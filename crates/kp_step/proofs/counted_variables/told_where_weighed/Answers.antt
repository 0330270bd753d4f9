use Rattle.std.proofs.Common.{rules, ◌≡◌, None}
use Rattle.kp_symbolic.specs.View.{state_view}
use Rattle.kp_unify.specs.Views.{signature_of}
use Rattle.kp_step.specs.Counted.{these_rules}
use Rattle.kp_step.proofs.CountLemmas.{not_weighed, counted_if, asked_signature}
use Rattle.kp_step.proofs.counted_variables.told_where_weighed.Goals as goal

pub returns-then-is_none-clause-counted : goal.returns-then-is_none-clause-counted
returns-then-is_none-clause-counted c t o found a =
    let none : c.args.told.over ≡ None = search rules in
    not_weighed (signature_of c.args.setting) (state_view c.args.state.now) (state_view c.args.part.now) (these_rules o found) c.args.told.over none

pub returns-clause-counted : goal.returns-clause-counted
returns-clause-counted c t o found a =
    counted_if t (signature_of c.args.setting) (state_view c.args.state.now) (state_view c.args.part.now) (these_rules o found) c.in_ok-most.most c.told_within.result
    (asked_signature t c.args.setting c.args.rules.now c.args.turns.now _ o found a) (c.in_ok-most.ensures t o found a) c.told_within.ensures.counted
