use Rattle.std.proofs.Common.{rules, ◌≡◌, subst, IfOk, map}
use Rattle.std.specs.List.{list_any}
use Rattle.kp_kore.specs.Instance.{is_named}
use Rattle.kp_symbolic.specs.States.{clause_variables}
use Rattle.kp_symbolic.specs.View.{literal_view, clause_view, variables_view}
use Rattle.kp_goals.proofs.Names.{either_way}
use Rattle.kp_goals.proofs.goals.is_unbound.Goals as goal

pub returns : goal.returns
returns c =
    let bound = variables_view c.args.bound.now in
    let same : c.deref-2.result.now ≡ c.args.clause.now.literals.value.items = search rules in
    let found = subst (λ ls. IfOk c.some_stands.result (λ b. b ≡ list_any (λ x. is_named x.name (clause_variables (map literal_view ls))) bound)) same c.some_stands.ensures in
    subst (λ a. IfOk c.some_stands.result (λ b. b ≡ a)) (either_way bound (clause_variables (clause_view c.args.clause.now))) found
