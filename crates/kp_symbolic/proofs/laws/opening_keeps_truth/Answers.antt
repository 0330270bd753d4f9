use Rattle.std.specs.List.{AllByRecursion}
use Rattle.kp_kore.specs.Parts.{free_variables, all_free_variables}
use Rattle.kp_kore.specs.Instance.{GivesSorts}
use Rattle.kp_symbolic.specs.Terms.{replacement_for, under_replaced}
use Rattle.kp_symbolic.specs.States.{IsLiteralTrue, variables_for}
use Rattle.kp_symbolic.proofs.Opened.{opened_says, variables_closed}
use Rattle.kp_symbolic.proofs.laws.opening_keeps_truth.Goals as goal

pub returns : goal.returns
returns c = λ g rs v leaf l alone b p a.
    opened_says g (under_replaced g rs v) (IsLiteralTrue g v)
    (λ q. AllByRecursion (λ x. GivesSorts g v (variables_for x (replacement_for rs x.name))) (free_variables q))
    (λ qs. AllByRecursion (λ x. GivesSorts g v (variables_for x (replacement_for rs x.name))) (all_free_variables qs))
    leaf (variables_closed (λ x. GivesSorts g v (variables_for x (replacement_for rs x.name)))) l alone b p a
