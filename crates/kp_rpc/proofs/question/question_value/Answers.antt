use Rattle.std.proofs.Common.{◌≡◌, option_map, sym, subst}
use Rattle.std.specs.Prelude.{IfOk}
use Rattle.serde_json.specs.View.{view}
use Rattle.kp_rpc.specs.Questions.{question_tree}
use Rattle.kp_rpc.specs.View.{question_view}
use Rattle.kp_rpc.proofs.question.question_value.Goals as goal

pub returns-in-Execute : goal.returns-in-Execute
returns-in-Execute c = subst (λ q. IfOk c.execute_value.result (λ o. option_map view o ≡ question_tree (question_view q))) (sym c.in-Execute.is) c.execute_value.ensures

pub returns-in-Implies : goal.returns-in-Implies
returns-in-Implies c = subst (λ q. IfOk c.implies_value.result (λ o. option_map view o ≡ question_tree (question_view q))) (sym c.in-Implies.is) c.implies_value.ensures

pub returns-in-AddModule : goal.returns-in-AddModule
returns-in-AddModule c = subst (λ q. IfOk c.add_module_value.result (λ o. option_map view o ≡ question_tree (question_view q))) (sym c.in-AddModule.is) c.add_module_value.ensures
