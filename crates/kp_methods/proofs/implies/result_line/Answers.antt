use Rattle.std.proofs.Common.{◌∙◌}
use Rattle.kp_symbolic.specs.Endings.{answered}
use Rattle.kp_results.specs.View.{implied_view}
use Rattle.kp_rpc.specs.View.{id_view}
use Rattle.kp_methods.proofs.Implying.{answer_line, result_bytes}
use Rattle.kp_methods.proofs.implies.result_line.Goals as goal

pub returns-in-Some : goal.returns-in-Some
returns-in-Some c = λ g a b h.
    let id = id_view c.args.id.now in
    let r = implied_view c.args.implied.now in
    answer_line g id a b (answered r) c.in_ok-line.field-0 c.in-Some.line h c.in-Some.is (c.in_ok-line.ensures ∙ result_bytes id r)
