use Rattle.std.proofs.Common.{rules, ◌≡◌, ap, ◌∙◌, string_bytes, Some, option_map}
use Rattle.std.proofs.lemmas.Result.{IfOk-weaker}
use Rattle.kp_symbolic.specs.Writing.{written_call}
use Rattle.kp_symbolic.specs.View.{variable_view}
use Rattle.kp_outward.specs.Parts.{sum_pattern}
use Rattle.kp_outward.proofs.sum.call_out.Goals as goal

pub returns-in-Some : goal.returns-in-Some
returns-in-Some c = λ n e.
    let x = variable_view c.args.variable.now in
    let f = c.deref.result.now in
    let is : Some (string_bytes c.in-Some.symbol.value) ≡ option_map (λ f. string_bytes f.value) c.args.symbol.now = search rules in
    IfOk-weaker c.under_symbol.result _ _
    (λ p told. told ∙ ap (sum_pattern (string_bytes f) x) e ∙ ap (λ f. written_call (Some (string_bytes f)) x n) c.deref.ensures ∙ ap (λ o. written_call o x n) is) c.under_symbol.ensures
