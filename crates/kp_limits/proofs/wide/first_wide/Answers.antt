use Rattle.std.proofs.Common.{rules, ap, ◌∙◌}
use Rattle.kp_signature.specs.View.{signature_view}
use Rattle.kp_symbolic.specs.Sources.{clause_parts}
use Rattle.kp_symbolic.specs.View.{clauses_view, state_view}
use Rattle.kp_limits.specs.Wide.{first_wide_among}
use Rattle.kp_limits.proofs.WideLemmas.{in_the_term, in_the_clauses}
use Rattle.kp_limits.proofs.wide.first_wide.Goals as goal

pub returns-in-Some : goal.returns-in-Some
returns-in-Some c = in_the_term (signature_view c.args.signature.now) (state_view c.args.state.now) _ (search rules)

pub returns-in-None : goal.returns-in-None
returns-in-None c =
    let g = signature_view c.args.signature.now in
    in_the_clauses g (state_view c.args.state.now) _ (search rules) (c.wide_in_clauses.ensures ∙ ap (λ cs. first_wide_among g (clause_parts (clauses_view cs))) c.deref.ensures.value)
