use Rattle.std.proofs.Common.{rules, ◌≡◌, ◌∙◌, true, false}
use Rattle.kp_kore.specs.Instance.{is_named}
use Rattle.kp_signature.specs.View.{signature_view}
use Rattle.kp_symbolic.specs.View.{variable_view, variables_view, term_view}
use Rattle.kp_goals.specs.Gives.{has_bound}
use Rattle.kp_goals.proofs.CodeLemmas.{bound_solved}
use Rattle.kp_goals.proofs.equations.is_given_by.Goals as goal

pub returns-then-not-has_bound : goal.returns-then-not-has_bound
returns-then-not-has_bound c =
    let bound = variables_view c.args.bound.now in
    let x = variable_view c.args.variable.now in
    let t = term_view c.args.term.now in
    let named : is_named x.name bound ≡ true = search rules in
    let none : has_bound bound t ≡ false = search rules in
    c.is_solved_by.ensures ∙ bound_solved (signature_view c.args.signature.now) bound x t named none
