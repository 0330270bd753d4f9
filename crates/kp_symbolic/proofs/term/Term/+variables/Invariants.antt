use Rattle.std.proofs.Common.{◌≡◌, ◌++◌, drop, map}
use Rattle.kp_symbolic.specs.Terms.{all_term_variables}
use Rattle.kp_symbolic.specs.View.{term_view, terms_of, variables_view}
use Rattle.kp_symbolic.proofs.term.Term.+variables.Given as goal

abbrev pub invariant-add_all_variables-loop-term : goal.invariant-add_all_variables-loop-term
invariant-add_all_variables-loop-term l =
    variables_view l.found.items ++ all_term_variables (terms_of (map term_view (drop l.term-index l.terms)))
    ≡ variables_view l.fn.found.items ++ all_term_variables (terms_of (map term_view l.terms))
