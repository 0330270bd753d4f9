use Rattle.std.proofs.Common.{◌≡◌, drop, map}
use Rattle.kp_kore.specs.Instance.{is_named}
use Rattle.kp_symbolic.specs.Terms.{all_term_variables}
use Rattle.kp_symbolic.specs.View.{term_view, terms_of}
use Rattle.kp_symbolic.proofs.term.Term.+occurs.Given as goal

abbrev pub invariant-some_has_name-loop-term : goal.invariant-some_has_name-loop-term
invariant-some_has_name-loop-term l =
    is_named l.name (all_term_variables (terms_of (map term_view (drop l.term-index l.terms))))
    ≡ is_named l.name (all_term_variables (terms_of (map term_view l.terms)))
