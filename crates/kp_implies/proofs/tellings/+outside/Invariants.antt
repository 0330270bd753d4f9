use Rattle.std.proofs.Common.{◌≡◌, ◌++◌, map, drop}
use Rattle.kp_signature.specs.View.{signature_view}
use Rattle.kp_symbolic.specs.Endings.{all_open_places}
use Rattle.kp_symbolic.specs.View.{term_view, terms_of, variables_view}
use Rattle.kp_implies.proofs.tellings.+outside.Given as goal

abbrev pub invariant-add_all_open-loop-term : goal.invariant-add_all_open-loop-term
invariant-add_all_open-loop-term l =
    variables_view l.found.items ++ all_open_places (signature_view l.signature) (terms_of (map term_view (drop l.term-index l.terms))) ≡ variables_view l.fn.found.items ++ all_open_places (signature_view l.signature) (terms_of (map term_view l.terms))
