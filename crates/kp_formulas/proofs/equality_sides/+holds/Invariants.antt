use Rattle.std.proofs.Common.{◌≡◌, map, drop}
use Rattle.kp_signature.specs.View.{signature_view}
use Rattle.kp_symbolic.specs.Opening.{some_hold_name}
use Rattle.kp_symbolic.specs.View.{term_view, terms_of}
use Rattle.kp_formulas.proofs.equality_sides.+holds.Given as goal

abbrev pub invariant-some_hold_name-loop-term : goal.invariant-some_hold_name-loop-term
invariant-some_hold_name-loop-term l =
    some_hold_name (signature_view l.signature) l.name (terms_of (map term_view (drop l.term-index l.terms)))
    ≡ some_hold_name (signature_view l.signature) l.name (terms_of (map term_view l.terms))
