use Rattle.std.proofs.Common.{◌≡◌, map, drop}
use Rattle.kp_symbolic.specs.View.{term_view, terms_of}
use Rattle.kp_formulas.specs.Keys.{with_arguments}
use Rattle.kp_formulas.proofs.keyed.with_arguments.Given as goal

abbrev pub invariant-loop-term : goal.invariant-loop-term
invariant-loop-term l = with_arguments l.mixed (terms_of (map term_view (drop l.term-index l.terms))) ≡ with_arguments l.key (terms_of (map term_view l.terms))
