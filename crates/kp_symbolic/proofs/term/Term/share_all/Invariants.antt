use Rattle.std.proofs.Common.{◌≡◌, map, take}
use Rattle.kp_symbolic.specs.View.{term_view}
use Rattle.kp_symbolic.proofs.term.Term.share_all.Given as goal

abbrev pub invariant-loop-term : goal.invariant-loop-term
invariant-loop-term l = map term_view l.shared.items ≡ map term_view (take l.term-index l.terms)
