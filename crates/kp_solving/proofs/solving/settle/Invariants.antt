use Rattle.kp_symbolic.specs.Languages.{language_view}
use Rattle.kp_symbolic.specs.View.{state_view}
use Rattle.kp_symbolic_laws.specs.Runs.{ComesBy, OfEachKept}
use Rattle.kp_symbolic_laws.specs.Kept.{CanBeWritten}
use Rattle.kp_solving.proofs.SettleLemmas.{EndsLike}
use Rattle.kp_solving.proofs.solving.settle.Given as goal

abbrev pub invariant-loop-round : goal.invariant-loop-round
invariant-loop-round l =
    EndsLike (language_view l.language) (state_view l.fn.state) (state_view l.settled)
    × ComesBy (language_view l.language) (state_view l.fn.state) (state_view l.settled)
    × (OfEachKept (language_view l.language) (CanBeWritten (language_view l.language)) (state_view l.settled) → OfEachKept (language_view l.language) (CanBeWritten (language_view l.language)) (state_view l.fn.state))
