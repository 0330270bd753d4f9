use Rattle.std.proofs.Common.{List}
use Rattle.kp_kore.specs.Syntax.{Text}
use Rattle.kp_kore.specs.Theory.{Theory}
use Rattle.kp_symbolic.specs.View.{state_view}
use Rattle.kp_results.specs.View.{options_view}
use Rattle.kp_execute.specs.Endings.{IsRunFrom, IsUnderWay}
use Rattle.kp_execute.proofs.runs.run.Given as goal

-- the run stands at the state
abbrev pub invariant-loop-depth : goal.invariant-loop-depth
invariant-loop-depth l =
    (t : Theory) (used : List Text) → IsRunFrom t used (state_view l.fn.state) l.setting l.rules l.fn.next →
    IsUnderWay t (options_view l.options) used (state_view l.fn.state) (state_view l.state) l.next l.depth
