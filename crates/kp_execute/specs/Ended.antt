-- What the code's end of a run, as it is written, is of the run.
-- Source: the K Haskell backend's JSON-RPC documentation (execute and its reasons).
use Rattle.std.specs.Prelude.{◌≡◌, ℕ, List, [], ◌∷◌, Option, Some, None, ⊤}
use Rattle.kp_kore.specs.Rules.{RewriteRule}
use Rattle.kp_kore.specs.Theory.{Theory}
use Rattle.kp_symbolic.specs.View.{state_view}
use Rattle.kp_step.specs.Places.{IsAt}
use Rattle.kp_step.specs.declared.outcome.Next.{Next}
use Rattle.kp_execute.specs.declared.ending.Ending as runs
use Rattle.kp_execute.specs.declared.ending.Ending.TheVariants.{Aborted}
use Rattle.kp_execute.specs.declared.ending.Run.{Run}
use Rattle.kp_results.specs.Results.{StateParts, NextParts, Ending, cut_point, terminal, ExecutedParts}
use Rattle.kp_results.specs.View as results
use Rattle.kp_execute.specs.Written.{IsNextWritten, IsStateWritten, IsEndWritten, IsRunWritten}
use Rattle.kp_execute.specs.declared.result.WrittenEnding.{WrittenEnding}
use Rattle.kp_execute.specs.declared.result.WrittenRun.{WrittenRun}
use Rattle.kp_execute.specs.declared.result.WrittenRun.TheVariants.{Result, Undecided}

-- the next state alone, with the id of its rule
abbrev pub IsCutWritten : Theory → Next → Ending → List NextParts → Type 0
IsCutWritten t next e xs = (x : NextParts) × (xs ≡ x ∷ []) × (w : IsNextWritten t next x) × (e ≡ cut_point w.rule.id)

-- the id of the rule of the place
abbrev pub IsStopWritten : Theory → ℕ → Ending → List NextParts → Type 0
IsStopWritten t place e xs = (r : RewriteRule) × IsAt t place r × (e ≡ terminal r.id) × (xs ≡ [])

-- what follows isn't known
abbrev pub IsUndecidedEnd : runs.Ending → Type 0
IsUndecidedEnd (Aborted why) = ⊤
IsUndecidedEnd ending = ⊥

abbrev pub IsEndOf : Theory → runs.Ending → Option WrittenEnding → Type 0
IsEndOf t ending (Some e) = IsEndWritten t ending (results.reason_view e.reason) (results.nexts_view e.nexts.items)
IsEndOf t ending None = IsUndecidedEnd ending

abbrev pub result_with : ℕ → StateParts → Ending → List NextParts → ExecutedParts
result_with depth state e xs = record { depth = depth; ending = e; state = state; nexts = xs }

-- a result of the run; or its state, where what follows isn't known
abbrev pub IsEnded : Theory → Run → WrittenRun → Type 0
IsEnded t r (Result executed) = IsRunWritten t r (results.executed_view executed)
IsEnded t r (Undecided state) = IsStateWritten t.signature (state_view r.state) (results.state_view state) × IsUndecidedEnd r.ending
