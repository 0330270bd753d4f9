-- The data of results that the Rust types stand for.
use Rattle.std.specs.Prelude.{List, map, option_map, string_bytes}
use Rattle.kp_kore.specs.View.{view}
use Rattle.kp_kore.specs.Causes.{Cause, foreign}
use Rattle.kp_kore.specs.Executions.{Options}
use Rattle.kp_kore.specs.Implied as theory
use Rattle.kp_results.specs.Results as parts
use Rattle.kp_results.specs.Results.{StateParts, NextParts, Ending, ExecutedParts}
use Rattle.kp_results.specs.declared.executed.Options.{Options as RustOptions}
use Rattle.kp_results.specs.declared.executed.ReplyState.{ReplyState}
use Rattle.kp_results.specs.declared.executed.NextState.{NextState}
use Rattle.kp_results.specs.declared.executed.Cause.{Cause as RustCause}
use Rattle.kp_results.specs.declared.executed.Cause.TheVariants as cause
use Rattle.kp_results.specs.declared.executed.Reason.{Reason}
use Rattle.kp_results.specs.declared.executed.Reason.TheVariants as reason
use Rattle.kp_results.specs.declared.executed.Executed.{Executed}
use Rattle.kp_results.specs.declared.implied.Implied.{Implied}
use Rattle.kp_results.specs.declared.implied.Implied.TheVariants as implied
use Rattle.kp_results.specs.declared.undecided.Weight.{Weight}
use Rattle.kp_results.specs.declared.undecided.Weight.TheVariants as weight
use Rattle.kp_results.specs.declared.undecided.Limit.{Limit}
use Rattle.kp_results.specs.declared.undecided.Limit.TheVariants as limit
use Rattle.kp_results.specs.declared.undecided.Undecided.{Undecided}
use Rattle.kp_results.specs.declared.undecided.Undecided.TheVariants as undecided

abbrev pub options_view : RustOptions → Options
options_view o = record { bound = o.bound; cut_points = map string_bytes o.cut_points.items; terminals = map string_bytes o.terminals.items }

abbrev pub state_view : ReplyState → StateParts
state_view s = record { term = view s.term; predicate = option_map view s.predicate }

abbrev pub next_view : NextState → NextParts
next_view n = record { rule = option_map string_bytes n.rule; predicate = view n.predicate; state = state_view n.state }

abbrev pub nexts_view : List NextState → List NextParts
nexts_view = map next_view

abbrev pub cause_view : RustCause → Cause
cause_view (cause.ForeignRule id) = foreign (string_bytes id)

abbrev pub reason_view : Reason → Ending
reason_view reason.Vacuous = parts.vacuous
reason_view reason.DepthBound = parts.depth_bound
reason_view reason.Stuck = parts.stuck
reason_view reason.Branching = parts.branching
reason_view (reason.CutPoint rule) = parts.cut_point (string_bytes rule)
reason_view (reason.Terminal rule) = parts.terminal (string_bytes rule)
reason_view (reason.Aborted cause) = parts.aborted (cause_view cause)

abbrev pub executed_view : Executed → ExecutedParts
executed_view e = record { depth = e.depth; ending = reason_view e.reason; state = state_view e.state; nexts = nexts_view e.next_states.items }

abbrev pub implied_view : Implied → theory.Implied
implied_view implied.NotValid = theory.not_valid
implied_view (implied.Valid predicate substitution) = theory.valid (view predicate) (view substitution)

abbrev pub weight_view : Weight → parts.Weight
weight_view weight.Bits = parts.bits
weight_view weight.Literals = parts.literals
weight_view weight.Product = parts.product
weight_view weight.Depth = parts.depth

abbrev pub limit_view : Limit → parts.Limit
limit_view (limit.Weighed weight number) = parts.weighed (weight_view weight) number
limit_view (limit.Number first second symbol) = parts.wide_call (string_bytes first) (string_bytes second) (string_bytes symbol)

abbrev pub undecided_view : Undecided → parts.Undecided
undecided_view (undecided.Predicate predicate limit) = parts.predicate (view predicate) (option_map limit_view limit)
undecided_view (undecided.Limit limit) = parts.limit (limit_view limit)
