use Rattle.std.proofs.Common.{◌≡◌, take}
use Rattle.std.specs.List.{AllZip}
use Rattle.kp_results.specs.View.{next_view}
use Rattle.kp_rule_sets.specs.RuleSets.{RunsAs}
use Rattle.kp_kore.specs.Theory.{Theory}
use Rattle.kp_symbolic.specs.Languages.{language_view}
use Rattle.kp_execute.specs.Written.{IsNextWritten}
use Rattle.kp_execute.proofs.next_states.all_next_parts.Given as goal

abbrev pub invariant-loop-next : goal.invariant-loop-next
invariant-loop-next l = (t : Theory) → RunsAs t l.rules → language_view l.language ≡ t.signature → AllZip (λ n x. IsNextWritten t n (next_view x)) (take l.next-index l.nexts) l.found.items
