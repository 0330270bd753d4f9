use Rattle.std.proofs.Common.{◌++◌, List, take}
use Rattle.kp_kore.specs.Syntax.{Text}
use Rattle.kp_names.specs.Met.{Lists}
use Rattle.kp_execute.specs.Checks.{rule_ids}
use Rattle.kp_execute.proofs.ChecksLemmas.{IsLeft}
use Rattle.kp_execute.proofs.part_tests.are_unmet.Given as goal

abbrev pub invariant-loop-rule : goal.invariant-loop-rule
invariant-loop-rule l = (before : List Text) → Lists before l.fn.names → Lists (before ++ rule_ids (take l.rule-index l.rules)) l.names × IsLeft before l.rules l.rule-index
