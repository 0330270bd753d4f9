use Rattle.kp_case_laws.proofs.RunLaws.{leads_as_patterns, passes_as_pattern, reaches_as_pattern, ends_as_pattern}
use Rattle.kp_case_laws.proofs.turns.a_run_is_one_of_patterns.Goals as goal

pub returns-clause-leads : goal.returns-clause-leads
returns-clause-leads c = leads_as_patterns

pub returns-clause-passes : goal.returns-clause-passes
returns-clause-passes c = passes_as_pattern

pub returns-clause-reaches : goal.returns-clause-reaches
returns-clause-reaches c = reaches_as_pattern

pub returns-clause-ends : goal.returns-clause-ends
returns-clause-ends c = ends_as_pattern
