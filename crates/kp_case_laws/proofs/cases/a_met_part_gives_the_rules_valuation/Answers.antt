use Rattle.kp_case_laws.specs.Cases.{left_side}
use Rattle.kp_case_laws.proofs.CaseLemmas.{gives_valuation}
use Rattle.kp_case_laws.proofs.cases.a_met_part_gives_the_rules_valuation.Goals as goal

pub returns : goal.returns
returns c = λ g left. gives_valuation g (left_side g left)
