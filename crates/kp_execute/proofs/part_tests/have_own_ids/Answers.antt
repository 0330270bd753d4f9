use Rattle.std.proofs.Common.{rules, ◌≡◌, ap, sym, ◌∙◌, true, []}
use Rattle.std.proofs.lemmas.Result.{IfOk-weaker}
use Rattle.kp_kore.specs.Theory.{Theory}
use Rattle.kp_names.specs.Met.{Lists}
use Rattle.kp_rule_sets.specs.RuleSets.{RunsAs}
use Rattle.kp_case_laws.specs.NextStates.{HaveOwnIds}
use Rattle.kp_execute.specs.Checks.{are_new, rule_ids}
use Rattle.kp_execute.proofs.ChecksLemmas.{own_ids}
use Rattle.kp_execute.proofs.part_tests.have_own_ids.Goals as goal

pub returns : goal.returns
returns c =
    let none : Lists [] c.new-names.result = search rules in
    IfOk-weaker c.are_unmet.result
    (λ new. new ≡ are_new [] (rule_ids c.deref.result.now))
    (λ own. own ≡ true → (t : Theory) → RunsAs t c.args.rules.now → HaveOwnIds t.rules)
    (λ own told is t runs. own_ids t.signature t.rules c.args.rules.now.rules.items runs.each (ap (λ rs. are_new [] (rule_ids rs)) (sym c.deref.ensures.value) ∙ sym told ∙ is))
    (c.are_unmet.ensures [] none)
