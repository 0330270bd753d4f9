use Rattle.std.proofs.Common.{◌≡◌, sym, subst, Option, List, MatchOption, Bor}
use Rattle.std.specs.List.{AllZip}
use Rattle.kp_kore.specs.Theory.{modules_reached, rewrite_axioms}
use Rattle.kp_rules.specs.declared.rule.Rule.{Rule}
use Rattle.kp_modules.specs.Keeping.{own_axioms, own_rules}
use Rattle.kp_modules.specs.Tables.{rule_set_of}
use Rattle.kp_modules.specs.Extending.{IsTakenFrom}
use Rattle.kp_modules.proofs.Owned.{as_many, own_taken}
use Rattle.kp_modules.proofs.own_rule_set.add_at.Goals as goal

pub returns-in-Some : goal.returns-in-Some
returns-in-Some c g d main m before keeps set at old =
    let reached = modules_reached d main in
    let table = c.args.table.now in
    let P : Option (Bor (List Rule)) → Type 0 = λ r. MatchOption r ⊥ (λ own. own.now ≡ own_rules reached c.args.place m (rule_set_of table).rules.items) in
    let told : c.in-Some.rules.now ≡ own_rules reached c.args.place m (rule_set_of table).rules.items = subst P c.in-Some.is (c.rules_at.ensures d main m keeps at (as_many g (rewrite_axioms reached) (rule_set_of table) set)) in
    c.add_own.ensures g before (own_axioms m) old (subst (AllZip (IsTakenFrom g) (own_axioms m)) (sym told) (own_taken g reached c.args.place m (rule_set_of table) set at))

pub returns-in-None : goal.returns-in-None
returns-in-None c g d main m before keeps set at old =
    let reached = modules_reached d main in
    let table = c.args.table.now in
    let P : Option (Bor (List Rule)) → Type 0 = λ r. MatchOption r ⊥ (λ own. own.now ≡ own_rules reached c.args.place m (rule_set_of table).rules.items) in
    absurd (subst P c.in-None.is (c.rules_at.ensures d main m keeps at (as_many g (rewrite_axioms reached) (rule_set_of table) set)))
