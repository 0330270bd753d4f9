use Rattle.std.proofs.Common.{rules, ◌≡◌, refl, ◌∙◌, sym, ap, subst, true, [], ◌∷◌, string_bytes}
use Rattle.std.proofs.lemmas.List.Folds.{list_all-append}
use Rattle.kp_kore.specs.View.{sort_view}
use Rattle.kp_ground.specs.Slots.{is_one_of, stands_at}
use Rattle.kp_compile.specs.Names.{names_seen}
use Rattle.kp_compile.proofs.Reading.{both_so}
use Rattle.kp_rules.specs.Bound.{tests_read}
use Rattle.kp_rules.specs.declared.rule.SortTest.{SortTest}
use Rattle.kp_rule_reading.specs.Tests.{Adds}
use Rattle.kp_rule_reading.proofs.TestLemmas.{tested, given_sorted}
use Rattle.kp_rule_reading.proofs.sort_test.add_test.Goals as goal

pub returns-clause-tests : goal.returns-clause-tests
returns-clause-tests c = λ g v given.
    subst (λ new. Adds g v c.args.tests.now.items new (record { name = string_bytes c.args.name.now; sort = sort_view c.args.sort.now } ∷ [])) (sym c.in_ok-push.ensures.items)
    (tested g v c.args.tests.now.items (record { name = c.in_ok-clone.field-0; slot = c.slot_of.result; sort = c.in_ok-copy.field-0 }) (record { name = string_bytes c.args.name.now; sort = sort_view c.args.sort.now })
    (search rules) c.in_ok-copy.ensures (given_sorted g c.args.given (v (string_bytes c.args.name.now)) given))

pub returns-clause-reads : goal.returns-clause-reads
returns-clause-reads c = λ named old.
    let xs = names_seen c.args.names.now in
    let test : SortTest = record { name = c.in_ok-clone.field-0; slot = c.slot_of.result; sort = c.in_ok-copy.field-0 } in
    let told : stands_at xs c.as_str.result.now c.slot_of.result ≡ true = c.slot_of.ensures (subst (λ x. is_one_of x xs ≡ true) (sym c.as_str.ensures.value) named) in
    let here : stands_at xs (string_bytes test.name) test.slot ≡ true = subst (λ x. stands_at xs x c.slot_of.result ≡ true) (c.as_str.ensures.value ∙ search rules) told in
    ap (tests_read xs) c.in_ok-push.ensures.items ∙ list_all-append (λ t. stands_at xs (string_bytes t.name) t.slot) c.args.tests.now.items (test ∷ []) ∙ both_so _ _ old (both_so _ true here refl)
