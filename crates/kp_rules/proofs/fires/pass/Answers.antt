use Rattle.std.proofs.Common.{rules, ◌≡◌, subst, sym, true, false, [], drop, string_bytes, arith}
use Rattle.std.proofs.lemmas.List.{drop_all}
use Rattle.kp_signature.specs.View.{signature_view}
use Rattle.kp_ground.specs.Slots.{stands_at}
use Rattle.kp_ground.specs.Solves.{bound_names}
use Rattle.kp_ground.proofs.SlotLemmas.{passes_at}
use Rattle.kp_rules.proofs.Firing.{one_passes, one_fails, all_passed}
use Rattle.kp_rules.proofs.fires.pass.Goals as goal

pub passes-requires : goal.passes-requires
passes-requires c =
    subst (λ t. stands_at (bound_names c.args.bindings.now) (string_bytes t.name) t.slot ≡ true) (sym c.test-item.is)
    (passes_at (λ t. stands_at (bound_names c.args.bindings.now) (string_bytes t.name) t.slot) c.args.tests.now c.loop-test.test-index c.test-item.result c.loop-test-test.true c.requires)

pub returns-then-not-passed : goal.returns-then-not-passed
returns-then-not-passed c =
    let so : c.in_ok-passed.passed ≡ false = search rules in
    one_fails (signature_view c.args.signature.now) c.args.bindings.now c.args.tests.now c.loop-test.test-index c.test-item.result c.in_ok-passed.passed
    c.loop-test-test.true c.test-item.is so c.in_ok-passed.ensures c.loop-test.invariant

pub loop-test-preserved : goal.loop-test-preserved
loop-test-preserved c =
    let so : c.in_ok-passed.passed ≡ true = search rules in
    one_passes (signature_view c.args.signature.now) c.args.bindings.now c.args.tests.now c.loop-test.test-index c.test-item.result c.in_ok-passed.passed
    c.loop-test-test.true c.test-item.is so c.in_ok-passed.ensures c.loop-test.invariant

pub returns : goal.returns
returns c =
    let done : drop c.loop-test.test-index c.args.tests.now ≡ [] = drop_all c.loop-test.test-index c.args.tests.now (omega arith) in
    all_passed (signature_view c.args.signature.now) c.args.bindings.now c.args.tests.now c.loop-test.test-index done c.loop-test.invariant
