use Rattle.std.proofs.Common.{◌≡◌, sym, subst, true, not}
use Rattle.std.specs.Bool.{Decides}
use Rattle.std.specs.List.{AllByRecursion, list_any}
use Rattle.std.proofs.lemmas.Result.{err_from_is_err_and}
use Rattle.kp_kore.specs.Parts.{free_variables}
use Rattle.kp_kore.specs.View.{view}
use Rattle.kp_kore.specs.Instance.{IsTrueUnder}
use Rattle.kp_kore.specs.Numbers.{computes_wide}
use Rattle.kp_ground.specs.Conditions.{condition_holds, condition_narrow}
use Rattle.kp_ground.specs.ConditionView.{condition_view}
use Rattle.kp_signature.specs.View.{signature_view}
use Rattle.kp_compile.specs.Exact.{are_named}
use Rattle.kp_compile.specs.Names.{names_seen}
use Rattle.kp_compile.specs.Verified.{IsVerifiedPredicate}
use Rattle.kp_rules.specs.Shapes.{seen}
use Rattle.kp_rule_reading.proofs.ReadBodies.{decides_seen}
use Rattle.kp_rule_reading.proofs.rewrite_parts.compile_parts.Goals as goal

pub returns-clause-made : goal.returns-clause-made
returns-clause-made c =
    let g = signature_view c.args.signature.now in
    let xs = names_seen c.args.names in
    let condition = c.in_ok-condition.condition in
    record {
      tests = c.in_ok-tests.ensures.tests;
      tests_named = c.in_ok-tests.ensures.reads;
      condition = λ v. decides_seen g v c.args.shape.now.left.predicates.items (condition_holds v (condition_view condition))
          (subst (λ ps. Decides (condition_holds v (condition_view condition)) (AllByRecursion (λ p. IsTrueUnder g v (view p.now)) ps)) c.deref.ensures.value (c.in_ok-condition.ensures.holds v));
      narrow = λ v. subst (λ ps. condition_narrow v (condition_view condition) ≡ not (list_any (computes_wide g v) (seen ps))) c.deref.ensures.value (c.in_ok-condition.ensures.narrow v);
      condition_named = λ all. c.in_ok-condition.ensures.reads (subst (λ ps. AllByRecursion (λ q. are_named xs (free_variables q) ≡ true) (seen ps)) (sym c.deref.ensures.value) all);
      right = c.in_ok-term.ensures.made;
    }

pub returns-in_err-tests-clause-sound : goal.returns-in_err-tests-clause-sound
returns-in_err-tests-clause-sound c =
    let p = err_from_is_err_and c.from_residual.result c.from_residual.ensures.1 in
    rw (p.1, p.2) (λ sound. c.in_err-tests.ensures.refused sound.left)

pub returns-in_err-condition-clause-sound : goal.returns-in_err-condition-clause-sound
returns-in_err-condition-clause-sound c =
    let p = err_from_is_err_and c.from_residual-in_err-condition.result c.from_residual-in_err-condition.ensures.1 in
    rw (p.1, p.2) (λ sound. c.in_err-condition.ensures.refused
    (subst (λ ps. AllByRecursion (IsVerifiedPredicate (signature_view c.args.signature.now)) (seen ps)) (sym c.deref.ensures.value) sound.condition))

pub returns-in_err-term-clause-sound : goal.returns-in_err-term-clause-sound
returns-in_err-term-clause-sound c =
    let p = err_from_is_err_and c.from_residual-in_err-term.result c.from_residual-in_err-term.ensures.1 in
    rw (p.1, p.2) (λ sound. c.in_err-term.ensures.sound sound)

pub compile_right-requires-clause-named : goal.compile_right-requires-clause-named
compile_right-requires-clause-named c = c.requires.named

pub compile_right-requires-clause-known : goal.compile_right-requires-clause-known
compile_right-requires-clause-known c = c.requires.known
