use Rattle.std.proofs.Common.{sym, subst, take, ◌+◌, ◌∙◌}
use Rattle.std.specs.List.{AllZip}
use Rattle.std.proofs.lemmas.Result.{err_from_is_err_and}
use Rattle.kp_kore.specs.View.{view}
use Rattle.kp_signature.specs.View.{signature_view}
use Rattle.kp_compile.specs.Exact.{IsConditionOf, IsConditionNarrowAs, ConditionReadsAs}
use Rattle.kp_compile.specs.Names.{names_seen}
use Rattle.kp_compile.proofs.Compiled.{zip_push, zip_whole, each_holds}
use Rattle.kp_compile.proofs.Narrow.{each_lent_narrow}
use Rattle.kp_compile.proofs.Reading.{each_lent_reads}
use Rattle.kp_compile.proofs.VerifiedParts.{lent_at_index}
use Rattle.kp_compile.proofs.condition.compile_condition.Goals as goal

pub loop-predicate-preserved : goal.loop-predicate-preserved
loop-predicate-preserved c = (
  subst (λ xs. AllZip (λ p x. IsConditionOf (signature_view c.args.signature.now) (view p.now) x) (take (c.loop-predicate.predicate-index + 1) c.args.predicates.now) xs) (sym c.in_ok-push.ensures.items)
      (zip_push (λ p x. IsConditionOf (signature_view c.args.signature.now) (view p.now) x) c.loop-predicate.predicate-index c.args.predicates.now c.loop-predicate.conditions.items c.predicate-item.result c.in_ok-condition_of.field-0
      c.loop-predicate-test.true c.predicate-item.is c.loop-predicate.invariant.0 c.in_ok-condition_of.ensures.holds),
  subst (λ xs. AllZip (λ p x. IsConditionNarrowAs (signature_view c.args.signature.now) (view p.now) x) (take (c.loop-predicate.predicate-index + 1) c.args.predicates.now) xs) (sym c.in_ok-push.ensures.items)
      (zip_push (λ p x. IsConditionNarrowAs (signature_view c.args.signature.now) (view p.now) x) c.loop-predicate.predicate-index c.args.predicates.now c.loop-predicate.conditions.items c.predicate-item.result c.in_ok-condition_of.field-0
      c.loop-predicate-test.true c.predicate-item.is c.loop-predicate.invariant.1 c.in_ok-condition_of.ensures.narrow),
  subst (λ xs. AllZip (λ p x. ConditionReadsAs (names_seen c.args.names.now) (view p.now) x) (take (c.loop-predicate.predicate-index + 1) c.args.predicates.now) xs) (sym c.in_ok-push.ensures.items)
      (zip_push (λ p x. ConditionReadsAs (names_seen c.args.names.now) (view p.now) x) c.loop-predicate.predicate-index c.args.predicates.now c.loop-predicate.conditions.items c.predicate-item.result c.in_ok-condition_of.field-0
      c.loop-predicate-test.true c.predicate-item.is c.loop-predicate.invariant.2 c.in_ok-condition_of.ensures.reads),
)

pub returns-clause-holds : goal.returns-clause-holds
returns-clause-holds c = λ v.
    rw c.make_all.ensures.seen (each_holds (signature_view c.args.signature.now) v c.args.predicates.now c.loop-predicate.conditions.items
    (zip_whole (λ p x. IsConditionOf (signature_view c.args.signature.now) (view p.now) x) c.loop-predicate.predicate-index c.args.predicates.now c.loop-predicate.conditions.items c.loop-predicate-test.false c.loop-predicate.invariant.0))

pub returns-clause-narrow : goal.returns-clause-narrow
returns-clause-narrow c = λ v.
    rw c.make_all.ensures.seen (each_lent_narrow (signature_view c.args.signature.now) v c.args.predicates.now c.loop-predicate.conditions.items
    (zip_whole (λ p x. IsConditionNarrowAs (signature_view c.args.signature.now) (view p.now) x) c.loop-predicate.predicate-index c.args.predicates.now c.loop-predicate.conditions.items c.loop-predicate-test.false c.loop-predicate.invariant.1))

pub returns-clause-reads : goal.returns-clause-reads
returns-clause-reads c = λ named.
    let xs = names_seen c.args.names.now in
    c.make_all.ensures.reads xs ∙ each_lent_reads xs c.args.predicates.now c.loop-predicate.conditions.items
    (zip_whole (λ p x. ConditionReadsAs xs (view p.now) x) c.loop-predicate.predicate-index c.args.predicates.now c.loop-predicate.conditions.items c.loop-predicate-test.false c.loop-predicate.invariant.2) named

pub returns-in_err-condition_of-clause-refused : goal.returns-in_err-condition_of-clause-refused
returns-in_err-condition_of-clause-refused c =
    let p = err_from_is_err_and c.from_residual.result c.from_residual.ensures.1 in
    rw (p.1, p.2) (λ verified. c.in_err-condition_of.ensures.refused
    (lent_at_index (signature_view c.args.signature.now) c.args.predicates.now c.loop-predicate.predicate-index c.predicate-item.result c.loop-predicate-test.true c.predicate-item.is verified))
