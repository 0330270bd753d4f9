use Rattle.std.proofs.Common.{◌∙◌}
use Rattle.std.proofs.lemmas.Result.{err_from_is_err_and}
use Rattle.kp_kore.specs.View.{view}
use Rattle.kp_signature.specs.View.{signature_view}
use Rattle.kp_compile.proofs.Compiled.{decides_same}
use Rattle.kp_compile.proofs.Narrow.{both_terms}
use Rattle.kp_compile.specs.Names.{names_seen}
use Rattle.kp_compile.proofs.Reading.{both_so}
use Rattle.kp_compile.proofs.condition.make_same.Goals as goal

pub returns-clause-holds : goal.returns-clause-holds
returns-clause-holds c = λ v. rw c.make_equality.ensures.seen (decides_same _ _ _ _ (c.in_ok-left.ensures.meaning v) (c.in_ok-right.ensures.meaning v))

pub returns-clause-narrow : goal.returns-clause-narrow
returns-clause-narrow c = λ v.
    rw c.make_equality.ensures.seen (both_terms (signature_view c.args.signature.now) v (view c.args.left.now) (view c.args.right.now) _ _ (c.in_ok-left.ensures.narrow v) (c.in_ok-right.ensures.narrow v))

pub returns-in_err-left-clause-refused : goal.returns-in_err-left-clause-refused
returns-in_err-left-clause-refused c =
    let p = err_from_is_err_and c.from_residual.result c.from_residual.ensures.1 in
    rw (p.1, p.2) (λ left right. c.in_err-left.ensures.refused left)

pub returns-clause-reads : goal.returns-clause-reads
returns-clause-reads c = λ left right.
    let xs = names_seen c.args.names.now in
    c.make_equality.ensures.reads xs ∙ both_so _ _ (c.in_ok-left.ensures.reads left) (c.in_ok-right.ensures.reads right)
