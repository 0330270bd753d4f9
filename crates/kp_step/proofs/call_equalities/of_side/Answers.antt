use Rattle.std.proofs.Common.{subst}
use Rattle.std.specs.Prelude.{IfSome}
use Rattle.kp_kore.specs.View.{sort_view}
use Rattle.kp_signature.specs.View.{signature_view}
use Rattle.kp_symbolic.specs.View.{term_view, clauses_view}
use Rattle.kp_step.specs.Implied.{IsSaidEqual}
use Rattle.kp_step.proofs.ImpliedLemmas.{side_follows}
use Rattle.kp_step.proofs.call_equalities.of_side.Goals as goal

pub returns-else-same : goal.returns-else-same
returns-else-same c =
    let cs = clauses_view c.args.clauses.now in
    let s = sort_view c.args.sort.now in
    let t = term_view c.args.term.now in
    let first = subst (λ o. IfSome o (λ u. IsSaidEqual cs s t (term_view u.now))) c.in-Some.is c.first_of_call.ensures in
    side_follows (signature_view c.args.signature.now) cs s t (term_view c.in-Some.first.now) (term_view c.args.other.now) c.equal_clauses.result first c.equal_clauses.ensures
