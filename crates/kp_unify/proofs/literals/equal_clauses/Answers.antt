use Rattle.std.proofs.Common.{rules, ◌≡◌, sym, subst, ◌∙◌, true, false, not}
use Rattle.std.specs.Result.{IfOk}
use Rattle.kp_kore.specs.View.{sort_view}
use Rattle.kp_signature.specs.View.{signature_view}
use Rattle.kp_symbolic.specs.Clauses.{is_too_large}
use Rattle.kp_symbolic.specs.Opening.{opened_same}
use Rattle.kp_symbolic.specs.View.{term_view, clauses_view}
use Rattle.kp_formulas.specs.Distribution.{distribution_of}
use Rattle.kp_formulas.specs.DistributionView.{distributed_view}
use Rattle.kp_case_laws.specs.Courses.{Equality}
use Rattle.kp_unify.proofs.OpenedLemmas.{equal_is, equal_kept}
use Rattle.kp_unify.proofs.literals.equal_clauses.Goals as goal

pub returns-then-is_room : goal.returns-then-is_room
returns-then-is_room c =
    let g = signature_view c.args.signature.now in
    let e : Equality = record { sort = sort_view c.args.sort.now; left = term_view c.args.left.now; right = term_view c.args.right.now } in
    let is : distributed_view c.in_ok-opened.opened ≡ distribution_of (opened_same g true true e.sort e.left e.right) = search rules in
    let room : true ≡ not (is_too_large 0 (opened_same g true true e.sort e.left e.right)) = sym c.if-is_room.true ∙ c.is_room.ensures (opened_same g true true e.sort e.left e.right) is in
    c.clauses_of.ensures ∙ equal_is g e (distributed_view c.in_ok-opened.opened) is room

pub returns : goal.returns
returns c =
    let g = signature_view c.args.signature.now in
    let e : Equality = record { sort = sort_view c.args.sort.now; left = term_view c.args.left.now; right = term_view c.args.right.now } in
    let is : distributed_view c.in_ok-opened.opened ≡ distribution_of (opened_same g true true e.sort e.left e.right) = search rules in
    let full : false ≡ not (is_too_large 0 (opened_same g true true e.sort e.left e.right)) = sym c.if-is_room.false ∙ c.is_room.ensures (opened_same g true true e.sort e.left e.right) is in
    subst (λ x. IfOk c.only_clause.result (λ cs. clauses_view cs.items ≡ x)) (equal_kept g e full) (search rules)
