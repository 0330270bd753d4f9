use Rattle.std.proofs.Common.{rules, arith, ◌≡◌, ◌∙◌, sym, subst, true, false, None, length}
use Rattle.kp_signature.specs.View.{signature_view}
use Rattle.kp_symbolic.specs.View.{state_view}
use Rattle.kp_literals.specs.Readings.{clauses_view}
use Rattle.kp_limits.specs.Told.{TellsOver}
use Rattle.kp_clause_demands.specs.Holding.{CanBeAsked, CanBeDecided}
use Rattle.kp_satisfiability.proofs.Answered.{if_ok, none_where_unmet, plain_where_met, right_where_plain, heavy_where_plain}
use Rattle.kp_satisfiability.proofs.Found.{are_light}
use Rattle.kp_satisfiability.proofs.decide_clauses.decide_read.Goals as goal

pub returns-in-Some : goal.returns-in-Some
returns-in-Some c =
    let first = subst (TellsOver (clauses_view c.in_ok-plain.plain.items)) c.in-Some.is (subst (λ xs. TellsOver (clauses_view xs) c.in_ok-over.field-0) c.deref.ensures.value c.in_ok-over.ensures) in
    if_ok c.too_heavy.result _ _
    (λ a shows. heavy_where_plain (signature_view c.args.signature.now) (state_view c.args.state.now) c.args.clauses.now c.in_ok-plain.plain.items a c.in-Some.over c.in_ok-over_too.field-0
    (record { view = c.in_ok-plain.ensures.view; same = c.in_ok-plain.ensures.same }) shows first c.in_ok-over_too.ensures.kind c.in_ok-over_too.ensures.number)
    c.too_heavy.ensures

pub can_be_met_together-requires : goal.can_be_met_together-requires
can_be_met_together-requires c =
    let none = subst (λ o. TellsOver (clauses_view c.deref.result.now) o) c.in_default.is c.in_ok-over.ensures in
    are_light c.deref-2.result.now (subst (λ xs. TellsOver (clauses_view xs) None) (c.deref.ensures.value ∙ sym c.deref-2.ensures.value) none)

pub returns-then-not-branch : goal.returns-then-not-branch
returns-then-not-branch c =
    let g = signature_view c.args.signature.now in
    let ps = c.in_ok-plain.plain.items in
    let light = subst (λ xs. TellsOver (clauses_view xs) None) c.deref.ensures.value (subst (λ o. TellsOver (clauses_view c.deref.result.now) o) c.in_default.is c.in_ok-over.ensures) in
    let no : c.in_ok-can_be_met_together.field-0 ≡ false = search rules in
    none_where_unmet g (state_view c.args.state.now) c.args.clauses.now ps
    (record { view = c.in_ok-plain.ensures.view; same = c.in_ok-plain.ensures.same }) light
    (subst (λ xs. CanBeDecided g xs → ¬ CanBeAsked g xs) c.deref-2.ensures.value (c.in_ok-can_be_met_together.ensures.no no))

pub returns-then-len-clauses : goal.returns-then-len-clauses
returns-then-len-clauses c =
    let g = signature_view c.args.signature.now in
    let ps = c.in_ok-plain.plain.items in
    let light = subst (λ xs. TellsOver (clauses_view xs) None) c.deref.ensures.value (subst (λ o. TellsOver (clauses_view c.deref.result.now) o) c.in_default.is c.in_ok-over.ensures) in
    let met : c.in_ok-can_be_met_together.field-0 ≡ true = search rules in
    let many : length ps ≡ length c.args.clauses.now = search (rules, arith) in
    right_where_plain g (state_view c.args.state.now) c.args.clauses.now ps
    (record { view = c.in_ok-plain.ensures.view; same = c.in_ok-plain.ensures.same }) light
    (subst (λ xs. CanBeDecided g xs → CanBeAsked g xs) c.deref-2.ensures.value (c.in_ok-can_be_met_together.ensures.yes met)) many

pub returns : goal.returns
returns c =
    let g = signature_view c.args.signature.now in
    let ps = c.in_ok-plain.plain.items in
    let light = subst (λ xs. TellsOver (clauses_view xs) None) c.deref.ensures.value (subst (λ o. TellsOver (clauses_view c.deref.result.now) o) c.in_default.is c.in_ok-over.ensures) in
    let met : c.in_ok-can_be_met_together.field-0 ≡ true = search rules in
    if_ok c.decide_rough.result _ _
    (λ a h k. h k (plain_where_met g (state_view c.args.state.now) c.args.clauses.now ps
    (record { view = c.in_ok-plain.ensures.view; same = c.in_ok-plain.ensures.same }) light
    (subst (λ xs. CanBeDecided g xs → CanBeAsked g xs) c.deref-2.ensures.value (c.in_ok-can_be_met_together.ensures.yes met)) k))
    c.decide_rough.ensures
