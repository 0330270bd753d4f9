use Rattle.std.proofs.Common.{rules, ◌≡◌, ◌∙◌, sym, subst, false}
use Rattle.kp_signature.specs.View.{signature_view}
use Rattle.kp_symbolic.specs.View.{state_view}
use Rattle.kp_literals.specs.Readings.{clauses_view}
use Rattle.kp_limits.specs.Told.{TellsOver}
use Rattle.kp_satisfiability.proofs.Answered.{if_ok, right_where_all_met, open_where_none_met, open_where_none_plain, heavy_where_over}
use Rattle.kp_satisfiability.proofs.Found.{are_light}
use Rattle.kp_satisfiability.proofs.decide_clauses.decide_rough.Goals as goal

pub returns-then-not-have_plain : goal.returns-then-not-have_plain
returns-then-not-have_plain c =
    let no : c.have_plain.result ≡ false = search rules in
    if_ok c.left_open.result _ _
    (λ a shows. open_where_none_plain (signature_view c.args.signature.now) (state_view c.args.state.now) c.args.clauses.now a shows (sym c.have_plain.ensures ∙ no))
    c.left_open.ensures

pub returns-in-Some : goal.returns-in-Some
returns-in-Some c =
    let first = subst (TellsOver (clauses_view c.args.clauses.now)) c.in-Some.is c.in_ok-over.ensures in
    if_ok c.too_heavy.result _ _
    (λ a shows k p. heavy_where_over (signature_view c.args.signature.now) (state_view c.args.state.now) c.args.clauses.now a c.in-Some.over shows first k p)
    c.too_heavy.ensures

pub can_be_met_together-requires : goal.can_be_met_together-requires
can_be_met_together-requires c = are_light c.args.clauses.now (subst (TellsOver (clauses_view c.args.clauses.now)) c.in_default.is c.in_ok-over.ensures)

pub returns-then-branch : goal.returns-then-branch
returns-then-branch c k p =
    let none = subst (TellsOver (clauses_view c.args.clauses.now)) c.in_default.is c.in_ok-over.ensures in
    right_where_all_met (signature_view c.args.signature.now) (state_view c.args.state.now) c.args.clauses.now none (c.in_ok-can_be_met_together.ensures.yes c.if-branch.true) k

pub returns-else-branch : goal.returns-else-branch
returns-else-branch c =
    let none = subst (TellsOver (clauses_view c.args.clauses.now)) c.in_default.is c.in_ok-over.ensures in
    if_ok c.left_open-else-branch.result _ _
    (λ a shows. open_where_none_met (signature_view c.args.signature.now) (state_view c.args.state.now) c.args.clauses.now a shows none (c.in_ok-can_be_met_together.ensures.no c.if-branch.false))
    c.left_open-else-branch.ensures
