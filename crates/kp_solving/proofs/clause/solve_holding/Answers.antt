use Rattle.std.proofs.Common.{rules, ◌≡◌, sym, subst, ◌∙◌, map, true, false, not}
use Rattle.std.specs.Result.{IfOk}
use Rattle.kp_kore.specs.View.{sort_view}
use Rattle.kp_symbolic.specs.Clauses.{is_too_large}
use Rattle.kp_symbolic.specs.Languages.{language_view}
use Rattle.kp_symbolic.specs.View.{clause_view, clauses_view, replaced_view}
use Rattle.kp_formulas.specs.Distribution.{distribution_of}
use Rattle.kp_formulas.specs.DistributionView.{distributed_view}
use Rattle.kp_literals.specs.Equations.{equation_view}
use Rattle.kp_clause_substitution.specs.Replacing.{clause_under}
use Rattle.kp_solving.proofs.ClauseLemmas.{holding_opened, holding_quoted, never_too_large}
use Rattle.kp_outward.proofs.RoomLemmas.{on_ok}
use Rattle.kp_solving.proofs.clause.solve_holding.Goals as goal

pub returns-then-is_room-clause-solved : goal.returns-then-is_room-clause-solved
returns-then-is_room-clause-solved c =
    let g = language_view c.args.language.now in
    let by = map replaced_view c.args.by.now.value.items in
    let old = clause_view c.args.clause.now in
    let is : distributed_view c.in_ok-opened.opened ≡ distribution_of (clause_under g by old) = search rules in
    let room : true ≡ not (is_too_large c.args.so_far (clause_under g by old)) = sym c.if-is_room.true ∙ c.is_room.ensures (clause_under g by old) is in
    c.clauses_of.ensures ∙ holding_opened g (sort_view c.args.sort.now) (equation_view c.args.equation.now) by c.args.so_far old (distributed_view c.in_ok-opened.opened) c.requires is room

pub returns-clause-solved : goal.returns-clause-solved
returns-clause-solved c =
    let g = language_view c.args.language.now in
    let by = map replaced_view c.args.by.now.value.items in
    let old = clause_view c.args.clause.now in
    let is : distributed_view c.in_ok-opened.opened ≡ distribution_of (clause_under g by old) = search rules in
    let full : false ≡ not (is_too_large c.args.so_far (clause_under g by old)) = sym c.if-is_room.false ∙ c.is_room.ensures (clause_under g by old) is in
    subst (λ x. IfOk c.quote_clause.result (λ cs. clauses_view cs.items ≡ x)) (holding_quoted g (sort_view c.args.sort.now) (equation_view c.args.equation.now) by c.args.so_far old c.requires full) c.quote_clause.ensures.quoted

pub returns-then-is_room-clause-right : goal.returns-then-is_room-clause-right
returns-then-is_room-clause-right c =
    let g = language_view c.args.language.now in
    let by = map replaced_view c.args.by.now.value.items in
    let old = clause_view c.args.clause.now in
    let is : distributed_view c.in_ok-opened.opened ≡ distribution_of (clause_under g by old) = search rules in
    let room : true ≡ not (is_too_large c.args.so_far (clause_under g by old)) = sym c.if-is_room.true ∙ c.is_room.ensures (clause_under g by old) is in
    λ full. absurd (never_too_large g (equation_view c.args.equation.now) by c.args.so_far old c.requires room full)

pub returns-clause-right : goal.returns-clause-right
returns-clause-right c = on_ok c.quote_clause.result (λ room full. room) c.quote_clause.ensures.right
