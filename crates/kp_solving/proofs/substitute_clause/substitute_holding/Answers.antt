use Rattle.std.proofs.Common.{rules, ◌≡◌, sym, subst, ◌∙◌, map, true, false, not}
use Rattle.std.specs.Result.{IfOk}
use Rattle.kp_kore.specs.View.{sort_view}
use Rattle.kp_symbolic.specs.Clauses.{is_too_large}
use Rattle.kp_symbolic.specs.Languages.{language_view}
use Rattle.kp_symbolic.specs.View.{clause_view, clauses_view, replaced_view}
use Rattle.kp_formulas.specs.Distribution.{distribution_of}
use Rattle.kp_formulas.specs.DistributionView.{distributed_view}
use Rattle.kp_clause_substitution.specs.Replacing.{clause_under}
use Rattle.kp_solving.proofs.SubstitutedClauses.{holding_opened, holding_quoted}
use Rattle.kp_solving.proofs.substitute_clause.substitute_holding.Goals as goal

pub returns-then-is_room-clause-substituted : goal.returns-then-is_room-clause-substituted
returns-then-is_room-clause-substituted c =
    let g = language_view c.args.language.now in
    let qs = map replaced_view c.args.by.now in
    let old = clause_view c.args.clause.now in
    let is : distributed_view c.in_ok-opened.opened ≡ distribution_of (clause_under g qs old) = search rules in
    let room : true ≡ not (is_too_large c.args.so_far (clause_under g qs old)) = sym c.if-is_room.true ∙ c.is_room.ensures (clause_under g qs old) is in
    c.clauses_of.ensures ∙ holding_opened g (sort_view c.args.sort.now) qs c.args.so_far old (distributed_view c.in_ok-opened.opened) is room

pub returns-clause-substituted : goal.returns-clause-substituted
returns-clause-substituted c =
    let g = language_view c.args.language.now in
    let qs = map replaced_view c.args.by.now in
    let old = clause_view c.args.clause.now in
    let is : distributed_view c.in_ok-opened.opened ≡ distribution_of (clause_under g qs old) = search rules in
    let full : false ≡ not (is_too_large c.args.so_far (clause_under g qs old)) = sym c.if-is_room.false ∙ c.is_room.ensures (clause_under g qs old) is in
    subst (λ x. IfOk c.quote_clause.result (λ cs. clauses_view cs.items ≡ x)) (holding_quoted g (sort_view c.args.sort.now) qs c.args.so_far old full) c.quote_clause.ensures.quoted
