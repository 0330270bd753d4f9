use Rattle.std.proofs.Common.{rules, ◌≡◌, ◌∙◌, ap, sym, true, false, not, map, [], ◌∷◌, ◌++◌}
use Rattle.kp_symbolic.specs.Clauses.{is_too_large}
use Rattle.kp_symbolic.specs.Languages.{language_view}
use Rattle.kp_symbolic.specs.View.{clause_view, clauses_view, replaced_view}
use Rattle.kp_formulas.specs.Distribution.{distribution_of}
use Rattle.kp_formulas.specs.DistributionView.{distributed_view}
use Rattle.kp_clause_substitution.specs.Replacing.{clause_under}
use Rattle.kp_goals.proofs.CodeLemmas.{map_both, map_one, opened_put, unopened_put}
use Rattle.kp_goals.proofs.goals.add_put.Goals as goal

pub returns-then-is_room : goal.returns-then-is_room
returns-then-is_room c =
    let g = language_view c.args.language.now in
    let put = map replaced_view c.args.put.now in
    let d = clause_view c.args.clause.now in
    let f = clause_under g put d in
    let before = c.args.found.now.items in
    let made = c.clauses_of-clauses.result.items in
    let is : distributed_view c.in_ok-opened.opened ≡ distribution_of f = search rules in
    let room : true ≡ not (is_too_large 0 f) = sym c.if-is_room.true ∙ c.is_room.ensures f is in
    let items : c.append.new.self.items ≡ before ++ made = search rules in
    ap clauses_view items ∙ map_both clause_view before made ∙ ap (λ cs. clauses_view before ++ cs) (c.clauses_of-clauses.ensures ∙ opened_put g put d (distributed_view c.in_ok-opened.opened) is room)

pub returns : goal.returns
returns c =
    let g = language_view c.args.language.now in
    let put = map replaced_view c.args.put.now in
    let d = clause_view c.args.clause.now in
    let f = clause_under g put d in
    let before = c.args.found.now.items in
    let shared = c.in_ok-share.field-0 in
    let is : distributed_view c.in_ok-opened.opened ≡ distribution_of f = search rules in
    let full : false ≡ not (is_too_large 0 f) = sym c.if-is_room.false ∙ c.is_room.ensures f is in
    let items : c.push.new.self.items ≡ before ++ shared ∷ [] = search rules in
    map_one clause_view c.push.new.self.items before shared d items c.in_ok-share.ensures ∙ ap (λ cs. clauses_view before ++ cs) (unopened_put g put d full)
