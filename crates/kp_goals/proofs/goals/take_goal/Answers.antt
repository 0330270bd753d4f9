use Rattle.std.proofs.Common.{rules, refl, ◌≡◌, ◌∙◌, ap, sym, subst, map, List, [], ◌∷◌, ◌++◌, Option, Some, None}
use Rattle.kp_symbolic.specs.Languages.{language_view}
use Rattle.kp_symbolic.specs.Terms.{Replaced}
use Rattle.kp_symbolic.specs.View.{state_view, variables_view, clauses_view, replaced_view}
use Rattle.kp_goals.specs.View.{consequent_view, given_view, given_seen, first_given, IsGivenIn}
use Rattle.kp_goals.proofs.CodeLemmas.{map_one, goal_given, goals_asked}
use Rattle.kp_goals.proofs.goals.take_goal.Goals as goal

pub returns-in_ok-push-in-Some-clause-given : goal.returns-in_ok-push-in-Some-clause-given
returns-in_ok-push-in-Some-clause-given c =
    let g = language_view c.args.language.now in
    let k = consequent_view c.args.consequent.now in
    let told = variables_view c.args.told.now in
    let s = state_view c.args.state.now in
    let o = given_view c.args.given.now in
    let goals = clauses_view c.in_ok-goals.goals.items in
    let r = replaced_view c.in-Some.found in
    let bound : c.deref.result.now ≡ c.args.consequent.now.bound.items = search rules in
    let put : c.deref-2.result.now ≡ c.args.given.now.put.items = search rules in
    let all : c.deref-3.result.now ≡ c.in_ok-goals.goals.items = search rules in
    let first = c.in_ok-found.ensures
    ∙ ap (λ xs. first_given g (variables_view xs) told (map replaced_view c.deref-2.result.now) (clauses_view c.deref-3.result.now)) bound
    ∙ ap (λ rs. first_given g k.bound told (map replaced_view rs) (clauses_view c.deref-3.result.now)) put
    ∙ ap (λ cs. first_given g k.bound told o.put (clauses_view cs)) all in
    let seen : given_seen c.in_ok-found.field-0 ≡ Some r = search rules in
    let items : c.push.new.self.items ≡ c.args.given.now.put.items ++ c.in-Some.found ∷ [] = search rules in
    let pushed : map replaced_view c.push.new.self.items ≡ o.put ++ r ∷ [] = map_one replaced_view c.push.new.self.items c.args.given.now.put.items c.in-Some.found r items refl in
    λ h. subst (λ (ps : List Replaced). IsGivenIn g k told s (record { rest = o.rest; put = ps })) (sym pushed) (goal_given g k told s o goals r c.in_ok-goals.ensures (sym seen ∙ first) h)

pub returns-in-None-clause-asked : goal.returns-in-None-clause-asked
returns-in-None-clause-asked c =
    let g = language_view c.args.language.now in
    let k = consequent_view c.args.consequent.now in
    let told = variables_view c.args.told.now in
    let s = state_view c.args.state.now in
    let o = given_view c.args.given.now in
    let goals = clauses_view c.in_ok-goals.goals.items in
    let bound : c.deref.result.now ≡ c.args.consequent.now.bound.items = search rules in
    let put : c.deref-2.result.now ≡ c.args.given.now.put.items = search rules in
    let all : c.deref-3.result.now ≡ c.in_ok-goals.goals.items = search rules in
    let first = c.in_ok-found.ensures
    ∙ ap (λ xs. first_given g (variables_view xs) told (map replaced_view c.deref-2.result.now) (clauses_view c.deref-3.result.now)) bound
    ∙ ap (λ rs. first_given g k.bound told (map replaced_view rs) (clauses_view c.deref-3.result.now)) put
    ∙ ap (λ cs. first_given g k.bound told o.put (clauses_view cs)) all in
    let none : Option Replaced = None in
    let seen : given_seen c.in_ok-found.field-0 ≡ none = search rules in
    goals_asked g k told s o goals c.in_ok-goals.ensures (sym seen ∙ first)
