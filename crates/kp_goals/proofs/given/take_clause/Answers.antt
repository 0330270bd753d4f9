use Rattle.std.proofs.Common.{rules, ◌≡◌, ◌∙◌, ap, List, [], ◌∷◌, ◌++◌, None}
use Rattle.kp_symbolic.specs.States.{Literal}
use Rattle.kp_symbolic.specs.Languages.{language_view}
use Rattle.kp_symbolic.specs.View.{variables_view, clause_view, clauses_view}
use Rattle.kp_goals.specs.Gives.{Given, if_new, given_by}
use Rattle.kp_goals.specs.View.{given_view, put_of}
use Rattle.kp_goals.proofs.CodeLemmas.{map_one, left_clause}
use Rattle.kp_goals.proofs.given.take_clause.Goals as goal

abbrev With : List (List Literal) → Given → Given
With rest o = record { rest = rest; put = o.put }

pub returns-in_ok-push-in-None : goal.returns-in_ok-push-in-None
returns-in_ok-push-in-None c =
    let g = language_view c.args.language.now in
    let bound = variables_view c.args.bound.now in
    let told = variables_view c.args.told.now in
    let o = given_view c.args.given.now in
    let d = clause_view c.args.clause.now in
    let rest = c.args.given.now.rest.items in
    let shared = c.in_ok-share-in-None.field-0 in
    let none : None ≡ put_of (if_new told o.put (given_by g bound d)) = search rules in
    let items : c.push-in-None.new.self.items ≡ rest ++ shared ∷ [] = search rules in
    let pushed : clauses_view c.push-in-None.new.self.items ≡ o.rest ++ d ∷ [] = map_one clause_view c.push-in-None.new.self.items rest shared d items c.in_ok-share-in-None.ensures in
    ap (λ r. With r o) pushed ∙ left_clause g bound told o d none
