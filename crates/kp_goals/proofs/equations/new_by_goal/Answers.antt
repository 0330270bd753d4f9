use Rattle.std.proofs.Common.{rules, ◌≡◌, ◌∙◌, ap, map}
use Rattle.kp_symbolic.specs.Languages.{language_view}
use Rattle.kp_symbolic.specs.View.{variables_view, literal_view, clause_view, replaced_view}
use Rattle.kp_goals.specs.Gives.{given_in}
use Rattle.kp_goals.specs.View.{put_of, new_put}
use Rattle.kp_goals.proofs.CodeLemmas.{new_put_is}
use Rattle.kp_goals.proofs.equations.new_by_goal.Goals as goal

pub returns : goal.returns
returns c =
    let g = language_view c.args.language.now in
    let bound = variables_view c.args.bound.now in
    let told = variables_view c.args.told.now in
    let put = map replaced_view c.args.put.now in
    let same : c.deref-2.result.now ≡ c.args.clause.now.literals.value.items = search rules in
    c.if_new.ensures ∙ ap (new_put told put) (c.in_ok-found.ensures ∙ ap (λ ls. put_of (given_in g bound (map literal_view ls))) same) ∙ new_put_is told put (given_in g bound (clause_view c.args.clause.now))
