use Rattle.std.proofs.Common.{◌≡◌, ◌∙◌, ap, Some, [], ◌∷◌, ◌++◌}
use Rattle.kp_kore.specs.Syntax.{conjunction}
use Rattle.kp_kore.specs.View.{sort_view, patterns_view}
use Rattle.kp_client.specs.Answers.{stated_sort}
use Rattle.kp_client.proofs.steps.joined.Goals as goal

pub returns-clause-pattern : goal.returns-clause-pattern
returns-clause-pattern c =
    let both : c.push-2.new.self.items ≡ c.args.term ∷ c.args.predicate ∷ [] =
    c.in_ok-push-2.ensures.items ∙ ap (λ l. l ++ c.args.predicate ∷ []) (c.in_ok-push.ensures.items ∙ ap (λ l. l ++ c.args.term ∷ []) c.new-patterns.ensures.items) in
    (sort_view c.in_ok-sort.sort, c.conjunction_of.ensures ∙ ap (λ l. conjunction (sort_view c.in_ok-sort.sort) (patterns_view l)) both)

pub returns-clause-sort : goal.returns-clause-sort
returns-clause-sort c = ap stated_sort c.conjunction_of.ensures ∙ ap Some c.in_ok-sort.ensures
