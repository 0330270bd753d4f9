use Rattle.std.proofs.Common.{rules, ◌≡◌, ◌∙◌, ap, sym, Some}
use Rattle.std.specs.Option.{option_map}
use Rattle.kp_kore.specs.Rules.{top_binders, under_binders}
use Rattle.kp_kore.specs.View.{view}
use Rattle.kp_rules.specs.Shapes.{side_of, side_view}
use Rattle.kp_symbolic.specs.Languages.{language_view}
use Rattle.kp_symbolic.specs.View.{variables_view}
use Rattle.kp_goals.proofs.ReadLemmas.{read_is}
use Rattle.kp_goals.proofs.consequent.consequent_of.Goals as goal

pub returns-in-Some-clause-read : goal.returns-in-Some-clause-read
returns-in-Some-clause-read c =
    let p = view c.args.pattern.now in
    let side = side_view c.in-Some.side in
    let bound : variables_view c.in_ok-bound.bound.items ≡ top_binders p = search rules in
    let rest : view c.in_ok-under.under.pattern.now ≡ under_binders p = search rules in
    let seen : option_map side_view c.in_ok-side.field-0 ≡ Some side = search rules in
    let is : Some side ≡ side_of (under_binders p) = sym seen ∙ c.in_ok-side.ensures ∙ ap side_of rest in
    read_is (language_view c.args.language.now) p side (variables_view c.in_ok-bound.bound.items) c.read.result is bound c.read.ensures.read
