use Rattle.std.proofs.Common.{sym, ◌∙◌, ap, subst}
use Rattle.std.specs.Option.{option_map}
use Rattle.kp_kore.specs.View.{sort_view}
use Rattle.kp_symbolic.specs.View.{variable_view, term_view}
use Rattle.kp_unify.specs.Views.{signature_of, stage_view}
use Rattle.kp_unify.specs.Way.{IsGoing, IsPlaced}
use Rattle.kp_unify.proofs.PlaceLemmas.{placed_as_is, never_placed}
use Rattle.kp_unify.proofs.NarrowedLemmas.{is_variable}
use Rattle.kp_unify.proofs.course.Course.placed.Goals as goal

pub returns-then-has_sort : goal.returns-then-has_sort
returns-then-has_sort c used left p form setting going =
    let g = signature_of c.args.setting.now in
    let s = sort_view c.args.sort.now in
    subst (λ t. IsPlaced g used left p form s (stage_view c.args.self.now) t) (sym c.in_ok-share.ensures)
    (placed_as_is g used left p form s (stage_view c.args.self.now) (term_view c.args.term.now) c.has_sort.result going c.has_sort.ensures.variable c.has_sort.ensures.head c.if-has_sort.true)

pub returns-in-Some : goal.returns-in-Some
returns-in-Some c used left p form setting going =
    c.narrowed.ensures used left p form setting (subst (λ t. IsGoing (signature_of c.args.setting.now) used left p form (sort_view c.args.sort.now) (stage_view c.args.self.now) t) (is_variable (term_view c.args.term.now) (variable_view c.in-Some.variable.now.value) (sym c.variable_of.ensures ∙ ap (λ o. option_map (λ x. variable_view x.now.value) o) c.in-Some.is)) going)

pub returns-in-None : goal.returns-in-None
returns-in-None c used left p form setting going =
    never_placed (signature_of c.args.setting.now) used left p form (sort_view c.args.sort.now) (stage_view c.args.self.now) (term_view c.args.term.now) c.has_sort.result going c.has_sort.ensures.head (sym c.variable_of.ensures ∙ ap (λ o. option_map (λ x. variable_view x.now.value) o) c.in-None.is) c.if-has_sort.false
