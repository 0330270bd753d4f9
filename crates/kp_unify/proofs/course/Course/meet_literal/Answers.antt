use Rattle.std.proofs.Common.{rules, ◌≡◌, sym, ◌∙◌, ap, subst}
use Rattle.std.specs.Option.{option_map}
use Rattle.kp_kore.specs.View.{sort_view}
use Rattle.kp_ground.specs.View.{value_view}
use Rattle.kp_rules.specs.Skeletons.{fixed}
use Rattle.kp_symbolic.specs.Terms.{known}
use Rattle.kp_symbolic.specs.View.{term_view}
use Rattle.kp_symbolic.specs.declared.term.Term.{the_lemmas}
use Rattle.kp_unify.specs.Views.{signature_of, stage_view}
use Rattle.kp_unify.specs.Way.{IsNextPair}
use Rattle.kp_unify.specs.Replaced.{pair_of}
use Rattle.kp_unify.proofs.PairLemmas.{has_own, unsorted_next}
use Rattle.kp_unify.proofs.PairSteps.{same_or_other}
use Rattle.kp_unify.proofs.course.Course.meet_literal.Goals as goal

pub returns-in-Known : goal.returns-in-Known
returns-in-Known c used left p setting next =
    let g = signature_of c.args.setting.now in
    let u = value_view c.args.value.now in
    let is : term_view c.args.term.now ≡ known (value_view c.in-Known.known) = search (rules, the_lemmas, c.in-Known.is) in
    same_or_other g used left p (stage_view c.args.self.now) u (value_view c.in-Known.known) c.equal.result c.equal.ensures
    (subst (λ t. IsNextPair g used left p (stage_view c.args.self.now) (pair_of (fixed u) t)) is next)

pub returns-in-None : goal.returns-in-None
returns-in-None c used left p setting next =
    let g = signature_of c.args.setting.now in
    let u = value_view c.args.value.now in
    unsorted_next g used left p (stage_view c.args.self.now) u (term_view c.args.term.now) next (λ s h. has_own g u s (sym c.in_ok-own.ensures ∙ ap (λ o. option_map sort_view o) c.in-None.is) h)
