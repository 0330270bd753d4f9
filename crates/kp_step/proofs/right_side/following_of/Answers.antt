use Rattle.std.proofs.Common.{sym, subst, map}
use Rattle.std.specs.List.{AllByRecursion}
use Rattle.kp_kore.specs.View.{sorted_variable_view}
use Rattle.kp_heads.specs.Heads.{HasValue}
use Rattle.kp_kore.specs.Rules.{rewrite}
use Rattle.kp_symbolic.specs.View.{state_view}
use Rattle.kp_unify.specs.Views.{signature_of, part_view, numbered_view}
use Rattle.kp_step.specs.Follows.{IsNextOf}
use Rattle.kp_step.proofs.FollowedLemmas.{given_values, values_of, follows_never}
use Rattle.kp_step.proofs.OneSortLemmas.{so_false}
use Rattle.kp_step.proofs.right_side.following_of.Goals as goal

pub returns-then-have_values : goal.returns-then-have_values
returns-then-have_values c t used m s p same setting read met i fires =
    let g = signature_of c.args.setting in
    let values = (values_of g m c.args.rewrite.now read).0 (subst (λ xs. AllByRecursion (λ y. HasValue g y.sort) (map sorted_variable_view xs)) c.deref.ensures.value (c.have_values.ensures.0 c.if-have_values.true)) in
    given_values c.follow.result (AllByRecursion (λ y. HasValue g y.sort) m.new_variables) (λ f. IsNextOf g used s (rewrite m) (part_view c.args.part.now) (state_view f.state) f.next) values (c.follow.ensures t used m s p same setting read met i fires)

pub returns : goal.returns
returns c t used m s p same setting read met i fires =
    let g = signature_of c.args.setting in
    follows_never g used s p (numbered_view c.args.part.now) m c.args.rewrite.now (state_view c.in_ok-nothing_follows.field-0) read i
    (λ h. so_false c.have_values.result c.if-have_values.false (c.have_values.ensures.1 (subst (λ xs. AllByRecursion (λ y. HasValue g y.sort) (map sorted_variable_view xs)) (sym c.deref.ensures.value) h)))
    c.in_ok-nothing_follows.ensures
