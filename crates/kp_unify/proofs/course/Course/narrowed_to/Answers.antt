use Rattle.std.proofs.Common.{true, false}
use Rattle.kp_kore.specs.View.{sort_view}
use Rattle.kp_symbolic.specs.View.{variable_view, term_view}
use Rattle.kp_unify.specs.Views.{signature_of, stage_view}
use Rattle.kp_unify.proofs.PlaceLemmas.{dead_meet, never_shared, placed_by_sort}
use Rattle.kp_unify.proofs.NarrowedLemmas.{not_told}
use Rattle.kp_unify.proofs.course.Course.narrowed_to.Goals as goal

pub returns-then-not-has_value : goal.returns-then-not-has_value
returns-then-not-has_value c used left p form setting going =
    let g = signature_of c.args.setting.now in
    let x = variable_view c.args.variable.now.value in
    never_shared g used left p form (sort_view c.args.sort.now) (stage_view c.args.self.now) x going
    (λ u. dead_meet g x.sort (sort_view c.args.sort.now) (sort_view c.args.meet.now) u c.requires (λ v. not_told c.has_value.result c.if-not-has_value.true ((c.has_value.ensures setting.heads).1 v)))

pub returns : goal.returns
returns c used left p form setting going =
    let g = signature_of c.args.setting.now in
    let x = variable_view c.args.variable.now.value in
    placed_by_sort g used left p form (sort_view c.args.sort.now) (sort_view c.args.meet.now) (stage_view c.args.self.now) (stage_view c.narrow_to_sort.new.self) x (term_view c.in_ok-narrow_to_sort.field-0) going c.requires
    ((c.has_value.ensures setting.heads).0 c.if-not-has_value.false) (c.in_ok-narrow_to_sort.ensures used setting.lists)
