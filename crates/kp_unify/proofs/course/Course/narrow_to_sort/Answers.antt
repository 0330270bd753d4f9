use Rattle.std.proofs.Common.{◌≡◌, map, sym, ◌∙◌, ap, subst}
use Rattle.kp_kore.specs.View.{sort_view}
use Rattle.kp_symbolic.specs.Languages.{language_view}
use Rattle.kp_symbolic.specs.View.{variable_view, term_view, clauses_view}
use Rattle.kp_unify.specs.Names.{IsNextName}
use Rattle.kp_unify.specs.Views.{numbered_view, course_view, stage_view}
use Rattle.kp_unify.proofs.NarrowedLemmas.{narrowed, sort_record}
use Rattle.kp_unify.proofs.course.Course.narrow_to_sort.Goals as goal

pub returns : goal.returns
returns c used lists =
    let g = language_view c.args.setting.now.language.now in
    let x = variable_view c.args.variable.now.value in
    let y = variable_view c.in_ok-new.new.variable.value in
    let k = course_view c.split_off.new.self in
    let n = c.split_off.new.self.part.next in
    let t = term_view c.in_ok-term.term in
    sort_record g used x y (sort_view c.args.sort.now) (stage_view c.args.self.now) (stage_view c.narrow.new.self) k n (map numbered_view c.split_off.new.self.apart.items) t (clauses_view c.deref.result.now)
    c.in_ok-split_off.ensures.course c.in_ok-split_off.ensures.next c.in_ok-split_off.ensures.apart (ap clauses_view c.deref.ensures.value ∙ c.in_ok-others.ensures) c.in_ok-new.ensures.sort
    (subst (λ m. IsNextName used n y.name m) (sym (c.in_ok-narrow.ensures.next ∙ c.in_ok-alone.ensures.next)) (c.in_ok-new.ensures.named used lists))
    c.in_ok-term.ensures
    (subst (λ xs. course_view c.narrow.new.self ≡ narrowed g x t xs k) c.in_ok-alone.ensures.variables c.in_ok-narrow.ensures.course)
    (ap (λ ps. map numbered_view ps.items) c.in_ok-narrow.ensures.apart)
