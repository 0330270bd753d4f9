use Rattle.std.proofs.Common.{sym, subst}
use Rattle.kp_kore.specs.View.{sort_view}
use Rattle.kp_symbolic.specs.View.{variable_view}
use Rattle.kp_unify.specs.Heads.{ShareValues}
use Rattle.kp_unify.specs.Views.{signature_of, stage_view}
use Rattle.kp_unify.specs.Way.{IsPlaced}
use Rattle.kp_unify.proofs.PlaceLemmas.{never_shared, placed_by_heads}
use Rattle.kp_unify.proofs.NarrowedLemmas.{not_told, unshared}
use Rattle.kp_unify.proofs.course.Course.narrowed_by_heads.Goals as goal

pub returns-then-not-share_values : goal.returns-then-not-share_values
returns-then-not-share_values c used left p form setting going =
    let g = signature_of c.args.setting.now in
    let x = variable_view c.args.variable.now.value in
    let s = sort_view c.args.sort.now in
    never_shared g used left p form s (stage_view c.args.self.now) x going (unshared g x.sort s (subst (λ v. ¬ ShareValues g (sort_view v.sort) s) c.deref.ensures (λ v. not_told c.share_values.result c.if-not-share_values.true (c.share_values.ensures.1 v))))

pub returns : goal.returns
returns c used left p form setting going =
    let g = signature_of c.args.setting.now in
    let x = variable_view c.args.variable.now.value in
    let s = sort_view c.args.sort.now in
    subst (λ t. IsPlaced g used left p form s (stage_view c.ask_head.new.self) t) (sym c.in_ok-make_unknown.ensures)
    (placed_by_heads g used left p form s (stage_view c.args.self.now) (stage_view c.ask_head.new.self) x going (subst (λ v. ShareValues g (sort_view v.sort) s) c.deref.ensures (c.share_values.ensures.0 c.if-not-share_values.false)) c.requires.apart c.in_ok-ask_head.ensures)
