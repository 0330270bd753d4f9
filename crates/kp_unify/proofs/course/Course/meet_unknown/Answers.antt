use Rattle.std.proofs.Common.{sym, ◌∙◌, ap, map, length}
use Rattle.std.specs.Prelude.{string_bytes}
use Rattle.kp_kore.specs.View.{sort_view}
use Rattle.kp_symbolic.specs.View.{variable_view, term_view}
use Rattle.kp_unify.specs.Forms.{members_view}
use Rattle.kp_unify.specs.Views.{signature_of, stage_view}
use Rattle.kp_unify.proofs.PairSteps.{called_head, never_called, called_constructs, called_gone, met_as}
use Rattle.kp_unify.proofs.NarrowedLemmas.{map_length}
use Rattle.kp_unify.proofs.course.Course.meet_unknown.Goals as goal

pub returns-then-not-may_have : goal.returns-then-not-may_have
returns-then-not-may_have c used left p form members setting next =
    let g = signature_of c.args.setting.now in
    let x = variable_view c.args.variable.now.value in
    let f = string_bytes c.args.symbol.now.value in
    never_called g used left p (stage_view c.args.self.now) form x f (members_view c.args.members) c.may_have.result next members
    (called_head g (sort_view c.deref-3.result.now.sort) x.sort c.deref-2.result.now f c.may_have.result (ap (λ v. sort_view v.sort) c.deref-3.ensures) (c.deref-2.ensures ∙ ap string_bytes c.deref.ensures) (c.may_have.ensures c.requires.heads))
    c.if-not-may_have.true

pub narrow_to_constructor-requires : goal.narrow_to_constructor-requires
narrow_to_constructor-requires c =
    let g = signature_of c.args.setting.now in
    let x = variable_view c.args.variable.now.value in
    let f = string_bytes c.args.symbol.now.value in
    called_constructs g x.sort f c.may_have.result
    (called_head g (sort_view c.deref-3.result.now.sort) x.sort c.deref-2.result.now f c.may_have.result (ap (λ v. sort_view v.sort) c.deref-3.ensures) (c.deref-2.ensures ∙ ap string_bytes c.deref.ensures) (c.may_have.ensures c.requires.heads))
    c.if-not-may_have.false

pub returns : goal.returns
returns c used left p form members setting next =
    let g = signature_of c.args.setting.now in
    let x = variable_view c.args.variable.now.value in
    let f = string_bytes c.args.symbol.now.value in
    let fs = members_view c.args.members in
    let ts = map term_view c.in_ok-terms.terms.items in
    let mid = stage_view c.narrow_to_constructor.new.self in
    let new = stage_view c.meet_members.new.self in
    called_gone g used left p (stage_view c.args.self.now) mid new form x f fs ts c.may_have.result c.in_ok-meet_members.field-0 next members
    (called_head g (sort_view c.deref-3.result.now.sort) x.sort c.deref-2.result.now f c.may_have.result (ap (λ v. sort_view v.sort) c.deref-3.ensures) (c.deref-2.ensures ∙ ap string_bytes c.deref.ensures) (c.may_have.ensures c.requires.heads))
    c.if-not-may_have.false
    (c.in_ok-terms.ensures used setting.lists)
    (met_as fs (length c.deref-4.result.now) (length ts) (map term_view c.deref-4.result.now) ts mid new c.in_ok-meet_members.field-0
    (ap length c.deref-4.ensures.value ∙ sym (map_length term_view c.in_ok-terms.terms.items)) (ap (map term_view) c.deref-4.ensures.value) c.in_ok-meet_members.ensures)
