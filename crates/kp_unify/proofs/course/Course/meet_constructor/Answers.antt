use Rattle.std.proofs.Common.{rules, ◌≡◌, sym, ◌∙◌, ap, subst, map, length}
use Rattle.std.specs.Prelude.{string_bytes}
use Rattle.kp_ground.specs.View.{value_view}
use Rattle.kp_symbolic.specs.Terms.{unknown, offset, known, headed}
use Rattle.kp_symbolic.specs.View.{variable_view, term_view, terms_of}
use Rattle.kp_symbolic.specs.declared.term.Term.{the_lemmas}
use Rattle.kp_rules.specs.Skeletons.{forms_of}
use Rattle.kp_case_laws.specs.Rows.{HasMembers}
use Rattle.kp_unify.specs.Forms.{members_view}
use Rattle.kp_unify.specs.Replaced.{pair_of}
use Rattle.kp_unify.specs.Views.{signature_of, stage_view}
use Rattle.kp_unify.specs.Way.{IsNextPair}
use Rattle.kp_unify.proofs.PairSteps.{met_as, offset_never, same_symbol, another_symbol, headed_met}
use Rattle.kp_unify.proofs.NarrowedLemmas.{map_length}
use Rattle.kp_unify.proofs.course.Course.meet_constructor.Goals as goal

pub returns-in-Unknown : goal.returns-in-Unknown
returns-in-Unknown c used left p form members setting next =
    let is : term_view c.args.term.now ≡ unknown (variable_view c.in-Unknown.variable.value) = search (rules, the_lemmas, c.in-Unknown.is) in
    c.meet_unknown.ensures used left p form members setting (subst (λ t. IsNextPair (signature_of c.args.setting.now) used left p (stage_view c.args.self.now) (pair_of form t)) is next)

pub returns-in-Offset : goal.returns-in-Offset
returns-in-Offset c used left p form members setting next =
    let is : term_view c.args.term.now ≡ offset (variable_view c.in-Offset.variable.value) c.in-Offset.constant = search (rules, the_lemmas, c.in-Offset.is) in
    offset_never (signature_of c.args.setting.now) used left p (stage_view c.args.self.now) form (term_view c.args.term.now) (variable_view c.in-Offset.variable.value) c.in-Offset.constant (string_bytes c.args.symbol.now.value) (members_view c.args.members) next members is

pub returns-in_ok-meet_value-in-Known : goal.returns-in_ok-meet_value-in-Known
returns-in_ok-meet_value-in-Known c used left p form members setting next =
    let g = signature_of c.args.setting.now in
    let name : c.deref-in-Known.result.now ≡ string_bytes c.args.symbol.now.value = c.deref-in-Known.ensures ∙ ap string_bytes c.deref.ensures in
    let is : term_view c.args.term.now ≡ known (value_view c.in-Known.value) = search (rules, the_lemmas, c.in-Known.is) in
    c.in_ok-meet_value-in-Known.ensures g used left p form (subst (λ n. HasMembers form n (forms_of (members_view c.args.members))) (sym name) members) (subst (λ t. IsNextPair g used left p (stage_view c.args.self.now) (pair_of form t)) is next)

pub returns-then-not-is_same : goal.returns-then-not-is_same
returns-then-not-is_same c used left p form members setting next =
    let g = signature_of c.args.setting.now in
    let f = string_bytes c.args.symbol.now.value in
    let h = string_bytes c.in-Headed.head.value in
    let ts = map term_view c.in-Headed.arguments.value.items in
    let is : term_view c.args.term.now ≡ headed h (terms_of ts) = search (rules, the_lemmas, c.in-Headed.is) in
    another_symbol g used left p (stage_view c.args.self.now) form f h (members_view c.args.members) ts c.is_same.result (subst (λ t. IsNextPair g used left p (stage_view c.args.self.now) (pair_of form t)) is next) members
    (same_symbol g c.deref-in-Headed-2.result.now c.deref-in-Headed-4.result.now f h c.is_same.result (c.deref-in-Headed-2.ensures ∙ ap string_bytes c.deref-in-Headed.ensures) (c.deref-in-Headed-4.ensures ∙ ap string_bytes c.deref-in-Headed-3.ensures) c.is_same.ensures)
    c.if-not-is_same.true

pub returns-in_ok-meet_members-in-Headed : goal.returns-in_ok-meet_members-in-Headed
returns-in_ok-meet_members-in-Headed c used left p form members setting next =
    let g = signature_of c.args.setting.now in
    let f = string_bytes c.args.symbol.now.value in
    let h = string_bytes c.in-Headed.head.value in
    let ts = map term_view c.in-Headed.arguments.value.items in
    let fs = members_view c.args.members in
    let old = stage_view c.args.self.now in
    let new = stage_view c.meet_members.new.self in
    let b = c.in_ok-meet_members-in-Headed.field-0 in
    let us = c.deref-in-Headed-6.result.now in
    let items = c.deref-in-Headed-6.ensures.value ∙ ap (λ v. v.items) c.deref-in-Headed-5.ensures in
    let is : term_view c.args.term.now ≡ headed h (terms_of ts) = search (rules, the_lemmas, c.in-Headed.is) in
    headed_met g used left p old new form f h fs ts b (subst (λ t. IsNextPair g used left p old (pair_of form t)) is next) members
    (sym (same_symbol g c.deref-in-Headed-2.result.now c.deref-in-Headed-4.result.now f h c.is_same.result (c.deref-in-Headed-2.ensures ∙ ap string_bytes c.deref-in-Headed.ensures) (c.deref-in-Headed-4.ensures ∙ ap string_bytes c.deref-in-Headed-3.ensures) c.is_same.ensures) ∙ c.if-not-is_same.false)
    (met_as fs (length us) (length ts) (map term_view us) ts old new b (ap length items ∙ sym (map_length term_view c.in-Headed.arguments.value.items)) (ap (map term_view) items) c.in_ok-meet_members-in-Headed.ensures)
