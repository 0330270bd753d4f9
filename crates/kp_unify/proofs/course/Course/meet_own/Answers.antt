use Rattle.std.proofs.Common.{sym, ◌∙◌, ap, subst}
use Rattle.std.specs.Prelude.{MatchOption}
use Rattle.kp_kore.specs.View.{sort_view}
use Rattle.kp_kore.specs.Value.{head_of}
use Rattle.kp_signature.proofs.HeadLemmas.{is_head-Decides}
use Rattle.kp_ground.specs.View.{value_view}
use Rattle.kp_rules.specs.Skeletons.{fixed}
use Rattle.kp_symbolic.specs.View.{term_view}
use Rattle.kp_unify.specs.Replaced.{equality_of}
use Rattle.kp_unify.specs.Views.{signature_of, stage_view}
use Rattle.kp_unify.specs.Way.{IsAllApart, IsPlaced, equal_stage}
use Rattle.kp_unify.proofs.PairLemmas.{value_going}
use Rattle.kp_unify.proofs.PairSteps.{literal_sort, unowned_next, value_gone}
use Rattle.kp_unify.proofs.course.Course.meet_own.Goals as goal

pub returns-then-not-is_own_literal : goal.returns-then-not-is_own_literal
returns-then-not-is_own_literal c used left p setting next =
    unowned_next (signature_of c.args.setting.now) used left p (stage_view c.args.self.now) (value_view c.args.value.now) (sort_view c.args.own.now) (term_view c.args.term.now) next c.requires.own (sym c.is_own_literal.ensures.head ∙ c.if-not-is_own_literal.true)

pub returns-in_ok-equate-in-Some : goal.returns-in_ok-equate-in-Some
returns-in_ok-equate-in-Some c used left p setting next =
    let g = signature_of c.args.setting.now in
    let u = value_view c.args.value.now in
    let s = sort_view c.args.own.now in
    let stage = stage_view c.placed.new.self in
    let has = literal_sort g s u c.requires.literal ((is_head-Decides g s (head_of u)).0 (sym c.is_own_literal.ensures.head ∙ c.if-not-is_own_literal.false)) in
    value_gone g used left p stage (stage_view c.equate.new.self) u s (term_view c.in-Some.term) next.told next.one
    (subst (λ o. MatchOption o (IsAllApart g left p) (λ t. IsPlaced g used left p (fixed u) s stage (term_view t))) c.in-Some.is (c.in_ok-term.ensures used left p (fixed u) setting (value_going g used left p (stage_view c.args.self.now) u s (term_view c.args.term.now) next has)))
    c.requires.own has c.is_own_literal.ensures.fits
    (c.in_ok-equate-in-Some.ensures ∙ ap (λ k. equal_stage stage (equality_of s (term_view c.in-Some.term) k)) c.in_ok-known-in-Some.ensures)

pub returns-in-None : goal.returns-in-None
returns-in-None c used left p setting next =
    let g = signature_of c.args.setting.now in
    let u = value_view c.args.value.now in
    let s = sort_view c.args.own.now in
    let has = literal_sort g s u c.requires.literal ((is_head-Decides g s (head_of u)).0 (sym c.is_own_literal.ensures.head ∙ c.if-not-is_own_literal.false)) in
    subst (λ o. MatchOption o (IsAllApart g left p) (λ t. IsPlaced g used left p (fixed u) s (stage_view c.placed.new.self) (term_view t))) c.in-None.is (c.in_ok-term.ensures used left p (fixed u) setting (value_going g used left p (stage_view c.args.self.now) u s (term_view c.args.term.now) next has))
