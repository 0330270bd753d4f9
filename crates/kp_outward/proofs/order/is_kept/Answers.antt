use Rattle.std.proofs.Common.{◌≡◌, refl, sym, ◌∙◌, subst, suc, ◌-◌, ◌<◌, drop, length, arith}
use Rattle.kp_kore.proofs.Views.{no_is_right}
use Rattle.kp_outward.specs.Order.{json_text}
use Rattle.kp_outward.specs.View.{spelled_view, patterns_in}
use Rattle.kp_outward.proofs.OrderLemmas.{AreOther, different_from, not_among, is_among}
use Rattle.kp_outward.proofs.order.is_kept.Goals as goal

pub returns-then-not-have_same_text : goal.returns-then-not-have_same_text
returns-then-not-have_same_text c =
    let kept = c.args.kept.now in
    let p = spelled_view c.args.one.now in
    let other = c.index-kept-left.result in
    let more : c.loop-left.left ≡ suc (c.loop-left.left - 1) = omega arith in
    let within : c.loop-left.left - 1 < length kept = omega arith in
    let differ : json_text (spelled_view other) ≡ json_text p → ⊥ = λ e. absurd (cc (c.have_same_text.ensures.1 (other.told ∙ e ∙ sym c.args.one.now.told), c.if-not-have_same_text.true)) in
    let behind : AreOther p (patterns_in (drop (suc (c.loop-left.left - 1)) kept)) = subst (λ n. AreOther p (patterns_in (drop n kept))) more c.loop-left.invariant.1 in
    no_is_right (λ there. not_among p (patterns_in kept) (different_from kept p (c.loop-left.left - 1) other within c.index-kept-left.is c.requires.in_order differ behind) there)

pub returns-then-are_same : goal.returns-then-are_same
returns-then-are_same c =
    let within : c.loop-left.left - 1 < length c.args.kept.now = omega arith in (
      (λ t. is_among c.args.kept.now (spelled_view c.args.one.now) (c.loop-left.left - 1) c.index-kept-left-in-loop-left.result within c.index-kept-left-in-loop-left.is (c.are_same.ensures.0 c.if-are_same.true)),
      (λ there. refl),
    )
