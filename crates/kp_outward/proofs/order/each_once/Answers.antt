use Rattle.std.proofs.Common.{rules, ◌≡◌, sym, subst, [], ◌∷◌, ◌++◌, IsTrue}
use Rattle.std.specs.List.{Contains}
use Rattle.kp_outward.specs.Order.{AreInOrder}
use Rattle.kp_outward.specs.View.{spelled_view, patterns_in}
use Rattle.kp_outward.proofs.OrderLemmas.{one_kept, one_passed, next_in_order, each_kept}
use Rattle.kp_outward.proofs.order.each_once.Goals as goal

pub is_kept-requires : goal.is_kept-requires
is_kept-requires c =
    let one = c.in-Some.one in
    record {
      in_order = subst (λ ks. AreInOrder (patterns_in ks ++ spelled_view one ∷ [])) (sym c.deref.ensures.value)
          (next_in_order (patterns_in c.args.spelled.items) c.loop-one.kept.items c.loop-one.one-iterator.rest.items c.next.new.self.rest.items one c.in-Some.ensures.steps.0 c.loop-one.invariant);
    }

pub loop-one-preserved-in-Continue-1 : goal.loop-one-preserved-in-Continue-1
loop-one-preserved-in-Continue-1 c =
    let kept = c.loop-one.kept.items in
    let one = c.in-Some.one in
    let grown : c.push.new.self.items ≡ kept ++ one ∷ [] = search rules in
    let no : Contains (patterns_in kept) (spelled_view one) → ⊥ = λ h. absurd (cc (c.is_kept.ensures.1 (subst (λ ks. Contains (patterns_in ks) (spelled_view one)) (sym c.deref.ensures.value) h), c.if-not-is_kept.true)) in
    one_kept (patterns_in c.args.spelled.items) kept c.push.new.self.items c.loop-one.one-iterator.rest.items c.next.new.self.rest.items one c.in-Some.ensures.steps.0 grown c.loop-one.invariant no

pub loop-one-preserved : goal.loop-one-preserved
loop-one-preserved c =
    let kept = c.loop-one.kept.items in
    let one = c.in-Some.one in
    let is : IsTrue c.is_kept.result = search rules in
    let there : Contains (patterns_in kept) (spelled_view one) = subst (λ ks. Contains (patterns_in ks) (spelled_view one)) c.deref.ensures.value (c.is_kept.ensures.0 is) in
    one_passed (patterns_in c.args.spelled.items) kept c.loop-one.one-iterator.rest.items c.next.new.self.rest.items one c.in-Some.ensures.steps.0 c.loop-one.invariant there

pub returns : goal.returns
returns c = each_kept (patterns_in c.args.spelled.items) (patterns_in c.loop-one.kept.items) c.loop-one.one-iterator.rest.items (search rules) c.loop-one.invariant
