use Rattle.std.proofs.Common.{◌≡◌, ◌∙◌, sym, ap, subst, ◌∷◌, not}
use Rattle.std.specs.List.{list_all}
use Rattle.std.specs.Option.{option_map}
use Rattle.kp_kore.specs.Signature.{heads_of}
use Rattle.kp_kore.specs.View.{sort_view}
use Rattle.kp_signature.specs.View.{signature_view}
use Rattle.kp_sort_heads.specs.Remaining.{IsNext}
use Rattle.kp_sort_heads.specs.Views.{head_view, left_of}
use Rattle.kp_unify.specs.Heads.{is_common_in}
use Rattle.kp_unify.proofs.SortLemmas.{passed_on, stopped, ended}
use Rattle.kp_unify.proofs.shared_sorts.has_common_heads.Goals as goal

pub loop-head-init : goal.loop-head-init
loop-head-init c =
    let g = signature_view c.args.signature.now in
    let test = is_common_in g (sort_view c.args.second.now) (sort_view c.args.third.now) in
    (ap (list_all test) c.heads-left.ensures.left, c.heads-left.ensures.signature)

pub loop-head-preserved : goal.loop-head-preserved
loop-head-preserved c =
    let g = signature_view c.args.signature.now in
    let test = is_common_in g (sort_view c.args.second.now) (sort_view c.args.third.now) in
    let h = head_view c.in-Some.head in
    let before = left_of c.loop-head.left in
    let after = left_of c.next.new.self in
    let e : before ≡ h ∷ after = subst (λ o. IsNext (option_map head_view o) before after) c.in-Some.is c.next.ensures.next in
    (passed_on test before after h (list_all test (heads_of g (sort_view c.args.first.now))) e (ap not (sym c.is_lost.ensures ∙ c.if-is_lost.false)) c.loop-head.invariant.0, c.next.ensures.signature ∙ c.loop-head.invariant.1)

pub returns-then-is_lost : goal.returns-then-is_lost
returns-then-is_lost c =
    let g = signature_view c.args.signature.now in
    let test = is_common_in g (sort_view c.args.second.now) (sort_view c.args.third.now) in
    let h = head_view c.in-Some.head in
    let before = left_of c.loop-head.left in
    let after = left_of c.next.new.self in
    let e : before ≡ h ∷ after = subst (λ o. IsNext (option_map head_view o) before after) c.in-Some.is c.next.ensures.next in
    sym (stopped test before after h (list_all test (heads_of g (sort_view c.args.first.now))) e (ap not (sym c.is_lost.ensures ∙ c.if-is_lost.true)) c.loop-head.invariant.0)

pub returns : goal.returns
returns c =
    let g = signature_view c.args.signature.now in
    let test = is_common_in g (sort_view c.args.second.now) (sort_view c.args.third.now) in
    let before = left_of c.loop-head.left in
    let after = left_of c.next.new.self in
    let e = subst (λ o. IsNext (option_map head_view o) before after) c.in_default.is c.next.ensures.next in
    sym (ended test before (list_all test (heads_of g (sort_view c.args.first.now))) e.0 c.loop-head.invariant.0)
