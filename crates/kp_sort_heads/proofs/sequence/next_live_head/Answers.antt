use Rattle.std.proofs.Common.{◌≡◌, ◌∷◌, subst, true}
use Rattle.std.specs.Option.{option_map}
use Rattle.kp_kore.specs.Signature.{is_head}
use Rattle.kp_kore.specs.View.{sort_view}
use Rattle.kp_signature.specs.View.{signature_view}
use Rattle.kp_sort_heads.specs.Remaining.{IsNext, remaining_possible, remaining_heads}
use Rattle.kp_sort_heads.specs.Views.{head_view}
use Rattle.kp_sort_heads.proofs.HeadLemmas.{passes, found_live, one_passed}
use Rattle.kp_sort_heads.proofs.sequence.next_live_head.Goals as goal

pub returns-then-is_live : goal.returns-then-is_live
returns-then-is_live c t =
    let g = signature_view c.args.signature.now in
    let s = sort_view c.args.sort.now in
    let h = head_view c.in-Some.head in
    let start = remaining_heads g s c.args.left.now in
    let before = remaining_heads g s c.loop-head.left in
    let after = remaining_heads g s c.next_head.new.left in
    let e : before ≡ h ∷ after = subst (λ o. IsNext (option_map head_view o) before after) c.in-Some.is c.next_head.ensures in
    let is : is_head g s h ≡ true = passes (is_head g s) (remaining_possible s c.loop-head.left) h after e in
    found_live g start before after h (c.loop-head.invariant t) e ((c.is_live.ensures s t is).0 c.if-is_live.true)

pub loop-head-preserved : goal.loop-head-preserved
loop-head-preserved c t =
    let g = signature_view c.args.signature.now in
    let s = sort_view c.args.sort.now in
    let h = head_view c.in-Some.head in
    let start = remaining_heads g s c.args.left.now in
    let before = remaining_heads g s c.loop-head.left in
    let after = remaining_heads g s c.next_head.new.left in
    let e : before ≡ h ∷ after = subst (λ o. IsNext (option_map head_view o) before after) c.in-Some.is c.next_head.ensures in
    let is : is_head g s h ≡ true = passes (is_head g s) (remaining_possible s c.loop-head.left) h after e in
    one_passed g start before after h (c.loop-head.invariant t) e (λ l. let live = (c.is_live.ensures s t is).1 l in absurd (cc))
