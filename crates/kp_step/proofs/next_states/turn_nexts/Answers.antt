use Rattle.std.proofs.Common.{rules, ◌≡◌, ◌<◌, ◌≤◌, sym, subst, ◌++◌, ◌∷◌, [], length, get_or, map}
use Rattle.std.specs.List.{AllZip}
use Rattle.kp_symbolic.specs.View.{replaced_view}
use Rattle.kp_unify.specs.Views.{numbered_view}
use Rattle.kp_step.specs.Found.{IsMetIn}
use Rattle.kp_step.specs.Follows.{IsNextAt}
use Rattle.kp_step.specs.Views.{turn_view, next_view}
use Rattle.kp_step.proofs.LoopLemmas.{all_taken_views}
use Rattle.kp_step.proofs.NextsLemmas.{part_at, next_by, nexts_push}
use Rattle.kp_step.proofs.next_states.turn_nexts.Goals as goal

pub loop-part-preserved : goal.loop-part-preserved
loop-part-preserved c t used s same setting i x =
    let k = c.args.turn.now in
    let j = c.loop-part.part-index in
    let p = c.part-item.result in
    let n = c.in_ok-next_of.field-0 in
    let items = c.deref-part-items.ensures.value in
    let within : j < length k.parts.items = subst (λ ps. j < length ps) items c.loop-part-test.true in
    let is : p ≡ get_or k.parts.items j p = subst (λ ps. p ≡ get_or ps j p) items c.part-item.is in
    let f = part_at t used s k j p i within is in
    let one = next_by t used s c.args.setting k c.args.rewrite.now p n i x same f c.in_ok-next_of.ensures.place c.in_ok-next_of.ensures.part (λ a m b d. c.in_ok-next_of.ensures.follows t used x.read s i.met_part same setting a (subst (λ rs. IsMetIn t x.read (map replaced_view rs) i.met_part) (sym c.deref.ensures.value) m) b d) in
    let pushed : c.push.new.self.items ≡ c.loop-part.nexts.items ++ n ∷ [] = search rules in
    nexts_push t used s (turn_view k) k.parts.items j p c.loop-part.nexts.items c.push.new.self.items n within is pushed one (c.loop-part.invariant t used s same setting i x)

pub returns : goal.returns
returns c t used s same setting i x =
    let k = c.args.turn.now in
    let past : length k.parts.items ≤ c.loop-part.part-index = search rules in
    subst (λ xs. AllZip (IsNextAt t used s (turn_view k)) xs (map next_view c.loop-part.nexts.items)) (all_taken_views numbered_view k.parts.items c.loop-part.part-index past) (c.loop-part.invariant t used s same setting i x)
