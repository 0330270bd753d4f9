use Rattle.std.proofs.Common.{rules, ◌≡◌, ◌≤◌, sym, subst, [], ◌++◌, length}
use Rattle.kp_unify.specs.Views.{signature_of, numbered_view}
use Rattle.kp_step.specs.Silent.{IsExcluded}
use Rattle.kp_step.specs.Remainders.{RemainSoFar}
use Rattle.kp_step.specs.Views.{numbered_views}
use Rattle.kp_step.proofs.RemainderLemmas.{rule_sets_out}
use Rattle.kp_step.proofs.TakeLemmas.{takes_ready, takes_part, takes_end}
use Rattle.kp_step.proofs.remainders.without.Goals as goal

pub loop-part-init : goal.loop-part-init
loop-part-init c used o turns q m s p setting body sides verified takes l =
    let g = signature_of c.args.setting in
    let waiting = numbered_views c.args.parts.now in
    let none : c.new-found.result.items ≡ [] = c.new-found.ensures.items in (
      subst (λ xs. RemainSoFar g used o turns q s p (numbered_views xs) waiting) (sym none) (rule_sets_out g used o turns q s p waiting l),
      (λ h. tt),
    )

pub loop-part-preserved : goal.loop-part-preserved
loop-part-preserved c used o turns q m s p setting body sides verified takes l =
    let g = signature_of c.args.setting in
    let i = c.loop-part.part-index in
    let part = c.part-item.result in
    let found = c.loop-part.found.items in
    let more = c.in_ok-more.more.items in
    let below = c.loop-part-test.true in
    let is = c.part-item.is in
    let before = c.loop-part.invariant used o turns q m s p setting body sides verified takes l in
    let ready = takes_ready g used o turns q s p c.args.parts.now i part found below is before in
    let both : c.append.new.self.items ≡ found ++ more = search rules in
    let left = subst (λ b. IsExcluded g used b (numbered_view part).part (numbered_views more)) (sym body) (c.in_ok-more.ensures used m setting sides verified ready) in
    takes_part g used o turns q s p c.args.parts.now i part found c.append.new.self.items more below is both left before

pub returns : goal.returns
returns c used o turns q m s p setting body sides verified takes l =
    let past : length c.args.parts.now ≤ c.loop-part.part-index = search rules in
    takes_end (signature_of c.args.setting) used o turns q s p c.args.parts.now c.loop-part.part-index c.loop-part.found.items past takes (c.loop-part.invariant used o turns q m s p setting body sides verified takes l)
