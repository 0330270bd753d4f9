use Rattle.std.proofs.Common.{rules, ◌≡◌, ◌≤◌, sym, ap, subst, ◌∙◌, take, length, None}
use Rattle.kp_unify.specs.Views.{signature_of}
use Rattle.kp_step.specs.Remainders.{IsNumberOf, AreUntaken, OneTakesAll}
use Rattle.kp_step.specs.Found.{IsRuleAt}
use Rattle.kp_step.specs.Views.{numbered_views, turn_view}
use Rattle.kp_step.proofs.LoopLemmas.{all_taken}
use Rattle.kp_step.proofs.TakeLemmas.{zip_item, zip_length, some_found, one_takes_more}
use Rattle.kp_step.proofs.remainders.left_after.Goals as goal

pub loop-turn-preserved : goal.loop-turn-preserved
loop-turn-preserved c t used found s p steps setting z =
    let g = signature_of c.args.setting in
    let i = c.loop-turn.turn-index in
    let parts = numbered_views c.args.parts.items in
    let before = numbered_views c.loop-turn.left.items in
    let new = numbered_views c.in_ok-left.left.items in
    let x = zip_item (IsRuleAt t) turn_view c.args.turns.now found i c.turn-item.result c.loop-turn-test.true c.turn-item.is z in
    let was = c.loop-turn.invariant t used found s p steps setting z in (
      (λ o n l. subst (λ fs. AreUntaken g used o fs s p new) (sym x.2) (c.in_ok-left.ensures.left t used o (take i found) x.0 s p steps setting n x.1 (was.0 o n l))),
      (λ none l. (
        (λ e. absurd (some_found (take i found) x.0 (sym x.2 ∙ e))),
        subst (λ fs. OneTakesAll g fs parts new) (sym x.2)
            (one_takes_more g (take i found) x.0 parts before new (λ e. ap numbered_views ((was.1 none l).0 e)) (c.in_ok-left.ensures.alone t used (take i found) x.0 s p steps setting none x.1 (was.0 None (subst (λ n. IsNumberOf n None) (sym none) tt) l))),
      )),
    )

pub returns-clause-alone : goal.returns-clause-alone
returns-clause-alone c t used found s p steps setting none z l =
    let g = signature_of c.args.setting in
    let past : length c.args.turns.now ≤ c.loop-turn.turn-index = search rules in
    let all : take c.loop-turn.turn-index found ≡ found = all_taken found c.loop-turn.turn-index (subst (λ n. n ≤ c.loop-turn.turn-index) (sym (zip_length (IsRuleAt t) turn_view c.args.turns.now found z)) past) in
    subst (λ fs. OneTakesAll g fs (numbered_views c.args.parts.items) (numbered_views c.loop-turn.left.items)) all ((c.loop-turn.invariant t used found s p steps setting z).1 none l).1

pub returns-clause-left : goal.returns-clause-left
returns-clause-left c t used o found s p steps setting number z l =
    let g = signature_of c.args.setting in
    let past : length c.args.turns.now ≤ c.loop-turn.turn-index = search rules in
    let all : take c.loop-turn.turn-index found ≡ found = all_taken found c.loop-turn.turn-index (subst (λ n. n ≤ c.loop-turn.turn-index) (sym (zip_length (IsRuleAt t) turn_view c.args.turns.now found z)) past) in
    subst (λ fs. AreUntaken g used o fs s p (numbered_views c.loop-turn.left.items)) all ((c.loop-turn.invariant t used found s p steps setting z).0 o number l)
