use Rattle.std.proofs.Common.{rules, ◌≡◌, sym, ◌∙◌, ◌++◌, ◌∷◌, [], subst}
use Rattle.kp_symbolic.specs.View.{state_view}
use Rattle.kp_unify.specs.Views.{signature_of}
use Rattle.kp_step.specs.Counted.{these_rules}
use Rattle.kp_step.specs.Answers.{IsRightAnswerOf}
use Rattle.kp_step.proofs.LoopLemmas.{nothing_left}
use Rattle.kp_step.proofs.StageLemmas.{decides_begin, decides_more, decides_less, decides_open, decides_all, next_safe}
use Rattle.kp_step.proofs.part_answers.decided_parts.Goals as goal

pub loop-part-init : goal.loop-part-init
loop-part-init c used ready =
    let all = c.args.parts.items in
    decides_begin (signature_of c.args.setting) used all c.into_iter-part-iterator.result.rest.items c.new-found.result.items (search rules) (search rules) ready

pub loop-part-preserved-in-Continue-branch-3 : goal.loop-part-preserved-in-Continue-branch-3
loop-part-preserved-in-Continue-branch-3 c used ready =
    let g = signature_of c.args.setting in
    let s = state_view c.args.state.now in
    let all = c.args.parts.items in
    let found = c.loop-part.found.items in
    let items = c.loop-part.part-iterator.rest.items in
    let rest = c.next.new.self.rest.items in
    let p = c.in-Some.part in
    let was = c.loop-part.invariant used ready in
    let safe = next_safe g used all found items rest p c.in-Some.ensures.steps.0 was in
    let answer = subst (IsRightAnswerOf g s (state_view p.state)) c.in-Instance.is (c.in_ok-answer_of_part.ensures safe) in
    let pushed : c.push.new.self.items ≡ found ++ p ∷ [] = search rules in
    decides_more g used all found c.push.new.self.items items rest p c.in-Some.ensures.steps.0 pushed answer was

pub loop-part-preserved : goal.loop-part-preserved
loop-part-preserved c used ready =
    let g = signature_of c.args.setting in
    let s = state_view c.args.state.now in
    let all = c.args.parts.items in
    let found = c.loop-part.found.items in
    let items = c.loop-part.part-iterator.rest.items in
    let rest = c.next.new.self.rest.items in
    let p = c.in-Some.part in
    let was = c.loop-part.invariant used ready in
    let safe = next_safe g used all found items rest p c.in-Some.ensures.steps.0 was in
    let answer = subst (IsRightAnswerOf g s (state_view p.state)) c.in-Nothing.is (c.in_ok-answer_of_part.ensures safe) in
    decides_less g used all found items rest p c.in-Some.ensures.steps.0 answer was

pub returns-in-UndecidedClauses : goal.returns-in-UndecidedClauses
returns-in-UndecidedClauses c t used o rules asked ready =
    let g = signature_of c.args.setting in
    let s = state_view c.args.state.now in
    let all = c.args.parts.items in
    let found = c.loop-part.found.items in
    let items = c.loop-part.part-iterator.rest.items in
    let rest = c.next.new.self.rest.items in
    let p = c.in-Some.part in
    let was = c.loop-part.invariant used ready in
    let safe = next_safe g used all found items rest p c.in-Some.ensures.steps.0 was in
    let answer = subst (IsRightAnswerOf g s (state_view p.state)) c.in-UndecidedClauses.is (c.in_ok-answer_of_part.ensures safe) in
    decides_open g used s (these_rules o rules) all found items rest p c.in-UndecidedClauses.told c.in_ok-told-in-UndecidedClauses.told c.in-Some.ensures.steps.0 answer c.in_ok-told-in-UndecidedClauses.ensures.same (c.in_ok-told-in-UndecidedClauses.ensures.counted t o rules asked) was

pub returns : goal.returns
returns c t used o rules asked ready =
    let over : c.loop-part.part-iterator.rest.items ≡ [] = nothing_left _ (sym c.loop-part.part-iterator.rest.ok.0 ∙ c.in-None.ensures.steps.0) in
    decides_all (signature_of c.args.setting) used c.args.parts.items c.loop-part.found.items c.loop-part.part-iterator.rest.items over (c.loop-part.invariant used ready)
