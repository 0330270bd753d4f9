use Rattle.std.proofs.Common.{arith, sym, subst, ℕ, ◌+◌, ◌≤◌, map, length, get_or}
use Rattle.std.proofs.lemmas.List.{get_or_default}
use Rattle.std.specs.List.{AllZip}
use Rattle.kp_case_laws.specs.Parts.{whole}
use Rattle.kp_case_laws.specs.Turns.{rules_of}
use Rattle.kp_step.specs.Found.{IsRuleAt}
use Rattle.kp_step.specs.Answers.{TellsTurn}
use Rattle.kp_step.specs.Views.{turn_view}
use Rattle.kp_step.proofs.FoundLemmas.{turns_of}
use Rattle.kp_step.proofs.MeetLemmas.{turns_meet}
use Rattle.kp_step.proofs.StageLemmas.{FoundAt, finds_no_turn, finds_turn, tried_before, finds_all}
use Rattle.kp_step.proofs.TryLemmas.{found_rules}
use Rattle.kp_step.proofs.turns.find_turns.Goals.{in-NoTurn, in-Turn+in_ok-push-in-Turn}
use Rattle.kp_step.proofs.turns.find_turns.Goals as goal

pub returns-in-Ended : goal.returns-in-Ended
returns-in-Ended c t used s k =
    let place : ℕ = get_or c.in_turn-place-items.result.now c.loop-place.place-index 0 in
    let ks = map turn_view c.loop-place.turns.items in
    let all = c.loop-place.invariant t used s k in
    let rs = rules_of (turns_of t used (whole s) ks ks all.each) in
    let same = c.deref.ensures.value in
    let told = c.in_ok-try_rule.ensures t used s rs k (subst (λ ts. AllZip (IsRuleAt t) (map turn_view ts) rs) (sym same) (found_rules t used (whole s) ks ks all.each)) (turns_meet t used s ks ks all.each) in
    let places = c.in_turn-place-items.result.now in
    let there = get_or_default places c.loop-place.place-index 0 place c.loop-place-test.true in
    let tried = tried_before t used s c.args.rules.now places c.loop-place.place-index place ks k.steps.runs c.in_turn-place-items.ensures c.loop-place-test.true there all in
    (subst (TellsTurn t used s ks place) c.in-Ended.is (subst (λ ts. TellsTurn t used s (map turn_view ts) place c.in_ok-try_rule.field-0) same told)) tried

pub loop-place-preserved : goal.loop-place-preserved
loop-place-preserved c t used s k =
    let places = c.in_turn-place-items.result.now in
    let i = c.loop-place.place-index in
    let place : ℕ = get_or places i 0 in
    let there = get_or_default places i 0 place c.loop-place-test.true in
    let ks = map turn_view c.loop-place.turns.items in
    let all = c.loop-place.invariant t used s k in
    let rs = rules_of (turns_of t used (whole s) ks ks all.each) in
    let same = c.deref.ensures.value in
    let given = c.in_ok-try_rule.ensures t used s rs k (subst (λ ts. AllZip (IsRuleAt t) (map turn_view ts) rs) (sym same) (found_rules t used (whole s) ks ks all.each)) (turns_meet t used s ks ks all.each) in
    let told = subst (λ ts. TellsTurn t used s (map turn_view ts) place c.in_ok-try_rule.field-0) same given in
    elim c.match-branch-2.branch [
      | in-NoTurn w ↦
          subst (λ o. FoundAt t used s places (i + 1) (map turn_view o.items)) (sym w.turns-is) (finds_no_turn t used s places i place ks c.loop-place-test.true there all (subst (TellsTurn t used s ks place) w.in-NoTurn.is told))
      | in-Turn+in_ok-push-in-Turn w ↦
          let one = subst (TellsTurn t used s ks place) w.in-Turn.is told in
          subst (λ o. FoundAt t used s places (i + 1) (map turn_view o.items)) (sym w.turns-is)
          (finds_turn t used s c.args.rules.now places i place c.loop-place.turns.items w.push.new.self.items w.in-Turn.turn k.steps.runs c.in_turn-place-items.ensures c.loop-place-test.true there w.in_ok-push-in-Turn.ensures.items one.0 all one.1 one.2)
    ]

pub returns : goal.returns
returns c t used s k =
    let places = c.in_turn-place-items.result.now in
    let past : length places ≤ c.loop-place.place-index = omega (arith, c.loop-place-test.false) in
    finds_all t used s c.args.rules.now places c.loop-place.place-index (map turn_view c.loop-place.turns.items) k.steps.runs c.in_turn-place-items.ensures past (c.loop-place.invariant t used s k)
