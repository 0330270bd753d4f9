use Rattle.std.proofs.Common.{arith, sym, subst, refl, ℕ, ◌+◌, ◌≤◌, length, get_or}
use Rattle.std.proofs.lemmas.List.{get_or_default}
use Rattle.kp_step.specs.Answers.{TellsForeign}
use Rattle.kp_step.specs.declared.part_answers.PartAnswer.TheVariants as answer
use Rattle.kp_step.proofs.FirstLemmas.{Asking, asks_none, asks_open, asks_met, known_or_open}
use Rattle.kp_step.proofs.foreign.foreign.Goals.{in-Nothing, in-UndecidedClauses+in_ok-push-in-UndecidedClauses}
use Rattle.kp_step.proofs.foreign.foreign.Goals as goal

pub returns-in-Instance : goal.returns-in-Instance
returns-in-Instance c t used s k =
    let places = c.in_turn-place-items.result.now in
    let i = c.loop-place.place-index in
    let place : ℕ = get_or places i 0 in
    let told : TellsForeign t s place answer.Instance = subst (TellsForeign t s place) c.in-Instance.is (c.in_ok-answer_at.ensures t used s k) in
    asks_met t s c.args.rules.now places i place c.loop-place.opened.items k.steps.runs c.in_turn-place-items.ensures c.loop-place-test.true (get_or_default places i 0 place c.loop-place-test.true) k.limits told (c.loop-place.invariant t used s k)

pub loop-place-preserved : goal.loop-place-preserved
loop-place-preserved c t used s k =
    let places = c.in_turn-place-items.result.now in
    let i = c.loop-place.place-index in
    let place : ℕ = get_or places i 0 in
    let there = get_or_default places i 0 place c.loop-place-test.true in
    elim c.match-branch-2.branch [
      | in-Nothing w ↦
          subst (λ o. Asking t s places (i + 1) o.items) (sym w.opened-is)
          (asks_none t s places i place c.loop-place.opened.items c.loop-place-test.true there (subst (TellsForeign t s place) w.in-Nothing.is (c.in_ok-answer_at.ensures t used s k)) (c.loop-place.invariant t used s k))
      | in-UndecidedClauses+in_ok-push-in-UndecidedClauses w ↦
          subst (λ o. Asking t s places (i + 1) o.items) (sym w.opened-is)
          (asks_open t s places i place c.loop-place.opened.items w.push.new.self.items (record { told = w.in-UndecidedClauses.told; place = place }) w.in-UndecidedClauses.told c.loop-place-test.true there w.in_ok-push-in-UndecidedClauses.ensures.items refl refl
          (subst (TellsForeign t s place) w.in-UndecidedClauses.is (c.in_ok-answer_at.ensures t used s k)) (c.loop-place.invariant t used s k))
    ]

pub returns : goal.returns
returns c t used s k =
    let places = c.in_turn-place-items.result.now in
    let past : length places ≤ c.loop-place.place-index = omega (arith, c.loop-place-test.false) in
    let all = c.loop-place.invariant t used s k in
    known_or_open t used s c.args.rules.now places c.loop-place.place-index c.loop-place.opened.items c.undecided_rule.result k.steps.runs c.in_turn-place-items.ensures past k.limits all (c.undecided_rule.ensures t used s)
