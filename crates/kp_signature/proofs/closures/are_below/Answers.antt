use Rattle.std.proofs.Common.{rules, ◌<◌, inl, inr, sym, subst, take, get_or, Contains}
use Rattle.std.proofs.lemmas.List.{take_all, take_more}
use Rattle.std.proofs.lemmas.List.Elements.{Contains-push_cases}
use Rattle.kp_signature.proofs.closures.are_below.Goals as goal

pub loop-number-preserved : goal.loop-number-preserved
loop-number-preserved c i h =
    let numbers = c.args.numbers.now in
    let k = c.loop-number.number-index in
    let here : get_or numbers k 0 < c.args.limit = search rules in
    elim (Contains-push_cases (take k numbers) (get_or numbers k 0) i (subst (λ l. Contains l i) (take_more numbers k 0 c.loop-number-test.true) h)) [
      | inl old ↦ c.loop-number.invariant i old
      | inr same ↦ subst (λ v. v < c.args.limit) same here
    ]

pub returns : goal.returns
returns c _ i h = c.loop-number.invariant i (subst (λ l. Contains l i) (sym (take_all c.loop-number.number-index c.args.numbers.now c.loop-number-test.false)) h)
