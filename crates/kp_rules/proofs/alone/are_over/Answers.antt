use Rattle.std.proofs.Common.{rules, ◌≡◌, true, get_or}
use Rattle.std.proofs.lemmas.List.Elements.{Contains-get_or}
use Rattle.kp_signature.specs.Order.{Under}
use Rattle.kp_rules.proofs.SplitLemmas.{none_yet, all_more, all_done}
use Rattle.kp_rules.proofs.alone.are_over.Goals as goal

pub loop-number-init : goal.loop-number-init
loop-number-init c pairs order short i h = none_yet (λ j. Under c.args.order.now.graph j c.args.lower) c.args.numbers.now i h

pub loop-number-preserved : goal.loop-number-preserved
loop-number-preserved c pairs order short =
    let ns = c.args.numbers.now in
    let k = c.loop-number.number-index in
    let passed : c.is_under.result ≡ true = search rules in
    all_more (λ j. Under c.args.order.now.graph j c.args.lower) ns k c.loop-number-test.true (c.loop-number.invariant pairs order short)
    ((c.is_under.ensures pairs order (short (get_or ns k 0) (Contains-get_or ns k 0 c.loop-number-test.true))).0 passed)

pub returns : goal.returns
returns c pairs order short passed = all_done (λ j. Under c.args.order.now.graph j c.args.lower) c.args.numbers.now c.loop-number.number-index (search rules) (c.loop-number.invariant pairs order short)
