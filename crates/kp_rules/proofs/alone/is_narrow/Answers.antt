use Rattle.std.proofs.Common.{rules, ◌<◌, subst, sym, Contains}
use Rattle.kp_rules.proofs.AloneLemmas.{above_within}
use Rattle.kp_rules.proofs.alone.is_narrow.Goals as goal

pub returns : goal.returns
returns c pairs order is passed =
    let x = c.args.order.now.graph in
    let behind : c.args.number < c.least_of-least.result = search rules in (
      c.least_of-least.result,
      behind,
      λ j l. c.are_over.ensures pairs order (λ i h. above_within pairs x order.graph c.args.number i (subst (λ k. Contains k i) is h)) passed j (subst (λ k. Contains k j) (sym is) l),
    )
