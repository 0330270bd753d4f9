use Rattle.std.proofs.Common.{◌≡◌, sym, ap, ◌∙◌, Some, None, slice_get}
use Rattle.std.specs.Option.{option_map}
use Rattle.kp_step.proofs.RuleLemmas.{told_priority, told_no_rule}
use Rattle.kp_step.proofs.rules.priority_at.Goals as goal

pub returns-in-Some : goal.returns-in-Some
returns-in-Some c t runs =
    let y = c.in-Some.rule.now in
    let there : slice_get c.args.rules.now.rules.items c.args.place ≡ Some y = sym c.rule_at.ensures ∙ ap (option_map (λ r. r.now)) c.in-Some.is in
    told_priority t c.args.rules.now c.args.place y runs there

pub returns-in-None : goal.returns-in-None
returns-in-None c t runs q m at body =
    let there : slice_get c.args.rules.now.rules.items c.args.place ≡ None = sym c.rule_at.ensures ∙ ap (option_map (λ r. r.now)) c.in-None.is in
    absurd (told_no_rule t c.args.rules.now c.args.place q runs there at)
