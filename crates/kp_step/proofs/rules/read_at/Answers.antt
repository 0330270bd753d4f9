use Rattle.std.proofs.Common.{rules, ◌≡◌, sym, ap, ◌∙◌, Some, None, slice_get}
use Rattle.std.specs.Option.{option_map}
use Rattle.kp_rules.specs.declared.rule.RuleBody.TheVariants as bodies
use Rattle.kp_step.proofs.RuleLemmas.{told_read, told_unread, told_no_rule}
use Rattle.kp_step.proofs.rules.read_at.Goals as goal

pub returns-in-Rewrite : goal.returns-in-Rewrite
returns-in-Rewrite c t runs =
    let y = c.in-Some.rule.now in
    let there : slice_get c.args.rules.now.rules.items c.args.place ≡ Some y = sym c.rule_at.ensures ∙ ap (option_map (λ r. r.now)) c.in-Some.is in
    let body : y.body.value ≡ bodies.Rewrite c.in-Rewrite.rewrite = search rules in
    told_read t c.args.rules.now c.args.place y c.in-Rewrite.rewrite runs there body

pub returns-in-Foreign : goal.returns-in-Foreign
returns-in-Foreign c t runs =
    let y = c.in-Some.rule.now in
    let there : slice_get c.args.rules.now.rules.items c.args.place ≡ Some y = sym c.rule_at.ensures ∙ ap (option_map (λ r. r.now)) c.in-Some.is in
    let body : y.body.value ≡ bodies.Foreign c.in-Foreign.field-0 = search rules in
    told_unread t c.args.rules.now c.args.place y c.in-Foreign.field-0 runs there body

pub returns-in-None : goal.returns-in-None
returns-in-None c t runs q m at body =
    let there : slice_get c.args.rules.now.rules.items c.args.place ≡ None = sym c.rule_at.ensures ∙ ap (option_map (λ r. r.now)) c.in-None.is in
    told_no_rule t c.args.rules.now c.args.place q runs there at
