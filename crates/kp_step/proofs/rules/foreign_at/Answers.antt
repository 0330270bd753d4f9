use Rattle.std.proofs.Common.{rules, ◌≡◌, sym, ap, ◌∙◌, Some, None, slice_get}
use Rattle.std.specs.Option.{option_map}
use Rattle.kp_rules.specs.declared.rule.RuleBody.TheVariants as bodies
use Rattle.kp_step.proofs.RuleLemmas.{told_foreign, told_not_foreign, told_no_rule}
use Rattle.kp_step.proofs.rules.foreign_at.Goals as goal

pub returns-in-Rewrite : goal.returns-in-Rewrite
returns-in-Rewrite c t runs =
    let y = c.in-Some.rule.now in
    let there : slice_get c.args.rules.now.rules.items c.args.place ≡ Some y = sym c.rule_at.ensures ∙ ap (option_map (λ r. r.now)) c.in-Some.is in
    let body : y.body.value ≡ bodies.Rewrite c.in-Rewrite.field-0 = search rules in
    told_not_foreign t c.args.rules.now c.args.place y c.in-Rewrite.field-0 runs there body

pub returns-in-Foreign : goal.returns-in-Foreign
returns-in-Foreign c t runs =
    let y = c.in-Some.rule.now in
    let there : slice_get c.args.rules.now.rules.items c.args.place ≡ Some y = sym c.rule_at.ensures ∙ ap (option_map (λ r. r.now)) c.in-Some.is in
    let body : y.body.value ≡ bodies.Foreign c.in-Foreign.skeleton = search rules in
    told_foreign t c.args.rules.now c.args.place y c.in-Foreign.skeleton runs there body

pub returns-in-None : goal.returns-in-None
returns-in-None c t runs q l at body =
    let there : slice_get c.args.rules.now.rules.items c.args.place ≡ None = sym c.rule_at.ensures ∙ ap (option_map (λ r. r.now)) c.in-None.is in
    told_no_rule t c.args.rules.now c.args.place q runs there at
