use Rattle.std.proofs.Common.{sym, ap, ◌∙◌, map, string_bytes}
use Rattle.std.specs.Option.{option_map}
use Rattle.kp_execute.proofs.OnwardLemmas.{same_listed, some_code}
use Rattle.kp_execute.proofs.listed_rules.is_listed.Goals as goal

pub returns-in-Some : goal.returns-in-Some
returns-in-Some c = λ t r runs at.
    same_listed t c.args.rules.now c.args.place r c.in-Some.rule.now (map string_bytes c.args.ids.now) c.as_str.result.now c.is_among.result runs at
    (sym c.rule_at.ensures ∙ ap (option_map (λ x. x.now)) c.in-Some.is) (c.as_str.ensures.value ∙ ap string_bytes c.deref.ensures) c.is_among.ensures

pub returns-in-None : goal.returns-in-None
returns-in-None c = λ t r runs at. absurd (some_code t c.args.rules.now c.args.place r runs at (sym c.rule_at.ensures ∙ ap (option_map (λ x. x.now)) c.in-None.is))
