use Rattle.std.proofs.Common.{rules, ◌≡◌, sym, ap, ◌∙◌, string_bytes}
use Rattle.std.specs.Option.{option_map}
use Rattle.kp_execute.proofs.EndedLemmas.{id_is_at}
use Rattle.kp_execute.proofs.next_states.id_at.Goals as goal

pub returns-in_ok-from_str-in-Some-clause-found : goal.returns-in_ok-from_str-in-Some-clause-found
returns-in_ok-from_str-in-Some-clause-found c = λ t runs.
    let same : string_bytes c.in_ok-from_str-in-Some.field-0 ≡ string_bytes c.in-Some.rule.now.id.value = search rules in
    id_is_at t c.args.rules.now c.args.place c.in-Some.rule.now (string_bytes c.in_ok-from_str-in-Some.field-0) runs (sym c.rule_at.ensures ∙ ap (option_map (λ x. x.now)) c.in-Some.is) same
