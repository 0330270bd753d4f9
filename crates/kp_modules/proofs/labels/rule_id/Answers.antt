use Rattle.std.proofs.Common.{◌≡◌, sym, ap, ◌∙◌, string_bytes, true, false}
use Rattle.std.specs.Option.{option_map}
use Rattle.kp_kore.specs.Theory.{rule_id}
use Rattle.kp_modules.specs.Labels.{stands_once}
use Rattle.kp_modules.proofs.Labelled.{label_names, number_names, shared_name}
use Rattle.kp_modules.proofs.labels.rule_id.Goals as goal

pub returns-then-is_alone : goal.returns-then-is_alone
returns-then-is_alone c names a counts from =
    let label = option_map (λ t. string_bytes t.value) c.args.source.now.label in
    let x = string_bytes c.in-Some.label.value in
    let seen : c.deref-in-Some.result.now ≡ x = c.deref-in-Some.ensures ∙ ap string_bytes c.deref.ensures in
    let once : true ≡ stands_once x names = sym c.if-is_alone.true ∙ c.is_alone.ensures names counts ∙ ap (λ y. stands_once y names) seen in
    let named : x ≡ rule_id names a = label_names names a label x from.label (ap (option_map (λ t. string_bytes t.value)) c.in-Some.is) once in
    shared_name c.clone.result _ _ _ c.clone.ensures.cases (λ id is. ap string_bytes is ∙ named)

pub returns-else-is_alone : goal.returns-else-is_alone
returns-else-is_alone c names a counts from =
    let label = option_map (λ t. string_bytes t.value) c.args.source.now.label in
    let x = string_bytes c.in-Some.label.value in
    let seen : c.deref-in-Some.result.now ≡ x = c.deref-in-Some.ensures ∙ ap string_bytes c.deref.ensures in
    let often : false ≡ stands_once x names = sym c.if-is_alone.false ∙ c.is_alone.ensures names counts ∙ ap (λ y. stands_once y names) seen in
    let named : string_bytes c.args.source.now.numbered.value ≡ rule_id names a =
    number_names names a label x (string_bytes c.args.source.now.numbered.value) from.label (ap (option_map (λ t. string_bytes t.value)) c.in-Some.is) often from.numbered in
    shared_name c.clone-else-is_alone.result _ _ _ c.clone-else-is_alone.ensures.cases (λ id is. ap string_bytes is ∙ named)
