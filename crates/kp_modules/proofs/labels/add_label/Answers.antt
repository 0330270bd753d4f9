use Rattle.std.proofs.Common.{rules, ◌≡◌, ap, subst, ◌∙◌, not, cond, string_bytes, Some}
use Rattle.std.specs.Str.{bytes_eq}
use Rattle.std.proofs.lemmas.Map.Text.{hash_map_updates_text}
use Rattle.indexmap.specs.IndexMap.{get_by_text}
use Rattle.kp_kore.specs.Syntax.{Text}
use Rattle.kp_modules.proofs.Labelled.{counted_more, is_known}
use Rattle.kp_modules.proofs.labels.add_label.Goals as goal

pub returns : goal.returns
returns c names is =
    let x = c.args.label.now in
    let f = get_by_text c.args.labels.now in
    let g = get_by_text c.insert.new.self in
    let same : string_bytes c.in_ok-from_str.field-0 ≡ x = search rules in
    let new = not c.contains_key-is_new.result in
    counted_more names x f g new is
    (ap not (c.contains_key-is_new.ensures ∙ is_known x names (f x) (is x)))
    (subst (λ bs. (n : Text) → g n ≡ cond (bytes_eq bs n) (Some new) (f n)) same
    (hash_map_updates_text (string_bytes c.in_ok-from_str.field-0) c.args.labels.now c.insert.new.self (Some new) c.in_ok-insert.ensures.updates))
