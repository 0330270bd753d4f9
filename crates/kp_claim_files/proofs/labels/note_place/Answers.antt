use Rattle.std.proofs.Common.{rules, ◌≡◌, sym, subst, ◌∙◌, true, false, cond, string_bytes, Some, is_some}
use Rattle.std.specs.Str.{bytes_eq}
use Rattle.std.proofs.lemmas.Map.Text.{hash_map_updates_text}
use Rattle.indexmap.specs.IndexMap.{get_by_text}
use Rattle.kp_kore.specs.Syntax.{Text}
use Rattle.kp_signature.proofs.FirstPlaces.{new_name, known_name, nothing_there}
use Rattle.kp_claim_files.proofs.labels.note_place.Goals as goal

pub returns-in_ok-insert : goal.returns-in_ok-insert
returns-in_ok-insert c names is e =
    let same : string_bytes c.in_ok-clone.field-0 ≡ string_bytes c.args.label.now = search rules in
    new_name names (string_bytes c.args.label.now) c.args.place (get_by_text c.args.places.now) (get_by_text c.insert.new.self) is e
    (nothing_there (get_by_text c.args.places.now (string_bytes c.args.label.now)) (subst (λ bs. is_some (get_by_text c.args.places.now bs) ≡ false) c.as_str.ensures.value (sym c.contains_key.ensures ∙ c.if-not-contains_key.true)))
    (subst (λ bs. (n : Text) → get_by_text c.insert.new.self n ≡ cond (bytes_eq bs n) (Some c.args.place) (get_by_text c.args.places.now n)) same
    (hash_map_updates_text (string_bytes c.in_ok-clone.field-0) c.args.places.now c.insert.new.self (Some c.args.place) c.in_ok-insert.ensures.updates))

pub returns-else-not-contains_key : goal.returns-else-not-contains_key
returns-else-not-contains_key c names is e =
    known_name names (string_bytes c.args.label.now) (get_by_text c.args.places.now) is
    (subst (λ bs. is_some (get_by_text c.args.places.now bs) ≡ true) c.as_str.ensures.value (sym c.contains_key.ensures ∙ c.if-not-contains_key.false))
