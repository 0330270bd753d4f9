use Rattle.std.proofs.Common.{rules, ◌≡◌, sym, subst, ◌∙◌, true, false, cond, string_bytes, Some, is_some}
use Rattle.std.specs.Str.{bytes_eq}
use Rattle.std.proofs.lemmas.Map.Text.{hash_map_updates_text}
use Rattle.indexmap.specs.IndexMap.{get_by_text}
use Rattle.kp_kore.specs.Syntax.{Text}
use Rattle.kp_signature.proofs.FirstPlaces.{new_name, known_name, nothing_there}
use Rattle.kp_imports.proofs.names.add_name.Goals as goal

pub returns-then-contains_key : goal.returns-then-contains_key
returns-then-contains_key c names is e =
    known_name names (string_bytes c.args.name.now) (get_by_text c.args.places.now) is
    (subst (λ bs. is_some (get_by_text c.args.places.now bs) ≡ true) c.as_str.ensures.value (sym c.contains_key.ensures ∙ c.if-contains_key.true))

pub returns : goal.returns
returns c names is e =
    let same : string_bytes c.in_ok-clone.field-0 ≡ string_bytes c.args.name.now = search rules in
    new_name names (string_bytes c.args.name.now) c.args.place (get_by_text c.args.places.now) (get_by_text c.insert.new.self) is e
    (nothing_there (get_by_text c.args.places.now (string_bytes c.args.name.now)) (subst (λ bs. is_some (get_by_text c.args.places.now bs) ≡ false) c.as_str.ensures.value (sym c.contains_key.ensures ∙ c.if-contains_key.false)))
    (subst (λ bs. (n : Text) → get_by_text c.insert.new.self n ≡ cond (bytes_eq bs n) (Some c.args.place) (get_by_text c.args.places.now n)) same
    (hash_map_updates_text (string_bytes c.in_ok-clone.field-0) c.args.places.now c.insert.new.self (Some c.args.place) c.in_ok-insert.ensures.updates))
