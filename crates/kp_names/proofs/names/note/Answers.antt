use Rattle.std.proofs.Common.{rules, ◌≡◌, subst, cond, string_bytes, Some}
use Rattle.std.specs.Str.{bytes_eq}
use Rattle.std.proofs.lemmas.Map.Text.{hash_map_updates_text}
use Rattle.indexmap.specs.IndexMap.{get_by_text}
use Rattle.kp_kore.specs.Syntax.{Text}
use Rattle.kp_names.proofs.OneMore.{newly_listed}
use Rattle.kp_names.proofs.names.note.Goals as goal

pub returns : goal.returns
returns c before is =
    let x = string_bytes c.args.name.now in
    let same : string_bytes c.in_ok-clone.field-0 ≡ x = search rules in
    newly_listed before x (get_by_text c.args.names.now) (get_by_text c.insert.new.self) tt is
    (subst (λ bs. (n : Text) → get_by_text c.insert.new.self n ≡ cond (bytes_eq bs n) (Some tt) (get_by_text c.args.names.now n)) same
    (hash_map_updates_text (string_bytes c.in_ok-clone.field-0) c.args.names.now c.insert.new.self (Some tt) c.in_ok-insert.ensures.updates))
