use Rattle.std.proofs.Common.{rules, ◌≡◌, refl, subst, cond, string_bytes, Some, length}
use Rattle.std.specs.Str.{bytes_eq}
use Rattle.std.proofs.lemmas.Map.Text.{hash_map_updates_text}
use Rattle.indexmap.specs.IndexMap.{get_by_text}
use Rattle.kp_kore.specs.Syntax.{Text}
use Rattle.kp_signature.proofs.Numbers.{group_added}
use Rattle.kp_signature.proofs.numbering.Numbering.add_group.Goals as goal

pub returns : goal.returns
returns c ix none =
    let same : string_bytes c.in_ok-clone.field-0 ≡ string_bytes c.args.name.now = search rules in
    let x = c.args.self.now in
    let group = c.len-group.result in
    let place : group ≡ length x.groups.items = search rules in
    group_added x (record { names = c.insert.new.self; groups = c.push.new.self; sorts = x.sorts }) (string_bytes c.args.name.now) group c.new.result ix none place
    (subst (λ bs. (n : Text) → get_by_text c.insert.new.self n ≡ cond (bytes_eq bs n) (Some group) (get_by_text x.names n)) same
    (hash_map_updates_text (string_bytes c.in_ok-clone.field-0) x.names c.insert.new.self (Some group) c.in_ok-insert.ensures.updates))
    c.in_ok-push.ensures.items c.new.ensures.items refl
