use Rattle.std.proofs.Common.{rules, ◌≡◌, ◌∙◌, ap, subst, map, true, string_bytes}
use Rattle.kp_ground.specs.Slots.{stands_at, with_name}
use Rattle.kp_compile.specs.Names.{names_seen}
use Rattle.kp_compile.proofs.NameLemmas.{names_with, slot_stored}
use Rattle.kp_compile.proofs.names.slot_with.Goals as goal

pub returns-clause-names : goal.returns-clause-names
returns-clause-names c =
    let same : string_bytes c.in_ok-clone.field-0 ≡ string_bytes c.args.name.now = search rules in
    ap (map string_bytes) c.in_ok-slot.ensures.keys ∙ names_with c.args.names.now.keys c.in_ok-clone.field-0 ∙ ap (with_name (names_seen c.args.names.now)) same

pub returns-clause-slot : goal.returns-clause-slot
returns-clause-slot c =
    let same : string_bytes c.in_ok-clone.field-0 ≡ string_bytes c.args.name.now = search rules in
    let stored = c.in_ok-slot.ensures.stored in
    subst (λ x. stands_at (names_seen c.insert_full.new.self) x c.in_ok-slot.slot ≡ true) same
    (slot_stored (string_bytes c.in_ok-clone.field-0) c.insert_full.new.self.keys c.in_ok-slot.slot stored.0 stored.1 stored.2)
