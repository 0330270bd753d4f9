use Rattle.std.proofs.Common.{rules, ◌≡◌, Some, None, length, string_bytes, option_map, ◌++◌, ◌∷◌, [], sym, subst, ap, ◌∙◌}
use Rattle.kp_kore.specs.Syntax.{Text}
use Rattle.kp_registry.specs.Passes.{place_named, first_binding, told_then}
use Rattle.kp_registry.proofs.Entering.{told_one, told_two}
use Rattle.kp_registry.proofs.seen.Book.enter.Goals as goal

pub returns-in-Some-clause-sound : goal.returns-in-Some-clause-sound
returns-in-Some-clause-sound c =
    let es = c.args.self.now.entries.items in
    let also : option_map string_bytes c.args.entry.also ≡ Some (string_bytes c.in-Some.name) = sym c.requires.own ∙ ap (λ o. option_map string_bytes o) c.in-Some.is in
    let long : c.len-place.result ≡ length es = search rules in
    let told : (n : Text) → place_named c.bind-in-Some.new.names.items n ≡ first_binding (es ++ c.args.entry ∷ []) n =
    told_two es c.args.entry c.args.self.now.names.items c.bind.new.names.items c.bind-in-Some.new.names.items (string_bytes c.args.id_name) (string_bytes c.in-Some.name) c.requires.sound.told c.requires.id also
    (subst (λ p. (n : Text) → place_named c.bind.new.names.items n ≡ told_then (place_named c.args.self.now.names.items n) (string_bytes c.args.id_name) p n) long c.bind.ensures.told)
    (subst (λ p. (n : Text) → place_named c.bind-in-Some.new.names.items n ≡ told_then (place_named c.bind.new.names.items n) (string_bytes c.in-Some.name) p n) long c.bind-in-Some.ensures.told) in
    record {
      few = search rules;
      room = search rules;
      names_few = search rules;
      names_room = search rules;
      rising = search rules;
      told = subst (λ l. (n : Text) → place_named c.bind-in-Some.new.names.items n ≡ first_binding l n) (sym c.push_reserved.ensures.items) told;
    }

pub returns-in_default-clause-sound : goal.returns-in_default-clause-sound
returns-in_default-clause-sound c =
    let es = c.args.self.now.entries.items in
    let also : option_map string_bytes c.args.entry.also ≡ None = sym c.requires.own ∙ ap (λ o. option_map string_bytes o) c.in_default.is in
    let long : c.len-place.result ≡ length es = search rules in
    let told : (n : Text) → place_named c.bind.new.names.items n ≡ first_binding (es ++ c.args.entry ∷ []) n =
    told_one es c.args.entry c.args.self.now.names.items c.bind.new.names.items (string_bytes c.args.id_name) c.requires.sound.told c.requires.id also
    (subst (λ p. (n : Text) → place_named c.bind.new.names.items n ≡ told_then (place_named c.args.self.now.names.items n) (string_bytes c.args.id_name) p n) long c.bind.ensures.told) in
    record {
      few = search rules;
      room = search rules;
      names_few = search rules;
      names_room = search rules;
      rising = search rules;
      told = subst (λ l. (n : Text) → place_named c.bind.new.names.items n ≡ first_binding l n) (sym c.push_reserved.ensures.items) told;
    }
