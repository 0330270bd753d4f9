use Rattle.std.proofs.Common.{rules, ◌≡◌, sym, subst, take, drop, map, string_bytes, Some, get_or}
use Rattle.std.specs.List.{insert}
use Rattle.kp_kore.specs.Syntax.{Text}
use Rattle.kp_registry.specs.Passes.{AreAbove, AreBelow, IsRising, name_of, place_named, told_then}
use Rattle.kp_registry.specs.declared.seen.NameBinding.{NameBinding}
use Rattle.kp_registry.proofs.Entering.{still_rising, told_new, told_before}
use Rattle.kp_registry.proofs.entries.bind.Goals as goal

pub returns-in-Ok-clause-rising : goal.returns-in-Ok-clause-rising
returns-in-Ok-clause-rising c =
    let bs = c.args.names.now.items in
    let n = string_bytes c.args.name in
    let i = c.in-Err.at in
    let b : NameBinding = record { name = c.args.name; place = c.args.place } in
    let low : AreBelow n (take i (map name_of bs)) = search rules in
    let high : AreAbove n (drop i (map name_of bs)) = search rules in
    let is : c.insert.new.self.items ≡ insert bs i b = search rules in
    subst (λ l. IsRising (map name_of l)) (sym is) (still_rising bs i b c.requires.rising low high)

pub returns-in-Ok-clause-told : goal.returns-in-Ok-clause-told
returns-in-Ok-clause-told c =
    let bs = c.args.names.now.items in
    let n = string_bytes c.args.name in
    let i = c.in-Err.at in
    let b : NameBinding = record { name = c.args.name; place = c.args.place } in
    let low : AreBelow n (take i (map name_of bs)) = search rules in
    let high : AreAbove n (drop i (map name_of bs)) = search rules in
    let is : c.insert.new.self.items ≡ insert bs i b = search rules in
    subst (λ l. (m : Text) → place_named l m ≡ told_then (place_named bs m) n c.args.place m) (sym is) (told_new bs i b low high)

pub returns-in_default-clause-told : goal.returns-in_default-clause-told
returns-in_default-clause-told c =
    let bs = c.args.names.now.items in
    let n = string_bytes c.args.name in
    let b : NameBinding = record { name = c.args.name; place = c.args.place } in
    let p = (get_or c.deref.result.now c.in_default.field-0 b).place in
    let is : place_named bs n ≡ Some p = subst (λ l. place_named l n ≡ Some p) c.deref.ensures.value (subst (λ m. place_named c.deref.result.now m ≡ Some p) c.as_str.ensures.value (c.in_default.ensures.found.1 b)) in
    told_before bs n p c.args.place is
