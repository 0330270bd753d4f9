use Rattle.std.proofs.Common.{rules, ◌≡◌, ap, subst, ◌∙◌, not, cond, true, string_bytes}
use Rattle.std.specs.Str.{bytes_eq}
use Rattle.std.proofs.lemmas.Map.Text.{hash_set_updates_text}
use Rattle.indexmap.specs.IndexSet.{contains_text, index_set_len}
use Rattle.kp_kore.specs.Syntax.{Text}
use Rattle.kp_limits.proofs.NameLemmas.{named_more, counted_more}
use Rattle.kp_limits.proofs.weight.add_once.Goals as goal

pub returns-clause-named : goal.returns-clause-named
returns-clause-named c =
    let x = string_bytes c.args.name.now in
    let same : string_bytes c.in_ok-clone.field-0 ≡ x = search rules in
    named_more c.args.found.now c.insert.new.self x
    (subst (λ bs. (n : Text) → contains_text c.insert.new.self n ≡ cond (bytes_eq bs n) true (contains_text c.args.found.now n)) same
    (hash_set_updates_text (string_bytes c.in_ok-clone.field-0) c.args.found.now c.insert.new.self true c.in_ok-insert.ensures.updates))

pub returns-clause-counted : goal.returns-clause-counted
returns-clause-counted c =
    let x = string_bytes c.args.name.now in
    let same : string_bytes c.in_ok-clone.field-0 ≡ x = search rules in
    counted_more (contains_text c.args.found.now x) c.in_ok-insert.field-0 (index_set_len c.args.found.now) (index_set_len c.insert.new.self)
    (c.in_ok-insert.ensures.added ∙ ap (λ bs. not (contains_text c.args.found.now bs)) same)
    c.in_ok-insert.ensures.len
