use Rattle.std.proofs.Common.{rules, ◌≡◌, sym, ap, subst, ◌∙◌, true, false, not, string_bytes, is_some, Some, cond}
use Rattle.std.specs.Str.{bytes_eq}
use Rattle.std.proofs.lemmas.Map.Text.{hash_map_updates_text}
use Rattle.indexmap.specs.IndexMap.{get_by_text}
use Rattle.kp_kore.specs.Syntax.{Text}
use Rattle.kp_imports.specs.Reaching.{has}
use Rattle.kp_imports.proofs.Twice.{listed, newly_listed}
use Rattle.kp_imports.proofs.repeated.meet.Goals as goal

pub returns-then-contains_key : goal.returns-then-contains_key
returns-then-contains_key c names is =
    let x = string_bytes c.args.name.now in
    let old : has x names ≡ true = sym (is x) ∙ subst (λ bs. is_some (get_by_text c.args.met.now bs) ≡ true) c.as_str.ensures.value (sym c.contains_key.ensures ∙ c.if-contains_key.true) in
    (sym (ap not old), listed names x c.args.met.now is old)

pub returns : goal.returns
returns c names is =
    let x = string_bytes c.args.name.now in
    let new : has x names ≡ false = sym (is x) ∙ subst (λ bs. is_some (get_by_text c.args.met.now bs) ≡ false) c.as_str.ensures.value (sym c.contains_key.ensures ∙ c.if-contains_key.false) in
    let same : string_bytes c.in_ok-clone.field-0 ≡ x = search rules in (
      sym (ap not new),
      newly_listed names x (get_by_text c.args.met.now) (get_by_text c.insert.new.self) tt is
          (subst (λ bs. (n : Text) → get_by_text c.insert.new.self n ≡ cond (bytes_eq bs n) (Some tt) (get_by_text c.args.met.now n)) same
          (hash_map_updates_text (string_bytes c.in_ok-clone.field-0) c.args.met.now c.insert.new.self (Some tt) c.in_ok-insert.ensures.updates)),
    )
