use Rattle.std.proofs.Common.{rules, ◌≡◌, sym, ap, ◌∙◌, subst, cond, string_bytes, Some, None}
use Rattle.std.specs.Option.{option_map}
use Rattle.std.specs.Str.{bytes_eq}
use Rattle.std.proofs.lemmas.Map.Text.{hash_map_updates_text}
use Rattle.indexmap.specs.IndexMap.{get_by_text}
use Rattle.kp_kore.specs.Syntax.{Text}
use Rattle.kp_kore.specs.View.{sort_view}
use Rattle.kp_signature.proofs.ScopeLemmas.{unbound}
use Rattle.kp_signature.proofs.scope.unbind_variable.Goals as goal

pub returns-in_ok-insert-in-Some : goal.returns-in_ok-insert-in-Some
returns-in_ok-insert-in-Some c s found t knows was =
    let same : string_bytes c.in_ok-clone-in-Some.field-0 ≡ string_bytes c.args.name.now = search rules in
    record {
      names = unbound (string_bytes c.args.name.now) t s found (Some c.in-Some.sort) (get_by_text c.args.scope.now) (get_by_text c.insert.new.self) knows.names (ap (option_map sort_view) (sym c.in-Some.is) ∙ was)
          (subst (λ bs. (n : Text) → get_by_text c.insert.new.self n ≡ cond (bytes_eq bs n) (Some c.in-Some.sort) (get_by_text c.args.scope.now n)) same
          (hash_map_updates_text (string_bytes c.in_ok-clone-in-Some.field-0) c.args.scope.now c.insert.new.self (Some c.in-Some.sort) c.in_ok-insert-in-Some.ensures.updates));
    }

pub returns-in-None : goal.returns-in-None
returns-in-None c s found t knows was =
    record {
      names = unbound (string_bytes c.args.name.now) t s found None (get_by_text c.args.scope.now) (get_by_text c.swap_remove.new.self) knows.names (ap (option_map sort_view) (sym c.in-None.is) ∙ was)
          (subst (λ bs. (n : Text) → get_by_text c.swap_remove.new.self n ≡ cond (bytes_eq bs n) None (get_by_text c.args.scope.now n)) c.as_str.ensures.value
          (hash_map_updates_text c.as_str.result.now c.args.scope.now c.swap_remove.new.self None c.swap_remove.ensures.updates));
    }
