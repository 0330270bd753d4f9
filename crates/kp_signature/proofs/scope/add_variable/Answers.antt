use Rattle.std.proofs.Common.{rules, ◌≡◌, subst, cond, string_bytes, Some}
use Rattle.std.specs.Str.{bytes_eq}
use Rattle.std.proofs.lemmas.Map.Text.{hash_map_updates_text}
use Rattle.indexmap.specs.IndexMap.{get_by_text}
use Rattle.kp_kore.specs.Syntax.{Text}
use Rattle.kp_kore.specs.View.{sort_view}
use Rattle.kp_signature.proofs.ScopeLemmas.{added}
use Rattle.kp_signature.proofs.scope.add_variable.Goals as goal

pub returns : goal.returns
returns c s knows new =
    let same : string_bytes c.in_ok-clone.field-0 ≡ string_bytes c.args.name.now = search rules in
    record {
      names = added (string_bytes c.args.name.now) (sort_view c.args.sort.now) s c.in_ok-copy.field-0 (get_by_text c.args.scope.now) (get_by_text c.insert.new.self) knows.names new c.in_ok-copy.ensures
          (subst (λ bs. (n : Text) → get_by_text c.insert.new.self n ≡ cond (bytes_eq bs n) (Some c.in_ok-copy.field-0) (get_by_text c.args.scope.now n)) same
          (hash_map_updates_text (string_bytes c.in_ok-clone.field-0) c.args.scope.now c.insert.new.self (Some c.in_ok-copy.field-0) c.in_ok-insert.ensures.updates));
    }
