use Rattle.std.proofs.Common.{rules, ◌≡◌, sym, ap, subst, ◌∙◌, cond, string_bytes, Some, length}
use Rattle.std.specs.Str.{bytes_eq}
use Rattle.std.proofs.lemmas.Map.Text.{hash_map_updates_text}
use Rattle.indexmap.specs.IndexMap.{get_by_text}
use Rattle.kp_kore.specs.Syntax.{Text}
use Rattle.kp_rule_sets.specs.Rows.{rows_view}
use Rattle.kp_rule_sets.proofs.Filled.{one_row_more, row_made}
use Rattle.kp_rule_sets.proofs.RowLemmas.{rows_length}
use Rattle.kp_rule_sets.proofs.index.Index.note.Goals as goal

-- the map after the constructor's row is noted
updated : (c : goal.In_ok-insert) → (d : Text) → get_by_text c.insert.new.self d ≡ cond (bytes_eq c.args.name.now d) (Some (length (rows_view c.args.self.now.rows.items))) (get_by_text c.args.self.now.names d)
updated c =
    let old = get_by_text c.args.self.now.names in
    let new = get_by_text c.insert.new.self in
    let rows = c.args.self.now.rows.items in
    let same : string_bytes c.in_ok-name.name ≡ c.args.name.now = search rules in
    subst (λ o. (d : Text) → new d ≡ cond (bytes_eq c.args.name.now d) o (old d)) (ap Some (c.in_ok-row.ensures.number ∙ sym (rows_length rows)))
    (subst (λ bs. (d : Text) → new d ≡ cond (bytes_eq bs d) (Some c.in_ok-row.row) (old d)) same
    (hash_map_updates_text (string_bytes c.in_ok-name.name) c.args.self.now.names c.insert.new.self (Some c.in_ok-row.row) c.in_ok-insert.ensures.updates))

pub returns-clause-filled : goal.returns-clause-filled
returns-clause-filled c = λ own all seen is.
    one_row_more own all (get_by_text c.args.self.now.names) (get_by_text c.insert.new.self) (rows_view c.args.self.now.rows.items) (rows_view c.add_row.new.rows.items) c.args.self.now.any.items seen c.args.name.now is
    (sym c.contains_key.ensures ∙ c.if-contains_key.false)
    c.in_ok-row.ensures.added
    (updated c)

pub returns-clause-noted : goal.returns-clause-noted
returns-clause-noted c = λ own all seen is.
    row_made (get_by_text c.args.self.now.names) (get_by_text c.insert.new.self) (length (rows_view c.args.self.now.rows.items)) c.args.name.now (updated c) is.literals
