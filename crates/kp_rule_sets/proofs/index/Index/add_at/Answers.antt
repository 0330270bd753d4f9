use Rattle.std.proofs.Common.{◌≡◌, ◌<◌, ◌++◌, ◌∷◌, [], subst, sym, length, set, get_or}
use Rattle.indexmap.specs.IndexMap.{get_by_text}
use Rattle.kp_rule_sets.specs.HeadView.{head_view}
use Rattle.kp_rule_sets.specs.Rows.{rows_view, row_of}
use Rattle.kp_rule_sets.proofs.Filled.{to_one, within}
use Rattle.kp_rule_sets.proofs.RowLemmas.{rows_length}
use Rattle.kp_rule_sets.proofs.index.Index.add_at.Goals as goal

pub returns : goal.returns
returns c own all seen is tells isnt =
    let head = head_view c.args.head.now in
    let old = rows_view c.prepare.new.self.rows.items in
    let new = rows_view c.push_at.new.rows.items in
    let f = get_by_text c.prepare.new.self.names in
    let ready = c.in_ok-prepare.ensures.filled own all seen is in
    let short : c.row-row.result < length c.prepare.new.self.rows.items =
    subst (λ n. n < length c.prepare.new.self.rows.items) (sym c.row-row.ensures) (subst (λ n. row_of f head < n) (rows_length c.prepare.new.self.rows.items) (within own all f old c.prepare.new.self.any.items seen ready head)) in
    to_one own all f old new c.prepare.new.self.any.items seen c.args.ranked head ready (c.in_ok-prepare.ensures.prepared own all seen is)
    (subst (λ n. new ≡ set old n (get_or old n [] ++ c.args.ranked ∷ [])) c.row-row.ensures (c.in_ok-push_at.ensures short))
    tells
    isnt
