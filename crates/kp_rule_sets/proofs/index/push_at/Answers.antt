use Rattle.kp_rule_sets.proofs.RowLemmas.{set_row}
use Rattle.kp_rule_sets.proofs.index.push_at.Goals as goal

pub returns-in_ok-push : goal.returns-in_ok-push
returns-in_ok-push c h = set_row c.args.rows.now.items c.args.row c.args.ranked c.index_mut.result.now c.push.new.self h c.index_mut.ensures.value c.in_ok-push.ensures.items
