use Rattle.std.proofs.Common.{subst, sym, OnOk, ◌≢◌}
use Rattle.indexmap.specs.IndexMap.{get_by_text}
use Rattle.kp_rule_sets.specs.HeadView.{head_view}
use Rattle.kp_rule_sets.specs.Rows.{row_of}
use Rattle.kp_rule_sets.proofs.index.Index.prepare.Goals as goal

pub returns-in-Constructor-clause-prepared : goal.returns-in-Constructor-clause-prepared
returns-in-Constructor-clause-prepared c = λ own all seen is.
    subst (λ h. OnOk c.note.result (row_of (get_by_text c.note.new.self.names) (head_view h) ≢ 0)) (sym c.in-Constructor.is) (c.note.ensures.noted own all seen is)
