use Rattle.std.proofs.Common.{rules, ◌∙◌}
use Rattle.std.proofs.lemmas.List.{map-set}
use Rattle.kp_diff.proofs.Cells.{row_at, cell_is}
use Rattle.kp_diff.proofs.elimination.lower.Goals as goal

pub returns : goal.returns
returns c = map-set (λ v. v.items) c.args.rows.now c.args.x _ ∙ search (rules, row_at, cell_is, c.over-bound.ensures, c.index.ensures, c.index-2.ensures, c.index-3.ensures, c.requires.square.each_long)
