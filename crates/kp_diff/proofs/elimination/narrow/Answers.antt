use Rattle.std.proofs.Common.{rules, sym, subst, ◌∙◌, ◌<◌, length}
use Rattle.std.proofs.lemmas.List.{map-set}
use Rattle.kp_diff.proofs.Cells.{row_at, row_len, cell_is}
use Rattle.kp_diff.proofs.elimination.narrow.Goals as goal

pub index-requires : goal.index-requires
index-requires c = subst (λ n. c.args.y < n) (sym (row_len (length c.args.rows.now) c.args.rows.now c.args.x c.index-rows-x.result c.requires.square c.requires.places.0)) c.requires.places.1

pub index_mut-requires : goal.index_mut-requires
index_mut-requires c = subst (λ n. c.args.y < n) (sym (row_len (length c.args.rows.now) c.args.rows.now c.args.x c.index-rows-x-2.result c.requires.square c.requires.places.0)) c.requires.places.1

pub returns-clause-rows : goal.returns-clause-rows
returns-clause-rows c = map-set (λ v. v.items) c.args.rows.now c.args.x _ ∙ search (rules, row_at, cell_is, c.narrowed-bound.ensures, c.index.ensures, c.requires.square.each_long)
