use Rattle.std.proofs.Common.{rules}
use Rattle.kp_graph.proofs.RowLemmas.{fits_behind, end_row, end_passed}
use Rattle.kp_graph.proofs.nodes.row_end.Goals as goal

pub overflow_add-result : goal.overflow_add-result
overflow_add-result c =
    let less = fits_behind c.args.nodes.now c.args.place c.index-nodes-place.result c.requires.pass c.requires.within in
    search (rules, less)

pub returns-clause-within : goal.returns-clause-within
returns-clause-within c = fits_behind c.args.nodes.now c.args.place _ c.requires.pass c.requires.within

pub returns-clause-row : goal.returns-clause-row
returns-clause-row c = end_row c.args.nodes.now c.args.place _ c.requires.pass c.requires.within

pub returns-clause-passed : goal.returns-clause-passed
returns-clause-passed c = end_passed c.args.nodes.now c.args.place _ c.requires.pass c.requires.within
