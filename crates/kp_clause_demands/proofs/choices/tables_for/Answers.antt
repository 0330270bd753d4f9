use Rattle.std.proofs.Common.{rules, ◌≡◌, length}
use Rattle.kp_clause_demands.proofs.AskedLemmas.{sized_as}
use Rattle.kp_clause_demands.proofs.choices.tables_for.Goals as goal

pub returns-clause-sizes : goal.returns-clause-sizes
returns-clause-sizes c =
    let u = c.args.unknowns.now in
    let wholes : c.len.result ≡ length u.wholes.items = search rules in
    let truths : c.len-2.result ≡ length u.truths.items = search rules in
    let tokens : c.len-3.result ≡ length u.tokens.items = search rules in
    sized_as c.new.result c.len.result c.len-2.result c.len-3.result (length u.wholes.items) (length u.truths.items) (length u.tokens.items) wholes truths tokens c.new.ensures.sizes
