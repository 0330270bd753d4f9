use Rattle.kp_signature.specs.View.{signature_view}
use Rattle.kp_clause_demands.proofs.Together.{are_near, ready, if_ok, yes_where_met, no_where_not}
use Rattle.kp_clause_demands.proofs.choices.can_be_met_together.Goals as goal

pub asked_by-requires : goal.asked_by-requires
asked_by-requires c = are_near c.args.clauses.now c.in_ok-unknowns.unknowns c.requires c.in_ok-unknowns.ensures

pub can_all_be_met-requires : goal.can_all_be_met-requires
can_all_be_met-requires c =
    ready (signature_view c.args.signature.now) c.args.clauses.now c.in_ok-unknowns.unknowns c.requires c.in_ok-tables.tables c.in_ok-asked.asked c.in_ok-unknowns.ensures c.in_ok-tables.ensures.sizes c.in_ok-asked.ensures.sized

pub returns-clause-yes : goal.returns-clause-yes
returns-clause-yes c =
    if_ok c.can_all_be_met.result _ _
    (yes_where_met (signature_view c.args.signature.now) c.args.clauses.now c.in_ok-unknowns.unknowns c.in_ok-asked.asked c.in_ok-tables.tables.fixed c.in_ok-unknowns.ensures c.in_ok-asked.ensures.met c.in_ok-tables.ensures.fixed)
    c.can_all_be_met.ensures.yes

pub returns-clause-no : goal.returns-clause-no
returns-clause-no c =
    if_ok c.can_all_be_met.result _ _
    (no_where_not (signature_view c.args.signature.now) c.args.clauses.now c.in_ok-unknowns.unknowns c.in_ok-asked.asked c.in_ok-tables.tables.fixed c.in_ok-unknowns.ensures c.in_ok-asked.ensures.met c.in_ok-tables.ensures.fixed)
    c.can_all_be_met.ensures.no
