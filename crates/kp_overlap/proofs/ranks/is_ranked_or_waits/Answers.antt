use Rattle.std.proofs.Common.{map, sym}
use Rattle.kp_overlap.specs.Views.{shape_view}
use Rattle.kp_overlap.proofs.RankSteps.{ranked_here, waits_or_ranked, unmade_unranked}
use Rattle.kp_overlap.proofs.ranks.is_ranked_or_waits.Goals as goal

pub returns-then-is_some : goal.returns-then-is_some
returns-then-is_some c = ranked_here (map shape_view c.args.shapes.now) c.args.labels.now c.args.holders.now c.args.ranks.now c.args.label c.holder_of.result (sym c.if-is_some.ensures) c.holder_of.ensures

pub returns-in-Some : goal.returns-in-Some
returns-in-Some c = waits_or_ranked (map shape_view c.args.shapes.now) c.args.labels.now c.args.holders.now c.args.ranks.now c.args.label c.in-Some.members.now c.waits.result c.holder_of.result (sym c.if-is_some.ensures) c.holder_of.ensures c.in-Some.ensures c.waits.ensures

pub returns-in-None : goal.returns-in-None
returns-in-None c = unmade_unranked (map shape_view c.args.shapes.now) c.args.labels.now c.args.holders.now c.args.ranks.now c.args.label c.holder_of.result (sym c.if-is_some.ensures) c.holder_of.ensures c.in-None.ensures
