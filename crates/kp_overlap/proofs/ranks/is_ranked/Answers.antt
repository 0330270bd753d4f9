use Rattle.std.proofs.Common.{map}
use Rattle.kp_overlap.specs.Views.{shape_view}
use Rattle.kp_overlap.proofs.RankSteps.{ranked_made, ranked_unmade}
use Rattle.kp_overlap.proofs.ranks.is_ranked.Goals as goal

pub returns-in-Some-members_of : goal.returns-in-Some-members_of
returns-in-Some-members_of c = ranked_made (map shape_view c.args.shapes.now) c.args.labels.now c.args.holders.now c.args.ranks.now c.args.label c.in-Some.rank c.in-Some-members_of.members.now c.are_before.result c.in-Some.ensures c.in-Some-members_of.ensures c.are_before.ensures

pub returns-in-None-members_of : goal.returns-in-None-members_of
returns-in-None-members_of c = ranked_unmade (map shape_view c.args.shapes.now) c.args.labels.now c.args.holders.now c.args.ranks.now c.args.label c.in-Some.rank c.in-Some.ensures c.in-None-members_of.ensures
