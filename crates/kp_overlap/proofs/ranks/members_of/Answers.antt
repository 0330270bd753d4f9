use Rattle.std.proofs.Common.{map}
use Rattle.std.specs.Option.{option_map}
use Rattle.kp_overlap.specs.Views.{shape_view}
use Rattle.kp_overlap.proofs.RankSteps.{at_view, holder_members}
use Rattle.kp_overlap.proofs.ranks.members_of.Goals as goal

pub returns-then-holder-shapes : goal.returns-then-holder-shapes
returns-then-holder-shapes c = holder_members (map shape_view c.args.shapes.now) c.args.holders.now c.args.label c.in_ok-holder.holder (shape_view c.index-shapes-holder.result) (option_map (λ m. m.now) c.members_at.result) (at_view shape_view c.args.shapes.now c.in_ok-holder.holder c.index-shapes-holder.result c.if-holder-shapes.true c.index-shapes-holder.is) c.in_ok-holder.ensures c.members_at.ensures
