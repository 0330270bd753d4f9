use Rattle.std.proofs.Common.{◌∙◌, sym, ap}
use Rattle.std.specs.Option.{option_map}
use Rattle.kp_kore.specs.View.{view, sort_view}
use Rattle.kp_signature.specs.View.{signature_view}
use Rattle.kp_rules.specs.Shapes.{side_view}
use Rattle.kp_rules.proofs.SkeletonLemmas.{left_term, left_any}
use Rattle.kp_rules.proofs.skeleton.skeleton_of_left.Goals as goal

pub returns-in_ok-skeleton_of-in-Some : goal.returns-in_ok-skeleton_of-in-Some
returns-in_ok-skeleton_of-in-Some c = λ u s.
    left_term (signature_view c.args.signature.now) (sort_view c.args.sort.now) (view c.args.left.now) (side_view c.in-Some.side) c.in_ok-skeleton_of-in-Some.field-0
    (ap (option_map side_view) (sym c.in-Some.is) ∙ c.in_ok-side.ensures) c.in_ok-skeleton_of-in-Some.ensures u

pub returns-in_ok-any_of-in-None : goal.returns-in_ok-any_of-in-None
returns-in_ok-any_of-in-None c = λ u s.
    left_any (signature_view c.args.signature.now) (sort_view c.args.sort.now) (view c.args.left.now) c.in_ok-any_of-in-None.field-0
    (ap (option_map side_view) (sym c.in-None.is) ∙ c.in_ok-side.ensures) c.in_ok-any_of-in-None.ensures u
