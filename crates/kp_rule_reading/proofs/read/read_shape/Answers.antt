use Rattle.std.proofs.Common.{rules, ◌≡◌, true, false}
use Rattle.std.proofs.lemmas.Bool.{MatchBool-at_true, MatchBool-at_false}
use Rattle.kp_kore.specs.Syntax.{rewriting}
use Rattle.kp_kore.specs.View.{view}
use Rattle.kp_signature.specs.View.{signature_view}
use Rattle.kp_rule_reading.specs.ReadRules.{IsLeftSideRead}
use Rattle.kp_rules.specs.Shapes.{seen}
use Rattle.kp_rule_reading.proofs.ReadShapes.{shape_refused, shape_read, no_shape}
use Rattle.kp_rule_reading.proofs.read.read_shape.Goals as goal

pub returns-then-not-branch : goal.returns-then-not-branch
returns-then-not-branch c = λ s.
    let g = signature_view c.args.signature.now in
    let Side = IsLeftSideRead g (view c.in-Some.shape.left.term.now) (seen c.in-Some.shape.left.predicates.items) in
    let refused : c.in_ok-is_read_left_side-in-Some.field-0 ≡ false = search rules in
    let no : ¬ Side = MatchBool-at_false Side (¬ Side) refused c.in_ok-is_read_left_side-in-Some.ensures in
    shape_refused g (rewriting s (view c.args.left.now) (view c.args.right.now)) (view c.args.right.now) c.in_ok-shape.field-0 c.in-Some.shape c.in-Some.is (c.in_ok-shape.ensures s) no

pub returns-else-not-branch : goal.returns-else-not-branch
returns-else-not-branch c = λ s.
    let g = signature_view c.args.signature.now in
    let Side = IsLeftSideRead g (view c.in-Some.shape.left.term.now) (seen c.in-Some.shape.left.predicates.items) in
    let passed : c.in_ok-is_read_left_side-in-Some.field-0 ≡ true = search rules in
    let so : Side = MatchBool-at_true Side (¬ Side) passed c.in_ok-is_read_left_side-in-Some.ensures in
    shape_read g (rewriting s (view c.args.left.now) (view c.args.right.now)) (view c.args.right.now) c.in_ok-shape.field-0 c.in-Some.shape c.in-Some.is (c.in_ok-shape.ensures s) so

pub returns-in-None : goal.returns-in-None
returns-in-None c = λ s.
    no_shape (signature_view c.args.signature.now) (rewriting s (view c.args.left.now) (view c.args.right.now)) (view c.args.right.now) c.in_ok-shape.field-0 c.in-None.is (c.in_ok-shape.ensures s)
