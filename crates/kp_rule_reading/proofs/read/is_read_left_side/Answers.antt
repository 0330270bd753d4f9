use Rattle.std.proofs.Common.{rules, ◌≡◌, true, false}
use Rattle.kp_kore.specs.View.{view}
use Rattle.kp_signature.specs.View.{signature_view}
use Rattle.kp_rule_reading.specs.ReadRules.{is_side_read}
use Rattle.kp_rules.specs.Shapes.{seen}
use Rattle.kp_rule_reading.proofs.ReadShapes.{side_refused, side_by_lone}
use Rattle.kp_rule_reading.proofs.read.is_read_left_side.Goals as goal

pub returns-then-not-branch : goal.returns-then-not-branch
returns-then-not-branch c =
    let g = signature_view c.args.signature.now in
    let left = view c.args.side.now.term.now in
    let condition = seen c.args.side.now.predicates.items in
    let no : is_side_read g left condition ≡ false = search rules in
    side_refused g left condition no

pub returns : goal.returns
returns c =
    let g = signature_view c.args.signature.now in
    let left = view c.args.side.now.term.now in
    let condition = seen c.args.side.now.predicates.items in
    let so : is_side_read g left condition ≡ true = search rules in
    side_by_lone g left condition so c.is_lone_split.result c.is_lone_split.ensures
