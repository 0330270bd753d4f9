use Rattle.std.proofs.Common.{rules, ◌≡◌}
use Rattle.std.specs.Prelude.{string_bytes}
use Rattle.kp_kore.specs.Syntax.{variable}
use Rattle.kp_kore.specs.View.{view, sort_view}
use Rattle.kp_kore.specs.declared.pattern.Pattern.{the_lemmas}
use Rattle.kp_signature.specs.View.{signature_view}
use Rattle.kp_rule_reading.proofs.LoneVariables.{lone_by}
use Rattle.kp_rule_reading.proofs.lone.is_lone_split.Goals as goal

pub returns-in-Variable : goal.returns-in-Variable
returns-in-Variable c =
    let x = string_bytes c.in-Variable.name in
    let t = sort_view c.in-Variable.sort in
    let seen : view c.args.left.now ≡ variable x t = search (rules, the_lemmas, c.in-Variable.is) in
    lone_by (signature_view c.args.signature.now) (view c.args.left.now) x t seen c.sort_splits.result c.sort_splits.ensures
