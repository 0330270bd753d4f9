use Rattle.std.proofs.Common.{◌∙◌, ap₂}
use Rattle.std.proofs.lemmas.Result.{IfOk-weaker}
use Rattle.kp_signature.specs.Alone.{none_but_own}
use Rattle.kp_signature.specs.Table.{table_view}
use Rattle.kp_signature.proofs.AloneLemmas.{truths_told, integers_are, booleans_are}
use Rattle.kp_signature.proofs.declarations.Declarations.truths_stand_alone.Goals as goal

pub returns : goal.returns
returns c =
    let g = table_view c.args.self.now.table in
    IfOk-weaker c.stand_alone.result _ _
    (λ b e. e ∙ ap₂ (none_but_own g) (booleans_are g c.args.self.now.booleans c.args.self.now.booleans_named) (integers_are g c.args.self.now.integers c.args.self.now.integers_named) ∙ truths_told g)
    c.stand_alone.ensures
