use Rattle.std.proofs.Common.{ap, ◌∙◌, unsigned_abs}
use Rattle.std.proofs.lemmas.Int.{to_z-of_z}
use Rattle.std.proofs.lemmas.Result.{IfOk-weaker}
use mir.Syntax.{w128}
use Rattle.std.specs.Fmt.{decimal}
use Rattle.kp_outward.proofs.SumLemmas.{digits_added, digits_taken}
use Rattle.kp_outward.proofs.sum.digits_of.Goals as goal

pub returns-clause-added : goal.returns-clause-added
returns-clause-added c = λ h. IfOk-weaker c.to_string.result _ _
    (λ t told. told ∙ ap decimal c.unsigned_abs.ensures.value ∙ ap (λ z. decimal (unsigned_abs z)) (to_z-of_z w128 c.args.constant c.ranges.constant) ∙ digits_added c.args.constant h) c.to_string.ensures.ok

pub returns-clause-taken : goal.returns-clause-taken
returns-clause-taken c = λ h. IfOk-weaker c.to_string.result _ _
    (λ t told. told ∙ ap decimal c.unsigned_abs.ensures.value ∙ ap (λ z. decimal (unsigned_abs z)) (to_z-of_z w128 c.args.constant c.ranges.constant) ∙ digits_taken c.args.constant h) c.to_string.ensures.ok
