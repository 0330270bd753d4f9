use Rattle.std.proofs.Common.{◌∙◌, ap, ◌++◌, string_bytes}
use Rattle.std.specs.Prelude.{codes}
use Rattle.std.specs.Fmt.{signed_decimal}
use Rattle.std.proofs.lemmas.Int.{to_z-of_z}
use mir.Syntax.{w64}
use Rattle.kp_report.proofs.report.refused_line.Goals as goal

pub returns : goal.returns
returns c =
    c.in_ok-refused_text.ensures ∙ ap (λ d. codes "refused " ++ string_bytes c.args.label.now ++ codes " code " ++ d ++ codes "\n")
    (c.in_ok-code.ensures ∙ ap signed_decimal (to_z-of_z w64 c.args.code c.ranges.code))
