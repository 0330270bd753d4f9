use Rattle.std.proofs.Common.{◌∙◌, sym, ap, length, map}
use Rattle.std.specs.Prelude.{◌==◌}
use Rattle.std.proofs.lemmas.List.{length-map}
use Rattle.kp_kore.specs.View.{view}
use Rattle.kp_kore.proofs.Views.{list_of_patterns}
use Rattle.kp_rule_reading.proofs.parts_read.is_one.Goals as goal

pub returns : goal.returns
returns c = ap (λ n. n == 1) (sym (ap length (list_of_patterns (map view c.args.patterns.now)) ∙ length-map c.args.patterns.now view))
