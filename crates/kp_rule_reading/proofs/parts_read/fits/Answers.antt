use Rattle.std.proofs.Common.{◌∙◌}
use Rattle.kp_signature.proofs.Numerals.{parsed}
use Rattle.kp_rule_reading.proofs.parts_read.fits.Goals as goal

pub returns : goal.returns
returns c h = c.is_ok.ensures.value ∙ parsed c.args.text.now c.parse-number.result h c.parse-number.ensures.value.0
