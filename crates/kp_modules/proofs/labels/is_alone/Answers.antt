use Rattle.std.proofs.Common.{◌∙◌}
use Rattle.kp_modules.proofs.Labelled.{told_once, told_none}
use Rattle.kp_modules.proofs.labels.is_alone.Goals as goal

pub returns-in-Some : goal.returns-in-Some
returns-in-Some c names is = told_once c.args.label.now names c.in-Some.alone.now (c.in-Some.ensures.value ∙ is c.args.label.now)

pub returns-in-None : goal.returns-in-None
returns-in-None c names is = told_none c.args.label.now names (c.in-None.ensures.value ∙ is c.args.label.now)
