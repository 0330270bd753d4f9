use Rattle.std.proofs.Common.{rules}
use Rattle.kp_rules.proofs.InjectLemmas.{not_one}
use Rattle.kp_rules.proofs.inject.is_one_variable.Goals as goal

pub returns-then-patterns-ne1 : goal.returns-then-patterns-ne1
returns-then-patterns-ne1 c = not_one c.args.patterns.now (search rules)
