use Rattle.std.proofs.Common.{arith}
use Rattle.kp_kore.specs.View.{patterns_view}
use Rattle.kp_json.specs.Written.{pattern_trees}
use Rattle.kp_json.proofs.Writes.{two_kept, none_of_fewer}
use Rattle.kp_json.proofs.write.check_two.Goals as goal

pub returns-in_default-clause-fewer : goal.returns-in_default-clause-fewer
returns-in_default-clause-fewer c = λ e. none_of_fewer c.args.patterns.now (pattern_trees (patterns_view c.args.patterns.now)) (omega (arith, c.in_default.len_below))

pub returns-in-len2-up-clause-enough : goal.returns-in-len2-up-clause-enough
returns-in-len2-up-clause-enough c = two_kept c.args.patterns.now (pattern_trees (patterns_view c.args.patterns.now)) c.in-len2-up.len_at_least
