use Rattle.kp_kore.specs.View.{sort_view, names_view}
use Rattle.kp_signature.proofs.AloneLemmas.{other_arguments}
use Rattle.kp_signature.proofs.symbols.goes_across.Goals as goal

pub returns-then-arguments-ne1 : goal.returns-then-arguments-ne1
returns-then-arguments-ne1 c = other_arguments (names_view c.args.parameters.now) c.args.arguments.now (sort_view c.args.result_sort.now) c.if-arguments-ne1.true
