use Rattle.std.proofs.Common.{◌+◌, ap}
use Rattle.kp_text.proofs.Depths.{left_deeper, right_deeper}
use Rattle.kp_text.proofs.folds.deeper.Goals as goal

pub returns-in-Left-clause-same : goal.returns-in-Left-clause-same
returns-in-Left-clause-same c = λ p q ps long e h. left_deeper c.args.side p q ps c.args.deep c.args.member (c.max.result + 1) c.in-Left.is h e (ap (λ n. n + 1) c.max.ensures)

pub returns-in-Right-clause-same : goal.returns-in-Right-clause-same
returns-in-Right-clause-same c = λ p q ps long e h. right_deeper c.args.side p q ps c.args.others c.args.deep c.args.member c.max-in-Right.result c.in-Right.is h long e c.max-in-Right.ensures
