use Rattle.kp_signature.specs.View.{signature_view}
use Rattle.kp_literals.specs.Readings.{clauses_view}
use Rattle.kp_satisfiability.proofs.heads.may_have_head.Goals as goal

pub returns-then-is_asked : goal.returns-then-is_asked
returns-then-is_asked c = λ before. (
  (λ t. c.is_asked.ensures (signature_view c.args.signature.now) (clauses_view c.args.clauses.now) before t),
  (λ h. c.if-is_asked.true),
)
