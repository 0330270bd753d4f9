use Rattle.std.proofs.Common.{sym, ◌∙◌, codes}
use Rattle.kp_signature.proofs.SubsortPairs.{other_name, other_sorts, other_arguments}
use Rattle.kp_signature.proofs.subsorts.sorts_marked.Goals as goal
use Rattle.kp_signature.proofs.subsorts.sorts_marked.Goals.{else-eq-via-then-eq+then-sorts-eq2+else-arguments-eq0, else-eq-via-then-eq+else-sorts-eq2, else-eq-via-else-eq}

pub returns-else-eq : goal.returns-else-eq
returns-else-eq c = elim c.else-eq.branch [
  | else-eq-via-then-eq+then-sorts-eq2+else-arguments-eq0 w ↦ sym (other_arguments (codes "subsort") c.args.symbol.now c.args.sorts.now c.args.arguments.now w.if-arguments-eq0.false)
  | else-eq-via-then-eq+else-sorts-eq2 w ↦ sym (other_sorts (codes "subsort") c.args.symbol.now c.args.sorts.now c.args.arguments.now w.if-sorts-eq2.false)
  | else-eq-via-else-eq w ↦ sym (other_name (codes "subsort") c.args.symbol.now c.args.sorts.now c.args.arguments.now (sym c.eq.ensures ∙ w.if-eq.false))
]
