use Rattle.std.proofs.Common.{rules, ◌≡◌, length}
use Rattle.kp_signature.specs.View.{signature_view}
use Rattle.kp_solving.proofs.FirstLemmas.{not_alone}
use Rattle.kp_solving.proofs.first_equation.equation_alone.Goals as goal
use Rattle.kp_solving.proofs.first_equation.equation_alone.Goals.{in_default-via-then-clause-lt1, in_default-via-else-clause-lt1+else-clause-lt2}

pub returns-in_default : goal.returns-in_default
returns-in_default c =
    let other : length c.args.clause.now ≡ 1 → ⊥ = λ e. elim c.in_default.branch [ in_default-via-then-clause-lt1 w ↦ search rules | in_default-via-else-clause-lt1+else-clause-lt2 w ↦ search rules ] in
    not_alone (signature_view c.args.signature.now) c.args.clause.now other
