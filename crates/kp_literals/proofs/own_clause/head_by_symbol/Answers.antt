use Rattle.std.proofs.Common.{rules, ◌≡◌, length}
use Rattle.kp_signature.specs.View.{signature_view}
use Rattle.kp_literals.proofs.CallLemmas.{not_two_asked}
use Rattle.kp_literals.proofs.own_clause.head_by_symbol.Goals as goal
use Rattle.kp_literals.proofs.own_clause.head_by_symbol.Goals.{in_default-via-then-arguments-lt2, in_default-via-else-arguments-lt2+else-arguments-lt3}

pub returns-in_default-clause-view : goal.returns-in_default-clause-view
returns-in_default-clause-view c =
    let other : length c.args.arguments.now ≡ 2 → ⊥ = λ e. elim c.in_default.branch [ in_default-via-then-arguments-lt2 w ↦ search rules | in_default-via-else-arguments-lt2+else-arguments-lt3 w ↦ search rules ] in
    not_two_asked (signature_view c.args.signature.now) c.args.holds c.args.symbol.now c.args.arguments.now other
