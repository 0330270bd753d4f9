use Rattle.std.proofs.Common.{rules, ◌≡◌, subst, ◌++◌, List, map, length, IfOk}
use Rattle.kp_signature.specs.View.{signature_view}
use Rattle.kp_symbolic.specs.Plain as model
use Rattle.kp_symbolic.specs.View.{clauses_view, state_view}
use Rattle.kp_literals.specs.Readings.{read_view}
use Rattle.kp_literals.proofs.ReadLemmas.{not_alone}
use Rattle.kp_literals.proofs.clauses.read_clause.Goals as goal
use Rattle.kp_literals.proofs.clauses.read_clause.Goals.{in_default-via-then-clause-lt1, in_default-via-else-clause-lt1+else-clause-lt2}

pub returns-in_default-clause-view : goal.returns-in_default-clause-view
returns-in_default-clause-view c =
    let other : length c.args.clause.now ≡ 1 → ⊥ = λ e. elim c.in_default.branch [ in_default-via-then-clause-lt1 w ↦ search rules | in_default-via-else-clause-lt1+else-clause-lt2 w ↦ search rules ] in
    subst (λ (ms : List model.ReadLiteral). IfOk c.read_each.result (λ found. map read_view found.items ≡ ms))
    (not_alone (signature_view c.args.signature.now) (state_view c.args.state.now) (clauses_view c.args.before.now ++ clauses_view c.args.after.now) c.args.clause.now other)
    c.read_each.ensures.view
