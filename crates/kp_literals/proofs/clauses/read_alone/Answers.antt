use Rattle.std.proofs.Common.{sym, subst, List, [], ◌∷◌, ◌++◌}
use Rattle.kp_signature.specs.View.{signature_view}
use Rattle.kp_literals.specs.Unknowns.{IsClauseOfKind}
use Rattle.kp_literals.specs.declared.reading.ReadLiteral.{ReadLiteral}
use Rattle.kp_literals.proofs.clauses.read_alone.Goals as goal

pub returns-clause-kinds : goal.returns-clause-kinds
returns-clause-kinds c =
    let g = signature_view c.args.signature.now in
    let one = c.read.ensures.kinds g c.in_ok-form.ensures.kinds in
    subst (IsClauseOfKind g) (sym c.in_ok-push.ensures.items) (subst (λ (ls : List ReadLiteral). IsClauseOfKind g (ls ++ c.read.result ∷ [])) (sym c.new-found.ensures.items) (one, tt))
