use Rattle.std.proofs.Common.{◌≡◌, ◌++◌, map, drop}
use Rattle.kp_signature.specs.View.{signature_view}
use Rattle.kp_symbolic.specs.Plain.{form_of}
use Rattle.kp_symbolic.specs.View.{literal_view}
use Rattle.kp_literals.specs.Readings.{read_view}
use Rattle.kp_literals.specs.Unknowns.{IsClauseOfKind}
use Rattle.kp_literals.specs.Each.{read_literal}
use Rattle.kp_literals.proofs.clauses.read_each.Given as goal

abbrev pub invariant-loop-literal : goal.invariant-loop-literal
invariant-loop-literal l =
    (map read_view l.found.items ++ map (λ m. read_literal m (form_of (signature_view l.signature) m)) (map literal_view (drop l.literal-index l.literals))
    ≡ map (λ m. read_literal m (form_of (signature_view l.signature) m)) (map literal_view l.literals))
    × IsClauseOfKind (signature_view l.signature) l.found.items
