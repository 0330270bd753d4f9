use Rattle.std.proofs.Common.{◌∷◌, ◌++◌}
use Rattle.kp_kore.specs.Division.{NoneOf}
use Rattle.kp_kore.specs.Steps.{Fires}
use Rattle.kp_case_laws.proofs.PartLemmas.{divides_further_where, divides_of_these}
use Rattle.kp_case_laws.proofs.cases.rules_are_excluded_one_by_one.Goals as goal

pub returns : goal.returns
returns c = λ g bodies body s p ps qs rs d e. divides_of_these g (λ u. NoneOf g bodies u × (¬ Fires g body u)) (NoneOf g (body ∷ bodies)) s (ps ++ (rs ++ qs)) (λ u n. (n.1, n.0)) (divides_further_where g (NoneOf g bodies) (λ u. ¬ Fires g body u) s p ps qs rs d e)
