use Rattle.std.proofs.Common.{sym, subst}
use Rattle.std.specs.List.{AllByRecursion}
use Rattle.kp_compile.specs.Parts.{seen}
use Rattle.kp_kore.specs.View.{view}
use Rattle.kp_symbolic.specs.Faultless.{IsFaultless}
use Rattle.kp_symbolic.specs.Languages.{language_view}
use Rattle.kp_formulas.proofs.FaultlessLemmas.{handed}
use Rattle.kp_clauses.proofs.FaultlessLemmas.{of_conjuncts}
use Rattle.kp_clauses.proofs.conjunct.clauses_of.Goals as goal

pub returns-clause-refused : goal.returns-clause-refused
returns-clause-refused c =
    let g = language_view c.args.language.now in
    handed c.clauses_of_all.result (λ faultless. subst (λ ps. AllByRecursion (IsFaultless g) (seen ps)) (sym c.deref.ensures.value)
    (of_conjuncts g (view c.args.pattern.now) (seen c.in_ok-predicates.predicates.items) c.in_ok-predicates.ensures faultless)) c.clauses_of_all.ensures.refused
