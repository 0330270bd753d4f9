-- A state of one term and predicates, before its equations are solved.
use Rattle.std.specs.Prelude.{List, []}
use Rattle.kp_kore.specs.Syntax.{KoreSort, KorePattern}
use Rattle.kp_kore.specs.Parts.{free_variables}
use Rattle.kp_kore.specs.Signature.{KoreSignature}
use Rattle.kp_symbolic.specs.States.{SymbolicState}
use Rattle.kp_symbolic.specs.Folding.{folded}
use Rattle.kp_symbolic.specs.Clauses.{without_repeats, clauses_of_conjuncts}

-- the pattern's term t and its predicates, at the sort of the term's place
abbrev pub opened_of : KoreSignature → KorePattern → KoreSort → KorePattern → List KorePattern → SymbolicState
opened_of g p s t predicates = record { term = folded g [] t; sort = s; clauses = without_repeats (clauses_of_conjuncts g [] 0 predicates); variables = free_variables p }
