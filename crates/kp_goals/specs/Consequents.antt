-- The consequent of an implication: its term, what it asks, and the variables that it binds.
-- Source: the K Haskell backend's JSON-RPC documentation (implies: the consequent under \exists).
use Rattle.std.specs.Prelude.{◌≡◌, List, [], ◌∷◌, ◌++◌}
use Rattle.kp_kore.specs.Syntax.{KorePattern}
use Rattle.kp_kore.specs.Parts.{SortedName, free_variables}
use Rattle.kp_kore.specs.Signature.{KoreSignature}
use Rattle.kp_kore.specs.Instance.{conjoined_terms, conjoined_predicates}
use Rattle.kp_kore.specs.Rules.{top_binders, under_binders}
use Rattle.kp_symbolic.specs.Terms.{SymbolicTerm}
use Rattle.kp_symbolic.specs.States.{SymbolicState}
use Rattle.kp_symbolic.specs.Folding.{folded}
use Rattle.kp_rules.specs.Skeletons.{Form}
use Rattle.kp_overlap.specs.Overlaps.{MeetsForm, term_form}
use Rattle.kp_goals.specs.Loosened.{loosened}

pub record Consequent : Type 0 where
  pub term : SymbolicTerm
  pub predicates : List KorePattern
  pub bound : List SortedName

-- the pattern is read so: its binders off, its term folded, its predicates as they stand
pub record IsConsequent (g : KoreSignature) (c : KorePattern) (k : Consequent) : Type 0 where
  pub pattern : KorePattern
  pub alone : conjoined_terms (under_binders c) ≡ pattern ∷ []
  pub term : k.term ≡ folded g [] pattern
  pub predicates : k.predicates ≡ conjoined_predicates (under_binders c)
  pub bound : k.bound ≡ top_binders c

-- each variable of the term stands for a value of its sort, the same in all its places; a call for any value of its sort
abbrev pub form_of_term : KoreSignature → Consequent → Form
form_of_term g k = term_form g k.term

-- each place for itself
abbrev pub left_of : KoreSignature → Consequent → Form
left_of g k = loosened (form_of_term g k)

-- some value is an instance of both terms, what is asked set apart
abbrev pub MeetsConsequent : KoreSignature → SymbolicState → Consequent → Type 0
MeetsConsequent g s k = MeetsForm g s.sort s.term (form_of_term g k)

-- the state with the free variables of the other side at hand, too
abbrev pub beside : SymbolicState → KorePattern → SymbolicState
beside s c = record { term = s.term; sort = s.sort; clauses = s.clauses; variables = s.variables ++ free_variables c }
