-- Terms, forms, predicates and atoms in which a constructor doesn't stand.
-- Source: this project.
use Rattle.std.specs.Prelude.{◌≡◌, ⊤, List}
use Rattle.std.specs.List.{AllByRecursion}
use Rattle.kp_kore.specs.Syntax.{Text, KorePattern, KorePatterns, application, negation, conjunction, disjunction, implication, equivalence, exists, forall, ceil, floor, equals, membership, no_patterns, next_pattern}
use Rattle.kp_kore.specs.Value.{Value, constructed, Values, no_values, next_value}
use Rattle.kp_symbolic.specs.Terms.{SymbolicTerm, known, headed, SymbolicTerms, no_terms, next_term, Replaced}
use Rattle.kp_symbolic.specs.States.{Atom, same, has_head, quoted, Literal}
use Rattle.kp_rules.specs.Skeletons.{Form, fixed, built, Forms, no_forms, next_form}

abbrev mutual
  pub AvoidsValue : Text → Value → Type 0
  AvoidsValue f (constructed c us) = (¬ (c ≡ f)) × AvoidValues f us
  AvoidsValue f u = ⊤

  pub AvoidValues : Text → Values → Type 0
  AvoidValues f no_values = ⊤
  AvoidValues f (next_value u us) = AvoidsValue f u × AvoidValues f us

abbrev mutual
  pub AvoidsTerm : Text → SymbolicTerm → Type 0
  AvoidsTerm f (known u) = AvoidsValue f u
  AvoidsTerm f (headed h ts) = (¬ (h ≡ f)) × AvoidTerms f ts
  AvoidsTerm f t = ⊤

  pub AvoidTerms : Text → SymbolicTerms → Type 0
  AvoidTerms f no_terms = ⊤
  AvoidTerms f (next_term t ts) = AvoidsTerm f t × AvoidTerms f ts

abbrev mutual
  pub AvoidsForm : Text → Form → Type 0
  AvoidsForm f (fixed u) = AvoidsValue f u
  AvoidsForm f (built c ks) = (¬ (c ≡ f)) × AvoidForms f ks
  AvoidsForm f k = ⊤

  pub AvoidForms : Text → Forms → Type 0
  AvoidForms f no_forms = ⊤
  AvoidForms f (next_form k ks) = AvoidsForm f k × AvoidForms f ks

-- in a predicate, also where it is bound over
abbrev mutual
  pub AvoidsPattern : Text → KorePattern → Type 0
  AvoidsPattern f (application h ss ps) = (¬ (h ≡ f)) × AvoidPatterns f ps
  AvoidsPattern f (negation s p) = AvoidsPattern f p
  AvoidsPattern f (conjunction s ps) = AvoidPatterns f ps
  AvoidsPattern f (disjunction s ps) = AvoidPatterns f ps
  AvoidsPattern f (implication s p q) = AvoidsPattern f p × AvoidsPattern f q
  AvoidsPattern f (equivalence s p q) = AvoidsPattern f p × AvoidsPattern f q
  AvoidsPattern f (exists s x t p) = AvoidsPattern f p
  AvoidsPattern f (forall s x t p) = AvoidsPattern f p
  AvoidsPattern f (ceil a s p) = AvoidsPattern f p
  AvoidsPattern f (floor a s p) = AvoidsPattern f p
  AvoidsPattern f (equals a s p q) = AvoidsPattern f p × AvoidsPattern f q
  AvoidsPattern f (membership a s p q) = AvoidsPattern f p × AvoidsPattern f q
  AvoidsPattern f p = ⊤

  pub AvoidPatterns : Text → KorePatterns → Type 0
  AvoidPatterns f no_patterns = ⊤
  AvoidPatterns f (next_pattern p ps) = AvoidsPattern f p × AvoidPatterns f ps

abbrev pub PutAvoids : Text → List Replaced → Type 0
PutAvoids f = AllByRecursion (λ r. AvoidsTerm f r.term)

-- a test of heads has no term; of a quoted predicate these are the terms that are put into it
abbrev pub AvoidsAtom : Text → Atom → Type 0
AvoidsAtom f (same s t u) = AvoidsTerm f t × AvoidsTerm f u
AvoidsAtom f (has_head x test) = ⊤
AvoidsAtom f (quoted p rs) = PutAvoids f rs

abbrev pub ClausesAvoid : Text → List (List Literal) → Type 0
ClausesAvoid f = AllByRecursion (AllByRecursion (λ l. AvoidsAtom f l.atom))
