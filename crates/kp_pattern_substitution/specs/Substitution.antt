-- Closed terms in the place of variables.
-- Source: matching logic (substitution; binders bind by name). What is put in is closed, so no binder captures it.
use Rattle.std.specs.Prelude.{◌≡◌, Bool, not, List, [], ◌∷◌, if◌then◌else◌, IsTrue}
use Rattle.std.specs.List.{filter, list_any, AllByRecursion}
use Rattle.std.specs.Str.{bytes_eq}
use Rattle.kp_kore.specs.Syntax.{Text, KoreSort, KorePattern, KorePatterns, variable, set_variable, application, string_literal, literal, top, bottom, negation, next, conjunction, disjunction, implication, equivalence, rewriting, exists, forall, ceil, floor, equals, membership, mu, nu, no_patterns, next_pattern}
use Rattle.kp_kore.specs.Parts.{is_term, free_variables}
use Rattle.kp_kore.specs.Signature.{KoreSignature}
use Rattle.kp_kore.specs.Instance.{Valuation, assigned, instance}

-- what stands for the variables of a name
pub record ReplacedName : Type 0 where
  pub name : Text
  pub term : KorePattern

-- a variable: the first term for its name, or the variable itself
abbrev pub put_for : List ReplacedName → Text → KoreSort → KorePattern
put_for [] x s = variable x s
put_for (r ∷ rs) x s = if bytes_eq r.name x then r.term else put_for rs x s

-- whether some term stands for the name
abbrev pub is_replaced : List ReplacedName → Text → Bool
is_replaced rs x = list_any (λ r. bytes_eq r.name x) rs

-- those of other names
abbrev pub hiding : Text → List ReplacedName → List ReplacedName
hiding x = filter (λ r. not (bytes_eq r.name x))

-- the pattern with these terms in the places of its free variables
abbrev mutual
  pub substituted : List ReplacedName → KorePattern → KorePattern
  substituted rs (variable x s) = put_for rs x s
  substituted rs (set_variable x s) = set_variable x s
  substituted rs (application f ss ps) = application f ss (all_substituted rs ps)
  substituted rs (string_literal t) = string_literal t
  substituted rs (literal s t) = literal s t
  substituted rs (top s) = top s
  substituted rs (bottom s) = bottom s
  substituted rs (negation s p) = negation s (substituted rs p)
  substituted rs (next s p) = next s (substituted rs p)
  substituted rs (conjunction s ps) = conjunction s (all_substituted rs ps)
  substituted rs (disjunction s ps) = disjunction s (all_substituted rs ps)
  substituted rs (implication s p q) = implication s (substituted rs p) (substituted rs q)
  substituted rs (equivalence s p q) = equivalence s (substituted rs p) (substituted rs q)
  substituted rs (rewriting s p q) = rewriting s (substituted rs p) (substituted rs q)
  substituted rs (exists s x t p) = exists s x t (substituted (hiding x rs) p)
  substituted rs (forall s x t p) = forall s x t (substituted (hiding x rs) p)
  substituted rs (ceil a s p) = ceil a s (substituted rs p)
  substituted rs (floor a s p) = floor a s (substituted rs p)
  substituted rs (equals a s p q) = equals a s (substituted rs p) (substituted rs q)
  substituted rs (membership a s p q) = membership a s (substituted rs p) (substituted rs q)
  substituted rs (mu x s p) = mu x s (substituted rs p)
  substituted rs (nu x s p) = nu x s (substituted rs p)

  pub all_substituted : List ReplacedName → KorePatterns → KorePatterns
  all_substituted rs no_patterns = no_patterns
  all_substituted rs (next_pattern p ps) = next_pattern (substituted rs p) (all_substituted rs ps)

-- the term is closed
pub record IsClosedTerm (p : KorePattern) : Type 0 where
  pub term : IsTrue (is_term p)
  pub closed : free_variables p ≡ []

abbrev pub AreClosed : List ReplacedName → Type 0
AreClosed = AllByRecursion (λ r. IsClosedTerm r.term)

-- the valuation with the instance of each term for its name
abbrev pub with_replaced : KoreSignature → List ReplacedName → Valuation → Valuation
with_replaced g [] v = v
with_replaced g (r ∷ rs) v = assigned (with_replaced g rs v) r.name (instance g v r.term)
