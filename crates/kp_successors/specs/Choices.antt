-- The pattern that follows a rule with new variables or an ensured condition.
-- Source: the K framework's Kore language (new variables, \exists and ensures of a right side).
use Rattle.std.specs.Prelude.{◌≡◌, Bool, true, false, not, ◌&&◌, List, [], ◌∷◌, ◌++◌, map}
use Rattle.std.specs.List.{filter, AllByRecursion}
use Rattle.kp_kore.specs.Syntax.{Text, KoreSort, KorePattern, variable, top, conjunction, equals, next_pattern}
use Rattle.kp_kore.specs.Parts.{SortedName, free_variables}
use Rattle.kp_kore.specs.Signature.{KoreSignature}
use Rattle.kp_kore.specs.View.{patterns_of}
use Rattle.kp_kore.specs.Instance.{Valuation, is_named}
use Rattle.kp_kore.specs.Rules.{Rewrite}
use Rattle.kp_rules.specs.Bodies.{IsConstrained}
use Rattle.kp_rules.specs.Known.{is_among, free_beside, are_known}
use Rattle.kp_compile.specs.Spelled.{IsSpellingOf}
use Rattle.kp_pattern_substitution.specs.Substitution.{ReplacedName, substituted, is_replaced}

-- \equals{T,S}(x:T, x:T): nothing but that x stands for a value of its sort
abbrev pub equal_to_itself : KoreSort → SortedName → KorePattern
equal_to_itself s x = equals x.sort s (variable x.name x.sort) (variable x.name x.sort)

abbrev pub is_top : KorePattern → Bool
is_top (top s) = true
is_top _ = false

-- a term alone, or beside predicates
abbrev pub constrained_by : KoreSort → KorePattern → List KorePattern → KorePattern
constrained_by s t [] = t
constrained_by s t (q ∷ qs) = conjunction s (next_pattern t (patterns_of (q ∷ qs)))

-- the new variables that stand neither in a term nor in predicates
abbrev pub unused : KorePattern → List KorePattern → List SortedName → List SortedName
unused t qs = filter (λ x. not (is_among x (free_beside t qs)))

-- the ensured condition but for each \top, with the terms put in
abbrev pub ensured_with : List ReplacedName → List KorePattern → List KorePattern
ensured_with rs qs = map (substituted rs) (filter (λ q. not (is_top q)) qs)

-- the right term t with the terms put in, its new variables free, beside the ensured condition; each new variable that
-- stands in neither is kept by its equality with itself
abbrev pub chosen_pattern : KoreSort → List ReplacedName → KorePattern → List KorePattern → List SortedName → KorePattern
chosen_pattern s rs t qs new = constrained_by s (substituted rs t) (ensured_with rs qs ++ map (equal_to_itself s) (unused t qs new))

-- ---- what is put in

-- the terms are for the names of the left variables that aren't new
abbrev pub AreNamed : List SortedName → List SortedName → List ReplacedName → Type 0
AreNamed left new rs = (x : Text) → is_replaced rs x ≡ (is_named x left && not (is_named x new))

-- they spell what the valuation has for their names
abbrev pub SpellUnder : KoreSignature → Valuation → List ReplacedName → Type 0
SpellUnder g v = AllByRecursion (λ r. IsSpellingOf g (v r.name) r.term)

-- a right side of a term and predicates over known variables, and terms for those of the left term
pub record IsPutIn (m : Rewrite) (rs : List ReplacedName) : Type 0 where
  pub constrained : IsConstrained m
  pub names : AreNamed (free_variables m.left) m.new_variables rs
  pub known : are_known (free_variables m.left) m.new_variables m.right m.ensured ≡ true
