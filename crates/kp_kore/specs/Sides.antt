-- Why two patterns can't be compared by implies: by their form alone.
-- Source: the K Haskell backend's JSON-RPC documentation (implies, its error code 4); this project's order.
use Rattle.std.specs.Prelude.{◌≡◌, Bool, not, ◌&&◌, ◌||◌, Option, Some, None, [], ◌∷◌, ◌++◌}
use Rattle.std.specs.List.{find, flat_map, list_any}
use Rattle.std.specs.Option.{option_map}
use Rattle.std.specs.Str.{bytes_eq}
use Rattle.kp_kore.specs.Syntax.{Text, KoreSort, KorePattern}
use Rattle.kp_kore.specs.Parts.{SortedName, free_variables}
use Rattle.kp_kore.specs.Attributes.{sorts_equal}
use Rattle.kp_kore.specs.Signature.{KoreSignature}
use Rattle.kp_kore.specs.Sorting.{sort_of_term}
use Rattle.kp_kore.specs.Instance.{is_named, conjoined_terms}
use Rattle.kp_kore.specs.Rules.{top_binders, under_binders}

-- a variable that the consequent binds stands nowhere in its term: the first such
abbrev pub first_unused : KorePattern → Option Text
first_unused c = option_map (λ x. x.name) (find (λ x. not (is_named x.name (flat_map free_variables (conjoined_terms (under_binders c))))) (top_binders c))

-- the side has one term, of this sort
pub record HasOneTerm (g : KoreSignature) (s : KoreSort) (p : KorePattern) : Type 0 where
  pub term : KorePattern
  pub alone : conjoined_terms p ≡ term ∷ []
  pub is_sort : sort_of_term g term ≡ Some s

-- both sides have one term, of one sort
abbrev pub HaveOneTermEach : KoreSignature → KorePattern → KorePattern → Type 0
HaveOneTermEach g a c = (s : KoreSort) × HasOneTerm g s a × HasOneTerm g s (under_binders c)

-- a free variable has the name of another at another sort, or that of a bound one
abbrev pub is_unclear : KorePattern → KorePattern → SortedName → Bool
is_unclear a c x = list_any (λ y. bytes_eq x.name y.name && not (sorts_equal x.sort y.sort)) (free_variables a ++ free_variables c) || is_named x.name (top_binders c)

abbrev pub first_unclear : KorePattern → KorePattern → Option Text
first_unclear a c = option_map (λ x. x.name) (find (is_unclear a c) (free_variables a ++ free_variables c))

pub data SidesFault : Type 0 where
  unused_binder : Text → SidesFault
  other_terms : SidesFault
  unclear_name : Text → SidesFault

-- the first fault of the two sides, in this order
abbrev pub IsSidesFault : KoreSignature → KorePattern → KorePattern → SidesFault → Type 0
IsSidesFault g a c (unused_binder n) = first_unused c ≡ Some n
IsSidesFault g a c other_terms = (first_unused c ≡ None) × ¬ HaveOneTermEach g a c
IsSidesFault g a c (unclear_name n) = (first_unused c ≡ None) × HaveOneTermEach g a c × (first_unclear a c ≡ Some n)
