-- Claims as a claims file states them: with variables and predicates, as circularities, and with dependencies.
-- Source: claims of the K framework as kompile writes them (weakAlwaysFinally over all paths, the attributes label,
-- circularity and depends); pyk's APRProof (dependencies, circularities).
use Rattle.std.specs.Prelude.{◌≡◌, ℕ, Bool, true, false, not, ◌&&◌, ◌==◌, List, [], ◌∷◌, ◌++◌, map, Option, Some, None, if◌then◌else◌, codes, MatchBool}
use Rattle.std.specs.List.{flat_map, list_any, list_all}
use Rattle.std.specs.Option.{option_map, is_some}
use Rattle.std.specs.Str.{bytes_eq}
use Rattle.kp_kore.specs.Syntax.{Text, KorePattern, KorePatterns, exists, forall, Statement, KoreSentence, import_sentence, sort_sentence, symbol_sentence, alias_sentence, axiom_sentence, claim_sentence}
use Rattle.kp_kore.specs.Attributes.{has_mark, text_of}
use Rattle.kp_kore.specs.Parts.{subpatterns, free_variables}
use Rattle.kp_kore.specs.Instance.{is_named, conjoined_terms}
use Rattle.kp_kore.specs.Rules.{new_variables_of, under_binders}
use Rattle.kp_kore.specs.ClaimModules.{SortedClaim}
use Rattle.kp_claims.specs.Claims.{ClaimSides, sides_of, has_attribute, is_without_parameters, label_of}

-- ---- dependencies

-- a character before the first of these
abbrev pub onto_first : ℕ → List Text → List Text
onto_first c [] = (c ∷ []) ∷ []
onto_first c (t ∷ ts) = (c ∷ t) ∷ ts

-- what stands between the commas of a text: one part where there is none
abbrev pub comma_parts : Text → List Text
comma_parts [] = [] ∷ []
comma_parts (c ∷ cs) = if c == 44 then [] ∷ comma_parts cs else onto_first c (comma_parts cs)

-- the labels of depends{}("L,M"); none without that attribute, and None where it has no text
abbrev pub dependencies_of : KorePatterns → Option (List Text)
dependencies_of attributes = if has_attribute (codes "depends") attributes then option_map comma_parts (text_of (codes "depends") attributes) else Some []

-- ---- names

abbrev pub bound_at : KorePattern → List Text
bound_at (exists s x t p) = x ∷ []
bound_at (forall s x t p) = x ∷ []
bound_at _ = []

-- the names that \exists and \forall bind, at any place
abbrev pub bound_names : KorePattern → List Text
bound_names p = flat_map bound_at (subpatterns p)

-- none of the second list is in the first, or stands twice
abbrev pub are_apart : List Text → List Text → Bool
are_apart met [] = true
are_apart met (x ∷ xs) = not (list_any (bytes_eq x) met) && are_apart (met ++ x ∷ []) xs

-- tells whether the name is none of those met: then the rest decides with the name met too, else they aren't apart
abbrev pub TellsNew : List Text → Text → List Text → Bool → Type 0
TellsNew met x rest b = MatchBool b (are_apart (met ++ x ∷ []) rest ≡ are_apart met (x ∷ rest)) (are_apart met (x ∷ rest) ≡ false)

-- no bound variable has the name of another variable
abbrev pub has_clear_names : ClaimSides → Bool
has_clear_names c = are_apart (map (λ x. x.name) (free_variables c.left ++ free_variables c.right)) (bound_names c.left ++ bound_names c.right)

-- where there is one term, each of these variables stands in it
abbrev pub are_in_term : List KorePattern → KorePattern → KorePattern → Bool
are_in_term (t ∷ []) left right = list_all (λ x. is_named x.name (free_variables t)) (new_variables_of left right)
are_in_term _ left right = true

-- the right side's own variables, bound by \exists or not, stand in its term
abbrev pub has_chosen_in_term : ClaimSides → Bool
has_chosen_in_term c = are_in_term (conjoined_terms (under_binders c.right)) c.left c.right

-- ---- what is read

abbrev pub if_clear : Option ClaimSides → Option ClaimSides
if_clear None = None
if_clear (Some c) = if has_clear_names c && has_chosen_in_term c then Some c else None

-- the sides of a claim without sort parameters, whose depends has a text and whose names are clear
abbrev pub clear_sides : Statement → Option ClaimSides
clear_sides s = if is_without_parameters s.parameters && is_some (dependencies_of s.attributes) then if_clear (sides_of s.pattern) else None

-- a claim with its label, whether it is its own circularity, and the labels that it depends on
pub record StatedClaim : Type 0 where
  pub label : Text
  pub pattern : KorePattern
  pub claim : SortedClaim
  pub circular : Bool
  pub depends : List Text

-- the claim that a statement makes
pub record IsStatedAs (s : Statement) (c : StatedClaim) : Type 0 where
  pub label : label_of s.attributes ≡ Some c.label
  pub pattern : c.pattern ≡ s.pattern
  pub sides : sides_of s.pattern ≡ Some (record { sort = c.claim.sort; left = c.claim.claim.left; right = c.claim.claim.right })
  pub circular : c.circular ≡ has_mark (codes "circularity") s.attributes
  pub depends : dependencies_of s.attributes ≡ Some c.depends

-- the same of a sentence; sentences of other kinds make none
abbrev pub IsStatedBy : KoreSentence → StatedClaim → Type 0
IsStatedBy (claim_sentence s) c = IsStatedAs s c
IsStatedBy (import_sentence n as_) c = ⊥
IsStatedBy (sort_sentence d) c = ⊥
IsStatedBy (symbol_sentence d) c = ⊥
IsStatedBy (alias_sentence d) c = ⊥
IsStatedBy (axiom_sentence s) c = ⊥
