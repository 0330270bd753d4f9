-- The tree that is written for a sort and for a pattern, with its members in the order of their names.
-- Source: the K framework's Kore JSON, version 1. What it has no tag for (set variables, string patterns, \next,
-- \mu, \nu) has no tree, nor has \and or \or of fewer than two patterns, which a list of so few doesn't spell.
use Rattle.std.specs.Prelude.{List, [], ◌∷◌, Option, Some, None, codes}
use Rattle.std.specs.Option.{option_map, option_and_then}
use Rattle.serde_json.specs.Data.{Data, string, number, unsigned, array, Items, no_items, item, Members, put}
use Rattle.kp_kore.specs.Syntax.{Text, KoreSort, sort_of, sort_variable, KoreSorts, no_sorts, next_sort, KorePattern, KorePatterns, variable, application, literal, top, bottom, negation, conjunction, disjunction, implication, equivalence, rewriting, exists, forall, ceil, floor, equals, membership, no_patterns, next_pattern}
use Rattle.kp_json.specs.Members.{object_of}

-- the object with a tag and these other members
abbrev pub tagged : Text → List (Text × Data) → Data
tagged tag ms = object_of ((codes "tag", string tag) ∷ ms)

abbrev mutual
  pub sort_tree : KoreSort → Data
  sort_tree (sort_of name ss) = tagged (codes "SortApp") ((codes "name", string name) ∷ (codes "args", array (sort_trees ss)) ∷ [])
  sort_tree (sort_variable name) = tagged (codes "SortVar") ((codes "name", string name) ∷ [])

  pub sort_trees : KoreSorts → Items
  sort_trees no_sorts = no_items
  sort_trees (next_sort s ss) = item (sort_tree s) (sort_trees ss)

-- a sort's member, and a member of any tree
abbrev pub sort_member : KoreSort → Text × Data
sort_member s = (codes "sort", sort_tree s)

-- the members with a sort's more
abbrev pub with_sort : Text → KoreSort → Members → Members
with_sort key s ms = put key (sort_tree s) ms

-- the tree of a quantifier: its tag, its sort, the variable's name and sort, and one tree
abbrev pub quantifier_tree : Text → KoreSort → Text → KoreSort → Data → Data
quantifier_tree tag s x t d = tagged tag (sort_member s ∷ (codes "var", string x) ∷ (codes "varSort", sort_tree t) ∷ (codes "arg", d) ∷ [])

-- the tree of a comparison, \equals or \in: its tag, its argument's sort and its own, and two trees
abbrev pub comparison_tree : Text → KoreSort → KoreSort → Data → Data → Data
comparison_tree tag a s d e = tagged tag ((codes "argSort", sort_tree a) ∷ sort_member s ∷ (codes "first", d) ∷ (codes "second", e) ∷ [])

abbrev pub one_part : (Data → Data) → Option Data → Option Data
one_part make p = option_map make p

abbrev pub one_list : (Items → Data) → Option Items → Option Data
one_list make ps = option_map make ps

abbrev pub first_and_rest : Option Data → Option Items → Option Items
first_and_rest p ps = option_and_then (λ d. option_map (item d) ps) p

abbrev pub two_parts : (Data → Data → Data) → Option Data → Option Data → Option Data
two_parts make p q = option_and_then (λ d. option_map (make d) q) p

-- the trees of two patterns or more; none of fewer
abbrev pub of_two_or_more : KorePatterns → Option Items → Option Items
of_two_or_more (next_pattern p (next_pattern q ps)) trees = trees
of_two_or_more ps trees = None

abbrev mutual
  pub pattern_tree : KorePattern → Option Data
  pattern_tree (variable x s) = Some (tagged (codes "EVar") ((codes "name", string x) ∷ sort_member s ∷ []))
  pattern_tree (application f ss ps) = one_list (λ ds. tagged (codes "App") ((codes "name", string f) ∷ (codes "sorts", array (sort_trees ss)) ∷ (codes "args", array ds) ∷ [])) (pattern_trees ps)
  pattern_tree (literal s text) = Some (tagged (codes "DV") (sort_member s ∷ (codes "value", string text) ∷ []))
  pattern_tree (top s) = Some (tagged (codes "Top") (sort_member s ∷ []))
  pattern_tree (bottom s) = Some (tagged (codes "Bottom") (sort_member s ∷ []))
  pattern_tree (negation s p) = one_part (λ d. tagged (codes "Not") (sort_member s ∷ (codes "arg", d) ∷ [])) (pattern_tree p)
  pattern_tree (conjunction s ps) = one_list (λ ds. tagged (codes "And") (sort_member s ∷ (codes "patterns", array ds) ∷ [])) (of_two_or_more ps (pattern_trees ps))
  pattern_tree (disjunction s ps) = one_list (λ ds. tagged (codes "Or") (sort_member s ∷ (codes "patterns", array ds) ∷ [])) (of_two_or_more ps (pattern_trees ps))
  pattern_tree (implication s p q) = two_parts (λ d e. tagged (codes "Implies") (sort_member s ∷ (codes "first", d) ∷ (codes "second", e) ∷ [])) (pattern_tree p) (pattern_tree q)
  pattern_tree (equivalence s p q) = two_parts (λ d e. tagged (codes "Iff") (sort_member s ∷ (codes "first", d) ∷ (codes "second", e) ∷ [])) (pattern_tree p) (pattern_tree q)
  pattern_tree (rewriting s p q) = two_parts (λ d e. tagged (codes "Rewrites") (sort_member s ∷ (codes "source", d) ∷ (codes "dest", e) ∷ [])) (pattern_tree p) (pattern_tree q)
  pattern_tree (exists s x t p) = one_part (λ d. tagged (codes "Exists") (sort_member s ∷ (codes "var", string x) ∷ (codes "varSort", sort_tree t) ∷ (codes "arg", d) ∷ [])) (pattern_tree p)
  pattern_tree (forall s x t p) = one_part (λ d. tagged (codes "Forall") (sort_member s ∷ (codes "var", string x) ∷ (codes "varSort", sort_tree t) ∷ (codes "arg", d) ∷ [])) (pattern_tree p)
  pattern_tree (ceil a s p) = one_part (λ d. tagged (codes "Ceil") ((codes "argSort", sort_tree a) ∷ sort_member s ∷ (codes "arg", d) ∷ [])) (pattern_tree p)
  pattern_tree (floor a s p) = one_part (λ d. tagged (codes "Floor") ((codes "argSort", sort_tree a) ∷ sort_member s ∷ (codes "arg", d) ∷ [])) (pattern_tree p)
  pattern_tree (equals a s p q) = two_parts (λ d e. tagged (codes "Equals") ((codes "argSort", sort_tree a) ∷ sort_member s ∷ (codes "first", d) ∷ (codes "second", e) ∷ [])) (pattern_tree p) (pattern_tree q)
  pattern_tree (membership a s p q) = two_parts (λ d e. tagged (codes "In") ((codes "argSort", sort_tree a) ∷ sort_member s ∷ (codes "first", d) ∷ (codes "second", e) ∷ [])) (pattern_tree p) (pattern_tree q)
  pattern_tree _ = None

  pub pattern_trees : KorePatterns → Option Items
  pattern_trees no_patterns = Some no_items
  pattern_trees (next_pattern p ps) = first_and_rest (pattern_tree p) (pattern_trees ps)

-- the trees of forms that are alike but for their tag, from the tree of the pattern below, where it has one; of two
-- patterns the first has its tree already
abbrev pub one_tree : Text → KoreSort → Option Data → Option Data
one_tree tag s = one_part (λ d. tagged tag (sort_member s ∷ (codes "arg", d) ∷ []))

abbrev pub bound_tree : Text → KoreSort → Text → KoreSort → Option Data → Option Data
bound_tree tag s x t = one_part (λ d. quantifier_tree tag s x t d)

abbrev pub bracketed_tree : Text → KoreSort → KoreSort → Option Data → Option Data
bracketed_tree tag a s = one_part (λ d. tagged tag ((codes "argSort", sort_tree a) ∷ sort_member s ∷ (codes "arg", d) ∷ []))

abbrev pub list_tree : Text → KoreSort → KorePatterns → Option Data
list_tree tag s ps = one_list (λ ds. tagged tag (sort_member s ∷ (codes "patterns", array ds) ∷ [])) (of_two_or_more ps (pattern_trees ps))

abbrev pub application_tree : Text → KoreSorts → KorePatterns → Option Data
application_tree f ss ps = one_list (λ ds. tagged (codes "App") ((codes "name", string f) ∷ (codes "sorts", array (sort_trees ss)) ∷ (codes "args", array ds) ∷ [])) (pattern_trees ps)

abbrev pub two_tree : Text → KoreSort → Data → Option Data → Option Data
two_tree tag s d = one_part (λ e. tagged tag (sort_member s ∷ (codes "first", d) ∷ (codes "second", e) ∷ []))

abbrev pub rewriting_tree : KoreSort → Data → Option Data → Option Data
rewriting_tree s d = one_part (λ e. tagged (codes "Rewrites") (sort_member s ∷ (codes "source", d) ∷ (codes "dest", e) ∷ []))

abbrev pub compared_tree : Text → KoreSort → KoreSort → Data → Option Data → Option Data
compared_tree tag a s d = one_part (λ e. comparison_tree tag a s d e)

-- {"format":"KORE","term":T,"version":1}
abbrev pub wrapped : Data → Data
wrapped tree = object_of ((codes "format", string (codes "KORE")) ∷ (codes "version", number (unsigned 1)) ∷ (codes "term", tree) ∷ [])

abbrev pub wrapped_pattern : KorePattern → Option Data
wrapped_pattern p = option_map wrapped (pattern_tree p)
