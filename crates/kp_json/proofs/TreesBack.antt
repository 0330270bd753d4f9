-- The tree that is written of a pattern spells no other pattern.
use Rattle.std.proofs.Common.{◌≡◌, ℕ, zero, suc, [], ◌∷◌, Option, Some, None, option_map, refl, sym, ap, ◌∙◌, subst}
use Rattle.std.specs.Prelude.{codes}
use Rattle.serde_json.specs.Data.{Data, null, boolean, number, string, array, object, Items, no_items, item, Members}
use Rattle.kp_kore.specs.Syntax.{Text, KoreSort, KoreSorts, KorePattern, variable, set_variable, application, string_literal, literal, top, bottom, negation, next, conjunction, disjunction, implication, equivalence, rewriting, exists, forall, ceil, floor, equals, membership, mu, nu, KorePatterns, no_patterns, next_pattern}
use Rattle.kp_json.specs.Members.{members_of}
use Rattle.kp_json.specs.Faults.{read, pattern_within, wrapped_reading}
use Rattle.kp_json.specs.Trees.{SpellsWrapped, most_patterns}
use Rattle.kp_json.specs.Written.{sort_tree, sort_trees, sort_member, one_part, one_list, first_and_rest, two_parts, pattern_tree, pattern_trees, wrapped, wrapped_pattern}
use Rattle.kp_json.proofs.Complete.{wrapped_complete}
use Rattle.kp_json.proofs.Sound.{gives_fault}
use Rattle.kp_json.proofs.PartsBack.{Only, IsOnly, AreOnly, variable_only, literal_only, top_only, bottom_only, application_only, conjunction_only}
use Rattle.kp_json.proofs.FormsBack.{negation_only, exists_only, forall_only, ceil_only, floor_only, implication_only, equivalence_only, rewriting_only, equals_only, membership_only, disjunction_only}

-- ---- one level of a form

object_is : (x : Data) (o m : Members) → Some (object m) ≡ Some x → x ≡ object o → m ≡ o
object_is x o m e h = let same : Some (object m) ≡ Some (object o) = e ∙ ap Some h in cc same

-- what is read of the written members is read of the tree
level : (n : ℕ) (p : KorePattern) (m : Members) (d : Data) → ((k : ℕ) → Only (pattern_within (suc k) m) p) → Some (object m) ≡ Some d → IsOnly n d p
level zero p m d only e o h = gives_fault _ _
level (suc k) p m d only e o h = subst (λ x. Only (pattern_within (suc k) x) p) (object_is d o m e h) (only k)

one_level : (n : ℕ) (r : KorePattern) (make : Data → Members) (x : Option Data) (d : Data) → ((k : ℕ) (c : Data) → x ≡ Some c → Only (pattern_within (suc k) (make c)) r) → one_part (λ c. object (make c)) x ≡ Some d → IsOnly n d r
one_level n r make None d only e = absurd (cc e)
one_level n r make (Some c) d only e = level n r (make c) d (λ k. only k c refl) e

list_level : (n : ℕ) (r : KorePattern) (make : Items → Members) (x : Option Items) (d : Data) → ((k : ℕ) (cs : Items) → x ≡ Some cs → Only (pattern_within (suc k) (make cs)) r) → one_list (λ cs. object (make cs)) x ≡ Some d → IsOnly n d r
list_level n r make None d only e = absurd (cc e)
list_level n r make (Some cs) d only e = level n r (make cs) d (λ k. only k cs refl) e

two_level : (n : ℕ) (r : KorePattern) (make : Data → Data → Members) (x y : Option Data) (d : Data) → ((k : ℕ) (b c : Data) → x ≡ Some b → y ≡ Some c → Only (pattern_within (suc k) (make b c)) r)
    → two_parts (λ b c. object (make b c)) x y ≡ Some d → IsOnly n d r
two_level n r make None y d only e = absurd (cc e)
two_level n r make (Some b) None d only e = absurd (cc e)
two_level n r make (Some b) (Some c) d only e = level n r (make b c) d (λ k. only k b c refl refl) e

-- ---- the members that are written of a form

abbrev variable_members : Text → KoreSort → Members
variable_members x s = members_of ((codes "tag", string (codes "EVar")) ∷ (codes "name", string x) ∷ sort_member s ∷ [])

abbrev application_members : Text → KoreSorts → Items → Members
application_members f ss cs = members_of ((codes "tag", string (codes "App")) ∷ (codes "name", string f) ∷ (codes "sorts", array (sort_trees ss)) ∷ (codes "args", array cs) ∷ [])

abbrev literal_members : KoreSort → Text → Members
literal_members s t = members_of ((codes "tag", string (codes "DV")) ∷ sort_member s ∷ (codes "value", string t) ∷ [])

abbrev constant_members : Text → KoreSort → Members
constant_members word s = members_of ((codes "tag", string word) ∷ sort_member s ∷ [])

abbrev negation_members : KoreSort → Data → Members
negation_members s c = members_of ((codes "tag", string (codes "Not")) ∷ sort_member s ∷ (codes "arg", c) ∷ [])

abbrev variadic_members : Text → KoreSort → Items → Members
variadic_members word s cs = members_of ((codes "tag", string word) ∷ sort_member s ∷ (codes "patterns", array cs) ∷ [])

abbrev binary_members : Text → KoreSort → Data → Data → Members
binary_members word s b c = members_of ((codes "tag", string word) ∷ sort_member s ∷ (codes "first", b) ∷ (codes "second", c) ∷ [])

abbrev rewriting_members : KoreSort → Data → Data → Members
rewriting_members s b c = members_of ((codes "tag", string (codes "Rewrites")) ∷ sort_member s ∷ (codes "source", b) ∷ (codes "dest", c) ∷ [])

abbrev quantifier_members : Text → KoreSort → Text → KoreSort → Data → Members
quantifier_members word s x t c = members_of ((codes "tag", string word) ∷ sort_member s ∷ (codes "var", string x) ∷ (codes "varSort", sort_tree t) ∷ (codes "arg", c) ∷ [])

abbrev rounding_members : Text → KoreSort → KoreSort → Data → Members
rounding_members word a s c = members_of ((codes "tag", string word) ∷ (codes "argSort", sort_tree a) ∷ sort_member s ∷ (codes "arg", c) ∷ [])

abbrev comparison_members : Text → KoreSort → KoreSort → Data → Data → Members
comparison_members word a s b c = members_of ((codes "tag", string word) ∷ (codes "argSort", sort_tree a) ∷ sort_member s ∷ (codes "first", b) ∷ (codes "second", c) ∷ [])

-- ---- lists of patterns

each_only : (n : ℕ) (p : KorePattern) (ps : KorePatterns) (x : Option Data) (y : Option Items) (ds : Items) → ((d : Data) → x ≡ Some d → IsOnly n d p) → ((es : Items) → y ≡ Some es → AreOnly n es ps)
    → first_and_rest x y ≡ Some ds → AreOnly n ds (next_pattern p ps)
each_only n p ps None y ds first rest e = absurd (cc e)
each_only n p ps (Some d) None ds first rest e = absurd (cc e)
each_only n p ps (Some d) (Some es) ds first rest e =
    let same : item d es ≡ ds = cc e in
    subst (λ x. AreOnly n x (next_pattern p ps)) same (first d refl, rest es refl)

none_only : (n : ℕ) (ds : Items) → pattern_trees no_patterns ≡ Some ds → AreOnly n ds no_patterns
none_only n ds e = let same : no_items ≡ ds = cc e in subst (λ x. AreOnly n x no_patterns) same tt

-- \and and \or of two patterns or more
conjunction_level : (n : ℕ) (s : KoreSort) (ps : KorePatterns) (d : Data) → ((k : ℕ) (cs : Items) → pattern_trees ps ≡ Some cs → AreOnly k cs ps) → pattern_tree (conjunction s ps) ≡ Some d → IsOnly n d (conjunction s ps)
conjunction_level n s no_patterns d only e = absurd (cc e)
conjunction_level n s (next_pattern p no_patterns) d only e = absurd (cc e)
conjunction_level n s (next_pattern p (next_pattern q ps)) d only e =
    let rs : KorePatterns = next_pattern p (next_pattern q ps) in
    list_level n (conjunction s rs) (variadic_members (codes "And") s) (pattern_trees rs) d (λ k cs is. conjunction_only k (variadic_members (codes "And") s cs) s cs rs refl refl refl (only k cs is)) e

disjunction_level : (n : ℕ) (s : KoreSort) (ps : KorePatterns) (d : Data) → ((k : ℕ) (cs : Items) → pattern_trees ps ≡ Some cs → AreOnly k cs ps) → pattern_tree (disjunction s ps) ≡ Some d → IsOnly n d (disjunction s ps)
disjunction_level n s no_patterns d only e = absurd (cc e)
disjunction_level n s (next_pattern p no_patterns) d only e = absurd (cc e)
disjunction_level n s (next_pattern p (next_pattern q ps)) d only e =
    let rs : KorePatterns = next_pattern p (next_pattern q ps) in
    list_level n (disjunction s rs) (variadic_members (codes "Or") s) (pattern_trees rs) d (λ k cs is. disjunction_only k (variadic_members (codes "Or") s cs) s cs rs refl refl refl (only k cs is)) e

-- ---- patterns

mutual
  tree_only : (p : KorePattern) (n : ℕ) (d : Data) → pattern_tree p ≡ Some d → IsOnly n d p
  tree_only (variable x s) n d e = level n (variable x s) (variable_members x s) d (λ k. variable_only k (variable_members x s) x s refl refl refl) e
  tree_only (set_variable x s) n d e = absurd (cc e)
  tree_only (application f ss ps) n d e =
      list_level n (application f ss ps) (application_members f ss) (pattern_trees ps) d (λ k cs is. application_only k (application_members f ss cs) f ss cs ps refl refl refl refl (trees_only ps k cs is)) e
  tree_only (string_literal t) n d e = absurd (cc e)
  tree_only (literal s t) n d e = level n (literal s t) (literal_members s t) d (λ k. literal_only k (literal_members s t) s t refl refl refl) e
  tree_only (top s) n d e = level n (top s) (constant_members (codes "Top") s) d (λ k. top_only k (constant_members (codes "Top") s) s refl refl) e
  tree_only (bottom s) n d e = level n (bottom s) (constant_members (codes "Bottom") s) d (λ k. bottom_only k (constant_members (codes "Bottom") s) s refl refl) e
  tree_only (negation s p) n d e =
      one_level n (negation s p) (negation_members s) (pattern_tree p) d (λ k c is. negation_only k (negation_members s c) s c p refl refl refl (tree_only p k c is)) e
  tree_only (next s p) n d e = absurd (cc e)
  tree_only (conjunction s ps) n d e = conjunction_level n s ps d (λ k cs is. trees_only ps k cs is) e
  tree_only (disjunction s ps) n d e = disjunction_level n s ps d (λ k cs is. trees_only ps k cs is) e
  tree_only (implication s p q) n d e =
      two_level n (implication s p q) (binary_members (codes "Implies") s) (pattern_tree p) (pattern_tree q) d (λ k b c is too. implication_only k (binary_members (codes "Implies") s b c) s b c p q refl refl refl refl (tree_only p k b is) (tree_only q k c too)) e
  tree_only (equivalence s p q) n d e =
      two_level n (equivalence s p q) (binary_members (codes "Iff") s) (pattern_tree p) (pattern_tree q) d (λ k b c is too. equivalence_only k (binary_members (codes "Iff") s b c) s b c p q refl refl refl refl (tree_only p k b is) (tree_only q k c too)) e
  tree_only (rewriting s p q) n d e =
      two_level n (rewriting s p q) (rewriting_members s) (pattern_tree p) (pattern_tree q) d (λ k b c is too. rewriting_only k (rewriting_members s b c) s b c p q refl refl refl refl (tree_only p k b is) (tree_only q k c too)) e
  tree_only (exists s x t p) n d e =
      one_level n (exists s x t p) (quantifier_members (codes "Exists") s x t) (pattern_tree p) d (λ k c is. exists_only k (quantifier_members (codes "Exists") s x t c) s x t c p refl refl refl refl refl (tree_only p k c is)) e
  tree_only (forall s x t p) n d e =
      one_level n (forall s x t p) (quantifier_members (codes "Forall") s x t) (pattern_tree p) d (λ k c is. forall_only k (quantifier_members (codes "Forall") s x t c) s x t c p refl refl refl refl refl (tree_only p k c is)) e
  tree_only (ceil a s p) n d e =
      one_level n (ceil a s p) (rounding_members (codes "Ceil") a s) (pattern_tree p) d (λ k c is. ceil_only k (rounding_members (codes "Ceil") a s c) a s c p refl refl refl refl (tree_only p k c is)) e
  tree_only (floor a s p) n d e =
      one_level n (floor a s p) (rounding_members (codes "Floor") a s) (pattern_tree p) d (λ k c is. floor_only k (rounding_members (codes "Floor") a s c) a s c p refl refl refl refl (tree_only p k c is)) e
  tree_only (equals a s p q) n d e =
      two_level n (equals a s p q) (comparison_members (codes "Equals") a s) (pattern_tree p) (pattern_tree q) d (λ k b c is too. equals_only k (comparison_members (codes "Equals") a s b c) a s b c p q refl refl refl refl refl (tree_only p k b is) (tree_only q k c too)) e
  tree_only (membership a s p q) n d e =
      two_level n (membership a s p q) (comparison_members (codes "In") a s) (pattern_tree p) (pattern_tree q) d (λ k b c is too. membership_only k (comparison_members (codes "In") a s b c) a s b c p q refl refl refl refl refl (tree_only p k b is) (tree_only q k c too)) e
  tree_only (mu x s p) n d e = absurd (cc e)
  tree_only (nu x s p) n d e = absurd (cc e)

  trees_only : (ps : KorePatterns) (n : ℕ) (ds : Items) → pattern_trees ps ≡ Some ds → AreOnly n ds ps
  trees_only no_patterns n ds e = none_only n ds e
  trees_only (next_pattern p ps) n ds e =
      each_only n p ps (pattern_tree p) (pattern_trees ps) ds (λ d. tree_only p n d) (λ es. trees_only ps n es) e

-- ---- the wrapper

tree_is : (p q : KorePattern) (d : Data) → IsOnly most_patterns d p → wrapped_reading (wrapped d) ≡ read q → q ≡ p
tree_is p q null only e = absurd (cc e)
tree_is p q (boolean b) only e = absurd (cc e)
tree_is p q (number n) only e = absurd (cc e)
tree_is p q (string t) only e = absurd (cc e)
tree_is p q (array ds) only e = absurd (cc e)
tree_is p q (object o) only e = only o refl q e

wrapped_is : (p q : KorePattern) (x : Option Data) (tree : Data) → ((d : Data) → x ≡ Some d → IsOnly most_patterns d p) → option_map wrapped x ≡ Some tree → SpellsWrapped tree q → q ≡ p
wrapped_is p q None tree only e h = absurd (cc e)
wrapped_is p q (Some d) tree only e h =
    let same : wrapped d ≡ tree = cc e in
    tree_is p q d (only d refl) (wrapped_complete (wrapped d) q (subst (λ t. SpellsWrapped t q) (sym same) h))

-- the tree that is written of the pattern spells no other
pub tree_back : (p q : KorePattern) (tree : Data) → wrapped_pattern p ≡ Some tree → SpellsWrapped tree q → q ≡ p
tree_back p q tree e h = wrapped_is p q (pattern_tree p) tree (tree_only p most_patterns) e h
