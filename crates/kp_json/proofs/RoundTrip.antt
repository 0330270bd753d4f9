-- The tree that is written for a pattern spells it, if any tree does.
use Rattle.std.proofs.Common.{◌≡◌, ℕ, suc, Some, [], ◌∷◌, refl, sym, ap, ◌∙◌, subst}
use Rattle.std.specs.Prelude.{codes, ⊤}
use Rattle.std.specs.Option.{option_map}
use Rattle.serde_json.specs.Data.{unsigned, Data, number, string, array, object, Items, no_items, item, Members}
use Rattle.kp_kore.specs.Syntax.{Text, KoreSort, KoreSorts, KorePattern, variable, application, literal, top, bottom, negation, conjunction, disjunction, implication, equivalence, rewriting, exists, forall, ceil, floor, equals, membership, KorePatterns, no_patterns, next_pattern}
use Rattle.kp_kore.specs.Folds.{conjunction_of, disjunction_of}
use Rattle.kp_json.specs.Members.{Has, HasText, members_of}
use Rattle.kp_json.specs.Trees.{HasName, SpellsSort, sort_app, sort_var, SpellSorts, sorts_end, sorts_more, SortAt, SpellsPattern, evar, app, dv, top_tree, bottom_tree, not_tree, and_tree, or_tree, implies_tree, iff_tree, rewrites_tree, exists_tree, forall_tree, equals_tree, in_tree, ceil_tree, floor_tree, SpellPatterns, patterns_end, patterns_more, SpellsTwo, two_trees, SpellsMembers, listed, first_and_second, SpellsWrapped, wrapper}
use Rattle.kp_json.specs.Faults.{read, wrapped_reading}
use Rattle.kp_json.specs.Written.{tagged, sort_tree, sort_trees, sort_member, one_list, pattern_tree, pattern_trees, wrapped, wrapped_pattern}
use Rattle.kp_json.proofs.Complete.{wrapped_complete}

-- ---- one level more

mutual
  deeper : (n : ℕ) (d : Data) (p : KorePattern) → SpellsPattern n d p → SpellsPattern (suc n) d p
  deeper _ _ _ (evar n o name s tag name_is sort) = evar (suc n) o name s tag name_is sort
  deeper _ _ _ (app n o name sorts ds ss ps tag name_is has_sorts spelled args all) = app (suc n) o name sorts ds ss ps tag name_is has_sorts spelled args (all_deeper n ds ps all)
  deeper _ _ _ (dv n o s text tag sort value) = dv (suc n) o s text tag sort value
  deeper _ _ _ (top_tree n o s tag sort) = top_tree (suc n) o s tag sort
  deeper _ _ _ (bottom_tree n o s tag sort) = bottom_tree (suc n) o s tag sort
  deeper _ _ _ (not_tree n o s d p tag sort arg spelled) = not_tree (suc n) o s d p tag sort arg (deeper n d p spelled)
  deeper _ _ _ (and_tree n o s ps p tag sort all is) = and_tree (suc n) o s ps p tag sort (members_deeper n o ps all) is
  deeper _ _ _ (or_tree n o s ps p tag sort all is) = or_tree (suc n) o s ps p tag sort (members_deeper n o ps all) is
  deeper _ _ _ (implies_tree n o s p q tag sort two) = implies_tree (suc n) o s p q tag sort (two_deeper n o _ _ p q two)
  deeper _ _ _ (iff_tree n o s p q tag sort two) = iff_tree (suc n) o s p q tag sort (two_deeper n o _ _ p q two)
  deeper _ _ _ (rewrites_tree n o s p q tag sort two) = rewrites_tree (suc n) o s p q tag sort (two_deeper n o _ _ p q two)
  deeper _ _ _ (exists_tree n o s t x d p tag sort name below arg spelled) = exists_tree (suc n) o s t x d p tag sort name below arg (deeper n d p spelled)
  deeper _ _ _ (forall_tree n o s t x d p tag sort name below arg spelled) = forall_tree (suc n) o s t x d p tag sort name below arg (deeper n d p spelled)
  deeper _ _ _ (equals_tree n o a s p q tag below sort two) = equals_tree (suc n) o a s p q tag below sort (two_deeper n o _ _ p q two)
  deeper _ _ _ (in_tree n o a s p q tag below sort two) = in_tree (suc n) o a s p q tag below sort (two_deeper n o _ _ p q two)
  deeper _ _ _ (ceil_tree n o a s d p tag below sort arg spelled) = ceil_tree (suc n) o a s d p tag below sort arg (deeper n d p spelled)
  deeper _ _ _ (floor_tree n o a s d p tag below sort arg spelled) = floor_tree (suc n) o a s d p tag below sort arg (deeper n d p spelled)

  all_deeper : (n : ℕ) (ds : Items) (ps : KorePatterns) → SpellPatterns n ds ps → SpellPatterns (suc n) ds ps
  all_deeper _ _ _ (patterns_end n) = patterns_end (suc n)
  all_deeper _ _ _ (patterns_more n d ds p ps spelled more) = patterns_more (suc n) d ds p ps (deeper n d p spelled) (all_deeper n ds ps more)

  two_deeper : (n : ℕ) (o : Members) (first second : Text) (p q : KorePattern) → SpellsTwo n o first second p q → SpellsTwo (suc n) o first second p q
  two_deeper _ _ _ _ _ _ (two_trees n o first second d e p q one two left right) = two_trees (suc n) o first second d e p q one two (deeper n d p left) (deeper n e q right)

  members_deeper : (n : ℕ) (o : Members) (ps : KorePatterns) → SpellsMembers n o ps → SpellsMembers (suc n) o ps
  members_deeper _ _ _ (listed n o ds ps has all) = listed (suc n) o ds ps has (all_deeper n ds ps all)
  members_deeper _ _ _ (first_and_second n o p q lacks two) = first_and_second (suc n) o p q lacks (two_deeper n o _ _ p q two)

-- ---- sorts

name_again : (o m : Members) (key l : Text) (name : Text) → HasName o key name → HasText m l name → HasName m l name
name_again o m key l name h text = record { text = text; identifier = h.identifier }

mutual
  sort_written : (d : Data) (s : KoreSort) → SpellsSort d s → SpellsSort (sort_tree s) s
  sort_written _ _ (sort_app o name ds ss tag name_is args spelled) =
      let m : Members = members_of ((codes "tag", string (codes "SortApp")) ∷ (codes "name", string name) ∷ (codes "args", array (sort_trees ss)) ∷ []) in
      sort_app m name (sort_trees ss) ss refl (name_again o m _ _ name name_is refl) refl (sorts_written ds ss spelled)
  sort_written _ _ (sort_var o name tag name_is) =
      let m : Members = members_of ((codes "tag", string (codes "SortVar")) ∷ (codes "name", string name) ∷ []) in
      sort_var m name refl (name_again o m _ _ name name_is refl)

  sorts_written : (ds : Items) (ss : KoreSorts) → SpellSorts ds ss → SpellSorts (sort_trees ss) ss
  sorts_written _ _ sorts_end = sorts_end
  sorts_written _ _ (sorts_more d ds s ss spelled more) = sorts_more (sort_tree s) (sort_trees ss) s ss (sort_written d s spelled) (sorts_written ds ss more)

sort_again : (o m : Members) (key l : Text) (s : KoreSort) → SortAt o key s → Has m l (sort_tree s) → SortAt m l s
sort_again o m key l s h has = record { tree = sort_tree s; has = has; spells = sort_written h.tree s h.spells }

-- ---- what is written of each form

record Written (n : ℕ) (p : KorePattern) : Type 0 where
  tree : Data
  is : pattern_tree p ≡ Some tree
  spells : SpellsPattern n tree p

record AllWritten (n : ℕ) (ps : KorePatterns) : Type 0 where
  trees : Items
  is : pattern_trees ps ≡ Some trees
  spell : SpellPatterns n trees ps

abbrev EachWritten : ℕ → KorePatterns → Type 0
EachWritten n no_patterns = ⊤
EachWritten n (next_pattern p ps) = Written n p × EachWritten n ps

all_of : (n : ℕ) (ps : KorePatterns) → EachWritten n ps → AllWritten n ps
all_of n no_patterns each = record { trees = no_items; is = refl; spell = patterns_end n }
all_of n (next_pattern p ps) each =
    let first = each.0 in
    let rest = all_of n ps each.1 in
    record { trees = item first.tree rest.trees; is = rw (first.is, rest.is) refl; spell = patterns_more n first.tree rest.trees p ps first.spells rest.spell }

deeper_written : (n : ℕ) (p : KorePattern) → Written n p → Written (suc n) p
deeper_written n p h = record { tree = h.tree; is = h.is; spells = deeper n h.tree p h.spells }

variable_written : (n : ℕ) (o : Members) (x : Text) (s : KoreSort) → HasName o (codes "name") x → SortAt o (codes "sort") s → Written (suc n) (variable x s)
variable_written n o x s name sort =
    let m : Members = members_of ((codes "tag", string (codes "EVar")) ∷ (codes "name", string x) ∷ sort_member s ∷ []) in
    record { tree = object m; is = refl; spells = evar n m x s refl (name_again o m _ _ x name refl) (sort_again o m _ _ s sort refl) }

application_written : (n : ℕ) (o : Members) (f : Text) (ts : Items) (ss : KoreSorts) (ps : KorePatterns) → HasName o (codes "name") f → SpellSorts ts ss → EachWritten n ps → Written (suc n) (application f ss ps)
application_written n o f ts ss ps name spelled each =
    let all = all_of n ps each in
    let m : Members = members_of ((codes "tag", string (codes "App")) ∷ (codes "name", string f) ∷ (codes "sorts", array (sort_trees ss)) ∷ (codes "args", array all.trees) ∷ []) in
    record { tree = object m; is = rw all.is refl; spells = app n m f (sort_trees ss) all.trees ss ps refl (name_again o m _ _ f name refl) refl (sorts_written ts ss spelled) refl all.spell }

literal_written : (n : ℕ) (o : Members) (s : KoreSort) (t : Text) → SortAt o (codes "sort") s → Written (suc n) (literal s t)
literal_written n o s t sort =
    let m : Members = members_of ((codes "tag", string (codes "DV")) ∷ sort_member s ∷ (codes "value", string t) ∷ []) in
    record { tree = object m; is = refl; spells = dv n m s t refl (sort_again o m _ _ s sort refl) refl }

top_written : (n : ℕ) (o : Members) (s : KoreSort) → SortAt o (codes "sort") s → Written (suc n) (top s)
top_written n o s sort =
    let m : Members = members_of ((codes "tag", string (codes "Top")) ∷ sort_member s ∷ []) in
    record { tree = object m; is = refl; spells = top_tree n m s refl (sort_again o m _ _ s sort refl) }

bottom_written : (n : ℕ) (o : Members) (s : KoreSort) → SortAt o (codes "sort") s → Written (suc n) (bottom s)
bottom_written n o s sort =
    let m : Members = members_of ((codes "tag", string (codes "Bottom")) ∷ sort_member s ∷ []) in
    record { tree = object m; is = refl; spells = bottom_tree n m s refl (sort_again o m _ _ s sort refl) }

conjunction_written : (n : ℕ) (o : Members) (s : KoreSort) (ps : KorePatterns) → SortAt o (codes "sort") s → EachWritten n ps → Written (suc n) (conjunction_of s ps)
conjunction_written n o s no_patterns sort each = top_written n o s sort
conjunction_written n o s (next_pattern p no_patterns) sort each = deeper_written n p each.0
conjunction_written n o s (next_pattern p (next_pattern q ps)) sort each =
    let rs : KorePatterns = next_pattern p (next_pattern q ps) in
    let all = all_of n rs each in
    let m : Members = members_of ((codes "tag", string (codes "And")) ∷ sort_member s ∷ (codes "patterns", array all.trees) ∷ []) in
    record {
      tree = object m;
      is = ap (one_list (λ ds. tagged (codes "And") (sort_member s ∷ (codes "patterns", array ds) ∷ []))) all.is;
      spells = and_tree n m s rs (conjunction s rs) refl (sort_again o m _ _ s sort refl) (listed n m all.trees rs refl all.spell) refl;
    }

disjunction_written : (n : ℕ) (o : Members) (s : KoreSort) (ps : KorePatterns) → SortAt o (codes "sort") s → EachWritten n ps → Written (suc n) (disjunction_of s ps)
disjunction_written n o s no_patterns sort each = bottom_written n o s sort
disjunction_written n o s (next_pattern p no_patterns) sort each = deeper_written n p each.0
disjunction_written n o s (next_pattern p (next_pattern q ps)) sort each =
    let rs : KorePatterns = next_pattern p (next_pattern q ps) in
    let all = all_of n rs each in
    let m : Members = members_of ((codes "tag", string (codes "Or")) ∷ sort_member s ∷ (codes "patterns", array all.trees) ∷ []) in
    record {
      tree = object m;
      is = ap (one_list (λ ds. tagged (codes "Or") (sort_member s ∷ (codes "patterns", array ds) ∷ []))) all.is;
      spells = or_tree n m s rs (disjunction s rs) refl (sort_again o m _ _ s sort refl) (listed n m all.trees rs refl all.spell) refl;
    }

negation_written : (n : ℕ) (o : Members) (s : KoreSort) (p : KorePattern) → SortAt o (codes "sort") s → Written n p → Written (suc n) (negation s p)
negation_written n o s p sort below =
    let m : Members = members_of ((codes "tag", string (codes "Not")) ∷ sort_member s ∷ (codes "arg", below.tree) ∷ []) in
    record { tree = object m; is = rw below.is refl; spells = not_tree n m s below.tree p refl (sort_again o m _ _ s sort refl) refl below.spells }

exists_written : (n : ℕ) (o : Members) (s t : KoreSort) (x : Text) (p : KorePattern) → SortAt o (codes "sort") s → HasName o (codes "var") x → SortAt o (codes "varSort") t → Written n p → Written (suc n) (exists s x t p)
exists_written n o s t x p sort name bound below =
    let m : Members = members_of ((codes "tag", string (codes "Exists")) ∷ sort_member s ∷ (codes "var", string x) ∷ (codes "varSort", sort_tree t) ∷ (codes "arg", below.tree) ∷ []) in
    record {
      tree = object m;
      is = rw below.is refl;
      spells = exists_tree n m s t x below.tree p refl (sort_again o m _ _ s sort refl) (name_again o m _ _ x name refl) (sort_again o m _ _ t bound refl) refl below.spells;
    }

forall_written : (n : ℕ) (o : Members) (s t : KoreSort) (x : Text) (p : KorePattern) → SortAt o (codes "sort") s → HasName o (codes "var") x → SortAt o (codes "varSort") t → Written n p → Written (suc n) (forall s x t p)
forall_written n o s t x p sort name bound below =
    let m : Members = members_of ((codes "tag", string (codes "Forall")) ∷ sort_member s ∷ (codes "var", string x) ∷ (codes "varSort", sort_tree t) ∷ (codes "arg", below.tree) ∷ []) in
    record {
      tree = object m;
      is = rw below.is refl;
      spells = forall_tree n m s t x below.tree p refl (sort_again o m _ _ s sort refl) (name_again o m _ _ x name refl) (sort_again o m _ _ t bound refl) refl below.spells;
    }

ceil_written : (n : ℕ) (o : Members) (a s : KoreSort) (p : KorePattern) → SortAt o (codes "argSort") a → SortAt o (codes "sort") s → Written n p → Written (suc n) (ceil a s p)
ceil_written n o a s p below_sort sort below =
    let m : Members = members_of ((codes "tag", string (codes "Ceil")) ∷ (codes "argSort", sort_tree a) ∷ sort_member s ∷ (codes "arg", below.tree) ∷ []) in
    record { tree = object m; is = rw below.is refl; spells = ceil_tree n m a s below.tree p refl (sort_again o m _ _ a below_sort refl) (sort_again o m _ _ s sort refl) refl below.spells }

floor_written : (n : ℕ) (o : Members) (a s : KoreSort) (p : KorePattern) → SortAt o (codes "argSort") a → SortAt o (codes "sort") s → Written n p → Written (suc n) (floor a s p)
floor_written n o a s p below_sort sort below =
    let m : Members = members_of ((codes "tag", string (codes "Floor")) ∷ (codes "argSort", sort_tree a) ∷ sort_member s ∷ (codes "arg", below.tree) ∷ []) in
    record { tree = object m; is = rw below.is refl; spells = floor_tree n m a s below.tree p refl (sort_again o m _ _ a below_sort refl) (sort_again o m _ _ s sort refl) refl below.spells }

implication_written : (n : ℕ) (o : Members) (s : KoreSort) (p q : KorePattern) → SortAt o (codes "sort") s → Written n p → Written n q → Written (suc n) (implication s p q)
implication_written n o s p q sort left right =
    let m : Members = members_of ((codes "tag", string (codes "Implies")) ∷ sort_member s ∷ (codes "first", left.tree) ∷ (codes "second", right.tree) ∷ []) in
    record { tree = object m; is = rw (left.is, right.is) refl; spells = implies_tree n m s p q refl (sort_again o m _ _ s sort refl) (two_trees n m _ _ left.tree right.tree p q refl refl left.spells right.spells) }

equivalence_written : (n : ℕ) (o : Members) (s : KoreSort) (p q : KorePattern) → SortAt o (codes "sort") s → Written n p → Written n q → Written (suc n) (equivalence s p q)
equivalence_written n o s p q sort left right =
    let m : Members = members_of ((codes "tag", string (codes "Iff")) ∷ sort_member s ∷ (codes "first", left.tree) ∷ (codes "second", right.tree) ∷ []) in
    record { tree = object m; is = rw (left.is, right.is) refl; spells = iff_tree n m s p q refl (sort_again o m _ _ s sort refl) (two_trees n m _ _ left.tree right.tree p q refl refl left.spells right.spells) }

rewriting_written : (n : ℕ) (o : Members) (s : KoreSort) (p q : KorePattern) → SortAt o (codes "sort") s → Written n p → Written n q → Written (suc n) (rewriting s p q)
rewriting_written n o s p q sort left right =
    let m : Members = members_of ((codes "tag", string (codes "Rewrites")) ∷ sort_member s ∷ (codes "source", left.tree) ∷ (codes "dest", right.tree) ∷ []) in
    record { tree = object m; is = rw (left.is, right.is) refl; spells = rewrites_tree n m s p q refl (sort_again o m _ _ s sort refl) (two_trees n m _ _ left.tree right.tree p q refl refl left.spells right.spells) }

equals_written : (n : ℕ) (o : Members) (a s : KoreSort) (p q : KorePattern) → SortAt o (codes "argSort") a → SortAt o (codes "sort") s → Written n p → Written n q → Written (suc n) (equals a s p q)
equals_written n o a s p q below_sort sort left right =
    let m : Members = members_of ((codes "tag", string (codes "Equals")) ∷ (codes "argSort", sort_tree a) ∷ sort_member s ∷ (codes "first", left.tree) ∷ (codes "second", right.tree) ∷ []) in
    record {
      tree = object m;
      is = rw (left.is, right.is) refl;
      spells = equals_tree n m a s p q refl (sort_again o m _ _ a below_sort refl) (sort_again o m _ _ s sort refl) (two_trees n m _ _ left.tree right.tree p q refl refl left.spells right.spells);
    }

membership_written : (n : ℕ) (o : Members) (a s : KoreSort) (p q : KorePattern) → SortAt o (codes "argSort") a → SortAt o (codes "sort") s → Written n p → Written n q → Written (suc n) (membership a s p q)
membership_written n o a s p q below_sort sort left right =
    let m : Members = members_of ((codes "tag", string (codes "In")) ∷ (codes "argSort", sort_tree a) ∷ sort_member s ∷ (codes "first", left.tree) ∷ (codes "second", right.tree) ∷ []) in
    record {
      tree = object m;
      is = rw (left.is, right.is) refl;
      spells = in_tree n m a s p q refl (sort_again o m _ _ a below_sort refl) (sort_again o m _ _ s sort refl) (two_trees n m _ _ left.tree right.tree p q refl refl left.spells right.spells);
    }

written_as : (n : ℕ) (p q : KorePattern) → p ≡ q → Written n q → Written n p
written_as n p q is h = subst (Written n) (sym is) h

mutual
  written : (n : ℕ) (d : Data) (p : KorePattern) → SpellsPattern n d p → Written n p
  written _ _ _ (evar n o name s tag name_is sort) = variable_written n o name s name_is sort
  written _ _ _ (app n o name sorts ds ss ps tag name_is has_sorts spelled args all) = application_written n o name sorts ss ps name_is spelled (each_written n ds ps all)
  written _ _ _ (dv n o s text tag sort value) = literal_written n o s text sort
  written _ _ _ (top_tree n o s tag sort) = top_written n o s sort
  written _ _ _ (bottom_tree n o s tag sort) = bottom_written n o s sort
  written _ _ _ (not_tree n o s d p tag sort arg spelled) = negation_written n o s p sort (written n d p spelled)
  written _ _ _ (and_tree n o s ps p tag sort all is) = written_as (suc n) p _ is (conjunction_written n o s ps sort (members_written n o ps all))
  written _ _ _ (or_tree n o s ps p tag sort all is) = written_as (suc n) p _ is (disjunction_written n o s ps sort (members_written n o ps all))
  written _ _ _ (implies_tree n o s p q tag sort two) = let both = two_written n o _ _ p q two in implication_written n o s p q sort both.0 both.1
  written _ _ _ (iff_tree n o s p q tag sort two) = let both = two_written n o _ _ p q two in equivalence_written n o s p q sort both.0 both.1
  written _ _ _ (rewrites_tree n o s p q tag sort two) = let both = two_written n o _ _ p q two in rewriting_written n o s p q sort both.0 both.1
  written _ _ _ (exists_tree n o s t x d p tag sort name bound arg spelled) = exists_written n o s t x p sort name bound (written n d p spelled)
  written _ _ _ (forall_tree n o s t x d p tag sort name bound arg spelled) = forall_written n o s t x p sort name bound (written n d p spelled)
  written _ _ _ (equals_tree n o a s p q tag below_sort sort two) = let both = two_written n o _ _ p q two in equals_written n o a s p q below_sort sort both.0 both.1
  written _ _ _ (in_tree n o a s p q tag below_sort sort two) = let both = two_written n o _ _ p q two in membership_written n o a s p q below_sort sort both.0 both.1
  written _ _ _ (ceil_tree n o a s d p tag below_sort sort arg spelled) = ceil_written n o a s p below_sort sort (written n d p spelled)
  written _ _ _ (floor_tree n o a s d p tag below_sort sort arg spelled) = floor_written n o a s p below_sort sort (written n d p spelled)

  each_written : (n : ℕ) (ds : Items) (ps : KorePatterns) → SpellPatterns n ds ps → EachWritten n ps
  each_written _ _ _ (patterns_end n) = tt
  each_written _ _ _ (patterns_more n d ds p ps spelled more) = (written n d p spelled, each_written n ds ps more)

  two_written : (n : ℕ) (o : Members) (first second : Text) (p q : KorePattern) → SpellsTwo n o first second p q → Written n p × Written n q
  two_written _ _ _ _ _ _ (two_trees n o first second d e p q one two left right) = (written n d p left, written n e q right)

  members_written : (n : ℕ) (o : Members) (ps : KorePatterns) → SpellsMembers n o ps → EachWritten n ps
  members_written _ _ _ (listed n o ds ps has all) = each_written n ds ps all
  members_written _ _ _ (first_and_second n o p q lacks two) = let both = two_written n o _ _ p q two in (both.0, (both.1, tt))

-- ---- the wrapper

pub wrapped_written : (d : Data) (p : KorePattern) → SpellsWrapped d p → (e : Data) × (wrapped_pattern p ≡ Some e) × SpellsWrapped e p
wrapped_written _ _ (wrapper o tree p format version term spelled) =
    let h = written 100 tree p spelled in
    let m : Members = members_of ((codes "format", string (codes "KORE")) ∷ (codes "version", number (unsigned 1)) ∷ (codes "term", h.tree) ∷ []) in
    (object m, ap (option_map wrapped) h.is, wrapper m h.tree p refl refl refl h.spells)

pub round_trip : (d e : Data) (p : KorePattern) → SpellsWrapped d p → wrapped_pattern p ≡ Some e → wrapped_reading e ≡ read p
round_trip d e p spelled is =
    let h = wrapped_written d p spelled in
    let same : Some h.0 ≡ Some e = sym h.1 ∙ is in
    let here : h.0 ≡ e = cc same in
    subst (λ t. wrapped_reading t ≡ read p) here (wrapped_complete h.0 p h.2)
