-- Which JSON trees spell which sorts and patterns: one case for each tag.
-- Source: the K framework's Kore JSON, version 1.
use Rattle.std.specs.Prelude.{◌≡◌, ℕ, suc, IsTrue, codes}
use Rattle.serde_json.specs.Data.{Data, number, unsigned, array, object, Items, no_items, item, Members}
use Rattle.kp_kore.specs.Syntax.{Text, KoreSort, sort_of, sort_variable, KoreSorts, no_sorts, next_sort, KorePattern, variable, application, literal, top, bottom, negation, implication, equivalence, rewriting, exists, forall, ceil, floor, equals, membership, KorePatterns, no_patterns, next_pattern}
use Rattle.kp_kore.specs.Folds.{conjunction_of, disjunction_of}
use Rattle.kp_json.specs.Members.{Has, HasText, Lacks, is_identifier}

-- the member is a name
pub record HasName (o : Members) (key : Text) (name : Text) : Type 0 where
  pub text : HasText o key name
  pub identifier : IsTrue (is_identifier name)

-- ---- sorts

mutual
  pub data SpellsSort : Data → KoreSort → Type 0 where
    sort_app : (o : Members) (name : Text) (arguments : Items) (ss : KoreSorts) →
        HasText o (codes "tag") (codes "SortApp") → HasName o (codes "name") name → Has o (codes "args") (array arguments) → SpellSorts arguments ss →
        SpellsSort (object o) (sort_of name ss)
    sort_var : (o : Members) (name : Text) →
        HasText o (codes "tag") (codes "SortVar") → HasName o (codes "name") name →
        SpellsSort (object o) (sort_variable name)

  pub data SpellSorts : Items → KoreSorts → Type 0 where
    sorts_end : SpellSorts no_items no_sorts
    sorts_more : (d : Data) (ds : Items) (s : KoreSort) (ss : KoreSorts) →
        SpellsSort d s → SpellSorts ds ss → SpellSorts (item d ds) (next_sort s ss)

-- the member spells the sort
pub record SortAt (o : Members) (key : Text) (s : KoreSort) : Type 0 where
  pub tree : Data
  pub has : Has o key tree
  pub spells : SpellsSort tree s

-- ---- patterns

-- Patterns nest at most so many levels; sorts aren't counted.
mutual
  pub data SpellsPattern : ℕ → Data → KorePattern → Type 0 where
    evar : (n : ℕ) (o : Members) (name : Text) (s : KoreSort) →
        HasText o (codes "tag") (codes "EVar") → HasName o (codes "name") name → SortAt o (codes "sort") s →
        SpellsPattern (suc n) (object o) (variable name s)
    app : (n : ℕ) (o : Members) (name : Text) (sorts arguments : Items) (ss : KoreSorts) (ps : KorePatterns) →
        HasText o (codes "tag") (codes "App") → HasName o (codes "name") name →
        Has o (codes "sorts") (array sorts) → SpellSorts sorts ss →
        Has o (codes "args") (array arguments) → SpellPatterns n arguments ps →
        SpellsPattern (suc n) (object o) (application name ss ps)
    dv : (n : ℕ) (o : Members) (s : KoreSort) (text : Text) →
        HasText o (codes "tag") (codes "DV") → SortAt o (codes "sort") s → HasText o (codes "value") text →
        SpellsPattern (suc n) (object o) (literal s text)
    top_tree : (n : ℕ) (o : Members) (s : KoreSort) →
        HasText o (codes "tag") (codes "Top") → SortAt o (codes "sort") s →
        SpellsPattern (suc n) (object o) (top s)
    bottom_tree : (n : ℕ) (o : Members) (s : KoreSort) →
        HasText o (codes "tag") (codes "Bottom") → SortAt o (codes "sort") s →
        SpellsPattern (suc n) (object o) (bottom s)
    not_tree : (n : ℕ) (o : Members) (s : KoreSort) (d : Data) (p : KorePattern) →
        HasText o (codes "tag") (codes "Not") → SortAt o (codes "sort") s →
        Has o (codes "arg") d → SpellsPattern n d p →
        SpellsPattern (suc n) (object o) (negation s p)
    -- of none it is top or bottom, of one that member
    and_tree : (n : ℕ) (o : Members) (s : KoreSort) (ps : KorePatterns) (p : KorePattern) →
        HasText o (codes "tag") (codes "And") → SortAt o (codes "sort") s → SpellsMembers n o ps → p ≡ conjunction_of s ps →
        SpellsPattern (suc n) (object o) p
    or_tree : (n : ℕ) (o : Members) (s : KoreSort) (ps : KorePatterns) (p : KorePattern) →
        HasText o (codes "tag") (codes "Or") → SortAt o (codes "sort") s → SpellsMembers n o ps → p ≡ disjunction_of s ps →
        SpellsPattern (suc n) (object o) p
    implies_tree : (n : ℕ) (o : Members) (s : KoreSort) (p q : KorePattern) →
        HasText o (codes "tag") (codes "Implies") → SortAt o (codes "sort") s → SpellsTwo n o (codes "first") (codes "second") p q →
        SpellsPattern (suc n) (object o) (implication s p q)
    iff_tree : (n : ℕ) (o : Members) (s : KoreSort) (p q : KorePattern) →
        HasText o (codes "tag") (codes "Iff") → SortAt o (codes "sort") s → SpellsTwo n o (codes "first") (codes "second") p q →
        SpellsPattern (suc n) (object o) (equivalence s p q)
    rewrites_tree : (n : ℕ) (o : Members) (s : KoreSort) (p q : KorePattern) →
        HasText o (codes "tag") (codes "Rewrites") → SortAt o (codes "sort") s → SpellsTwo n o (codes "source") (codes "dest") p q →
        SpellsPattern (suc n) (object o) (rewriting s p q)
    exists_tree : (n : ℕ) (o : Members) (s t : KoreSort) (x : Text) (d : Data) (p : KorePattern) →
        HasText o (codes "tag") (codes "Exists") → SortAt o (codes "sort") s → HasName o (codes "var") x → SortAt o (codes "varSort") t →
        Has o (codes "arg") d → SpellsPattern n d p →
        SpellsPattern (suc n) (object o) (exists s x t p)
    forall_tree : (n : ℕ) (o : Members) (s t : KoreSort) (x : Text) (d : Data) (p : KorePattern) →
        HasText o (codes "tag") (codes "Forall") → SortAt o (codes "sort") s → HasName o (codes "var") x → SortAt o (codes "varSort") t →
        Has o (codes "arg") d → SpellsPattern n d p →
        SpellsPattern (suc n) (object o) (forall s x t p)
    equals_tree : (n : ℕ) (o : Members) (a s : KoreSort) (p q : KorePattern) →
        HasText o (codes "tag") (codes "Equals") → SortAt o (codes "argSort") a → SortAt o (codes "sort") s → SpellsTwo n o (codes "first") (codes "second") p q →
        SpellsPattern (suc n) (object o) (equals a s p q)
    in_tree : (n : ℕ) (o : Members) (a s : KoreSort) (p q : KorePattern) →
        HasText o (codes "tag") (codes "In") → SortAt o (codes "argSort") a → SortAt o (codes "sort") s → SpellsTwo n o (codes "first") (codes "second") p q →
        SpellsPattern (suc n) (object o) (membership a s p q)
    ceil_tree : (n : ℕ) (o : Members) (a s : KoreSort) (d : Data) (p : KorePattern) →
        HasText o (codes "tag") (codes "Ceil") → SortAt o (codes "argSort") a → SortAt o (codes "sort") s →
        Has o (codes "arg") d → SpellsPattern n d p →
        SpellsPattern (suc n) (object o) (ceil a s p)
    floor_tree : (n : ℕ) (o : Members) (a s : KoreSort) (d : Data) (p : KorePattern) →
        HasText o (codes "tag") (codes "Floor") → SortAt o (codes "argSort") a → SortAt o (codes "sort") s →
        Has o (codes "arg") d → SpellsPattern n d p →
        SpellsPattern (suc n) (object o) (floor a s p)

  pub data SpellPatterns : ℕ → Items → KorePatterns → Type 0 where
    patterns_end : (n : ℕ) → SpellPatterns n no_items no_patterns
    patterns_more : (n : ℕ) (d : Data) (ds : Items) (p : KorePattern) (ps : KorePatterns) →
        SpellsPattern n d p → SpellPatterns n ds ps → SpellPatterns n (item d ds) (next_pattern p ps)

  -- two patterns under two names
  pub data SpellsTwo : ℕ → Members → Text → Text → KorePattern → KorePattern → Type 0 where
    two_trees : (n : ℕ) (o : Members) (first second : Text) (d e : Data) (p q : KorePattern) →
        Has o first d → Has o second e → SpellsPattern n d p → SpellsPattern n e q → SpellsTwo n o first second p q

  -- the members of And and Or: under patterns, else first and second
  pub data SpellsMembers : ℕ → Members → KorePatterns → Type 0 where
    listed : (n : ℕ) (o : Members) (ds : Items) (ps : KorePatterns) →
        Has o (codes "patterns") (array ds) → SpellPatterns n ds ps → SpellsMembers n o ps
    first_and_second : (n : ℕ) (o : Members) (p q : KorePattern) →
        Lacks o (codes "patterns") → SpellsTwo n o (codes "first") (codes "second") p q →
        SpellsMembers n o (next_pattern p (next_pattern q no_patterns))

-- ---- the wrapper

abbrev pub most_patterns : ℕ
most_patterns = 100

-- {"format":"KORE","version":1,"term":T}
pub data SpellsWrapped : Data → KorePattern → Type 0 where
  wrapper : (o : Members) (tree : Data) (p : KorePattern) →
      HasText o (codes "format") (codes "KORE") → Has o (codes "version") (number (unsigned 1)) → Has o (codes "term") tree →
      SpellsPattern most_patterns tree p →
      SpellsWrapped (object o) p
