-- What is read of a tree, the tree spells.
use Rattle.std.proofs.Common.{◌≡◌, ℕ, zero, suc, Option, Some, None, Bool, true, false, IsTrue, if◌then◌else◌, bytes_eq, refl, sym, ap, ◌∙◌, subst}
use Rattle.std.proofs.lemmas.Slice.Eq.{bytes_eq-Decides}
use Rattle.std.proofs.lemmas.Bool.{eqb-true}
use Rattle.std.specs.Prelude.{codes}
use Rattle.serde_json.specs.Data.{Num, unsigned, negative, float, Data, null, boolean, number, string, array, object, Items, no_items, item, Members, depth}
use Rattle.serde_json.specs.Find.{get_member}
use Rattle.kp_kore.specs.Syntax.{Text, KoreSort, sort_of, sort_variable, KoreSorts, no_sorts, next_sort, KorePattern, variable, application, literal, top, bottom, negation, implication, equivalence, rewriting, exists, forall, ceil, floor, equals, membership, KorePatterns, no_patterns, next_pattern}
use Rattle.kp_kore.specs.Folds.{conjunction_of, disjunction_of}
use Rattle.kp_json.specs.Members.{Has, HasText, Lacks, is_identifier}
use Rattle.kp_json.specs.Faults.{TreeFault, Reading, fault, read, after, member_at, name_in, tag_of, sort_items, sort_application, sort_within, sort_reading, PatternReader, pattern_items, sort_alone, name_and_sort, sort_and_value, symbol_and_lists, sort_and_one, sort_and_two, sorts_and_one, sorts_and_two, bound_and_one, one_read, two_read, double_tagged, single_tagged, sort_and_list, sort_and_pair, listed_or_pair, sort_and_members, listed_tagged, pattern_tagged, pattern_within, whole_in, is_one, wrapped_term, wrapped_object, wrapped_reading}
use Rattle.kp_json.specs.Trees.{HasName, SpellsSort, sort_app, sort_var, SpellSorts, sorts_end, sorts_more, SortAt, SpellsPattern, evar, app, dv, top_tree, bottom_tree, not_tree, and_tree, or_tree, implies_tree, iff_tree, rewrites_tree, exists_tree, forall_tree, equals_tree, in_tree, ceil_tree, floor_tree, SpellPatterns, patterns_end, patterns_more, two_trees, SpellsMembers, listed, first_and_second, SpellsWrapped, wrapper, most_patterns}
use Rattle.kp_json.proofs.Readings.{member_found, text_found, name_found, tree_found, trees_found}

-- what holds of whatever is read
abbrev pub Gives : {A : Type 0} → Reading A → (A → Type 0) → Type 0
Gives {A} r P = (a : A) → r ≡ read a → P a

pub gives_next : {A B : Type 0} {r : Reading A} {f : A → Reading B} {P : A → Type 0} {Q : B → Type 0} → Gives r P → ((a : A) → P a → Gives (f a) Q) → Gives (after r f) Q
gives_next {A = A} {B = B} {r = r} {f = f} {P = P} {Q = Q} g h = next r g
  where
    next : (r : Reading A) → Gives r P → Gives (after r f) Q
    next (fault x) g b is = absurd (cc is)
    next (read a) g b is = h a (g a refl) b is

pub gives_read : {A : Type 0} (a : A) (P : A → Type 0) → P a → Gives (read a) P
gives_read a P p b is = let same : a ≡ b = cc is in subst P same p

pub gives_tag : {A : Type 0} {r s : Reading A} {Q : A → Type 0} (tag key : Text) → (tag ≡ key → Gives r Q) → Gives s Q → Gives (if bytes_eq tag key then r else s) Q
gives_tag {A = A} {r = r} {s = s} {Q = Q} tag key here other = by_test (bytes_eq tag key) refl
  where
    by_test : (b : Bool) → bytes_eq tag key ≡ b → Gives (if b then r else s) Q
    by_test true is = here ((bytes_eq-Decides tag key).0 is)
    by_test false is = other

pub gives_fault : {A : Type 0} (Q : A → Type 0) (x : TreeFault) → Gives (fault x) Q
gives_fault Q x b is = absurd (cc is)

-- ---- members

tag_gives : (o : Members) → Gives (tag_of o) (HasText o (codes "tag"))
tag_gives o = gives_next (member_found o (codes "tag")) (λ d has t is. has ∙ ap Some (text_found (codes "tag") d t is))

has_as : (o : Members) (key : Text) (d e : Data) → Has o key d → d ≡ e → Has o key e
has_as o key d e has is = has ∙ ap Some is

named : (o : Members) (key : Text) (d : Data) (n : Text) → Has o key d → (d ≡ string n) × IsTrue (is_identifier n) → HasName o key n
named o key d n has is = record { text = has ∙ ap Some is.0; identifier = is.1 }

tag_as : (o : Members) (tag key : Text) → HasText o (codes "tag") tag → tag ≡ key → HasText o (codes "tag") key
tag_as o tag key has is = has ∙ ap (λ t. Some (string t)) is

-- ---- sorts

abbrev Sound : (Members → Reading KoreSort) → Type 0
Sound sort = (o : Members) → Gives (sort o) (λ s. SpellsSort (object o) s)

items_sound : (sort : Members → Reading KoreSort) → Sound sort → (key : Text) (ds : Items) → Gives (sort_items sort key ds) (λ ss. SpellSorts ds ss)
items_sound sort sound key no_items = gives_read no_sorts (λ ss. SpellSorts no_items ss) sorts_end
items_sound sort sound key (item d ds) =
    gives_next (tree_found key d) (λ o is. gives_next (sound o) (λ s spelled. gives_next (items_sound sort sound key ds) (λ ss more.
    gives_read (next_sort s ss) (λ ts. SpellSorts (item d ds) ts) (sorts_more d ds s ss (subst (λ e. SpellsSort e s) (sym is) spelled) more))))

application_sound : (sort : Members → Reading KoreSort) → Sound sort → (o : Members) → HasText o (codes "tag") (codes "SortApp") → Gives (sort_application sort o) (λ s. SpellsSort (object o) s)
application_sound sort sound o tagged =
    gives_next (member_found o (codes "name")) (λ name has_name. gives_next (member_found o (codes "args")) (λ args has_args.
    gives_next (name_found (codes "name") name) (λ n is_name. gives_next (trees_found (codes "args") args) (λ ds is_list.
    gives_next (items_sound sort sound (codes "args") ds) (λ ss spelled.
    gives_read (sort_of n ss) (λ s. SpellsSort (object o) s) (sort_app o n ds ss tagged (named o (codes "name") name n has_name is_name) (has_as o (codes "args") args (array ds) has_args is_list) spelled))))))

variable_sound : (o : Members) → HasText o (codes "tag") (codes "SortVar") → Gives (after (member_at o (codes "name")) (λ name. after (name_in (codes "name") name) (λ n. read (sort_variable n)))) (λ s. SpellsSort (object o) s)
variable_sound o tagged =
    gives_next (member_found o (codes "name")) (λ name has_name. gives_next (name_found (codes "name") name) (λ n is_name.
    gives_read (sort_variable n) (λ s. SpellsSort (object o) s) (sort_var o n tagged (named o (codes "name") name n has_name is_name))))

sort_sound_within : (n : ℕ) → Sound (sort_within n)
sort_sound_within zero o = gives_fault _ _
sort_sound_within (suc n) o =
    gives_next (tag_gives o) (λ tag has. gives_tag tag (codes "SortApp") (λ is. application_sound (sort_within n) (sort_sound_within n) o (tag_as o tag _ has is))
    (gives_tag tag (codes "SortVar") (λ is. variable_sound o (tag_as o tag _ has is)) (gives_fault _ _)))

pub sort_sound : (o : Members) → Gives (sort_reading o) (λ s. SpellsSort (object o) s)
unfolding sort_reading
sort_sound o = sort_sound_within (depth (object o)) o

-- ---- the members of each form

sort_at : (o : Members) (key : Text) (d : Data) (t : Members) (s : KoreSort) → Has o key d → d ≡ object t → SpellsSort (object t) s → SortAt o key s
sort_at o key d t s has is spelled = record { tree = object t; has = has ∙ ap Some is; spells = spelled }

pub alone_sound : (o : Members) → Gives (sort_alone o) (λ s. SortAt o (codes "sort") s)
unfolding sort_alone
alone_sound o =
    gives_next (member_found o (codes "sort")) (λ sort has. gives_next (tree_found (codes "sort") sort) (λ t is s reads.
    sort_at o (codes "sort") sort t s has is (sort_sound t s reads)))

pub name_and_sort_sound : (o : Members) → Gives (name_and_sort o) (λ r. HasName o (codes "name") r.0 × SortAt o (codes "sort") r.1)
unfolding name_and_sort
name_and_sort_sound o =
    gives_next (member_found o (codes "name")) (λ name has_name. gives_next (member_found o (codes "sort")) (λ sort has_sort.
    gives_next (name_found (codes "name") name) (λ n is_name. gives_next (tree_found (codes "sort") sort) (λ t is_sort.
    gives_next (sort_sound t) (λ s spelled.
    gives_read (n, s) (λ r. HasName o (codes "name") r.0 × SortAt o (codes "sort") r.1)
    (named o (codes "name") name n has_name is_name, sort_at o (codes "sort") sort t s has_sort is_sort spelled))))))

pub sort_and_value_sound : (o : Members) → Gives (sort_and_value o) (λ r. SortAt o (codes "sort") r.0 × HasText o (codes "value") r.1)
unfolding sort_and_value
sort_and_value_sound o =
    gives_next (member_found o (codes "sort")) (λ sort has_sort. gives_next (member_found o (codes "value")) (λ value has_value.
    gives_next (tree_found (codes "sort") sort) (λ t is_sort. gives_next (text_found (codes "value") value) (λ v is_value.
    gives_next (sort_sound t) (λ s spelled.
    gives_read (s, v) (λ r. SortAt o (codes "sort") r.0 × HasText o (codes "value") r.1)
    (sort_at o (codes "sort") sort t s has_sort is_sort spelled, has_as o (codes "value") value (string v) has_value is_value))))))

abbrev pub SymbolAndLists : Members → Text × KoreSorts × Items → Type 0
SymbolAndLists o r = HasName o (codes "name") r.0 × ((ts : Items) × (Has o (codes "sorts") (array ts)) × SpellSorts ts r.1) × Has o (codes "args") (array r.2)

pub symbol_and_lists_sound : (o : Members) → Gives (symbol_and_lists o) (SymbolAndLists o)
unfolding symbol_and_lists
symbol_and_lists_sound o =
    gives_next (member_found o (codes "name")) (λ name has_name. gives_next (member_found o (codes "sorts")) (λ sorts has_sorts. gives_next (member_found o (codes "args")) (λ args has_args.
    gives_next (name_found (codes "name") name) (λ n is_name. gives_next (trees_found (codes "sorts") sorts) (λ ts is_sorts. gives_next (trees_found (codes "args") args) (λ ds is_args.
    gives_next (items_sound sort_reading sort_sound (codes "sorts") ts) (λ ss spelled.
    gives_read (n, ss, ds) (SymbolAndLists o)
    (named o (codes "name") name n has_name is_name, (ts, has_as o (codes "sorts") sorts (array ts) has_sorts is_sorts, spelled), has_as o (codes "args") args (array ds) has_args is_args))))))))

abbrev pub SortAndOne : Members → KoreSort × Members → Type 0
SortAndOne o r = SortAt o (codes "sort") r.0 × Has o (codes "arg") (object r.1)

pub sort_and_one_sound : (o : Members) → Gives (sort_and_one o) (SortAndOne o)
unfolding sort_and_one
sort_and_one_sound o =
    gives_next (member_found o (codes "sort")) (λ sort has_sort. gives_next (member_found o (codes "arg")) (λ arg has_arg.
    gives_next (tree_found (codes "sort") sort) (λ t is_sort. gives_next (tree_found (codes "arg") arg) (λ d is_arg.
    gives_next (sort_sound t) (λ s spelled.
    gives_read (s, d) (SortAndOne o)
    (sort_at o (codes "sort") sort t s has_sort is_sort spelled, has_as o (codes "arg") arg (object d) has_arg is_arg))))))

abbrev pub SortAndTwo : Text → Text → Members → KoreSort × Members × Members → Type 0
SortAndTwo first second o r = SortAt o (codes "sort") r.0 × Has o first (object r.1) × Has o second (object r.2)

pub sort_and_two_sound : (first second : Text) (o : Members) → Gives (sort_and_two first second o) (SortAndTwo first second o)
unfolding sort_and_two
sort_and_two_sound first second o =
    gives_next (member_found o (codes "sort")) (λ sort has_sort. gives_next (member_found o first) (λ one has_one. gives_next (member_found o second) (λ two has_two.
    gives_next (tree_found (codes "sort") sort) (λ t is_sort. gives_next (tree_found first one) (λ d is_one. gives_next (tree_found second two) (λ e is_two.
    gives_next (sort_sound t) (λ s spelled.
    gives_read (s, d, e) (SortAndTwo first second o)
    (sort_at o (codes "sort") sort t s has_sort is_sort spelled, has_as o first one (object d) has_one is_one, has_as o second two (object e) has_two is_two))))))))

abbrev pub SortsAndOne : Members → KoreSort × KoreSort × Members → Type 0
SortsAndOne o r = SortAt o (codes "argSort") r.0 × SortAt o (codes "sort") r.1 × Has o (codes "arg") (object r.2)

pub sorts_and_one_sound : (o : Members) → Gives (sorts_and_one o) (SortsAndOne o)
unfolding sorts_and_one
sorts_and_one_sound o =
    gives_next (member_found o (codes "argSort")) (λ below has_below. gives_next (member_found o (codes "sort")) (λ sort has_sort. gives_next (member_found o (codes "arg")) (λ arg has_arg.
    gives_next (tree_found (codes "argSort") below) (λ b is_below. gives_next (tree_found (codes "sort") sort) (λ t is_sort. gives_next (tree_found (codes "arg") arg) (λ d is_arg.
    gives_next (sort_sound b) (λ a below_spelled. gives_next (sort_sound t) (λ s spelled.
    gives_read (a, s, d) (SortsAndOne o)
    (sort_at o (codes "argSort") below b a has_below is_below below_spelled, sort_at o (codes "sort") sort t s has_sort is_sort spelled, has_as o (codes "arg") arg (object d) has_arg is_arg)))))))))

abbrev pub SortsAndTwo : Members → KoreSort × KoreSort × Members × Members → Type 0
SortsAndTwo o r = SortAt o (codes "argSort") r.0 × SortAt o (codes "sort") r.1 × Has o (codes "first") (object r.2) × Has o (codes "second") (object r.3)

pub sorts_and_two_sound : (o : Members) → Gives (sorts_and_two o) (SortsAndTwo o)
unfolding sorts_and_two
sorts_and_two_sound o =
    gives_next (member_found o (codes "argSort")) (λ below has_below. gives_next (member_found o (codes "sort")) (λ sort has_sort.
    gives_next (member_found o (codes "first")) (λ one has_one. gives_next (member_found o (codes "second")) (λ two has_two.
    gives_next (tree_found (codes "argSort") below) (λ b is_below. gives_next (tree_found (codes "sort") sort) (λ t is_sort.
    gives_next (tree_found (codes "first") one) (λ d is_one. gives_next (tree_found (codes "second") two) (λ e is_two.
    gives_next (sort_sound b) (λ a below_spelled. gives_next (sort_sound t) (λ s spelled.
    gives_read (a, s, d, e) (SortsAndTwo o) (
      sort_at o (codes "argSort") below b a has_below is_below below_spelled,
      sort_at o (codes "sort") sort t s has_sort is_sort spelled,
      has_as o (codes "first") one (object d) has_one is_one,
      has_as o (codes "second") two (object e) has_two is_two,
    )))))))))))

abbrev pub BoundAndOne : Members → KoreSort × Text × KoreSort × Members → Type 0
BoundAndOne o r = SortAt o (codes "sort") r.0 × HasName o (codes "var") r.1 × SortAt o (codes "varSort") r.2 × Has o (codes "arg") (object r.3)

pub bound_and_one_sound : (o : Members) → Gives (bound_and_one o) (BoundAndOne o)
unfolding bound_and_one
bound_and_one_sound o =
    gives_next (member_found o (codes "sort")) (λ sort has_sort. gives_next (member_found o (codes "var")) (λ var has_var.
    gives_next (member_found o (codes "varSort")) (λ bound has_bound. gives_next (member_found o (codes "arg")) (λ arg has_arg.
    gives_next (tree_found (codes "sort") sort) (λ t is_sort. gives_next (name_found (codes "var") var) (λ x is_var.
    gives_next (tree_found (codes "varSort") bound) (λ u is_bound. gives_next (tree_found (codes "arg") arg) (λ d is_arg.
    gives_next (sort_sound t) (λ s spelled. gives_next (sort_sound u) (λ r bound_spelled.
    gives_read (s, x, r, d) (BoundAndOne o) (
      sort_at o (codes "sort") sort t s has_sort is_sort spelled,
      named o (codes "var") var x has_var is_var,
      sort_at o (codes "varSort") bound u r has_bound is_bound bound_spelled,
      has_as o (codes "arg") arg (object d) has_arg is_arg,
    )))))))))))

-- ---- patterns

abbrev Below : ℕ → PatternReader → Type 0
Below n pattern = (o : Members) → Gives (pattern o) (λ p. SpellsPattern n (object o) p)

abbrev Here : ℕ → Members → KorePattern → Type 0
Here n o p = SpellsPattern (suc n) (object o) p

one_sound : (n : ℕ) (pattern : PatternReader) (o d : Members) (make : KorePattern → KorePattern) → Below n pattern
    → ((p : KorePattern) → SpellsPattern n (object d) p → Here n o (make p)) → Gives (one_read pattern make d) (Here n o)
one_sound n pattern o d make below h = gives_next (below d) (λ p spelled. gives_read (make p) (Here n o) (h p spelled))

two_sound : (n : ℕ) (pattern : PatternReader) (o d e : Members) (make : KorePattern → KorePattern → KorePattern) → Below n pattern
    → ((p q : KorePattern) → SpellsPattern n (object d) p → SpellsPattern n (object e) q → Here n o (make p q)) → Gives (two_read pattern make d e) (Here n o)
two_sound n pattern o d e make below h = gives_next (below d) (λ p left. gives_next (below e) (λ q right. gives_read (make p q) (Here n o) (h p q left right)))

patterns_sound : (n : ℕ) (pattern : PatternReader) → Below n pattern → (key : Text) (ds : Items) → Gives (pattern_items pattern key ds) (λ ps. SpellPatterns n ds ps)
patterns_sound n pattern below key no_items = gives_read no_patterns (λ ps. SpellPatterns n no_items ps) (patterns_end n)
patterns_sound n pattern below key (item d ds) =
    gives_next (tree_found key d) (λ o is. gives_next (below o) (λ p spelled. gives_next (patterns_sound n pattern below key ds) (λ ps more.
    gives_read (next_pattern p ps) (λ qs. SpellPatterns n (item d ds) qs) (patterns_more n d ds p ps (subst (λ e. SpellsPattern n e p) (sym is) spelled) more))))

double_sound : (n : ℕ) (pattern : PatternReader) (o : Members) (tag : Text) → Below n pattern → HasText o (codes "tag") tag → Gives (double_tagged pattern o tag) (Here n o)
unfolding double_tagged
double_sound n pattern o tag below has =
    gives_tag tag (codes "Implies") (λ is. gives_next (sort_and_two_sound (codes "first") (codes "second") o) (λ r h. two_sound n pattern o r.1 r.2 (implication r.0) below (λ p q left right.
    implies_tree n o r.0 p q (tag_as o tag _ has is) h.0 (two_trees n o _ _ (object r.1) (object r.2) p q h.1 h.2 left right))))
    (gives_tag tag (codes "Iff") (λ is. gives_next (sort_and_two_sound (codes "first") (codes "second") o) (λ r h. two_sound n pattern o r.1 r.2 (equivalence r.0) below (λ p q left right.
    iff_tree n o r.0 p q (tag_as o tag _ has is) h.0 (two_trees n o _ _ (object r.1) (object r.2) p q h.1 h.2 left right))))
    (gives_tag tag (codes "Rewrites") (λ is. gives_next (sort_and_two_sound (codes "source") (codes "dest") o) (λ r h. two_sound n pattern o r.1 r.2 (rewriting r.0) below (λ p q left right.
    rewrites_tree n o r.0 p q (tag_as o tag _ has is) h.0 (two_trees n o _ _ (object r.1) (object r.2) p q h.1 h.2 left right))))
    (gives_tag tag (codes "Equals") (λ is. gives_next (sorts_and_two_sound o) (λ r h. two_sound n pattern o r.2 r.3 (equals r.0 r.1) below (λ p q left right.
    equals_tree n o r.0 r.1 p q (tag_as o tag _ has is) h.0 h.1 (two_trees n o _ _ (object r.2) (object r.3) p q h.2 h.3 left right))))
    (gives_tag tag (codes "In") (λ is. gives_next (sorts_and_two_sound o) (λ r h. two_sound n pattern o r.2 r.3 (membership r.0 r.1) below (λ p q left right.
    in_tree n o r.0 r.1 p q (tag_as o tag _ has is) h.0 h.1 (two_trees n o _ _ (object r.2) (object r.3) p q h.2 h.3 left right))))
    (gives_fault _ _)))))

single_sound : (n : ℕ) (pattern : PatternReader) (o : Members) (tag : Text) → Below n pattern → HasText o (codes "tag") tag → Gives (single_tagged pattern o tag) (Here n o)
unfolding single_tagged
single_sound n pattern o tag below has =
    gives_tag tag (codes "Not") (λ is. gives_next (sort_and_one_sound o) (λ r h. one_sound n pattern o r.1 (negation r.0) below (λ p spelled.
    not_tree n o r.0 (object r.1) p (tag_as o tag _ has is) h.0 h.1 spelled)))
    (gives_tag tag (codes "Exists") (λ is. gives_next (bound_and_one_sound o) (λ r h. one_sound n pattern o r.3 (exists r.0 r.1 r.2) below (λ p spelled.
    exists_tree n o r.0 r.2 r.1 (object r.3) p (tag_as o tag _ has is) h.0 h.1 h.2 h.3 spelled)))
    (gives_tag tag (codes "Forall") (λ is. gives_next (bound_and_one_sound o) (λ r h. one_sound n pattern o r.3 (forall r.0 r.1 r.2) below (λ p spelled.
    forall_tree n o r.0 r.2 r.1 (object r.3) p (tag_as o tag _ has is) h.0 h.1 h.2 h.3 spelled)))
    (gives_tag tag (codes "Ceil") (λ is. gives_next (sorts_and_one_sound o) (λ r h. one_sound n pattern o r.2 (ceil r.0 r.1) below (λ p spelled.
    ceil_tree n o r.0 r.1 (object r.2) p (tag_as o tag _ has is) h.0 h.1 h.2 spelled)))
    (gives_tag tag (codes "Floor") (λ is. gives_next (sorts_and_one_sound o) (λ r h. one_sound n pattern o r.2 (floor r.0 r.1) below (λ p spelled.
    floor_tree n o r.0 r.1 (object r.2) p (tag_as o tag _ has is) h.0 h.1 h.2 spelled)))
    (double_sound n pattern o tag below has)))))

-- ---- And and Or

abbrev pub SortAndMembers : ℕ → Members → KoreSort × KorePatterns → Type 0
SortAndMembers n o r = SortAt o (codes "sort") r.0 × SpellsMembers n o r.1

list_sound : (n : ℕ) (pattern : PatternReader) (o : Members) (sort list : Data) → Below n pattern → Has o (codes "sort") sort → Has o (codes "patterns") list
    → Gives (sort_and_list pattern sort list) (SortAndMembers n o)
list_sound n pattern o sort list below has_sort has_list =
    gives_next (tree_found (codes "sort") sort) (λ t is_sort. gives_next (trees_found (codes "patterns") list) (λ ds is_list.
    gives_next (sort_sound t) (λ s spelled. gives_next (patterns_sound n pattern below (codes "patterns") ds) (λ ps all.
    gives_read (s, ps) (SortAndMembers n o)
    (sort_at o (codes "sort") sort t s has_sort is_sort spelled, listed n o ds ps (has_as o (codes "patterns") list (array ds) has_list is_list) all)))))

pair_sound : (n : ℕ) (pattern : PatternReader) (o : Members) → Below n pattern → Lacks o (codes "patterns") → Gives (sort_and_pair pattern o) (SortAndMembers n o)
pair_sound n pattern o below lacks =
    gives_next (sort_and_two_sound (codes "first") (codes "second") o) (λ r h. gives_next (below r.1) (λ p left. gives_next (below r.2) (λ q right.
    gives_read (r.0, next_pattern p (next_pattern q no_patterns)) (SortAndMembers n o)
    (h.0, first_and_second n o p q lacks (two_trees n o _ _ (object r.1) (object r.2) p q h.1 h.2 left right)))))

gives_unless : {A : Type 0} {r : Reading A} {Q : A → Type 0} (b : Bool) (x : TreeFault) → Gives r Q → Gives (if b then fault x else r) Q
gives_unless true x g = gives_fault _ x
gives_unless false x g = g

listed_or_pair_sound : (n : ℕ) (pattern : PatternReader) (o : Members) (sort : Data) (list : Option Data) → Below n pattern → Has o (codes "sort") sort → get_member (codes "patterns") o ≡ list
    → Gives (listed_or_pair pattern o sort list) (SortAndMembers n o)
listed_or_pair_sound n pattern o sort (Some list) below has is = list_sound n pattern o sort list below has is
listed_or_pair_sound n pattern o sort None below has is = gives_unless _ _ (pair_sound n pattern o below is)

members_sound : (n : ℕ) (pattern : PatternReader) (o : Members) → Below n pattern → Gives (sort_and_members pattern o) (SortAndMembers n o)
members_sound n pattern o below = gives_next (member_found o (codes "sort")) (λ sort has. listed_or_pair_sound n pattern o sort (get_member (codes "patterns") o) below has refl)

listed_sound : (n : ℕ) (pattern : PatternReader) (o : Members) (tag : Text) → Below n pattern → HasText o (codes "tag") tag → Gives (listed_tagged pattern o tag) (Here n o)
listed_sound n pattern o tag below has =
    gives_tag tag (codes "App") (λ is. gives_next (symbol_and_lists_sound o) (λ r h. gives_next (patterns_sound n pattern below (codes "args") r.2) (λ ps all.
    gives_read (application r.0 r.1 ps) (Here n o) (app n o r.0 h.1.0 r.2 r.1 ps (tag_as o tag _ has is) h.0 h.1.1 h.1.2 h.2 all))))
    (gives_tag tag (codes "And") (λ is. gives_next (members_sound n pattern o below) (λ r h. gives_read (conjunction_of r.0 r.1) (Here n o) (and_tree n o r.0 r.1 _ (tag_as o tag _ has is) h.0 h.1 refl)))
    (gives_tag tag (codes "Or") (λ is. gives_next (members_sound n pattern o below) (λ r h. gives_read (disjunction_of r.0 r.1) (Here n o) (or_tree n o r.0 r.1 _ (tag_as o tag _ has is) h.0 h.1 refl)))
    (single_sound n pattern o tag below has)))

tagged_sound : (n : ℕ) (pattern : PatternReader) (o : Members) (tag : Text) → Below n pattern → HasText o (codes "tag") tag → Gives (pattern_tagged pattern o tag) (Here n o)
tagged_sound n pattern o tag below has =
    gives_tag tag (codes "EVar") (λ is. gives_next (name_and_sort_sound o) (λ r h. gives_read (variable r.0 r.1) (Here n o) (evar n o r.0 r.1 (tag_as o tag _ has is) h.0 h.1)))
    (gives_tag tag (codes "DV") (λ is. gives_next (sort_and_value_sound o) (λ r h. gives_read (literal r.0 r.1) (Here n o) (dv n o r.0 r.1 (tag_as o tag _ has is) h.0 h.1)))
    (gives_tag tag (codes "Top") (λ is. gives_next (alone_sound o) (λ s h. gives_read (top s) (Here n o) (top_tree n o s (tag_as o tag _ has is) h)))
    (gives_tag tag (codes "Bottom") (λ is. gives_next (alone_sound o) (λ s h. gives_read (bottom s) (Here n o) (bottom_tree n o s (tag_as o tag _ has is) h)))
    (listed_sound n pattern o tag below has))))

pub pattern_sound : (n : ℕ) (o : Members) → Gives (pattern_within n o) (λ p. SpellsPattern n (object o) p)
pattern_sound zero o = gives_fault _ _
pattern_sound (suc n) o = gives_next (tag_gives o) (λ tag has. tagged_sound n (pattern_within n) o tag (pattern_sound n) has)

-- ---- the wrapper

whole_found : (key : Text) (d : Data) → Gives (whole_in key d) (λ n. d ≡ number n)
whole_found key null n h = absurd (cc h)
whole_found key (boolean b) n h = absurd (cc h)
whole_found key (number (unsigned x)) n h = cc h
whole_found key (number (negative x)) n h = cc h
whole_found key (number (float x)) n h = absurd (cc h)
whole_found key (string b) n h = absurd (cc h)
whole_found key (array b) n h = absurd (cc h)
whole_found key (object b) n h = absurd (cc h)

one_found : (n : Num) → is_one n ≡ true → n ≡ unsigned 1
one_found (unsigned n) h = ap unsigned (eqb-true n 1 h)
one_found (negative z) h = absurd (cc h)
one_found (float x) h = absurd (cc h)

gives_if : {A : Type 0} {r : Reading A} {Q : A → Type 0} (b : Bool) (x : TreeFault) → (b ≡ true → Gives r Q) → Gives (if b then r else fault x) Q
gives_if true x g = g refl
gives_if false x g = gives_fault _ x

abbrev Wrapped : Members → Members → Type 0
Wrapped o t = HasText o (codes "format") (codes "KORE") × Has o (codes "version") (number (unsigned 1)) × Has o (codes "term") (object t)

term_sound : (o : Members) → Gives (wrapped_term o) (Wrapped o)
term_sound o =
    gives_next (member_found o (codes "format")) (λ format has_format. gives_next (member_found o (codes "version")) (λ version has_version. gives_next (member_found o (codes "term")) (λ term has_term.
    gives_next (text_found (codes "format") format) (λ f is_format. gives_next (whole_found (codes "version") version) (λ v is_version. gives_next (tree_found (codes "term") term) (λ t is_term.
    gives_if (bytes_eq f (codes "KORE")) _ (λ kore. gives_if (is_one v) _ (λ one. gives_read t (Wrapped o) (
      has_as o (codes "format") format (string (codes "KORE")) has_format (is_format ∙ ap string ((bytes_eq-Decides f (codes "KORE")).0 kore)),
      has_as o (codes "version") version (number (unsigned 1)) has_version (is_version ∙ ap number (one_found v one)),
      has_as o (codes "term") term (object t) has_term is_term,
    )))))))))

pub wrapped_sound : (d : Data) (p : KorePattern) → wrapped_reading d ≡ read p → SpellsWrapped d p
wrapped_sound d = gives_next (object_found d) (λ o is. gives_next (term_sound o) (λ t h p reads.
    subst (λ e. SpellsWrapped e p) (sym is) (wrapper o (object t) p h.0 h.1 h.2 (pattern_sound most_patterns t p reads))))
  where
    object_found : (d : Data) → Gives (wrapped_object d) (λ o. d ≡ object o)
    object_found null o h = absurd (cc h)
    object_found (boolean b) o h = absurd (cc h)
    object_found (number b) o h = absurd (cc h)
    object_found (string b) o h = absurd (cc h)
    object_found (array b) o h = absurd (cc h)
    object_found (object b) o h = cc h
