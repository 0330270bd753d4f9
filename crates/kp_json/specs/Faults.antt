-- What is read of a tree, or its first fault: at each node its tag first, then members that are missing by the order of
-- the tag's table, then members of another kind in that order, then the members themselves in that order.
-- Source: the K framework's Kore JSON, version 1, with the codes J1 to J5.
use Rattle.std.specs.Prelude.{ℕ, zero, suc, Bool, true, false, ◌&&◌, ◌==◌, Option, Some, None, is_none, codes, bytes_eq, if◌then◌else◌}
use Rattle.serde_json.specs.Data.{Num, unsigned, Data, object, Items, no_items, item, Members, depth}
use Rattle.serde_json.specs.Find.{get_member, as_number, as_str, as_array, as_object, is_float}
use Rattle.kp_kore.specs.Syntax.{Text, KoreSort, sort_of, sort_variable, KoreSorts, no_sorts, next_sort, KorePattern, variable, application, literal, top, bottom, negation, implication, equivalence, rewriting, exists, forall, ceil, floor, equals, membership, KorePatterns, no_patterns, next_pattern}
use Rattle.kp_kore.specs.Folds.{conjunction_of, disjunction_of}
use Rattle.kp_json.specs.Members.{is_identifier}
use Rattle.kp_json.specs.Trees.{most_patterns}

-- J1 no such tag, J2 a member is missing, J3 a member of another kind, J4 another format or version, J5 nested too deep
pub data TreeFault : Type 0 where
  unknown_tag : Text → TreeFault
  missing_member : Text → TreeFault
  wrong_kind : Text → TreeFault
  wrong_format : Text → TreeFault
  nested_too_deep : TreeFault

pub data Reading (A : Type 0) : Type 0 where
  fault : TreeFault → Reading A
  read : A → Reading A

abbrev pub after : {A B : Type 0} → Reading A → (A → Reading B) → Reading B
after (fault f) next = fault f
after (read a) next = next a

abbrev pub or_fault : {A : Type 0} → TreeFault → Option A → Reading A
or_fault f None = fault f
or_fault f (Some a) = read a

-- ---- members, and kinds

abbrev pub member_at : Members → Text → Reading Data
member_at o key = or_fault (missing_member key) (get_member key o)

abbrev pub text_in : Text → Data → Reading Text
text_in key d = or_fault (wrong_kind key) (as_str d)

abbrev pub name_in : Text → Data → Reading Text
name_in key d = after (text_in key d) (λ t. if is_identifier t then read t else fault (wrong_kind key))

abbrev pub tree_in : Text → Data → Reading Members
tree_in key d = or_fault (wrong_kind key) (as_object d)

abbrev pub are_objects : Items → Bool
are_objects no_items = true
are_objects (item (object o) ds) = are_objects ds
are_objects (item d ds) = false

abbrev pub trees_in : Text → Data → Reading Items
trees_in key d = after (or_fault (wrong_kind key) (as_array d)) (λ ds. if are_objects ds then read ds else fault (wrong_kind key))

abbrev pub tag_of : Members → Reading Text
tag_of o = after (member_at o (codes "tag")) (text_in (codes "tag"))

-- ---- sorts

abbrev pub sort_items : (Members → Reading KoreSort) → Text → Items → Reading KoreSorts
sort_items sort key no_items = read no_sorts
sort_items sort key (item d ds) = after (tree_in key d) (λ o. after (sort o) (λ s. after (sort_items sort key ds) (λ ss. read (next_sort s ss))))

abbrev pub sort_application : (Members → Reading KoreSort) → Members → Reading KoreSort
sort_application sort o =
    after (member_at o (codes "name")) (λ name. after (member_at o (codes "args")) (λ args.
    after (name_in (codes "name") name) (λ n. after (trees_in (codes "args") args) (λ ds.
    after (sort_items sort (codes "args") ds) (λ ss. read (sort_of n ss))))))

abbrev pub named_sort_variable : Members → Reading KoreSort
named_sort_variable o = after (member_at o (codes "name")) (λ name. after (name_in (codes "name") name) (λ n. read (sort_variable n)))

abbrev pub sort_tagged : (Members → Reading KoreSort) → Members → Text → Reading KoreSort
sort_tagged sort o tag =
    if bytes_eq tag (codes "SortApp") then sort_application sort o
    else (if bytes_eq tag (codes "SortVar") then named_sort_variable o
    else fault (unknown_tag tag))

-- the sort of a tree that nests at most so deep
abbrev pub sort_within : ℕ → Members → Reading KoreSort
sort_within zero o = fault nested_too_deep
sort_within (suc n) o = after (tag_of o) (sort_tagged (sort_within n) o)

unfoldable pub sort_reading : Members → Reading KoreSort
sort_reading o = sort_within (depth (object o)) o

-- ---- what each form's members give, but for the patterns below

abbrev pub PatternReader : Type 0
PatternReader = Members → Reading KorePattern

abbrev pub pattern_items : PatternReader → Text → Items → Reading KorePatterns
pattern_items pattern key no_items = read no_patterns
pattern_items pattern key (item d ds) = after (tree_in key d) (λ o. after (pattern o) (λ p. after (pattern_items pattern key ds) (λ ps. read (next_pattern p ps))))

unfoldable pub sort_alone : Members → Reading KoreSort
sort_alone o = after (member_at o (codes "sort")) (λ sort. after (tree_in (codes "sort") sort) sort_reading)

unfoldable pub name_and_sort : Members → Reading (Text × KoreSort)
name_and_sort o =
    after (member_at o (codes "name")) (λ name. after (member_at o (codes "sort")) (λ sort.
    after (name_in (codes "name") name) (λ n. after (tree_in (codes "sort") sort) (λ t.
    after (sort_reading t) (λ s. read (n, s))))))

unfoldable pub sort_and_value : Members → Reading (KoreSort × Text)
sort_and_value o =
    after (member_at o (codes "sort")) (λ sort. after (member_at o (codes "value")) (λ value.
    after (tree_in (codes "sort") sort) (λ t. after (text_in (codes "value") value) (λ v.
    after (sort_reading t) (λ s. read (s, v))))))

unfoldable pub symbol_and_lists : Members → Reading (Text × KoreSorts × Items)
symbol_and_lists o =
    after (member_at o (codes "name")) (λ name. after (member_at o (codes "sorts")) (λ sorts. after (member_at o (codes "args")) (λ args.
    after (name_in (codes "name") name) (λ n. after (trees_in (codes "sorts") sorts) (λ ts. after (trees_in (codes "args") args) (λ ds.
    after (sort_items sort_reading (codes "sorts") ts) (λ ss. read (n, ss, ds))))))))

unfoldable pub sort_and_one : Members → Reading (KoreSort × Members)
sort_and_one o =
    after (member_at o (codes "sort")) (λ sort. after (member_at o (codes "arg")) (λ arg.
    after (tree_in (codes "sort") sort) (λ t. after (tree_in (codes "arg") arg) (λ d.
    after (sort_reading t) (λ s. read (s, d))))))

unfoldable pub sort_and_two : Text → Text → Members → Reading (KoreSort × Members × Members)
sort_and_two first second o =
    after (member_at o (codes "sort")) (λ sort. after (member_at o first) (λ one. after (member_at o second) (λ two.
    after (tree_in (codes "sort") sort) (λ t. after (tree_in first one) (λ d. after (tree_in second two) (λ e.
    after (sort_reading t) (λ s. read (s, d, e))))))))

abbrev pub sorts_and_one_in : Data → Data → Data → Reading (KoreSort × KoreSort × Members)
sorts_and_one_in below sort arg =
    after (tree_in (codes "argSort") below) (λ b. after (tree_in (codes "sort") sort) (λ t. after (tree_in (codes "arg") arg) (λ d.
    after (sort_reading b) (λ a. after (sort_reading t) (λ s. read (a, s, d))))))

unfoldable pub sorts_and_one : Members → Reading (KoreSort × KoreSort × Members)
sorts_and_one o =
    after (member_at o (codes "argSort")) (λ below. after (member_at o (codes "sort")) (λ sort. after (member_at o (codes "arg")) (λ arg. sorts_and_one_in below sort arg)))

abbrev pub sorts_and_two_of : Members → Members → Members → Members → Reading (KoreSort × KoreSort × Members × Members)
sorts_and_two_of b t d e = after (sort_reading b) (λ a. after (sort_reading t) (λ s. read (a, s, d, e)))

abbrev pub sorts_and_two_in : Data → Data → Data → Data → Reading (KoreSort × KoreSort × Members × Members)
sorts_and_two_in below sort one two =
    after (tree_in (codes "argSort") below) (λ b. after (tree_in (codes "sort") sort) (λ t. after (tree_in (codes "first") one) (λ d. after (tree_in (codes "second") two) (λ e. sorts_and_two_of b t d e))))

unfoldable pub sorts_and_two : Members → Reading (KoreSort × KoreSort × Members × Members)
sorts_and_two o =
    after (member_at o (codes "argSort")) (λ below. after (member_at o (codes "sort")) (λ sort. after (member_at o (codes "first")) (λ one. after (member_at o (codes "second")) (λ two.
    sorts_and_two_in below sort one two))))

abbrev pub bound_and_one_of : Members → Text → Members → Members → Reading (KoreSort × Text × KoreSort × Members)
bound_and_one_of t x u d = after (sort_reading t) (λ s. after (sort_reading u) (λ r. read (s, x, r, d)))

abbrev pub bound_and_one_in : Data → Data → Data → Data → Reading (KoreSort × Text × KoreSort × Members)
bound_and_one_in sort var var_sort arg =
    after (tree_in (codes "sort") sort) (λ t. after (name_in (codes "var") var) (λ x. after (tree_in (codes "varSort") var_sort) (λ u. after (tree_in (codes "arg") arg) (λ d. bound_and_one_of t x u d))))

unfoldable pub bound_and_one : Members → Reading (KoreSort × Text × KoreSort × Members)
bound_and_one o =
    after (member_at o (codes "sort")) (λ sort. after (member_at o (codes "var")) (λ var. after (member_at o (codes "varSort")) (λ var_sort. after (member_at o (codes "arg")) (λ arg.
    bound_and_one_in sort var var_sort arg))))

-- ---- patterns by their tags

abbrev pub one_read : PatternReader → (KorePattern → KorePattern) → Members → Reading KorePattern
one_read pattern make d = after (pattern d) (λ p. read (make p))

abbrev pub two_read : PatternReader → (KorePattern → KorePattern → KorePattern) → Members → Members → Reading KorePattern
two_read pattern make d e = after (pattern d) (λ p. after (pattern e) (λ q. read (make p q)))

unfoldable pub double_tagged : PatternReader → Members → Text → Reading KorePattern
double_tagged pattern o tag =
    if bytes_eq tag (codes "Implies") then after (sort_and_two (codes "first") (codes "second") o) (λ r. two_read pattern (implication r.0) r.1 r.2)
    else (if bytes_eq tag (codes "Iff") then after (sort_and_two (codes "first") (codes "second") o) (λ r. two_read pattern (equivalence r.0) r.1 r.2)
    else (if bytes_eq tag (codes "Rewrites") then after (sort_and_two (codes "source") (codes "dest") o) (λ r. two_read pattern (rewriting r.0) r.1 r.2)
    else (if bytes_eq tag (codes "Equals") then after (sorts_and_two o) (λ r. two_read pattern (equals r.0 r.1) r.2 r.3)
    else (if bytes_eq tag (codes "In") then after (sorts_and_two o) (λ r. two_read pattern (membership r.0 r.1) r.2 r.3) else fault (unknown_tag tag)))))

unfoldable pub single_tagged : PatternReader → Members → Text → Reading KorePattern
single_tagged pattern o tag =
    if bytes_eq tag (codes "Not") then after (sort_and_one o) (λ r. one_read pattern (negation r.0) r.1)
    else (if bytes_eq tag (codes "Exists") then after (bound_and_one o) (λ r. one_read pattern (exists r.0 r.1 r.2) r.3)
    else (if bytes_eq tag (codes "Forall") then after (bound_and_one o) (λ r. one_read pattern (forall r.0 r.1 r.2) r.3)
    else (if bytes_eq tag (codes "Ceil") then after (sorts_and_one o) (λ r. one_read pattern (ceil r.0 r.1) r.2)
    else (if bytes_eq tag (codes "Floor") then after (sorts_and_one o) (λ r. one_read pattern (floor r.0 r.1) r.2) else double_tagged pattern o tag))))

-- And and Or: under patterns, else first and second; where all three are missing, it is patterns that is missing
abbrev pub sort_and_list : PatternReader → Data → Data → Reading (KoreSort × KorePatterns)
sort_and_list pattern sort list =
    after (tree_in (codes "sort") sort) (λ t. after (trees_in (codes "patterns") list) (λ ds.
    after (sort_reading t) (λ s. after (pattern_items pattern (codes "patterns") ds) (λ ps. read (s, ps)))))

abbrev pub sort_and_pair : PatternReader → Members → Reading (KoreSort × KorePatterns)
sort_and_pair pattern o = after (sort_and_two (codes "first") (codes "second") o) (λ r. after (pattern r.1) (λ p. after (pattern r.2) (λ q. read (r.0, next_pattern p (next_pattern q no_patterns)))))

abbrev pub listed_or_pair : PatternReader → Members → Data → Option Data → Reading (KoreSort × KorePatterns)
listed_or_pair pattern o sort (Some list) = sort_and_list pattern sort list
listed_or_pair pattern o sort None =
    if is_none (get_member (codes "first") o) && is_none (get_member (codes "second") o) then fault (missing_member (codes "patterns"))
    else sort_and_pair pattern o

abbrev pub sort_and_members : PatternReader → Members → Reading (KoreSort × KorePatterns)
sort_and_members pattern o = after (member_at o (codes "sort")) (λ sort. listed_or_pair pattern o sort (get_member (codes "patterns") o))

abbrev pub listed_tagged : PatternReader → Members → Text → Reading KorePattern
listed_tagged pattern o tag =
    if bytes_eq tag (codes "App") then after (symbol_and_lists o) (λ r. after (pattern_items pattern (codes "args") r.2) (λ ps. read (application r.0 r.1 ps)))
    else (if bytes_eq tag (codes "And") then after (sort_and_members pattern o) (λ r. read (conjunction_of r.0 r.1))
    else (if bytes_eq tag (codes "Or") then after (sort_and_members pattern o) (λ r. read (disjunction_of r.0 r.1)) else single_tagged pattern o tag))

abbrev pub pattern_tagged : PatternReader → Members → Text → Reading KorePattern
pattern_tagged pattern o tag =
    if bytes_eq tag (codes "EVar") then after (name_and_sort o) (λ r. read (variable r.0 r.1))
    else (if bytes_eq tag (codes "DV") then after (sort_and_value o) (λ r. read (literal r.0 r.1))
    else (if bytes_eq tag (codes "Top") then after (sort_alone o) (λ s. read (top s))
    else (if bytes_eq tag (codes "Bottom") then after (sort_alone o) (λ s. read (bottom s)) else listed_tagged pattern o tag)))

-- the pattern of a tree in which patterns nest at most so deep
abbrev pub pattern_within : ℕ → Members → Reading KorePattern
pattern_within zero o = fault nested_too_deep
pattern_within (suc n) o = after (tag_of o) (pattern_tagged (pattern_within n) o)

-- ---- the wrapper

abbrev pub whole_in : Text → Data → Reading Num
whole_in key d = after (or_fault (wrong_kind key) (as_number d)) (λ n. if is_float n then fault (wrong_kind key) else read n)

abbrev pub is_one : Num → Bool
is_one (unsigned n) = n == 1
is_one n = false

-- the term of a wrapper of format KORE and version 1
abbrev pub wrapped_term : Members → Reading Members
wrapped_term o =
    after (member_at o (codes "format")) (λ format. after (member_at o (codes "version")) (λ version. after (member_at o (codes "term")) (λ term.
    after (text_in (codes "format") format) (λ f. after (whole_in (codes "version") version) (λ v. after (tree_in (codes "term") term) (λ t.
    if bytes_eq f (codes "KORE") then (if is_one v then read t else fault (wrong_format (codes "version"))) else fault (wrong_format (codes "format"))))))))

-- what is no object has no format either
abbrev pub wrapped_object : Data → Reading Members
wrapped_object d = or_fault (missing_member (codes "format")) (as_object d)

abbrev pub wrapped_reading : Data → Reading KorePattern
wrapped_reading d = after (wrapped_object d) (λ o. after (wrapped_term o) (pattern_within most_patterns))
