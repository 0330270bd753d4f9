-- What a tree spells is read of it.
use Rattle.std.proofs.Common.{◌≡◌, ℕ, Some, true, refl, sym, ap, ◌∙◌}
use Rattle.std.specs.Prelude.{codes}
use Rattle.serde_json.specs.Data.{Data, array, object, Items, item, Members}
use Rattle.kp_kore.specs.Syntax.{Text, KoreSort, KoreSorts, next_sort, KorePattern, negation, implication, equivalence, rewriting, exists, forall, ceil, floor, equals, membership, KorePatterns, no_patterns, next_pattern}
use Rattle.kp_json.specs.Members.{Has, HasText, Lacks}
use Rattle.kp_json.specs.Faults.{read, after, are_objects, sort_items, sort_reading, pattern_items, sort_alone, name_and_sort, sort_and_value, symbol_and_lists, sort_and_one, sort_and_two, sorts_and_one, sorts_and_two, bound_and_one, one_read, two_read, double_tagged, single_tagged, sort_and_members, pattern_within, wrapped_reading}
use Rattle.kp_json.specs.Trees.{HasName, SpellsSort, sort_app, sort_var, SpellSorts, sorts_end, sorts_more, SortAt, SpellsPattern, evar, app, dv, top_tree, bottom_tree, not_tree, and_tree, or_tree, implies_tree, iff_tree, rewrites_tree, exists_tree, forall_tree, equals_tree, in_tree, ceil_tree, floor_tree, SpellPatterns, patterns_end, patterns_more, SpellsTwo, two_trees, SpellsMembers, listed, first_and_second, SpellsWrapped, wrapper}
use Rattle.kp_json.proofs.Sorts.{sort_unfolds}

-- ---- sorts

-- the tree is an object of which this sort is read
record ReadsSort (d : Data) (s : KoreSort) : Type 0 where
  members : Members
  is : d ≡ object members
  reads : sort_reading members ≡ read s

-- the trees are objects of which these sorts are read
record ReadSorts (key : Text) (ds : Items) (ss : KoreSorts) : Type 0 where
  objects : are_objects ds ≡ true
  reads : sort_items sort_reading key ds ≡ read ss

objects_more : (d : Data) (o : Members) (ds : Items) → d ≡ object o → are_objects ds ≡ true → are_objects (item d ds) ≡ true
objects_more d o ds is more = ap (λ e. are_objects (item e ds)) is ∙ more

sorts_reads_more : (key : Text) (d : Data) (ds : Items) (s : KoreSort) (ss : KoreSorts) → ReadsSort d s → ReadSorts key ds ss → ReadSorts key (item d ds) (next_sort s ss)
sorts_reads_more key d ds s ss first rest = record {
  objects = objects_more d first.members ds first.is rest.objects;
  reads = rw (first.is, first.reads, rest.reads) refl;
}

mutual
  sort_complete : (d : Data) (s : KoreSort) → SpellsSort d s → ReadsSort d s
  sort_complete _ _ (sort_app o name ds ss tag name_is args spelled) =
      let all = sorts_complete (codes "args") ds ss spelled in
      record { members = o; is = refl; reads = sort_unfolds o ∙ rw (tag, name_is.text, args, name_is.identifier, all.objects, all.reads) refl }
  sort_complete _ _ (sort_var o name tag name_is) =
      record { members = o; is = refl; reads = sort_unfolds o ∙ rw (tag, name_is.text, name_is.identifier) refl }

  sorts_complete : (key : Text) (ds : Items) (ss : KoreSorts) → SpellSorts ds ss → ReadSorts key ds ss
  sorts_complete key _ _ sorts_end = record { objects = refl; reads = refl }
  sorts_complete key _ _ (sorts_more d ds s ss spelled more) = sorts_reads_more key d ds s ss (sort_complete d s spelled) (sorts_complete key ds ss more)

-- ---- the members of each form

record ReadsAt (o : Members) (key : Text) (s : KoreSort) : Type 0 where
  members : Members
  has : Has o key (object members)
  reads : sort_reading members ≡ read s

reads_at : (o : Members) (key : Text) (s : KoreSort) → SortAt o key s → ReadsAt o key s
reads_at o key s h =
    let r = sort_complete h.tree s h.spells in
    record { members = r.members; has = h.has ∙ ap Some r.is; reads = r.reads }

alone_reads : (o : Members) (s : KoreSort) → ReadsAt o (codes "sort") s → sort_alone o ≡ read s
unfolding sort_alone
alone_reads o s h = rw h.has h.reads

name_and_sort_reads : (o : Members) (n : Text) (s : KoreSort) → HasName o (codes "name") n → ReadsAt o (codes "sort") s → name_and_sort o ≡ read (n, s)
unfolding name_and_sort
name_and_sort_reads o n s name h = rw (name.text, h.has, name.identifier, h.reads) refl

sort_and_value_reads : (o : Members) (s : KoreSort) (t : Text) → ReadsAt o (codes "sort") s → HasText o (codes "value") t → sort_and_value o ≡ read (s, t)
unfolding sort_and_value
sort_and_value_reads o s t h value = rw (h.has, value, h.reads) refl

symbol_and_lists_reads : (o : Members) (n : Text) (ts : Items) (ss : KoreSorts) (ds : Items) → HasName o (codes "name") n → Has o (codes "sorts") (array ts) → ReadSorts (codes "sorts") ts ss
    → Has o (codes "args") (array ds) → are_objects ds ≡ true → symbol_and_lists o ≡ read (n, ss, ds)
unfolding symbol_and_lists
symbol_and_lists_reads o n ts ss ds name sorts all args objects = rw (name.text, sorts, args, name.identifier, all.objects, objects, all.reads) refl

sort_and_one_reads : (o : Members) (s : KoreSort) (d : Members) → ReadsAt o (codes "sort") s → Has o (codes "arg") (object d) → sort_and_one o ≡ read (s, d)
unfolding sort_and_one
sort_and_one_reads o s d h arg = rw (h.has, arg, h.reads) refl

sort_and_two_reads : (first second : Text) (o : Members) (s : KoreSort) (d e : Members) → ReadsAt o (codes "sort") s → Has o first (object d) → Has o second (object e)
    → sort_and_two first second o ≡ read (s, d, e)
unfolding sort_and_two
sort_and_two_reads first second o s d e h one two = rw (h.has, one, two, h.reads) refl

sorts_and_one_reads : (o : Members) (a s : KoreSort) (d : Members) → ReadsAt o (codes "argSort") a → ReadsAt o (codes "sort") s → Has o (codes "arg") (object d) → sorts_and_one o ≡ read (a, s, d)
unfolding sorts_and_one
sorts_and_one_reads o a s d below h arg = rw (below.has, h.has, arg, below.reads, h.reads) refl

sorts_and_two_reads : (o : Members) (a s : KoreSort) (d e : Members) → ReadsAt o (codes "argSort") a → ReadsAt o (codes "sort") s → Has o (codes "first") (object d) → Has o (codes "second") (object e)
    → sorts_and_two o ≡ read (a, s, d, e)
unfolding sorts_and_two
sorts_and_two_reads o a s d e below h one two = rw (below.has, h.has, one, two, below.reads, h.reads) refl

bound_and_one_reads : (o : Members) (s : KoreSort) (x : Text) (t : KoreSort) (d : Members) → ReadsAt o (codes "sort") s → HasName o (codes "var") x → ReadsAt o (codes "varSort") t → Has o (codes "arg") (object d)
    → bound_and_one o ≡ read (s, x, t, d)
unfolding bound_and_one
bound_and_one_reads o s x t d h name below arg = rw (h.has, name.text, below.has, arg, name.identifier, h.reads, below.reads) refl

-- ---- patterns

record ReadsPattern (n : ℕ) (d : Data) (p : KorePattern) : Type 0 where
  members : Members
  is : d ≡ object members
  reads : pattern_within n members ≡ read p

record ReadPatterns (n : ℕ) (key : Text) (ds : Items) (ps : KorePatterns) : Type 0 where
  objects : are_objects ds ≡ true
  reads : pattern_items (pattern_within n) key ds ≡ read ps

record ReadsTwo (n : ℕ) (o : Members) (first second : Text) (p q : KorePattern) : Type 0 where
  left_tree : Members
  right_tree : Members
  left_has : Has o first (object left_tree)
  right_has : Has o second (object right_tree)
  left : pattern_within n left_tree ≡ read p
  right : pattern_within n right_tree ≡ read q

patterns_read_more : (n : ℕ) (key : Text) (d : Data) (ds : Items) (p : KorePattern) (ps : KorePatterns) → ReadsPattern n d p → ReadPatterns n key ds ps → ReadPatterns n key (item d ds) (next_pattern p ps)
patterns_read_more n key d ds p ps first rest = record {
  objects = objects_more d first.members ds first.is rest.objects;
  reads = rw (first.is, first.reads, rest.reads) refl;
}

two_read_at : (n : ℕ) (o : Members) (first second : Text) (d e : Data) (p q : KorePattern) → Has o first d → Has o second e → ReadsPattern n d p → ReadsPattern n e q → ReadsTwo n o first second p q
two_read_at n o first second d e p q one two left right = record {
  left_tree = left.members;
  right_tree = right.members;
  left_has = one ∙ ap Some left.is;
  right_has = two ∙ ap Some right.is;
  left = left.reads;
  right = right.reads;
}

listed_read : (n : ℕ) (o : Members) (s : KoreSort) (ds : Items) (ps : KorePatterns) → ReadsAt o (codes "sort") s → Has o (codes "patterns") (array ds) → ReadPatterns n (codes "patterns") ds ps
    → sort_and_members (pattern_within n) o ≡ read (s, ps)
listed_read n o s ds ps h has all = rw (h.has, has, all.objects, h.reads, all.reads) refl

pair_read : (n : ℕ) (o : Members) (s : KoreSort) (p q : KorePattern) → ReadsAt o (codes "sort") s → Lacks o (codes "patterns") → ReadsTwo n o (codes "first") (codes "second") p q
    → sort_and_members (pattern_within n) o ≡ read (s, next_pattern p (next_pattern q no_patterns))
unfolding sort_and_two
pair_read n o s p q h lacks two = rw (h.has, lacks, two.left_has, two.right_has, h.has, h.reads, two.left, two.right) refl

two_reads : (n : ℕ) (o : Members) (first second : Text) (s : KoreSort) (p q : KorePattern) (make : KoreSort → KorePattern → KorePattern → KorePattern)
    → ReadsAt o (codes "sort") s → ReadsTwo n o first second p q → after (sort_and_two first second o) (λ r. two_read (pattern_within n) (make r.0) r.1 r.2) ≡ read (make s p q)
two_reads n o first second s p q make h two = rw (sort_and_two_reads first second o s two.left_tree two.right_tree h two.left_has two.right_has, two.left, two.right) refl

sorted_two_reads : (n : ℕ) (o : Members) (a s : KoreSort) (p q : KorePattern) (make : KoreSort → KoreSort → KorePattern → KorePattern → KorePattern)
    → ReadsAt o (codes "argSort") a → ReadsAt o (codes "sort") s → ReadsTwo n o (codes "first") (codes "second") p q → after (sorts_and_two o) (λ r. two_read (pattern_within n) (make r.0 r.1) r.2 r.3) ≡ read (make a s p q)
sorted_two_reads n o a s p q make below h two = rw (sorts_and_two_reads o a s two.left_tree two.right_tree below h two.left_has two.right_has, two.left, two.right) refl

sorted_one_reads : (n : ℕ) (o : Members) (a s : KoreSort) (d : Data) (p : KorePattern) (make : KoreSort → KoreSort → KorePattern → KorePattern)
    → ReadsAt o (codes "argSort") a → ReadsAt o (codes "sort") s → Has o (codes "arg") d → ReadsPattern n d p → after (sorts_and_one o) (λ r. one_read (pattern_within n) (make r.0 r.1) r.2) ≡ read (make a s p)
sorted_one_reads n o a s d p make below h arg one = rw (sorts_and_one_reads o a s one.members below h (arg ∙ ap Some one.is), one.reads) refl

bound_one_reads : (n : ℕ) (o : Members) (s : KoreSort) (x : Text) (t : KoreSort) (d : Data) (p : KorePattern) (make : KoreSort → Text → KoreSort → KorePattern → KorePattern)
    → ReadsAt o (codes "sort") s → HasName o (codes "var") x → ReadsAt o (codes "varSort") t → Has o (codes "arg") d → ReadsPattern n d p
    → after (bound_and_one o) (λ r. one_read (pattern_within n) (make r.0 r.1 r.2) r.3) ≡ read (make s x t p)
bound_one_reads n o s x t d p make h name below arg one = rw (bound_and_one_reads o s x t one.members h name below (arg ∙ ap Some one.is), one.reads) refl

one_reads : (n : ℕ) (o : Members) (s : KoreSort) (d : Data) (p : KorePattern)
    → ReadsAt o (codes "sort") s → Has o (codes "arg") d → ReadsPattern n d p → after (sort_and_one o) (λ r. one_read (pattern_within n) (negation r.0) r.1) ≡ read (negation s p)
one_reads n o s d p h arg one = rw (sort_and_one_reads o s one.members h (arg ∙ ap Some one.is), one.reads) refl

mutual
  unfolding single_tagged double_tagged

  complete : (n : ℕ) (d : Data) (p : KorePattern) → SpellsPattern n d p → ReadsPattern n d p
  complete _ _ _ (evar n o name s tag name_is sort) = record { members = o; is = refl; reads = rw (tag, name_and_sort_reads o name s name_is (reads_at o _ s sort)) refl }
  complete _ _ _ (app n o name sorts ds ss ps tag name_is has_sorts spelled has_args all) =
      let read_all = all_complete n (codes "args") ds ps all in
      record { members = o; is = refl; reads = rw (tag, symbol_and_lists_reads o name sorts ss ds name_is has_sorts (sorts_complete (codes "sorts") sorts ss spelled) has_args read_all.objects, read_all.reads) refl }
  complete _ _ _ (dv n o s text tag sort value) = record { members = o; is = refl; reads = rw (tag, sort_and_value_reads o s text (reads_at o _ s sort) value) refl }
  complete _ _ _ (top_tree n o s tag sort) = record { members = o; is = refl; reads = rw (tag, alone_reads o s (reads_at o _ s sort)) refl }
  complete _ _ _ (bottom_tree n o s tag sort) = record { members = o; is = refl; reads = rw (tag, alone_reads o s (reads_at o _ s sort)) refl }
  complete _ _ _ (not_tree n o s d p tag sort arg spelled) = record { members = o; is = refl; reads = rw tag (one_reads n o s d p (reads_at o _ s sort) arg (complete n d p spelled)) }
  complete _ _ _ (and_tree n o s ps p tag sort all is) = record { members = o; is = refl; reads = rw (tag, members_complete n o ps s all (reads_at o _ s sort)) (ap read (sym is)) }
  complete _ _ _ (or_tree n o s ps p tag sort all is) = record { members = o; is = refl; reads = rw (tag, members_complete n o ps s all (reads_at o _ s sort)) (ap read (sym is)) }
  complete _ _ _ (implies_tree n o s p q tag sort two) = record { members = o; is = refl; reads = rw tag (two_reads n o _ _ s p q implication (reads_at o _ s sort) (two_complete n o _ _ p q two)) }
  complete _ _ _ (iff_tree n o s p q tag sort two) = record { members = o; is = refl; reads = rw tag (two_reads n o _ _ s p q equivalence (reads_at o _ s sort) (two_complete n o _ _ p q two)) }
  complete _ _ _ (rewrites_tree n o s p q tag sort two) = record { members = o; is = refl; reads = rw tag (two_reads n o _ _ s p q rewriting (reads_at o _ s sort) (two_complete n o _ _ p q two)) }
  complete _ _ _ (exists_tree n o s t x d p tag sort name below arg spelled) =
      record { members = o; is = refl; reads = rw tag (bound_one_reads n o s x t d p exists (reads_at o _ s sort) name (reads_at o _ t below) arg (complete n d p spelled)) }
  complete _ _ _ (forall_tree n o s t x d p tag sort name below arg spelled) =
      record { members = o; is = refl; reads = rw tag (bound_one_reads n o s x t d p forall (reads_at o _ s sort) name (reads_at o _ t below) arg (complete n d p spelled)) }
  complete _ _ _ (equals_tree n o a s p q tag below sort two) = record { members = o; is = refl; reads = rw tag (sorted_two_reads n o a s p q equals (reads_at o _ a below) (reads_at o _ s sort) (two_complete n o _ _ p q two)) }
  complete _ _ _ (in_tree n o a s p q tag below sort two) = record { members = o; is = refl; reads = rw tag (sorted_two_reads n o a s p q membership (reads_at o _ a below) (reads_at o _ s sort) (two_complete n o _ _ p q two)) }
  complete _ _ _ (ceil_tree n o a s d p tag below sort arg spelled) = record { members = o; is = refl; reads = rw tag (sorted_one_reads n o a s d p ceil (reads_at o _ a below) (reads_at o _ s sort) arg (complete n d p spelled)) }
  complete _ _ _ (floor_tree n o a s d p tag below sort arg spelled) = record { members = o; is = refl; reads = rw tag (sorted_one_reads n o a s d p floor (reads_at o _ a below) (reads_at o _ s sort) arg (complete n d p spelled)) }

  all_complete : (n : ℕ) (key : Text) (ds : Items) (ps : KorePatterns) → SpellPatterns n ds ps → ReadPatterns n key ds ps
  all_complete _ key _ _ (patterns_end n) = record { objects = refl; reads = refl }
  all_complete _ key _ _ (patterns_more n d ds p ps spelled more) = patterns_read_more n key d ds p ps (complete n d p spelled) (all_complete n key ds ps more)

  two_complete : (n : ℕ) (o : Members) (first second : Text) (p q : KorePattern) → SpellsTwo n o first second p q → ReadsTwo n o first second p q
  two_complete _ _ _ _ _ _ (two_trees n o first second d e p q one two left right) = two_read_at n o first second d e p q one two (complete n d p left) (complete n e q right)

  members_complete : (n : ℕ) (o : Members) (ps : KorePatterns) (s : KoreSort) → SpellsMembers n o ps → ReadsAt o (codes "sort") s → sort_and_members (pattern_within n) o ≡ read (s, ps)
  members_complete _ _ _ s (listed n o ds ps has all) h = listed_read n o s ds ps h has (all_complete n (codes "patterns") ds ps all)
  members_complete _ _ _ s (first_and_second n o p q lacks two) h = pair_read n o s p q h lacks (two_complete n o _ _ p q two)

-- ---- the wrapper

pub wrapped_complete : (d : Data) (p : KorePattern) → SpellsWrapped d p → wrapped_reading d ≡ read p
wrapped_complete _ _ (wrapper o tree p format version term spelled) =
    let r = complete 100 tree p spelled in
    rw (format, version, term, r.is) r.reads

pub one_pattern : (d : Data) (p q : KorePattern) → SpellsWrapped d p → SpellsWrapped d q → p ≡ q
one_pattern d p q first second =
    let same : read p ≡ read q = sym (wrapped_complete d p first) ∙ wrapped_complete d q second in
    cc same
