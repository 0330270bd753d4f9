-- The tree that is written of a sort spells no other sort.
use Rattle.std.proofs.Common.{◌≡◌, [], ◌∷◌, Some, false, true≢false, bytes_eq, refl, sym, ap, ap₂, ◌∙◌}
use Rattle.std.proofs.lemmas.Slice.Eq.{bytes_eq-Decides}
use Rattle.std.specs.Prelude.{codes}
use Rattle.serde_json.specs.Data.{Data, string, array, object, Items, item, Members}
use Rattle.serde_json.specs.Find.{get_member}
use Rattle.kp_kore.specs.Syntax.{Text, KoreSort, sort_of, sort_variable, KoreSorts, no_sorts, next_sort}
use Rattle.kp_json.specs.Members.{Has, HasText, members_of}
use Rattle.kp_json.specs.Trees.{SpellsSort, sort_app, sort_var, SpellSorts, sorts_end, sorts_more, SortAt}
use Rattle.kp_json.specs.Written.{sort_tree, sort_trees}

-- ---- a member is one thing

pub one_data : (o : Members) (key : Text) (d e : Data) → Has o key d → Has o key e → d ≡ e
one_data o key d e h k = let same : Some d ≡ Some e = sym h ∙ k in cc same

pub one_text : (o : Members) (key : Text) (t u : Text) → HasText o key t → HasText o key u → t ≡ u
one_text o key t u h k = let same : string t ≡ string u = one_data o key (string t) (string u) h k in cc same

pub one_array : (o : Members) (key : Text) (ds es : Items) → Has o key (array ds) → Has o key (array es) → ds ≡ es
one_array o key ds es h k = let same : array ds ≡ array es = one_data o key (array ds) (array es) h k in cc same

-- ---- sorts

apart : (q k : Text) → bytes_eq q k ≡ false → q ≡ k → ⊥
apart q k e h = true≢false (sym ((bytes_eq-Decides q k).1 h) ∙ e)

two_tags : (o : Members) → HasText o (codes "tag") (codes "SortApp") → HasText o (codes "tag") (codes "SortVar") → ⊥
two_tags o h k = apart (codes "SortApp") (codes "SortVar") refl (one_text o (codes "tag") _ _ h k)

pub same_members : (o m : Members) → object o ≡ object m → o ≡ m
same_members o m e = cc e

-- what the same members have
moved : (o m : Members) (key : Text) (d : Data) → object o ≡ object m → Has m key d → Has o key d
moved o m key d e h = ap (get_member key) (same_members o m e) ∙ h

same_first : (d e : Data) (ds es : Items) → item d ds ≡ item e es → d ≡ e
same_first d e ds es h = cc h

same_rest : (d e : Data) (ds es : Items) → item d ds ≡ item e es → ds ≡ es
same_rest d e ds es h = cc h

-- the members that are written of a sort
abbrev sort_members : Text → KoreSorts → Members
sort_members f ss = members_of ((codes "tag", string (codes "SortApp")) ∷ (codes "name", string f) ∷ (codes "args", array (sort_trees ss)) ∷ [])

abbrev variable_members : Text → Members
variable_members x = members_of ((codes "tag", string (codes "SortVar")) ∷ (codes "name", string x) ∷ [])

mutual
  pub sort_alone_at : (d : Data) (t : KoreSort) → SpellsSort d t → (s : KoreSort) → d ≡ sort_tree s → t ≡ s
  sort_alone_at _ _ (sort_app o name ds ts tag name_is args spelled) (sort_of f ss) e =
      ap₂ sort_of (one_text o (codes "name") name f name_is.text (moved o (sort_members f ss) (codes "name") (string f) e refl))
      (sorts_alone_at ds ts spelled ss (one_array o (codes "args") ds (sort_trees ss) args (moved o (sort_members f ss) (codes "args") (array (sort_trees ss)) e refl)))
  sort_alone_at _ _ (sort_app o name ds ts tag name_is args spelled) (sort_variable x) e =
      absurd (two_tags o tag (moved o (variable_members x) (codes "tag") (string (codes "SortVar")) e refl))
  sort_alone_at _ _ (sort_var o name tag name_is) (sort_of f ss) e =
      absurd (two_tags o (moved o (sort_members f ss) (codes "tag") (string (codes "SortApp")) e refl) tag)
  sort_alone_at _ _ (sort_var o name tag name_is) (sort_variable x) e =
      ap sort_variable (one_text o (codes "name") name x name_is.text (moved o (variable_members x) (codes "name") (string x) e refl))

  sorts_alone_at : (ds : Items) (ts : KoreSorts) → SpellSorts ds ts → (ss : KoreSorts) → ds ≡ sort_trees ss → ts ≡ ss
  sorts_alone_at _ _ sorts_end no_sorts e = refl
  sorts_alone_at _ _ sorts_end (next_sort s ss) e = absurd (cc e)
  sorts_alone_at _ _ (sorts_more d ds t ts spelled more) no_sorts e = absurd (cc e)
  sorts_alone_at _ _ (sorts_more d ds t ts spelled more) (next_sort s ss) e =
      ap₂ next_sort (sort_alone_at d t spelled s (same_first d (sort_tree s) ds (sort_trees ss) e)) (sorts_alone_at ds ts more ss (same_rest d (sort_tree s) ds (sort_trees ss) e))

pub one_sort : (o : Members) (key : Text) (s t : KoreSort) → Has o key (sort_tree s) → SortAt o key t → t ≡ s
one_sort o key s t has h = sort_alone_at h.tree t h.spells s (one_data o key h.tree (sort_tree s) h.has has)

pub one_sorts : (o : Members) (key : Text) (ss ts : KoreSorts) (ds : Items) → Has o key (array (sort_trees ss)) → Has o key (array ds) → SpellSorts ds ts → ts ≡ ss
one_sorts o key ss ts ds has has_too spelled = sorts_alone_at ds ts spelled ss (one_array o key ds (sort_trees ss) has_too has)
