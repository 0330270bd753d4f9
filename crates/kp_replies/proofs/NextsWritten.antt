-- Writing next states from the front: what is written of all is what was written and what is written of the rest.
use Rattle.std.proofs.Common.{◌≡◌, ℕ, ◌<◌, ◌≤◌, ◌+◌, length, get_or, drop, List, [], ◌∷◌, ◌++◌, Option, Some, None, option_map, refl, sym, ap, ◌∙◌, subst}
use Rattle.std.proofs.lemmas.List.{at_drop_more, at_drop_all}
use Rattle.serde_json.specs.Data.{Items, no_items, item}
use Rattle.serde_json.specs.View.{view, items_view}
use Rattle.serde_json.specs.declared.value.Value.{Value}
use Rattle.kp_results.specs.Results.{NextParts}
use Rattle.kp_results.specs.View.{next_view, nexts_view}
use Rattle.kp_results.specs.declared.executed.NextState.{NextState}
use Rattle.kp_replies.specs.Written.{next_tree, first_item, next_trees}

-- trees already written, before others
abbrev pub joined_items : List Value → Items → Items
joined_items [] ds = ds
joined_items (v ∷ vs) ds = item (view v) (joined_items vs ds)

joined_end : (vs : List Value) → joined_items vs no_items ≡ items_view vs
joined_end [] = refl
joined_end (v ∷ vs) = ap (item (view v)) (joined_end vs)

joined_next : (vs : List Value) (v : Value) (ds : Items) → joined_items (vs ++ v ∷ []) ds ≡ joined_items vs (item (view v) ds)
joined_next [] v ds = refl
joined_next (w ∷ vs) v ds = ap (item (view w)) (joined_next vs v ds)

pub record WritesOn (whole : Option Items) (done : List Value) (rest : List NextParts) : Type 0 where
  pub is : whole ≡ option_map (joined_items done) (next_trees rest)

same_option : (o : Option Items) → o ≡ option_map (joined_items []) o
same_option None = refl
same_option (Some ds) = refl

pub writes_from_the_start : (ns : List NextParts) → WritesOn (next_trees ns) [] ns
writes_from_the_start ns = record { is = same_option (next_trees ns) }

moved : (done : List Value) (v : Value) (o : Option Items) → option_map (joined_items done) (first_item (Some (view v)) o) ≡ option_map (joined_items (done ++ v ∷ [])) o
moved done v None = refl
moved done v (Some ds) = ap Some (sym (joined_next done v ds))

pub writes_one_more : (whole : Option Items) (done : List Value) (v : Value) (n : NextParts) (ns : List NextParts) → Some (view v) ≡ next_tree n → WritesOn whole done (n ∷ ns) → WritesOn whole (done ++ v ∷ []) ns
writes_one_more whole done v n ns e h = record { is = h.is ∙ ap (λ d. option_map (joined_items done) (first_item d (next_trees ns))) (sym e) ∙ moved done v (next_trees ns) }

pub writes_no_more : (whole : Option Items) (done : List Value) (n : NextParts) (ns : List NextParts) → None ≡ next_tree n → WritesOn whole done (n ∷ ns) → None ≡ whole
writes_no_more whole done n ns e h = sym (h.is ∙ ap (λ d. option_map (joined_items done) (first_item d (next_trees ns))) (sym e))

pub writes_to_the_end : (whole : Option Items) (done : List Value) → WritesOn whole done [] → Some (items_view done) ≡ whole
writes_to_the_end whole done h = sym (h.is ∙ ap Some (joined_end done))

-- ---- over the code's list

pub writes_next : (whole : Option Items) (done : List Value) (ns : List NextState) (i : ℕ) (n : NextState) (v : Value) → i < length ns → n ≡ get_or ns i n → Some (view v) ≡ next_tree (next_view n)
    → WritesOn whole done (nexts_view (drop i ns)) → WritesOn whole (done ++ v ∷ []) (nexts_view (drop (i + 1) ns))
writes_next whole done ns i n v within is e h =
    let front : nexts_view (drop i ns) ≡ next_view n ∷ nexts_view (drop (i + 1) ns) = at_drop_more nexts_view ns i n within ∙ ap (λ r. next_view r ∷ nexts_view (drop (i + 1) ns)) (sym is) in
    writes_one_more whole done v (next_view n) (nexts_view (drop (i + 1) ns)) e (subst (λ l. WritesOn whole done l) front h)

pub writes_done : (whole : Option Items) (done : List Value) (ns : List NextState) (i : ℕ) → length ns ≤ i → WritesOn whole done (nexts_view (drop i ns)) → Some (items_view done) ≡ whole
writes_done whole done ns i over h = writes_to_the_end whole done (subst (λ l. WritesOn whole done l) (at_drop_all nexts_view ns i over) h)
