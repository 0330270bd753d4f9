-- What is written of a list, item by item.
use Rattle.std.proofs.Common.{◌≡◌, ℕ, ◌<◌, ◌≤◌, length, get_or, drop, ◌+◌, List, [], ◌∷◌, ◌++◌, Option, Some, None, refl, sym, ap, ◌∙◌, arith}
use Rattle.std.proofs.lemmas.List.{at_drop_more, at_drop_all}
use Rattle.std.specs.Option.{option_map}
use Rattle.serde_json.specs.Data.{Items, no_items, item}
use Rattle.serde_json.specs.View.{view as data_view, items_view}
use Rattle.serde_json.specs.declared.value.Value.{Value}
use Rattle.kp_kore.specs.View.{view, sort_view, sorts_view, patterns_view}
use Rattle.kp_kore.specs.declared.sort.Sort.{Sort}
use Rattle.kp_kore.specs.declared.pattern.Pattern.{Pattern}
use Rattle.kp_json.specs.Written.{sort_tree, sort_trees, first_and_rest, of_two_or_more, pattern_tree, pattern_trees}

-- trees already written, before others
abbrev pub joined_items : List Value → Items → Items
joined_items [] ds = ds
joined_items (v ∷ vs) ds = item (data_view v) (joined_items vs ds)

joined_end : (vs : List Value) → joined_items vs no_items ≡ items_view vs
joined_end [] = refl
joined_end (v ∷ vs) = ap (item (data_view v)) (joined_end vs)

joined_next : (vs : List Value) (v : Value) (ds : Items) → joined_items (vs ++ v ∷ []) ds ≡ joined_items vs (item (data_view v) ds)
joined_next [] v ds = refl
joined_next (w ∷ vs) v ds = ap (item (data_view w)) (joined_next vs v ds)

-- ---- sorts

abbrev pub sorts_written : List Value → List Sort → Items
sorts_written done ss = joined_items done (sort_trees (sorts_view ss))

pub sorts_first : (ss : List Sort) (vs : List Value) → vs ≡ [] → sort_trees (sorts_view ss) ≡ sorts_written vs ss
sorts_first ss vs is = ap (λ l. sorts_written l ss) (sym is)

pub sorts_next : (done : List Value) (ss : List Sort) (i : ℕ) (s : Sort) (v : Value) → i < length ss → s ≡ get_or ss i s → data_view v ≡ sort_tree (sort_view s)
    → sorts_written done (drop i ss) ≡ sorts_written (done ++ v ∷ []) (drop (i + 1) ss)
sorts_next done ss i s v within is written =
    at_drop_more (sorts_written done) ss i s within ∙ ap (λ r. sorts_written done (r ∷ drop (i + 1) ss)) (sym is)
    ∙ ap (λ d. joined_items done (item d (sort_trees (sorts_view (drop (i + 1) ss))))) (sym written) ∙ sym (joined_next done v (sort_trees (sorts_view (drop (i + 1) ss))))

pub sorts_done : (done : List Value) (ss : List Sort) (i : ℕ) → length ss ≤ i → sorts_written done (drop i ss) ≡ items_view done
sorts_done done ss i h = at_drop_all (sorts_written done) ss i h ∙ joined_end done

-- ---- patterns

abbrev pub patterns_written : List Value → List Pattern → Option Items
patterns_written done ps = option_map (joined_items done) (pattern_trees (patterns_view ps))

same_items : (o : Option Items) → o ≡ option_map (joined_items []) o
same_items None = refl
same_items (Some ds) = refl

pub patterns_first : (ps : List Pattern) (vs : List Value) → vs ≡ [] → pattern_trees (patterns_view ps) ≡ patterns_written vs ps
patterns_first ps vs is = same_items (pattern_trees (patterns_view ps)) ∙ ap (λ l. patterns_written l ps) (sym is)

one_more : (o : Option Items) (done : List Value) (v : Value) → option_map (joined_items done) (option_map (item (data_view v)) o) ≡ option_map (joined_items (done ++ v ∷ [])) o
one_more None done v = refl
one_more (Some ds) done v = ap Some (sym (joined_next done v ds))

pub patterns_next : (done : List Value) (ps : List Pattern) (i : ℕ) (p : Pattern) (v : Value) → i < length ps → p ≡ get_or ps i p → pattern_tree (view p) ≡ Some (data_view v)
    → patterns_written done (drop i ps) ≡ patterns_written (done ++ v ∷ []) (drop (i + 1) ps)
patterns_next done ps i p v within is written =
    at_drop_more (patterns_written done) ps i p within ∙ ap (λ r. patterns_written done (r ∷ drop (i + 1) ps)) (sym is)
    ∙ ap (λ d. option_map (joined_items done) (first_and_rest d (pattern_trees (patterns_view (drop (i + 1) ps))))) written ∙ one_more (pattern_trees (patterns_view (drop (i + 1) ps))) done v

pub patterns_done : (done : List Value) (ps : List Pattern) (i : ℕ) → length ps ≤ i → patterns_written done (drop i ps) ≡ Some (items_view done)
patterns_done done ps i h = at_drop_all (patterns_written done) ps i h ∙ ap Some (joined_end done)

-- ---- lists of two patterns or more

pub two_kept : (ps : List Pattern) (trees : Option Items) → 2 ≤ length ps → of_two_or_more (patterns_view ps) trees ≡ trees
two_kept [] trees h = absurd (omega (arith, h))
two_kept (p ∷ []) trees h = absurd (omega (arith, h))
two_kept (p ∷ q ∷ ps) trees h = refl

pub none_of_fewer : (ps : List Pattern) (trees : Option Items) → length ps < 2 → of_two_or_more (patterns_view ps) trees ≡ None
none_of_fewer [] trees h = refl
none_of_fewer (p ∷ []) trees h = refl
none_of_fewer (p ∷ q ∷ ps) trees h = absurd (omega (arith, h))
