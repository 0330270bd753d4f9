-- A sort's reading, unfolded: at a depth that suffices, the depth doesn't matter.
use Rattle.std.proofs.Common.{◌≡◌, ℕ, zero, suc, ◌<◌, ◌≤◌, arith, length, get_or, drop, ◌+◌, List, [], ◌∷◌, ◌++◌, refl, sym, ap, ◌∙◌, bytes_eq}
use Rattle.std.proofs.lemmas.List.{at_drop_more, at_drop_all}
use Rattle.std.specs.Prelude.{codes, if◌then◌else◌}
use Rattle.serde_json.specs.Data.{Data, object, Items, no_items, item, Members, depth, items_depth, members_depth}
use Rattle.serde_json.specs.View.{view, items_view}
use Rattle.serde_json.specs.declared.value.Value.{Value}
use Rattle.kp_kore.specs.Syntax.{Text, KoreSort, sort_of, sort_variable, KoreSorts, no_sorts, next_sort}
use Rattle.kp_kore.specs.View.{sort_view, sorts_view}
use Rattle.kp_kore.specs.declared.sort.Sort.{Sort}
use Rattle.kp_json.specs.Faults.{Reading, fault, unknown_tag, read, after, name_in, member_at, tree_in, trees_in, tag_of, sort_items, sort_application, sort_tagged, sort_within, sort_reading}
use Rattle.kp_json.proofs.Depth.{get_deeper}
use Rattle.kp_json.proofs.Readings.{after_same, member_found, tree_found, trees_found}

abbrev pub SortReader : Type 0
SortReader = Members → Reading KoreSort

same_items : (f g : SortReader) (key : Text) (ds : Items) → ((p : Members) → depth (object p) ≤ items_depth ds → f p ≡ g p) → sort_items f key ds ≡ sort_items g key ds
same_items f g key no_items same = refl
same_items f g key (item d ds) same =
    let rest : sort_items f key ds ≡ sort_items g key ds = same_items f g key ds (λ p h. same p (omega arith)) in
    after_same (tree_in key d) _ _ (λ o is.
    let first : f o ≡ g o = same o (omega (arith, ap depth (tree_found key d o is))) in
    ap (λ r. after r (λ s. after (sort_items f key ds) (λ ss. read (next_sort s ss)))) first ∙ ap (λ l. after (g o) (λ s. after l (λ ss. read (next_sort s ss)))) rest)

same_application : (f g : SortReader) (o : Members) → ((p : Members) → depth (object p) < depth (object o) → f p ≡ g p) → sort_application f o ≡ sort_application g o
same_application f g o same =
    after_same (member_at o (codes "name")) _ _ (λ name is_name. after_same (member_at o (codes "args")) _ _ (λ args is_args.
    after_same _ _ _ (λ n is_n. after_same (trees_in (codes "args") args) _ _ (λ ds is_ds.
    let deeper : depth args < depth (object o) = get_deeper (codes "args") (object o) args (member_found o (codes "args") args is_args) in
    ap (λ l. after l (λ ss. read (sort_of n ss))) (same_items f g (codes "args") ds (λ p h. same p (omega (arith, deeper, ap depth (trees_found (codes "args") args ds is_ds)))))))))

same_tagged : (f g : SortReader) (o : Members) (tag : Text) → ((p : Members) → depth (object p) < depth (object o) → f p ≡ g p) → sort_tagged f o tag ≡ sort_tagged g o tag
same_tagged f g o tag same =
    ap (λ r. if bytes_eq tag (codes "SortApp") then r
    else (if bytes_eq tag (codes "SortVar") then after (member_at o (codes "name")) (λ name. after (name_in (codes "name") name) (λ n. read (sort_variable n)))
    else fault (unknown_tag tag))) (same_application f g o same)

pub depth_enough : (m n : ℕ) (o : Members) → depth (object o) ≤ m → depth (object o) ≤ n → sort_within m o ≡ sort_within n o
depth_enough zero n o h k = absurd (omega arith)
depth_enough (suc m) zero o h k = absurd (omega arith)
depth_enough (suc m) (suc n) o h k =
    after_same (tag_of o) _ _ (λ tag is. same_tagged (sort_within m) (sort_within n) o tag (λ p deeper. depth_enough m n p (omega arith) (omega arith)))

-- a sort's reading, by that of the sorts below
pub sort_unfolds : (o : Members) → sort_reading o ≡ after (tag_of o) (sort_tagged sort_reading o)
unfolding sort_reading
sort_unfolds o =
    after_same (tag_of o) _ _ (λ tag is. same_tagged (sort_within (members_depth o)) sort_reading o tag (λ p deeper. depth_enough (members_depth o) (depth (object p)) p (omega arith) (omega arith)))

-- sorts already read, before others
abbrev pub joined_sorts : List Sort → KoreSorts → KoreSorts
joined_sorts [] ts = ts
joined_sorts (s ∷ ss) ts = next_sort (sort_view s) (joined_sorts ss ts)

pub joined_end : (ss : List Sort) → joined_sorts ss no_sorts ≡ sorts_view ss
joined_end [] = refl
joined_end (s ∷ ss) = ap (next_sort (sort_view s)) (joined_end ss)

pub joined_next : (ss : List Sort) (s : Sort) (ts : KoreSorts) → joined_sorts (ss ++ s ∷ []) ts ≡ joined_sorts ss (next_sort (sort_view s) ts)
joined_next [] s ts = refl
joined_next (r ∷ ss) s ts = ap (next_sort (sort_view r)) (joined_next ss s ts)

pub list_below : (o : Members) (key : Text) (d : Data) (ds : Items) → member_at o key ≡ read d → trees_in key d ≡ read ds → suc (items_depth ds) < depth (object o)
list_below o key d ds found listed =
    let deeper : depth d < depth (object o) = get_deeper key (object o) d (member_found o key d found) in
    omega (arith, deeper, ap depth (trees_found key d ds listed))

pub tree_below : (vs : List Value) (i : ℕ) (v : Value) (key : Text) (o : Members) → i < length vs → v ≡ get_or vs i v → tree_in key (view v) ≡ read o → depth (object o) ≤ items_depth (items_view vs)
tree_below [] i v key o h is found = absurd (omega arith)
tree_below (w ∷ vs) zero v key o h is found =
    let same : depth (object o) ≡ depth (view w) = sym (ap depth (tree_found key (view v) o found)) ∙ ap (λ x. depth (view x)) is in
    omega (arith, same)
tree_below (w ∷ vs) (suc i) v key o h is found = omega (arith, tree_below vs i v key o (omega arith) is found)

-- what is read of all, where the sorts that are given come first
abbrev pub sorts_after : List Sort → Text → List Value → Reading KoreSorts
sorts_after done key vs = after (sort_items sort_reading key (items_view vs)) (λ ts. read (joined_sorts done ts))

one_more : (r : Reading KoreSorts) (done : List Sort) (s : Sort)
    → after (after r (λ ss. read (next_sort (sort_view s) ss))) (λ ts. read (joined_sorts done ts)) ≡ after r (λ ts. read (joined_sorts (done ++ s ∷ []) ts))
one_more (fault x) done s = refl
one_more (read ss) done s = ap read (sym (joined_next done s ss))

pub sorts_step : (done : List Sort) (key : Text) (vs : List Value) (i : ℕ) (v : Value) (o : Members) (s : Sort) → i < length vs → v ≡ get_or vs i v
    → tree_in key (view v) ≡ read o → sort_reading o ≡ read (sort_view s) → sorts_after done key (drop i vs) ≡ sorts_after (done ++ s ∷ []) key (drop (i + 1) vs)
sorts_step done key vs i v o s within is found spelled =
    let rest : Reading KoreSorts = sort_items sort_reading key (items_view (drop (i + 1) vs)) in
    at_drop_more (sorts_after done key) vs i v within ∙ ap (λ w. sorts_after done key (w ∷ drop (i + 1) vs)) (sym is)
    ∙ ap (λ t. after (after t (λ p. after (sort_reading p) (λ a. after rest (λ ss. read (next_sort a ss))))) (λ ts. read (joined_sorts done ts))) found
    ∙ ap (λ t. after (after t (λ a. after rest (λ ss. read (next_sort a ss)))) (λ ts. read (joined_sorts done ts))) spelled ∙ one_more rest done s

pub sorts_all : (done : List Sort) (key : Text) (vs : List Value) (i : ℕ) → length vs ≤ i → sorts_after done key (drop i vs) ≡ read (sorts_view done)
sorts_all done key vs i h = at_drop_all (sorts_after done key) vs i h ∙ ap read (joined_end done)

pub sorts_whole : (key : Text) (vs : List Value) (ss : List Sort) → ss ≡ [] → sort_items sort_reading key (items_view vs) ≡ sorts_after ss key vs
sorts_whole key vs [] is = whole (sort_items sort_reading key (items_view vs))
  where
    whole : (r : Reading KoreSorts) → r ≡ after r (λ ts. read ts)
    whole (fault x) = refl
    whole (read a) = refl
sorts_whole key vs (s ∷ ss) is = absurd (cc is)
