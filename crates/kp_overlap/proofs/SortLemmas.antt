-- What sorts, heads and values of a label tell of each other.
use Rattle.std.proofs.Common.{arith, ◌≡◌, ◌↔◌, refl, sym, ap, subst, ◌∙◌, ℕ, zero, suc, ◌+◌, ◌<◌, ◌≤◌, ◌⊎◌, inl, inr, Bool, true, false, List, [], ◌∷◌, ◌++◌, length, map, take, get_or, pos, Option, Some, None, Vec, Global, IsTrue}
use Rattle.std.specs.List.{AllByRecursion, Contains}
use Rattle.std.proofs.lemmas.List.{length-map, get_or-map, get_or_default, get_or_past, take_more, map_more}
use Rattle.kp_kore.specs.Syntax.{KoreSort}
use Rattle.kp_kore.specs.Signature.{KoreSignature, Head, is_head, heads_of, IsHeadOf}
use Rattle.kp_kore.specs.Value.{Value, whole, HasSort, head_of}
use Rattle.kp_kore.specs.View.{sort_view}
use Rattle.kp_kore.proofs.ListLemmas.{all_append, all_map}
use Rattle.kp_signature.specs.Edges.{Leads, edges_of}
use Rattle.kp_signature.proofs.HeadLemmas.{is_head-Decides}
use Rattle.kp_heads.specs.Heads.{IsLive}
use Rattle.kp_sort_heads.specs.Live.{Passed}
use Rattle.kp_sort_heads.proofs.SearchLemmas.{HasPassed, none_passed, one_passed, next_is_head, all_passed}
use Rattle.kp_symbolic.proofs.HeadLemmas.{head_from_sort}
use Rattle.kp_symbolic.proofs.HeadQuestions.{sort_from_head}
use Rattle.kp_overlap.specs.Graphs.{IsAt, Shape, any_value, never, leaf, made, HasShape, Graph, IsSolution, HasSolution, PlacedSort}
use Rattle.kp_overlap.specs.Labels.{AreLabels, AreHolders, IsClosed, HasHeadOf, DoSortsFit}
use Rattle.kp_overlap.specs.Views.{placed_view, shape_view}
use Rattle.kp_overlap.specs.Sorted.{HasHeadAt, HasSortAt, HaveValue, HaveValueOf, IsUnder, AreGroups, AreGroupsBefore, IsGrouped, IsHolderOf, HasHeadTold, Fits, FitBelow, AllFit, TellsSorts}
use Rattle.kp_overlap.specs.declared.graph.PlacedSort.{PlacedSort as Placed}
use Rattle.kp_overlap.specs.declared.graph.PlaceShape.{PlaceShape as CodeShape}

-- ---- places of lists

none_below : (k : ℕ) → k < 0 → ⊥
none_below k h = omega arith

pub at_one : {X : Type 0} (xs : List X) (n : ℕ) (x y : X) → IsAt xs n x → IsAt xs n y → x ≡ y
at_one xs n x y a b = sym a.1 ∙ get_or_default xs n x y a.0 ∙ b.1

pub read_at : {X : Type 0} (xs : List X) (n : ℕ) (d : X) → n < length xs → IsAt xs n (get_or xs n d)
read_at xs n d lt = (lt, get_or_default xs n (get_or xs n d) d lt)

pub at_mapped : {X Y : Type 0} (f : X → Y) (xs : List X) (n : ℕ) (x : X) → n < length xs → x ≡ get_or xs n x → IsAt (map f xs) n (f x)
at_mapped f xs n x lt is = (subst (λ k. n < k) (sym (length-map xs f)) lt, get_or-map f xs n x (f x) lt ∙ ap f (sym is))

pub inside_mapped : {X Y : Type 0} (f : X → Y) (xs : List X) (n : ℕ) (y : Y) → IsAt (map f xs) n y → n < length xs
inside_mapped f xs n y a = subst (λ k. n < k) (length-map xs f) a.0

all_at : {X : Type 0} (P : X → Type 0) (xs : List X) (k : ℕ) (x : X) → AllByRecursion P xs → IsAt xs k x → P x
all_at P [] k x all a = absurd (none_below k a.0)
all_at P (y ∷ ys) zero x all a = subst P a.1 all.0
all_at P (y ∷ ys) (suc k) x all a = all_at P ys k x all.1 (omega (arith, a.0), a.1)

pub all_of : {X : Type 0} (P : X → Type 0) (xs : List X) → ((k : ℕ) (x : X) → IsAt xs k x → P x) → AllByRecursion P xs
all_of P [] f = tt
all_of P (x ∷ xs) f = (f 0 x (omega arith, refl), all_of P xs (λ k y a. f (suc k) y (omega (arith, a.0), a.1)))

-- ---- heads of the sorts of a group

pub head_at : (g : KoreSignature) (rs : List Placed) (n : ℕ) (r : Placed) (k : Head) (b : Bool) → n < length rs → r ≡ get_or rs n r → b ≡ is_head g (sort_view (get_or rs n r).sort) k → IsTrue b ↔ HasHeadAt g (map placed_view rs) k n
head_at g rs n r k b lt is f =
    let e : b ≡ is_head g (sort_view r.sort) k = f ∙ ap (λ (q : Placed). is_head g (sort_view q.sort) k) (sym is) in
    let at = at_mapped placed_view rs n r lt is in
    let told = is_head-Decides g (sort_view r.sort) k in (
      (λ t. (placed_view r, at, told.0 (sym e ∙ t))),
      (λ h. e ∙ told.1 (subst (λ q. IsHeadOf g q.sort k) (at_one (map placed_view rs) n h.0 (placed_view r) h.1 at) h.2)),
    )

pub no_head_at : (g : KoreSignature) (rs : List Placed) (n : ℕ) (k : Head) → length rs ≤ n → HasHeadAt g (map placed_view rs) k n → ⊥
no_head_at g rs n k past h = no (inside_mapped placed_view rs n h.0 h.1)
  where
    no : n < length rs → ⊥
    no lt = omega (arith, past)

-- ---- a value of all sorts of a group

-- a head that all of these sorts have, and some value
abbrev IsShared : KoreSignature → List PlacedSort → List ℕ → Head → Type 0
IsShared g rs ns k = AllByRecursion (HasHeadAt g rs k) ns × IsLive g k

-- none of those before is shared
abbrev pub IsSearched : KoreSignature → KoreSort → List PlacedSort → List ℕ → List Head → Type 0
IsSearched g s rs ns left = HasPassed g s (IsShared g rs ns) left

live_of : (g : KoreSignature) (rs : List PlacedSort) (ns : List ℕ) (k : Head) → IsShared g rs ns k → IsLive g k
live_of g rs ns k m = m.1

pub searched_none : (g : KoreSignature) (s : KoreSort) (rs : List PlacedSort) (ns : List ℕ) (left : List Head) → left ≡ heads_of g s → IsSearched g s rs ns left
searched_none g s rs ns left e = none_passed g s (IsShared g rs ns) left e

pub searched_more : (g : KoreSignature) (s : KoreSort) (rs : List PlacedSort) (ns : List ℕ) (before after : List Head) (h : Head) → IsSearched g s rs ns before → Passed g before (h ∷ after) → ¬ AllByRecursion (HasHeadAt g rs h) ns → IsSearched g s rs ns after
searched_more g s rs ns before after h b p none = one_passed g s (IsShared g rs ns) before after h (live_of g rs ns) b p (λ m. none m.0)

pub found : (g : KoreSignature) (s : KoreSort) (rs : List PlacedSort) (ns : List ℕ) (before after : List Head) (h : Head) → IsSearched g s rs ns before → Passed g before (h ∷ after) → IsLive g h → AllByRecursion (HasHeadAt g rs h) ns → HaveValueOf g s rs ns
found g s rs ns before after h b p live all =
    let at : (t : KoreSort) → IsHeadOf g t h → HasSort g t live.0 = λ t k. sort_from_head g live.1.0 t live.0 live.1.1 (subst (IsHeadOf g t) (sym live.2) k) in
    let own = (is_head-Decides g s h).0 (next_is_head g s (IsShared g rs ns) before after h b p) in
    (live.0, at s own, all_map (HasHeadAt g rs h) (HasSortAt g rs live.0) ns (λ n a. (a.0, a.1, at a.0.sort a.2)) all)

pub found_none : (g : KoreSignature) (s : KoreSort) (rs : List PlacedSort) (ns : List ℕ) (before : List Head) → IsSearched g s rs ns before → Passed g before [] → HaveValueOf g s rs ns → ⊥
found_none g s rs ns before b p v =
    let shared = all_map (HasSortAt g rs v.0) (HasHeadAt g rs (head_of v.0)) ns (λ n a. (a.0, a.1, head_from_sort g a.0.sort v.0 a.2)) v.2 in
    all_passed g s (IsShared g rs ns) before (head_of v.0) (live_of g rs ns) b p (head_from_sort g s v.0 v.1) (shared, (v.0, (s, v.1), refl))

pub empty_value : (g : KoreSignature) (rs : List PlacedSort) (ns : List ℕ) → length ns ≡ 0 → HaveValue g rs ns
empty_value g rs [] e = (whole (pos 0), tt)
empty_value g rs (n ∷ ns) e = absurd (cc)

-- a value of the sorts of these numbers has the first of them
pub first_value : (g : KoreSignature) (rs : List Placed) (ns : List ℕ) (n : ℕ) (r : Placed) (b : Bool) → IsAt ns 0 n → n < length rs → r ≡ get_or rs n r → IsTrue b ↔ HaveValueOf g (sort_view r.sort) (map placed_view rs) ns → IsTrue b ↔ HaveValue g (map placed_view rs) ns
first_value g rs ns n r b first lt is e = (
  (λ t. let v = e.0 t in (v.0, v.2)),
  (λ v. let a = all_at (HasSortAt g (map placed_view rs) v.0) ns 0 n v.1 first in e.1 (v.0, subst (λ q. HasSort g q.sort v.0) (at_one (map placed_view rs) n a.0 (placed_view r) a.1 (at_mapped placed_view rs n r lt is)) a.2, v.1)),
)

pub no_first : (g : KoreSignature) (rs : List Placed) (ns : List ℕ) (n : ℕ) → IsAt ns 0 n → length rs ≤ n → HaveValue g (map placed_view rs) ns → ⊥
no_first g rs ns n first past v = let a = all_at (HasSortAt g (map placed_view rs) v.0) ns 0 n v.1 first in no (inside_mapped placed_view rs n a.0 a.1)
  where
    no : n < length rs → ⊥
    no lt = omega (arith, past)

-- ---- groups

pub group_is : (gs : List (Vec ℕ Global)) (l : ℕ) (v : Vec ℕ Global) → l < length gs → v ≡ get_or gs l v → get_or (edges_of gs) l [] ≡ v.items
group_is gs l v lt is = get_or-map (λ (w : Vec ℕ Global). w.items) gs l v [] lt ∙ ap (λ (w : Vec ℕ Global). w.items) (sym is)

pub group_past : (gs : List (Vec ℕ Global)) (l : ℕ) → length gs ≤ l → get_or (edges_of gs) l [] ≡ []
group_past gs l past = get_or_past (edges_of gs) l [] (subst (λ k. k ≤ l) (sym (length-map gs (λ (w : Vec ℕ Global). w.items))) past)

abbrev pub AreEmpty : List (Vec ℕ Global) → Type 0
AreEmpty gs = (l n : ℕ) → Leads (edges_of gs) l n → ⊥

pub none_empty : AreEmpty []
none_empty l n h = none_below h.0 h.1

pub empty_more : (gs : List (Vec ℕ Global)) (v : Vec ℕ Global) → length v.items ≡ 0 → AreEmpty gs → AreEmpty (gs ++ v ∷ [])
empty_more [] v e none zero n h = none_below h.0 (subst (λ k. h.0 < k) e h.1)
empty_more [] v e none (suc l) n h = none_below h.0 h.1
empty_more (w ∷ gs) v e none zero n h = none 0 n h
empty_more (w ∷ gs) v e none (suc l) n h = empty_more gs v e (λ k m. none (suc k) m) l n h

pub groups_none : (ls : List ℕ) (rs : List PlacedSort) (gs : List (Vec ℕ Global)) → AreEmpty gs → AreGroupsBefore ls rs 0 (edges_of gs)
groups_none ls rs gs none l n = (λ h. absurd (none l n h), λ h. absurd (none_below n h.0))

pub groups_more : (ls : List ℕ) (rs : List Placed) (k : ℕ) (before after : List (List ℕ)) (r : Placed) → k < length rs → r ≡ get_or rs k r → AreGroupsBefore ls (map placed_view rs) k before → IsGrouped ls r.place k before after → AreGroupsBefore ls (map placed_view rs) (k + 1) after
groups_more ls rs k before after r lt is b m l n =
    let at = at_mapped placed_view rs k r lt is in (
      (λ h. elim ((m.2.edges l n).0 h) [
        | inl old ↦ let o = (b l n).0 old in (wide n o.0, o.1)
        | inr new ↦ (same n new.1, subst (λ q. IsUnder ls (map placed_view rs) l q) (sym new.1) (placed_view r, at, subst (IsAt ls r.place) (sym new.0) m.1))
      ]),
      (λ h. (m.2.edges l n).1 (by (last n h.0) h.1)),
    )
  where
    wide : (i : ℕ) → i < k → i < k + 1
    wide i h = omega (arith, h)

    same : (i : ℕ) → i ≡ k → i < k + 1
    same i e = omega (arith, e)

    last : (i : ℕ) → i < k + 1 → (i < k) ⊎ (i ≡ k)
    last i h = below_or i k h
      where
        below_or : (i k : ℕ) → i < k + 1 → (i < k) ⊎ (i ≡ k)
        below_or zero zero h = inr refl
        below_or zero (suc k) h = inl (omega arith)
        below_or (suc i) zero h = absurd (none_below i (omega (arith, h)))
        below_or (suc i) (suc k) h = elim (below_or i k (omega (arith, h))) [ inl lt ↦ inl (omega (arith, lt)) | inr e ↦ inr (ap suc e) ]

    by : (n < k) ⊎ (n ≡ k) → IsUnder ls (map placed_view rs) l n → Leads before l n ⊎ ((l ≡ m.0) × (n ≡ k))
    by (inl old) u = inl ((b l n).1 (old, u))
    by (inr e) u =
        let own = at_one (map placed_view rs) k u.0 (placed_view r) (subst (λ q. IsAt (map placed_view rs) q u.0) e u.1) (at_mapped placed_view rs k r lt is) in
        inr (at_one ls r.place l m.0 (subst (λ q. IsAt ls q.place l) own u.2) m.1, e)

pub groups_all : (ls : List ℕ) (rs : List Placed) (k : ℕ) (gs : List (List ℕ)) → length rs ≤ k → AreGroupsBefore ls (map placed_view rs) k gs → AreGroups ls (map placed_view rs) gs
groups_all ls rs k gs past b l n = ((λ h. ((b l n).0 h).1), (λ u. (b l n).1 (low (inside_mapped placed_view rs n u.0 u.1), u)))
  where
    low : n < length rs → n < k
    low lt = omega (arith, lt, past)

-- ---- labels without holders

pub fit_more : (g : KoreSignature) (rs : List PlacedSort) (hs : List (Option ℕ)) (gs : List (List ℕ)) (k : ℕ) → FitBelow g rs hs gs k → (IsAt hs k None → HaveValue g rs (get_or gs k [])) → FitBelow g rs hs gs (k + 1)
fit_more g rs hs gs k b own l lt none = by (last l k lt)
  where
    last : (i k : ℕ) → i < k + 1 → (i < k) ⊎ (i ≡ k)
    last zero zero h = inr refl
    last zero (suc k) h = inl (omega arith)
    last (suc i) zero h = absurd (none_below i (omega (arith, h)))
    last (suc i) (suc k) h = elim (last i k (omega (arith, h))) [ inl lt ↦ inl (omega (arith, lt)) | inr e ↦ inr (ap suc e) ]

    by : (l < k) ⊎ (l ≡ k) → HaveValue g rs (get_or gs l [])
    by (inl below) = b l below none
    by (inr e) = subst (λ q. HaveValue g rs (get_or gs q [])) (sym e) (own (subst (λ q. IsAt hs q None) e none))

pub fit_all : (g : KoreSignature) (rs : List PlacedSort) (hs : List (Option ℕ)) (gs : List (List ℕ)) (k : ℕ) → length hs ≤ k → FitBelow g rs hs gs k → AllFit g rs hs gs
fit_all g rs hs gs k past b l none = b l (low none.0) none
  where
    low : l < length hs → l < k
    low lt = omega (arith, lt, past)

-- ---- solutions

-- what a value's shape tells is its head
shape_head : (g : KoreSignature) (s : KoreSort) (a : ℕ → Value) (t : Shape) (u : Value) → IsClosed t → HasShape a t u → HasSort g s u → HasHeadOf g s t
shape_head g s a any_value u c h k = absurd c
shape_head g s a never u c h k = absurd c
shape_head g s a (leaf w) u c h k = head_from_sort g s w (subst (HasSort g s) h k)
shape_head g s a (made f ns) u c h k = subst (λ q. IsHeadOf g s (head_of q)) h (head_from_sort g s u k)

-- in a solution the sort has its label's holder's head
fits_solution : (g : KoreSignature) (x : Graph) (i j : ℕ) (ls : List ℕ) (hs : List (Option ℕ)) (a : ℕ → Value) → AreLabels g x i j ls → AreHolders x ls hs → IsSolution g x i j a → (r : PlacedSort) → Contains x.sorts r → Fits g x.shapes ls hs r
fits_solution g x i j ls hs a labels holders s r at h held t shape =
    let told = holders.holds held.0 h held.2 in
    let same = at_one x.shapes h told.0 t told.1 shape in
    let value : a r.place ≡ a h = labels.follow a s r.place held.0 held.1 ∙ sym (labels.follow a s h held.0 told.3) in
    shape_head g r.sort a t (a h) (subst IsClosed same told.2) (s.solves.shapes h t shape) (subst (HasSort g r.sort) value (s.solves.sorts r at))

pub unfit : (g : KoreSignature) (x : Graph) (i j : ℕ) (ls : List ℕ) (hs : List (Option ℕ)) → AreLabels g x i j ls → AreHolders x ls hs → ¬ AllByRecursion (Fits g x.shapes ls hs) x.sorts → ¬ HasSolution g x i j
unfit g x i j ls hs labels holders bad s = bad (all_of (Fits g x.shapes ls hs) x.sorts (λ k r at. fits_solution g x i j ls hs s.0 labels holders s.1 r (k, at.0, at.1)))

pub unshared : (g : KoreSignature) (x : Graph) (i j : ℕ) (ls : List ℕ) (hs : List (Option ℕ)) (gs : List (List ℕ)) → AreLabels g x i j ls → AreGroups ls x.sorts gs → ¬ AllFit g x.sorts hs gs → ¬ HasSolution g x i j
unshared g x i j ls hs gs labels groups bad s = bad (λ l none. (s.0 l, all_of (HasSortAt g x.sorts (s.0 l)) (get_or gs l []) (λ k n at. sorted l n ((groups l n).0 (k, at.0, at.1)))))
  where
    sorted : (l n : ℕ) → IsUnder ls x.sorts l n → HasSortAt g x.sorts (s.0 l) n
    sorted l n u = (u.0, u.1, subst (HasSort g u.0.sort) (labels.follow s.0 s.1 u.0.place l u.2) (s.1.solves.sorts u.0 (n, u.1.0, u.1.1)))

pub all_sorts_fit : (g : KoreSignature) (x : Graph) (ls : List ℕ) (hs : List (Option ℕ)) (gs : List (List ℕ)) → AreGroups ls x.sorts gs → AllByRecursion (Fits g x.shapes ls hs) x.sorts → AllFit g x.sorts hs gs → DoSortsFit g x ls hs
all_sorts_fit g x ls hs gs groups fit all = record {
  closed = λ r at l h t label holder shape. all_at (Fits g x.shapes ls hs) x.sorts at.0 r fit (at.1, at.2) h (l, label, holder) t shape;
  any_value = λ l none. let v = all l none in (v.0, λ r at under. value v.0 l v.1 r at under);
}
  where
    value : (u : Value) (l : ℕ) → AllByRecursion (HasSortAt g x.sorts u) (get_or gs l []) → (r : PlacedSort) → Contains x.sorts r → IsAt ls r.place l → HasSort g r.sort u
    value u l have r at under =
        let leads = (groups l at.0).1 (r, (at.1, at.2), under) in
        let sorted = all_at (HasSortAt g x.sorts u) (get_or gs l []) leads.0 at.0 have (leads.1, leads.2) in
        subst (λ q. HasSort g q.sort u) (at_one x.sorts at.0 sorted.0 r sorted.1 (at.1, at.2)) sorted.2

-- ---- what tests tell

true_false : true ≡ false → ⊥
true_false e = cc

pub test_is : (b c : Bool) (P : Type 0) → b ≡ c → (c ≡ true → P) → (P → c ≡ true) → IsTrue b ↔ P
test_is b c P e to from = ((λ t. to (sym e ∙ t)), (λ p. e ∙ from p))

pub told_shape : (g : KoreSignature) (s : KoreSort) (ss : List CodeShape) (h : ℕ) (t : CodeShape) (b : Bool) → h < length ss → t ≡ get_or ss h t → IsTrue b ↔ HasHeadOf g s (shape_view t) → IsTrue b ↔ HasHeadTold g (map shape_view ss) s h
told_shape g s ss h t b lt is e =
    let at = at_mapped shape_view ss h t lt is in (
      (λ y u shape. subst (HasHeadOf g s) (at_one (map shape_view ss) h (shape_view t) u at shape) (e.0 y)),
      (λ told. e.1 (told (shape_view t) at)),
    )

pub no_shape : (g : KoreSignature) (s : KoreSort) (ss : List CodeShape) (h : ℕ) → length ss ≤ h → HasHeadTold g (map shape_view ss) s h
no_shape g s ss h past t shape = absurd (none_past (inside_mapped shape_view ss h t shape))
  where
    none_past : h < length ss → ⊥
    none_past lt = omega (arith, past)

pub fits_by : (g : KoreSignature) (ss : List Shape) (ls : List ℕ) (hs : List (Option ℕ)) (r : PlacedSort) (o : Option ℕ) (h : ℕ) (b : Bool) → o ≡ Some h → ((k : ℕ) → o ≡ Some k ↔ IsHolderOf ls hs r.place k) → IsTrue b ↔ HasHeadTold g ss r.sort h → IsTrue b ↔ Fits g ss ls hs r
fits_by g ss ls hs r o h b e holder told = (
  (λ y k held. subst (HasHeadTold g ss r.sort) (inside (sym e ∙ (holder k).1 held)) (told.0 y)),
  (λ fit. told.1 (fit h ((holder h).0 e))),
)
  where
    inside : {k : ℕ} → Some h ≡ Some k → h ≡ k
    inside q = cc

pub fits_none : (g : KoreSignature) (ss : List Shape) (ls : List ℕ) (hs : List (Option ℕ)) (r : PlacedSort) (o : Option ℕ) → o ≡ None → ((k : ℕ) → o ≡ Some k ↔ IsHolderOf ls hs r.place k) → Fits g ss ls hs r
fits_none g ss ls hs r o e holder h held = absurd (differ (sym e ∙ (holder h).1 held))
  where
    differ : None ≡ Some h → ⊥
    differ q = cc

-- the holder of a label that is read
pub holder_is : (ls : List ℕ) (hs : List (Option ℕ)) (place l : ℕ) (o : Option ℕ) → IsAt ls place l → ((h : ℕ) → o ≡ Some h ↔ IsAt hs l (Some h)) → (h : ℕ) → o ≡ Some h ↔ IsHolderOf ls hs place h
holder_is ls hs place l o at holder h = (
  (λ e. (l, at, (holder h).0 e)),
  (λ held. (holder h).1 (subst (λ k. IsAt hs k (Some h)) (at_one ls place held.0 l held.1 at) held.2)),
)

pub no_holder : (ls : List ℕ) (hs : List (Option ℕ)) (place h : ℕ) → length ls ≤ place → IsHolderOf ls hs place h → ⊥
no_holder ls hs place h past held = none_past held.1.0
  where
    none_past : place < length ls → ⊥
    none_past lt = omega (arith, past)

-- what a label that is read has
pub label_told : (hs : List (Option ℕ)) (l : ℕ) (o : Option ℕ) (P : Type 0) → IsAt hs l o → (o ≡ None → P) ↔ (IsAt hs l None → P)
label_told hs l o P at = (
  (λ f none. f (at_one hs l o None at none)),
  (λ f e. f (subst (IsAt hs l) e at)),
)

pub is_true : {P : Type 0} → P → IsTrue true ↔ P
is_true p = ((λ t. p), (λ q. refl))

pub is_false : {P : Type 0} → ¬ P → IsTrue false ↔ P
is_false none = ((λ t. absurd (true_false (sym t))), (λ p. absurd (none p)))

pub false_true : {b : Bool} → b ≡ false → IsTrue b → ⊥
false_true e t = true_false (sym t ∙ e)

pub head_told : (g : KoreSignature) (s : KoreSort) (k : Head) (b : Bool) → b ≡ is_head g s k → IsTrue b ↔ IsHeadOf g s k
head_told g s k b e = let d = is_head-Decides g s k in ((λ t. d.0 (sym e ∙ t)), (λ h. e ∙ d.1 h))

-- ---- along loops

pub all_more : {X : Type 0} (P : X → Type 0) (xs : List X) (i : ℕ) (d : X) → i < length xs → AllByRecursion P (take i xs) → P (get_or xs i d) → AllByRecursion P (take (i + 1) xs)
all_more P xs i d lt h p = subst (AllByRecursion P) (sym (take_more xs i d lt)) (all_append P (take i xs) (get_or xs i d ∷ []) h (p, tt))

pub all_read : {X : Type 0} (P : X → Type 0) (xs : List X) (i : ℕ) (d : X) → i < length xs → AllByRecursion P xs → P (get_or xs i d)
all_read P xs i d lt all = all_at P xs i (get_or xs i d) all (read_at xs i d lt)

pub image_more : {X Y : Type 0} (P : Y → Type 0) (f : X → Y) (xs : List X) (i : ℕ) (d : X) → i < length xs → d ≡ get_or xs i d → AllByRecursion P (map f (take i xs)) → P (f d) → AllByRecursion P (map f (take (i + 1) xs))
image_more P f xs i d lt is h p = subst (AllByRecursion P) (sym (map_more f xs i d lt)) (all_append P (map f (take i xs)) (f (get_or xs i d) ∷ []) h (subst (λ x. P (f x)) is p, tt))

pub image_at : {X Y : Type 0} (P : Y → Type 0) (f : X → Y) (xs : List X) (i : ℕ) (d : X) → i < length xs → d ≡ get_or xs i d → AllByRecursion P (map f xs) → P (f d)
image_at P f xs i d lt is all = all_at P (map f xs) i (f d) all (at_mapped f xs i d lt is)

pub fit_none : (g : KoreSignature) (rs : List PlacedSort) (hs : List (Option ℕ)) (gs : List (List ℕ)) → FitBelow g rs hs gs 0
fit_none g rs hs gs l lt none = absurd (none_below l lt)

pub sorts_told : (g : KoreSignature) (x : Graph) (i j : ℕ) (ls : List ℕ) (hs : List (Option ℕ)) (gs : List (List ℕ)) (b : Bool) → AreLabels g x i j ls → AreGroups ls x.sorts gs → AllByRecursion (Fits g x.shapes ls hs) x.sorts → IsTrue b ↔ AllFit g x.sorts hs gs → TellsSorts g x i j ls hs b
sorts_told g x i j ls hs gs true labels groups fit e = all_sorts_fit g x ls hs gs groups fit (e.0 refl)
sorts_told g x i j ls hs gs false labels groups fit e = unshared g x i j ls hs gs labels groups (λ all. true_false (sym (e.1 all)))

-- ---- the same of a graph's lists

pub unfit_lists : (g : KoreSignature) (x : Graph) (i j : ℕ) (ss : List Shape) (rs : List PlacedSort) (ls : List ℕ) (hs : List (Option ℕ)) → x.shapes ≡ ss → x.sorts ≡ rs → AreLabels g x i j ls → AreHolders x ls hs → ¬ AllByRecursion (Fits g ss ls hs) rs → ¬ HasSolution g x i j
unfit_lists g x i j ss rs ls hs e f labels holders bad =
    unfit g x i j ls hs labels holders (λ all. bad (subst (AllByRecursion (Fits g ss ls hs)) f (subst (λ q. AllByRecursion (Fits g q ls hs) x.sorts) e all)))

pub told_lists : (g : KoreSignature) (x : Graph) (i j : ℕ) (ss : List Shape) (rs : List PlacedSort) (ls : List ℕ) (hs : List (Option ℕ)) (gs : List (List ℕ)) (b : Bool) → x.shapes ≡ ss → x.sorts ≡ rs → AreLabels g x i j ls → AreGroups ls rs gs → AllByRecursion (Fits g ss ls hs) rs → IsTrue b ↔ AllFit g rs hs gs → TellsSorts g x i j ls hs b
told_lists g x i j ss rs ls hs gs b e f labels groups fit all =
    sorts_told g x i j ls hs gs b labels (subst (λ q. AreGroups ls q gs) (sym f) groups)
    (subst (λ q. AllByRecursion (Fits g q ls hs) x.sorts) (sym e) (subst (AllByRecursion (Fits g ss ls hs)) (sym f) fit))
    (subst (λ q. IsTrue b ↔ AllFit g q hs gs) (sym f) all)
