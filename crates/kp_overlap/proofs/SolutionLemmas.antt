-- Labels with ranks, under which the sorts fit, give a solution: each label's value is made of those of smaller rank.
use Rattle.std.proofs.Common.{◌≡◌, refl, sym, ap, ap₂, ◌∙◌, subst, ℕ, zero, suc, ◌<◌, ◌≤◌, true, Option, Some, None, List, [], ◌∷◌, length, get_or, inl, inr, ◌⊎◌, arith}
use Rattle.std.specs.List.{Contains}
use Rattle.std.proofs.lemmas.Bool.{cases_lt}
use Rattle.kp_kore.specs.Syntax.{Text, KoreSort, KoreSorts, no_sorts, next_sort}
use Rattle.kp_kore.specs.Signature.{KoreSignature, IsHeadOf}
use Rattle.kp_kore.specs.Value.{Value, whole, truth, token, constructed, next_value, head_of, HasSort, HaveSorts}
use Rattle.kp_overlap.specs.Graphs.{IsAt, Shape, any_value, never, leaf, made, PlacedSort, Graph, values_at, HasShape, HasSolution, IsLeafValue}
use Rattle.kp_overlap.specs.Labels.{AreAsked, IsGraph, HaveOneLabel, AreSettled, HaveOneLabelEach, IsClosed, SaySame, AreHolders, StandBefore, AreRanked, HasHeadOf, DoSortsFit}
use Rattle.kp_overlap.proofs.RankLemmas.{read_at, is_at, differs_at, some_at, none_some, rank_bound}

abbrev label_of : List ℕ → ℕ → ℕ
label_of ls n = get_or ls n n

-- ---- values of labels

abbrev shape_value : List ℕ → (ℕ → Value) → Value → Shape → Value
shape_value ls v u any_value = u
shape_value ls v u never = u
shape_value ls v u (leaf w) = w
shape_value ls v u (made f ns) = constructed f (values_at (λ n. v (label_of ls n)) ns)

abbrev held_value : Graph → List ℕ → (ℕ → Value) → Value → Option ℕ → Value
held_value x ls v u None = u
held_value x ls v u (Some h) = shape_value ls v u (get_or x.shapes h any_value)

-- those of ranks below k are right
abbrev stage : Graph → List ℕ → List (Option ℕ) → (ℕ → Value) → ℕ → ℕ → Value
stage x ls hs o zero l = o l
stage x ls hs o (suc k) l = held_value x ls (stage x ls hs o k) (o l) (get_or hs l None)

members_same : (ls : List ℕ) (rs : List (Option ℕ)) (r : ℕ) (v w : ℕ → Value) → ((l p : ℕ) → IsAt rs l (Some p) → p < r → v l ≡ w l) → (ns : List ℕ) → StandBefore ls rs r ns → values_at (λ n. v (label_of ls n)) ns ≡ values_at (λ n. w (label_of ls n)) ns
members_same ls rs r v w same [] h = refl
members_same ls rs r v w same (n ∷ ns) h =
    let l = h.0.0 in
    let e : label_of ls n ≡ l = read_at ls n l n h.0.2 in
    ap₂ next_value (ap v e ∙ same l h.0.1 h.0.3 h.0.4 ∙ sym (ap w e)) (members_same ls rs r v w same ns h.1)

shape_same : (x : Graph) (ls : List ℕ) (rs : List (Option ℕ)) (r h : ℕ) (v w : ℕ → Value) (u : Value) → ((l p : ℕ) → IsAt rs l (Some p) → p < r → v l ≡ w l) → ((f : Text) (ns : List ℕ) → IsAt x.shapes h (made f ns) → StandBefore ls rs r ns) → shape_value ls v u (get_or x.shapes h any_value) ≡ shape_value ls w u (get_or x.shapes h any_value)
shape_same x ls rs r h v w u same before = by (get_or x.shapes h any_value) refl
  where
    by : (t : Shape) → get_or x.shapes h any_value ≡ t → shape_value ls v u t ≡ shape_value ls w u t
    by any_value e = refl
    by never e = refl
    by (leaf c) e = refl
    by (made f ns) e = ap (constructed f) (members_same ls rs r v w same ns (before f ns (differs_at x.shapes h (made f ns) any_value e (λ d. absurd (cc)))))

held_same : (x : Graph) (ls : List ℕ) (hs rs : List (Option ℕ)) (l r : ℕ) (v w : ℕ → Value) (u : Value) → AreRanked x ls hs rs → IsAt rs l (Some r) → ((m p : ℕ) → IsAt rs m (Some p) → p < r → v m ≡ w m) → held_value x ls v u (get_or hs l None) ≡ held_value x ls w u (get_or hs l None)
held_same x ls hs rs l r v w u ranked at same = by (get_or hs l None) refl
  where
    by : (o : Option ℕ) → get_or hs l None ≡ o → held_value x ls v u o ≡ held_value x ls w u o
    by None e = refl
    by (Some h) e = shape_same x ls rs r h v w u same (λ f ns here. ranked.before l h r f ns (some_at hs l h e) here at)

stable : (x : Graph) (ls : List ℕ) (hs rs : List (Option ℕ)) (o : ℕ → Value) → AreRanked x ls hs rs → (k l r : ℕ) → IsAt rs l (Some r) → r < k → stage x ls hs o k l ≡ stage x ls hs o (suc k) l
stable x ls hs rs o ranked zero l r at low = absurd (omega arith)
stable x ls hs rs o ranked (suc k) l r at low = held_same x ls hs rs l r (stage x ls hs o k) (stage x ls hs o (suc k)) (o l) ranked at (λ m p here below. stable x ls hs rs o ranked k m p here (omega arith))

-- ---- shapes

record AreReady (g : KoreSignature) (x : Graph) (i j : ℕ) (ls : List ℕ) (hs rs : List (Option ℕ)) : Type 0 where
  graph : IsGraph g x
  long : length ls ≡ length x.shapes
  settled : AreSettled ls i j
  holders : AreHolders x ls hs
  ranked : AreRanked x ls hs rs
  fit : DoSortsFit g x ls hs

-- each label has the value that its holder tells
abbrev AreHeld : Graph → List ℕ → List (Option ℕ) → (ℕ → Value) → (ℕ → Value) → Type 0
AreHeld x ls hs o v = (l : ℕ) → l < length ls → v l ≡ held_value x ls v (o l) (get_or hs l None)

held_shape : (x : Graph) (ls : List ℕ) (hs : List (Option ℕ)) (o v : ℕ → Value) → AreHeld x ls hs o v → (l h : ℕ) (t : Shape) → l < length ls → IsAt hs l (Some h) → IsAt x.shapes h t → v l ≡ shape_value ls v (o l) t
held_shape x ls hs o v held l h t low a b = held l low ∙ ap (held_value x ls v (o l)) (read_at hs l (Some h) None a) ∙ ap (shape_value ls v (o l)) (read_at x.shapes h t any_value b)

same_label : (ls : List ℕ) (n m : ℕ) → HaveOneLabel ls n m → label_of ls n ≡ label_of ls m
same_label ls n m h = read_at ls n h.0 n h.1 ∙ sym (read_at ls m h.0 m h.2)

same_members : (ls : List ℕ) (v : ℕ → Value) (ns ms : List ℕ) → HaveOneLabelEach ls ns ms → values_at (λ n. v (label_of ls n)) ns ≡ values_at (λ n. v (label_of ls n)) ms
same_members ls v [] [] h = refl
same_members ls v (n ∷ ns) (m ∷ ms) h = ap₂ next_value (ap v (same_label ls n m h.0)) (same_members ls v ns ms h.1)
same_members ls v [] (m ∷ ms) h = absurd h
same_members ls v (n ∷ ns) [] h = absurd h

same_shape : (ls : List ℕ) (v : ℕ → Value) (u w : Value) (s t : Shape) → SaySame ls s t → u ≡ shape_value ls v w t → HasShape (λ n. v (label_of ls n)) s u
same_shape ls v u w (leaf a) (leaf b) same e = e ∙ sym same
same_shape ls v u w (made f ns) (made h ms) same e = e ∙ sym (ap₂ constructed same.0 (same_members ls v ns ms same.1))
same_shape ls v u w any_value t same e = absurd same
same_shape ls v u w never t same e = absurd same
same_shape ls v u w (leaf a) any_value same e = absurd same
same_shape ls v u w (leaf a) never same e = absurd same
same_shape ls v u w (leaf a) (made h ms) same e = absurd same
same_shape ls v u w (made f ns) any_value same e = absurd same
same_shape ls v u w (made f ns) never same e = absurd same
same_shape ls v u w (made f ns) (leaf b) same e = absurd same

closed_shape : (g : KoreSignature) (x : Graph) (i j : ℕ) (ls : List ℕ) (hs rs : List (Option ℕ)) (o v : ℕ → Value) → AreReady g x i j ls hs rs → AreHeld x ls hs o v → (n : ℕ) (s : Shape) → IsAt x.shapes n s → IsClosed s → HasShape (λ m. v (label_of ls m)) s (v (label_of ls n))
closed_shape g x i j ls hs rs o v ready held n s at closed =
    let e : length ls ≡ length x.shapes = ready.long in
    let l = label_of ls n in
    let here : IsAt ls n l = is_at ls n n (omega (arith, at.0)) in
    let h = ready.holders.held n l s at closed here in
    let own : IsAt ls l l = ready.settled.own n l here in
    same_shape ls v (v l) (o l) s h.1 h.4 (held_shape x ls hs o v held l h.0 h.1 own.0 h.2 h.3)

has_shape : (g : KoreSignature) (x : Graph) (i j : ℕ) (ls : List ℕ) (hs rs : List (Option ℕ)) (o v : ℕ → Value) → AreReady g x i j ls hs rs → AreHeld x ls hs o v → (n : ℕ) (s : Shape) → IsAt x.shapes n s → HasShape (λ m. v (label_of ls m)) s (v (label_of ls n))
has_shape g x i j ls hs rs o v ready held n any_value at = tt
has_shape g x i j ls hs rs o v ready held n never at = ready.holders.none_never n at
has_shape g x i j ls hs rs o v ready held n (leaf w) at = closed_shape g x i j ls hs rs o v ready held n (leaf w) at tt
has_shape g x i j ls hs rs o v ready held n (made f ns) at = closed_shape g x i j ls hs rs o v ready held n (made f ns) at tt

-- ---- sorts

leaf_sort : (g : KoreSignature) (s : KoreSort) (w : Value) → IsLeafValue w → IsHeadOf g s (head_of w) → HasSort g s w
leaf_sort g s (whole n) a h = h
leaf_sort g s (truth b) a h = h
leaf_sort g s (token t x) a h = h
leaf_sort g s (constructed c us) a h = absurd a

-- the places below rank r have their sorts
abbrev HaveBelow : KoreSignature → Graph → List ℕ → List (Option ℕ) → (ℕ → Value) → ℕ → Type 0
HaveBelow g x ls rs a r = (q : PlacedSort) → Contains x.sorts q → (l p : ℕ) → IsAt ls q.place l → IsAt rs l (Some p) → p < r → HasSort g q.sort (a q.place)

members_sorts : (g : KoreSignature) (x : Graph) (ls : List ℕ) (rs : List (Option ℕ)) (a : ℕ → Value) (r : ℕ) → HaveBelow g x ls rs a r → (ss : KoreSorts) (ns : List ℕ) → AreAsked x ss ns → StandBefore ls rs r ns → HaveSorts g ss (values_at a ns)
members_sorts g x ls rs a r have no_sorts [] asked before = tt
members_sorts g x ls rs a r have (next_sort s ss) (n ∷ ns) asked before = (have (record { place = n; sort = s }) asked.0 before.0.0 before.0.1 before.0.2 before.0.3 before.0.4, members_sorts g x ls rs a r have ss ns asked.1 before.1)
members_sorts g x ls rs a r have no_sorts (n ∷ ns) asked before = absurd asked
members_sorts g x ls rs a r have (next_sort s ss) [] asked before = absurd asked

-- what the values of labels without a holder are
abbrev AreOpen : KoreSignature → Graph → List ℕ → List (Option ℕ) → (ℕ → Value) → Type 0
AreOpen g x ls hs o = (l : ℕ) → IsAt hs l None → (q : PlacedSort) → Contains x.sorts q → IsAt ls q.place l → HasSort g q.sort (o l)

shape_sort : (g : KoreSignature) (x : Graph) (ls : List ℕ) (rs : List (Option ℕ)) (v : ℕ → Value) (u : Value) (r h : ℕ) (s : KoreSort) (t : Shape) → IsGraph g x → HaveBelow g x ls rs (λ n. v (label_of ls n)) r → IsAt x.shapes h t → HasHeadOf g s t → ((f : Text) (ns : List ℕ) → t ≡ made f ns → StandBefore ls rs r ns) → HasSort g s (shape_value ls v u t)
shape_sort g x ls rs v u r h s any_value graph have at head before = absurd head
shape_sort g x ls rs v u r h s never graph have at head before = absurd head
shape_sort g x ls rs v u r h s (leaf w) graph have at head before = leaf_sort g s w (graph.shapes h (leaf w) at) head
shape_sort g x ls rs v u r h s (made f ns) graph have at head before =
    let shape = graph.shapes h (made f ns) at in
    (head, shape.1, shape.2, members_sorts g x ls rs (λ n. v (label_of ls n)) r have shape.1 ns shape.3 (before f ns refl))

label_sort : (g : KoreSignature) (x : Graph) (i j : ℕ) (ls : List ℕ) (hs rs : List (Option ℕ)) (o v : ℕ → Value) → AreReady g x i j ls hs rs → AreHeld x ls hs o v → AreOpen g x ls hs o → (q : PlacedSort) (l r : ℕ) → Contains x.sorts q → IsAt ls q.place l → IsAt rs l (Some r) → HaveBelow g x ls rs (λ n. v (label_of ls n)) r → HasSort g q.sort (v l)
label_sort g x i j ls hs rs o v ready held free q l r c at rank have = by (get_or hs l None) refl
  where
    own : IsAt ls l l
    own = ready.settled.own q.place l at

    by : (h : Option ℕ) → get_or hs l None ≡ h → HasSort g q.sort (v l)
    by None e =
        let long : length hs ≡ length ls = ready.holders.long in
        let low : l < length hs = omega (arith, own.0) in
        let none : IsAt hs l None = (low, e) in
        subst (HasSort g q.sort) (sym (held l own.0 ∙ ap (held_value x ls v (o l)) e)) (free l none q c at)
    by (Some h) e =
        let here : IsAt hs l (Some h) = some_at hs l h e in
        let holds = ready.holders.holds l h here in
        let head : HasHeadOf g q.sort holds.0 = ready.fit.closed q c l h holds.0 at here holds.1 in
        subst (HasSort g q.sort) (sym (held_shape x ls hs o v held l h holds.0 own.0 here holds.1)) (shape_sort g x ls rs v (o l) r h q.sort holds.0 ready.graph have holds.1 head (λ f ns d. ready.ranked.before l h r f ns here (subst (IsAt x.shapes h) d holds.1) rank))

have_below : (g : KoreSignature) (x : Graph) (i j : ℕ) (ls : List ℕ) (hs rs : List (Option ℕ)) (o v : ℕ → Value) → AreReady g x i j ls hs rs → AreHeld x ls hs o v → AreOpen g x ls hs o → (k : ℕ) → HaveBelow g x ls rs (λ n. v (label_of ls n)) k
have_below g x i j ls hs rs o v ready held free zero q c l p at rank low = absurd (omega arith)
have_below g x i j ls hs rs o v ready held free (suc k) q c l p at rank low =
    let less : HaveBelow g x ls rs (λ n. v (label_of ls n)) p = λ q' c' l' p' at' rank' low'. have_below g x i j ls hs rs o v ready held free k q' c' l' p' at' rank' (omega arith) in
    subst (λ m. HasSort g q.sort (v m)) (sym (read_at ls q.place l q.place at)) (label_sort g x i j ls hs rs o v ready held free q l p c at rank less)

-- ---- the solution

open_value : (g : KoreSignature) (x : Graph) (ls : List ℕ) (hs : List (Option ℕ)) → DoSortsFit g x ls hs → (l : ℕ) → (u : Value) × (IsAt hs l None → (q : PlacedSort) → Contains x.sorts q → IsAt ls q.place l → HasSort g q.sort u)
open_value g x ls hs fit l = by (cases_lt l (length hs)) (get_or hs l None) refl
  where
    by : (l < length hs) ⊎ (length hs ≤ l) → (h : Option ℕ) → get_or hs l None ≡ h → (u : Value) × (IsAt hs l None → (q : PlacedSort) → Contains x.sorts q → IsAt ls q.place l → HasSort g q.sort u)
    by (inl low) None e = let free = fit.any_value l (low, e) in (free.0, λ at. free.1)
    by (inl low) (Some h) e = (truth true, λ at. absurd (none_some h (sym at.1 ∙ e)))
    by (inr high) h e = (truth true, λ at. absurd (omega arith))

solved : (g : KoreSignature) (x : Graph) (i j : ℕ) (ls : List ℕ) (hs rs : List (Option ℕ)) (o v : ℕ → Value) → AreReady g x i j ls hs rs → AreHeld x ls hs o v → AreOpen g x ls hs o → HasSolution g x i j
solved g x i j ls hs rs o v ready held free =
    let sorts : (q : PlacedSort) → Contains x.sorts q → HasSort g q.sort (v (label_of ls q.place)) = λ q c.
    let e : length ls ≡ length x.shapes = ready.long in
    let place : q.place < length x.shapes = ready.graph.sorts q c in
    let at : IsAt ls q.place (label_of ls q.place) = is_at ls q.place q.place (omega arith) in
    let rank = ready.ranked.all (label_of ls q.place) (ready.settled.own q.place (label_of ls q.place) at).0 in
    have_below g x i j ls hs rs o v ready held free (suc rank.0) q c (label_of ls q.place) rank.0 at rank.1 (omega arith) in
    (λ n. v (label_of ls n), record { solves = record { shapes = has_shape g x i j ls hs rs o v ready held; sorts = sorts }; same = ap v (same_label ls i j ready.settled.same) })

pub solution : (g : KoreSignature) (x : Graph) (i j : ℕ) (ls : List ℕ) (hs rs : List (Option ℕ)) → IsGraph g x → length ls ≡ length x.shapes → AreSettled ls i j → AreHolders x ls hs → AreRanked x ls hs rs → DoSortsFit g x ls hs → HasSolution g x i j
solution g x i j ls hs rs graph long settled holders ranked fit =
    let bound = rank_bound rs in
    let o : ℕ → Value = λ l. (open_value g x ls hs fit l).0 in
    let held : AreHeld x ls hs o (stage x ls hs o bound.0) = λ l low. let rank = ranked.all l low in stable x ls hs rs o ranked bound.0 l rank.0 rank.1 (bound.1 l rank.0 rank.1) in
    solved g x i j ls hs rs o (stage x ls hs o bound.0) (record { graph = graph; long = long; settled = settled; holders = holders; ranked = ranked; fit = fit }) held (λ l. (open_value g x ls hs fit l).1)
