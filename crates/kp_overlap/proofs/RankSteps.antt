-- What the passes over labels and members tell, step by step.
use Rattle.std.proofs.Common.{◌≡◌, refl, sym, ap, ◌∙◌, subst, ℕ, ◌<◌, ◌≤◌, ◌+◌, Bool, true, false, Option, Some, None, List, length, map, get_or, inl, inr, arith, ltb, below_more}
use Rattle.std.specs.Prelude.{◌↔◌, IsTrue}
use Rattle.std.specs.Option.{is_some}
use Rattle.std.proofs.lemmas.Bool.{ltb-true, lt-ltb}
use Rattle.std.proofs.lemmas.List.{get_or_default, length-map, get_or-map}
use Rattle.std.proofs.lemmas.List.Elements.{All-from_recursion, recursion_from_All}
use Rattle.kp_kore.specs.Syntax.{Text}
use Rattle.kp_overlap.specs.Graphs.{IsAt, Shape, any_value, never, leaf, made, Graph}
use Rattle.kp_overlap.specs.Labels.{AreHolders, StandBefore, AreRanked}
use Rattle.kp_overlap.specs.Ranked.{members, IsMadeOf, HasRank, HasLabelRank, IsBefore, IsRanked, Waits, SomeWaits, IsRankedOrWaits, IsCircle}
use Rattle.kp_overlap.proofs.RankLemmas.{some_same, none_some, read_at, is_at, same_at}

no_truth : {P : Type 0} → IsTrue false → P
no_truth t = absurd (cc)

pub some_of : (o : Option ℕ) → is_some o ≡ true → (p : ℕ) × (o ≡ Some p)
some_of (Some p) e = (p, refl)
some_of None e = absurd (cc)

pub none_of : (o : Option ℕ) → is_some o ≡ false → (p : ℕ) → o ≡ Some p → ⊥
none_of (Some q) e p f = absurd (cc)
none_of None e p f = none_some p f

lists_same : (ms ns : List ℕ) → Some ms ≡ Some ns → ms ≡ ns
lists_same ms ns e = cc

-- ---- passes

-- the pass ends at what fails
pub all_fail : (P : ℕ → Type 0) (n i : ℕ) → i < n → (IsTrue false ↔ P i) → IsTrue false ↔ ((l : ℕ) → l < n → P l)
all_fail P n i low f = ((λ t. no_truth t), λ all. f.1 (all i low))

pub all_pass : (P : ℕ → Type 0) (n i : ℕ) → n ≤ i → ((l : ℕ) → l < i → P l) → IsTrue true ↔ ((l : ℕ) → l < n → P l)
all_pass P n i end so = ((λ t. λ l low. so l (omega arith)), λ all. refl)

pub pass_more : (P : ℕ → Type 0) (i : ℕ) → ((l : ℕ) → l < i → P l) → (IsTrue true ↔ P i) → (l : ℕ) → l < i + 1 → P l
pass_more P i so f = below_more P i so (f.0 refl)

-- ---- ranks

pub label_rank : (ls : List ℕ) (rs : List (Option ℕ)) (m : ℕ) (r : Option ℕ) → m < length ls → ((h : ℕ) → (r ≡ Some h) ↔ IsAt rs (get_or ls m 0) (Some h)) → (p : ℕ) → (r ≡ Some p) ↔ HasLabelRank ls rs m p
label_rank ls rs m r low f p = (
  (λ e. (get_or ls m 0, is_at ls m 0 low, (f p).0 e)),
  λ h. (f p).1 (subst (λ l. IsAt rs l (Some p)) (sym (read_at ls m h.0 0 h.1)) h.2),
)

pub rank_before : (ls : List ℕ) (rs : List (Option ℕ)) (k m q : ℕ) → ((p : ℕ) → (Some q ≡ Some p) ↔ HasLabelRank ls rs m p) → IsTrue (ltb q k) ↔ IsBefore ls rs k m
rank_before ls rs k m q f = (
  (λ t. let h = (f q).0 refl in (h.0, q, h.1, h.2, ltb-true q k t)),
  λ h. let e : q ≡ h.1 = some_same q h.1 ((f h.1).1 (h.0, h.2, h.3)) in lt-ltb q k (omega (arith, h.4)),
)

pub no_rank_before : (ls : List ℕ) (rs : List (Option ℕ)) (k m : ℕ) → ((p : ℕ) → (None ≡ Some p) ↔ HasLabelRank ls rs m p) → IsTrue false ↔ IsBefore ls rs k m
no_rank_before ls rs k m f = ((λ t. no_truth t), λ h. absurd (none_some h.1 ((f h.1).1 (h.0, h.2, h.3))))

pub before_fails : (ls : List ℕ) (rs : List (Option ℕ)) (k : ℕ) (ns : List ℕ) (i : ℕ) → i < length ns → (IsTrue false ↔ IsBefore ls rs k (get_or ns i 0)) → IsTrue false ↔ StandBefore ls rs k ns
before_fails ls rs k ns i low f = ((λ t. no_truth t), λ all. f.1 (All-from_recursion (IsBefore ls rs k) ns all i 0 low))

pub before_all : (ls : List ℕ) (rs : List (Option ℕ)) (k : ℕ) (ns : List ℕ) (i : ℕ) → length ns ≤ i → ((j : ℕ) → j < i → IsBefore ls rs k (get_or ns j 0)) → IsTrue true ↔ StandBefore ls rs k ns
before_all ls rs k ns i end so = ((λ t. recursion_from_All (IsBefore ls rs k) ns (λ j d low. subst (IsBefore ls rs k) (get_or_default ns j 0 d low) (so j (omega arith)))), λ all. refl)

-- ---- members

shape_members : (t : Shape) (ns : List ℕ) → members t ≡ Some ns → (f : Text) × (t ≡ made f ns)
shape_members (made f ms) ns e = (f, ap (made f) (lists_same ms ns e))
shape_members any_value ns e = absurd (cc)
shape_members never ns e = absurd (cc)
shape_members (leaf w) ns e = absurd (cc)

pub at_view : {X Y : Type 0} (f : X → Y) (xs : List X) (k : ℕ) (x : X) → k < length xs → x ≡ get_or xs k x → IsAt (map f xs) k (f x)
at_view f xs k x low e = (subst (λ n. k < n) (sym (length-map xs f)) low, get_or-map f xs k x (f x) low ∙ ap f (sym e))

pub holder_members : (ss : List Shape) (hs : List (Option ℕ)) (l k : ℕ) (t : Shape) (o : Option (List ℕ)) → IsAt ss k t → ((h : ℕ) → (Some k ≡ Some h) ↔ IsAt hs l (Some h)) → o ≡ members t → (ns : List ℕ) → (o ≡ Some ns) ↔ IsMadeOf ss hs l ns
holder_members ss hs l k t o at f e ns = (
  (λ is. let m = shape_members t ns (sym e ∙ is) in (k, m.0, (f k).0 refl, subst (IsAt ss k) m.1 at)),
  λ h. let same : k ≡ h.0 = some_same k h.0 ((f h.0).1 h.2) in e ∙ ap members (same_at ss k t (made h.1 ns) at (subst (λ n. IsAt ss n (made h.1 ns)) (sym same) h.3)),
)

pub ranked_made : (ss : List Shape) (ls : List ℕ) (hs rs : List (Option ℕ)) (l k : ℕ) (ms : List ℕ) (b : Bool) → ((h : ℕ) → (Some k ≡ Some h) ↔ IsAt rs l (Some h)) → ((ns : List ℕ) → (Some ms ≡ Some ns) ↔ IsMadeOf ss hs l ns) → (IsTrue b ↔ StandBefore ls rs k ms) → IsTrue b ↔ IsRanked ss ls hs rs l
ranked_made ss ls hs rs l k ms b f g e = (
  (λ t. (k, (f k).0 refl, λ ns made. subst (StandBefore ls rs k) (lists_same ms ns ((g ns).1 made)) (e.0 t))),
  λ r. e.1 (subst (λ n. StandBefore ls rs n ms) (sym (some_same k r.0 ((f r.0).1 r.1))) (r.2 ms ((g ms).0 refl))),
)

pub ranked_unmade : (ss : List Shape) (ls : List ℕ) (hs rs : List (Option ℕ)) (l k : ℕ) → ((h : ℕ) → (Some k ≡ Some h) ↔ IsAt rs l (Some h)) → ((ns : List ℕ) → (None ≡ Some ns) ↔ IsMadeOf ss hs l ns) → IsTrue true ↔ IsRanked ss ls hs rs l
ranked_unmade ss ls hs rs l k f g = ((λ t. (k, (f k).0 refl, λ ns made. absurd (no_list ns ((g ns).1 made)))), λ r. refl)
  where
    no_list : (ns : List ℕ) → None ≡ Some ns → ⊥
    no_list ns e = absurd (cc)

-- ---- waiting

pub waits_here : (ls : List ℕ) (rs : List (Option ℕ)) (ns : List ℕ) (i : ℕ) (r : Option ℕ) → i < length ns → is_some r ≡ false → ((p : ℕ) → (r ≡ Some p) ↔ HasLabelRank ls rs (get_or ns i 0) p) → IsTrue true ↔ SomeWaits ls rs ns
waits_here ls rs ns i r low none f = ((λ t. (get_or ns i 0, (i, low, get_or_default ns i (get_or ns i 0) 0 low), λ p h. none_of r none p ((f p).1 h))), λ s. refl)

pub has_one : (P : ℕ → Type 0) (r : Option ℕ) → is_some r ≡ true → ((p : ℕ) → (r ≡ Some p) ↔ P p) → (p : ℕ) × P p
has_one P r some f = let h = some_of r some in (h.0, (f h.0).0 h.1)

pub none_waits : (ls : List ℕ) (rs : List (Option ℕ)) (ns : List ℕ) (i : ℕ) → length ns ≤ i → ((j : ℕ) → j < i → (p : ℕ) × HasLabelRank ls rs (get_or ns j 0) p) → IsTrue false ↔ SomeWaits ls rs ns
none_waits ls rs ns i end so = ((λ t. no_truth t), λ s. absurd (wait s.0 s.1.0 s.1.1 s.1.2 s.2))
  where
    wait : (m k : ℕ) → k < length ns → get_or ns k m ≡ m → Waits ls rs m → ⊥
    wait m k low e none =
        let h = so k (omega arith) in
        none h.0 (subst (λ n. HasLabelRank ls rs n h.0) (get_or_default ns k 0 m low ∙ e) h.1)

pub waits_or_ranked : (ss : List Shape) (ls : List ℕ) (hs rs : List (Option ℕ)) (l : ℕ) (ms : List ℕ) (b : Bool) (r : Option ℕ) → is_some r ≡ false → ((h : ℕ) → (r ≡ Some h) ↔ IsAt rs l (Some h)) → ((ns : List ℕ) → (Some ms ≡ Some ns) ↔ IsMadeOf ss hs l ns) → (IsTrue b ↔ SomeWaits ls rs ms) → IsTrue b ↔ IsRankedOrWaits ss ls hs rs l
waits_or_ranked ss ls hs rs l ms b r none f g e = ((λ t. inr (ms, (g ms).0 refl, e.0 t)), by)
  where
    by : IsRankedOrWaits ss ls hs rs l → IsTrue b
    by (inl h) = absurd (none_of r none h.0 ((f h.0).1 h.1))
    by (inr w) = e.1 (subst (SomeWaits ls rs) (sym (lists_same ms w.0 ((g w.0).1 w.1))) w.2)

pub unmade_unranked : (ss : List Shape) (ls : List ℕ) (hs rs : List (Option ℕ)) (l : ℕ) (r : Option ℕ) → is_some r ≡ false → ((h : ℕ) → (r ≡ Some h) ↔ IsAt rs l (Some h)) → ((ns : List ℕ) → (None ≡ Some ns) ↔ IsMadeOf ss hs l ns) → IsTrue false ↔ IsRankedOrWaits ss ls hs rs l
unmade_unranked ss ls hs rs l r none f g = ((λ t. no_truth t), by)
  where
    no_list : (ns : List ℕ) → None ≡ Some ns → ⊥
    no_list ns e = absurd (cc)

    by : IsRankedOrWaits ss ls hs rs l → IsTrue false
    by (inl h) = absurd (none_of r none h.0 ((f h.0).1 h.1))
    by (inr w) = absurd (no_list w.0 ((g w.0).1 w.1))

pub ranked_here : (ss : List Shape) (ls : List ℕ) (hs rs : List (Option ℕ)) (l : ℕ) (r : Option ℕ) → is_some r ≡ true → ((h : ℕ) → (r ≡ Some h) ↔ IsAt rs l (Some h)) → IsTrue true ↔ IsRankedOrWaits ss ls hs rs l
ranked_here ss ls hs rs l r some f = ((λ t. inl (has_one (λ p. IsAt rs l (Some p)) r some f)), λ h. refl)

-- ---- what the ranks tell

pub all_ranked : (x : Graph) (ss : List Shape) (ls : List ℕ) (hs rs : List (Option ℕ)) → x.shapes ≡ ss → AreHolders x ls hs → ((l : ℕ) → l < length ls → IsRanked ss ls hs rs l) → AreRanked x ls hs rs
all_ranked x ss ls hs rs same holders all = record { all = λ l low. let r = all l low in (r.0, r.1); before = before }
  where
    before : (l h k : ℕ) (f : Text) (ns : List ℕ) → IsAt hs l (Some h) → IsAt x.shapes h (made f ns) → IsAt rs l (Some k) → StandBefore ls rs k ns
    before l h k f ns at shape rank =
        let long : length hs ≡ length ls = holders.long in
        let r = all l (omega (arith, at.0)) in
        subst (λ n. StandBefore ls rs n ns) (some_same r.0 k (same_at rs l (Some r.0) (Some k) r.1 rank)) (r.2 ns (h, f, at, subst (λ ts. IsAt ts h (made f ns)) same shape))

pub circle_found : (x : Graph) (ss : List Shape) (ls : List ℕ) (hs rs : List (Option ℕ)) → x.shapes ≡ ss → ((l : ℕ) × (l < length ls) × ¬ HasRank rs l) → ((l : ℕ) → l < length ls → IsRankedOrWaits ss ls hs rs l) → IsCircle x ls hs rs
circle_found x ss ls hs rs same one all = record { label = one.0; within = one.1; unranked = one.2; all = λ l low. subst (λ ts. IsRankedOrWaits ts ls hs rs l) (sym same) (all l low) }
