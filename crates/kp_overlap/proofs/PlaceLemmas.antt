-- Graphs with one place or sort more, and what solves them.
use Rattle.std.proofs.Common.{◌≡◌, refl, sym, ap, subst, ◌∙◌, ℕ, zero, suc, ◌<◌, ◌≤◌, ◌⊎◌, inl, inr, List, [], ◌∷◌, ◌++◌, length, Contains, cond, eqb, Option, Some, arith, length-append}
use Rattle.std.proofs.Math.ListN.{get_or-append}
use Rattle.std.proofs.Math.Seq.{get_or-append_seam}
use Rattle.std.proofs.lemmas.Bool.Decides.{nat_tests}
use Rattle.std.proofs.lemmas.List.Elements.{Contains-append_left, Contains-append_right, Contains-append_cases, Contains-push_cases}
use Rattle.kp_kore.specs.Syntax.{Text, KoreSorts, no_sorts, next_sort, SymbolDeclaration}
use Rattle.kp_kore.specs.Signature.{KoreSignature}
use Rattle.kp_kore.specs.Value.{Value, constructed, Values, no_values, next_value, ArgumentSorts, HasSort, HaveSorts}
use Rattle.kp_kore.specs.Instance.{Valuation}
use Rattle.kp_overlap.specs.Graphs.{IsAt, Shape, any_value, never, leaf, made, PlacedSort, Graph, values_at, HasShape, Solves, AreBelow}
use Rattle.kp_overlap.specs.Labels.{IsGraph, IsShapeIn, AreAsked}
use Rattle.kp_overlap.specs.Placing.{AllSorted, with_shape, with_sorts, asked, AreAlong, Places, Agrees, AgreesBelow, IsPlacing, IsMore, Reaches}

-- ---- lists

pub at_last : {X : Type 0} (xs : List X) (s : X) (n : ℕ) (t : X) → IsAt (xs ++ s ∷ []) n t → IsAt xs n t ⊎ ((n ≡ length xs) × (s ≡ t))
at_last [] s zero t h = inr (refl, h.1)
at_last [] s (suc n) t h = absurd (omega (arith, h.0))
at_last (x ∷ xs) s zero t h = inl (omega arith, h.1)
at_last (x ∷ xs) s (suc n) t h = elim (at_last xs s n t (omega (arith, h.0), h.1)) [
  | inl p ↦ inl (omega (arith, p.0), p.1)
  | inr p ↦ inr (ap suc p.0, p.1)
]

pub at_before : {X : Type 0} (xs ys : List X) (n : ℕ) (t : X) → IsAt xs n t → IsAt (xs ++ ys) n t
at_before xs ys n t h = (omega (arith, length-append xs ys, h.0), get_or-append xs ys t n h.0 ∙ h.1)

pub at_end : {X : Type 0} (xs : List X) (s : X) → IsAt (xs ++ s ∷ []) (length xs) s
at_end xs s = (omega (arith, length-append xs (s ∷ [])), get_or-append_seam xs s [] s)

-- ---- values of places

-- with this value at this place
abbrev pub over : (ℕ → Value) → ℕ → Value → ℕ → Value
over a k u n = cond (eqb n k) u (a n)

pub over_same : (a : ℕ → Value) (k : ℕ) (u : Value) → over a k u k ≡ u
over_same a k u = grind (arith, nat_tests)

pub over_below : (a : ℕ → Value) (k : ℕ) (u : Value) → AgreesBelow k a (over a k u)
over_below a k u n l = grind (arith, nat_tests)

pub values_below : (k : ℕ) (a b : ℕ → Value) (ns : List ℕ) → AgreesBelow k a b → AreBelow k ns → values_at b ns ≡ values_at a ns
values_below k a b [] h p = refl
values_below k a b (n ∷ ns) h p = ap (λ u. next_value u (values_at b ns)) (h n p.0) ∙ ap (λ us. next_value (a n) us) (values_below k a b ns h p.1)

pub below_more : (k m : ℕ) (ns : List ℕ) → k ≤ m → AreBelow k ns → AreBelow m ns
below_more k m [] l p = tt
below_more k m (n ∷ ns) l p = (omega (arith, p.0), below_more k m ns l p.1)

-- what an assignment gives below a place goes on to be of its shape
pub shape_kept : (k : ℕ) (a b : ℕ → Value) (t : Shape) (n : ℕ) (g : KoreSignature) (x : Graph) → length x.shapes ≡ k → AgreesBelow k a b → n < k → IsShapeIn g x t → HasShape a t (a n) → HasShape b t (b n)
shape_kept k a b any_value n g x e h l i s = tt
shape_kept k a b never n g x e h l i s = s
shape_kept k a b (leaf w) n g x e h l i s = h n l ∙ s
shape_kept k a b (made f ns) n g x e h l i s = h n l ∙ s ∙ ap (constructed f) (sym (values_below k a b ns h (subst (λ m. AreBelow m ns) e i.0)))

-- ---- one place more

pub longer_shape : (x : Graph) (s : Shape) → length (with_shape x s).shapes ≡ suc (length x.shapes)
longer_shape x s = length-append x.shapes (s ∷ []) ∙ omega arith

asked_still : (x y : Graph) (ss : KoreSorts) (ns : List ℕ) → ((r : PlacedSort) → Contains x.sorts r → Contains y.sorts r) → AreAsked x ss ns → AreAsked y ss ns
asked_still x y no_sorts [] h a = tt
asked_still x y (next_sort s ss) (n ∷ ns) h a = (h (record { place = n; sort = s }) a.0, asked_still x y ss ns h a.1)
asked_still x y no_sorts (n ∷ ns) h a = a
asked_still x y (next_sort s ss) [] h a = a

pub shape_still : (g : KoreSignature) (x y : Graph) (t : Shape) → length x.shapes ≤ length y.shapes → ((r : PlacedSort) → Contains x.sorts r → Contains y.sorts r) → IsShapeIn g x t → IsShapeIn g y t
shape_still g x y any_value l h i = tt
shape_still g x y never l h i = tt
shape_still g x y (leaf w) l h i = i
shape_still g x y (made f ns) l h i = (below_more (length x.shapes) (length y.shapes) ns l i.0, i.1, i.2, asked_still x y i.1 ns h i.3)

pub graph_shape : (g : KoreSignature) (x : Graph) (s : Shape) → IsGraph g x → IsShapeIn g x s → IsGraph g (with_shape x s)
graph_shape g x s gx ok = record {
  shapes = λ n t h. elim (at_last x.shapes s n t h) [
    | inl old ↦ still t (gx.shapes n t old)
    | inr new ↦ still t (subst (IsShapeIn g x) new.1 ok)
  ];
  sorts = λ r c. let l : r.place < length x.shapes = gx.sorts r c in omega (arith, longer_shape x s);
}
  where
    still : (t : Shape) → IsShapeIn g x t → IsShapeIn g (with_shape x s) t
    still t i = shape_still g x (with_shape x s) t (omega (arith, longer_shape x s)) (λ r c. c) i

pub solves_shape_back : (g : KoreSignature) (x : Graph) (s : Shape) (a : ℕ → Value) → Solves g (with_shape x s) a → Solves g x a
solves_shape_back g x s a h = record { shapes = λ n t i. h.shapes n t (at_before x.shapes (s ∷ []) n t i); sorts = h.sorts }

pub solves_shape : (g : KoreSignature) (x : Graph) (s : Shape) (a : ℕ → Value) (u : Value) → IsGraph g x → Solves g x a → HasShape (over a (length x.shapes) u) s u → Solves g (with_shape x s) (over a (length x.shapes) u)
solves_shape g x s a u gx h ok = record {
  shapes = λ n t i. elim (at_last x.shapes s n t i) [
    | inl old ↦ shape_kept k a b t n g x refl below old.0 (gx.shapes n t old) (h.shapes n t old)
    | inr new ↦ subst (λ m. HasShape b t (b m)) (sym new.0) (subst (λ q. HasShape b q (b k)) new.1 (subst (HasShape b s) (sym (over_same a k u)) ok))
  ];
  sorts = λ r c. subst (HasSort g r.sort) (sym (below r.place (gx.sorts r c))) (h.sorts r c);
}
  where
    k : ℕ
    k = length x.shapes

    b : ℕ → Value
    b = over a k u

    below : AgreesBelow k a b
    below = over_below a k u

-- ---- sorts more

pub graph_sorts : (g : KoreSignature) (x : Graph) (rs : List PlacedSort) → IsGraph g x → ((r : PlacedSort) → Contains rs r → r.place < length x.shapes) → IsGraph g (with_sorts x rs)
graph_sorts g x rs gx ok = record {
  shapes = λ n t h. shape_still g x (with_sorts x rs) t (omega arith) (λ r c. Contains-append_left x.sorts rs r c) (gx.shapes n t h);
  sorts = λ r c. elim (Contains-append_cases x.sorts rs r c) [ inl old ↦ gx.sorts r old | inr new ↦ ok r new ];
}

pub solves_sorts_back : (g : KoreSignature) (x : Graph) (rs : List PlacedSort) (a : ℕ → Value) → Solves g (with_sorts x rs) a → Solves g x a
solves_sorts_back g x rs a h = record { shapes = h.shapes; sorts = λ r c. h.sorts r (Contains-append_left x.sorts rs r c) }

pub solves_sorts : (g : KoreSignature) (x : Graph) (rs : List PlacedSort) (a : ℕ → Value) → Solves g x a → ((r : PlacedSort) → Contains rs r → HasSort g r.sort (a r.place)) → Solves g (with_sorts x rs) a
solves_sorts g x rs a h ok = record {
  shapes = h.shapes;
  sorts = λ r c. elim (Contains-append_cases x.sorts rs r c) [ inl old ↦ h.sorts r old | inr new ↦ ok r new ];
}

-- ---- sorts of members

pub contains_only : (p r : PlacedSort) → Contains (p ∷ []) r → p ≡ r
contains_only p r c = elim (Contains-push_cases [] p r c) [ inl none ↦ absurd (omega (arith, none.1)) | inr e ↦ e ]

contains_first : (p : PlacedSort) (rs : List PlacedSort) → Contains (p ∷ rs) p
contains_first p rs = (0, omega arith, refl)

pub asked_are : (y : Graph) (ss : KoreSorts) (ns : List ℕ) → AreAlong ss ns → ((r : PlacedSort) → Contains (asked ss ns) r → Contains y.sorts r) → AreAsked y ss ns
asked_are y no_sorts [] along all = tt
asked_are y (next_sort s ss) (n ∷ ns) along all =
    let p : PlacedSort = record { place = n; sort = s } in
    (all p (contains_first p (asked ss ns)), asked_are y ss ns along (λ r c. all r (Contains-append_right (p ∷ []) (asked ss ns) r c)))
asked_are y no_sorts (n ∷ ns) along all = along
asked_are y (next_sort s ss) [] along all = along

pub asked_below : (k : ℕ) (ss : KoreSorts) (ns : List ℕ) (i : ℕ) (r : PlacedSort) → IsAt (asked ss ns) i r → AreBelow k ns → r.place < k
asked_below k no_sorts ns i r h below = absurd (omega (arith, h.0))
asked_below k (next_sort s ss) [] i r h below = absurd (omega (arith, h.0))
asked_below k (next_sort s ss) (n ∷ ns) zero r h below = subst (λ (q : PlacedSort). q.place < k) h.1 below.0
asked_below k (next_sort s ss) (n ∷ ns) (suc i) r h below = asked_below k ss ns i r (omega (arith, h.0), h.1) below.1

pub asked_have : (g : KoreSignature) (b : ℕ → Value) (ss : KoreSorts) (ns : List ℕ) (i : ℕ) (r : PlacedSort) → IsAt (asked ss ns) i r → HaveSorts g ss (values_at b ns) → HasSort g r.sort (b r.place)
asked_have g b no_sorts ns i r h have = absurd (omega (arith, h.0))
asked_have g b (next_sort s ss) [] i r h have = absurd (omega (arith, h.0))
asked_have g b (next_sort s ss) (n ∷ ns) zero r h have = subst (λ (q : PlacedSort). HasSort g q.sort (b q.place)) h.1 have.0
asked_have g b (next_sort s ss) (n ∷ ns) (suc i) r h have = asked_have g b ss ns i r (omega (arith, h.0), h.1) have.1

pub have_along : (g : KoreSignature) (b : ℕ → Value) (ss : KoreSorts) (ns : List ℕ) → HaveSorts g ss (values_at b ns) → AreAlong ss ns
have_along g b no_sorts [] h = tt
have_along g b (next_sort s ss) (n ∷ ns) h = have_along g b ss ns h.1
have_along g b no_sorts (n ∷ ns) h = h
have_along g b (next_sort s ss) [] h = h

pub all_sorted : (g : KoreSignature) (ss : KoreSorts) (us : Values) → HaveSorts g ss us → AllSorted g us
all_sorted g no_sorts no_values h = tt
all_sorted g (next_sort s ss) (next_value u us) h = ((s, h.0), all_sorted g ss us h.1)
all_sorted g no_sorts (next_value u us) h = absurd h
all_sorted g (next_sort s ss) no_values h = absurd h

same_some : {X : Type 0} {a b : X} → ◌≡◌ {A = Option X} (Some a) (Some b) → a ≡ b
same_some e = cc

pub one_declared : (g : KoreSignature) (f : Text) (ss ts : KoreSorts) → ArgumentSorts g f ss → ArgumentSorts g f ts → ss ≡ ts
one_declared g f ss ts p q = sym p.2 ∙ ap (λ (d : SymbolDeclaration). d.arguments) (same_some (sym p.1 ∙ q.1)) ∙ q.2

-- ---- placings

pub placing_shape : (g : KoreSignature) (x : Graph) (names : Places) (s : Shape) → IsPlacing g x names → IsShapeIn g x s → IsPlacing g (with_shape x s) names
placing_shape g x names s px ok = record {
  graph = graph_shape g x s px.graph ok;
  within = λ name p e. let l : p < length x.shapes = px.within name p e in omega (arith, longer_shape x s);
}

pub more_itself : (g : KoreSignature) (x : Graph) (names : Places) → IsPlacing g x names → IsMore g x names x names
more_itself g x names px = record { placing = px; longer = omega arith; solves = λ a h. h; agrees = λ a v h. h }

pub more_then : (g : KoreSignature) (x y z : Graph) (before after last : Places) → IsMore g x before y after → IsMore g y after z last → IsMore g x before z last
more_then g x y z before after last m n = record {
  placing = n.placing;
  longer = let l : length x.shapes ≤ length y.shapes = m.longer in let k : length y.shapes ≤ length z.shapes = n.longer in omega arith;
  solves = λ a h. m.solves a (n.solves a h);
  agrees = λ a v h. m.agrees a v (n.agrees a v h);
}

pub more_shape : (g : KoreSignature) (x : Graph) (names : Places) (s : Shape) → IsPlacing g x names → IsShapeIn g x s → IsMore g x names (with_shape x s) names
more_shape g x names s px ok = record {
  placing = placing_shape g x names s px ok;
  longer = omega (arith, longer_shape x s);
  solves = solves_shape_back g x s;
  agrees = λ a v h. h;
}

pub more_sorts : (g : KoreSignature) (x : Graph) (names : Places) (rs : List PlacedSort) → IsPlacing g x names → ((r : PlacedSort) → Contains rs r → r.place < length x.shapes) → IsMore g x names (with_sorts x rs) names
more_sorts g x names rs px ok = record {
  placing = record { graph = graph_sorts g x rs px.graph ok; within = px.within };
  longer = omega arith;
  solves = solves_sorts_back g x rs;
  agrees = λ a v h. h;
}

pub reach_itself : (g : KoreSignature) (x : Graph) (names : Places) (a : ℕ → Value) (v : Valuation) → Solves g x a → Agrees names a v → Reaches g x x names a v a
reach_itself g x names a v h k = record { solves = h; agrees = k; below = λ n l. refl }

pub reach_then : (g : KoreSignature) (x y z : Graph) (after last : Places) (a b d : ℕ → Value) (v : Valuation) → length x.shapes ≤ length y.shapes → Reaches g x y after a v b → Reaches g y z last b v d → Reaches g x z last a v d
reach_then g x y z after last a b d v long p q = record {
  solves = q.solves;
  agrees = q.agrees;
  below = λ n l. q.below n (omega arith) ∙ p.below n l;
}

pub reach_shape : (g : KoreSignature) (x : Graph) (names : Places) (s : Shape) (a : ℕ → Value) (v : Valuation) (u : Value) → IsPlacing g x names → Solves g x a → Agrees names a v → HasShape (over a (length x.shapes) u) s u →
    Reaches g x (with_shape x s) names a v (over a (length x.shapes) u)
reach_shape g x names s a v u px h k ok = record {
  solves = solves_shape g x s a u px.graph h ok;
  agrees = λ name p e. k name p e ∙ sym (over_below a (length x.shapes) u p (px.within name p e));
  below = over_below a (length x.shapes) u;
}

pub reach_sorts : (g : KoreSignature) (x : Graph) (names : Places) (rs : List PlacedSort) (a : ℕ → Value) (v : Valuation) → Solves g x a → Agrees names a v → ((r : PlacedSort) → Contains rs r → HasSort g r.sort (a r.place)) → Reaches g x (with_sorts x rs) names a v a
reach_sorts g x names rs a v h k ok = record { solves = solves_sorts g x rs a h ok; agrees = k; below = λ n l. refl }
