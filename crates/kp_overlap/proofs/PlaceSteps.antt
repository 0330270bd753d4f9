-- Places for values and for lists of them, one step after the other.
use Rattle.std.proofs.Common.{◌≡◌, refl, sym, ap, subst, ◌∙◌, ℕ, ◌<◌, inl, inr, List, [], ◌∷◌, ◌++◌, length, Contains, Bool, true, false, cond, Option, Some, None, arith}
use Rattle.std.proofs.lemmas.List.Elements.{Contains-append_left, Contains-append_right, Contains-push}
use Rattle.kp_kore.specs.Syntax.{Text, KoreSort, KoreSorts}
use Rattle.kp_kore.specs.Signature.{KoreSignature}
use Rattle.kp_kore.specs.Sorted.{IsSorted}
use Rattle.kp_kore.specs.Foreign.{IsConstructedBy}
use Rattle.kp_kore.specs.Value.{Value, whole, truth, token, constructed, Values, no_values, next_value, ArgumentSorts, HasSort, HaveSorts}
use Rattle.kp_kore.specs.Instance.{Valuation}
use Rattle.std.specs.Str.{bytes_eq}
use Rattle.std.proofs.lemmas.Slice.Eq.{bytes_eq-Decides}
use Rattle.kp_overlap.specs.Graphs.{Shape, any_value, never, made, PlacedSort, Graph, values_at, HasShape, AreBelow}
use Rattle.kp_overlap.specs.Labels.{IsShapeIn}
use Rattle.kp_overlap.specs.Placing.{AllSorted, with_shape, with_sorts, asked, IsFormed, IsMade, Places, Agrees, IsPlacing, IsMore, PlacesOne, PlacesAll}
use Rattle.kp_overlap.proofs.PlaceLemmas.{at_end, contains_only, over, over_same, over_below, values_below, below_more, longer_shape, asked_are, asked_below, asked_have, have_along, all_sorted, one_declared, more_itself, more_then, more_shape, more_sorts, reach_itself, reach_then, reach_shape, reach_sorts}

-- ---- one place

-- a new place of a shape without members
pub one_added : (g : KoreSignature) (x : Graph) (names : Places) (s : Shape) (Admit : Valuation → Value → Type 0) → IsPlacing g x names → IsShapeIn g x s →
    ((a : ℕ → Value) (v : Valuation) (u : Value) → HasShape a s u → Admit v u) → ((a : ℕ → Value) (v : Valuation) (u : Value) → IsSorted g u → Admit v u → HasShape a s u) → PlacesOne g x names (with_shape x s) names Admit (length x.shapes)
one_added g x names s Admit px ok tells gives = record {
  more = more_shape g x names s px ok;
  place = omega (arith, longer_shape x s);
  tells = λ a v h k. tells a v (a (length x.shapes)) (h.shapes (length x.shapes) s (at_end x.shapes s));
  reaches = λ a v u h k sorted admit.
      (over a (length x.shapes) u, reach_shape g x names s a v u px h k (gives (over a (length x.shapes) u) v u sorted admit), over_same a (length x.shapes) u);
}

-- the place's value has this sort too
pub one_asked : (g : KoreSignature) (x : Graph) (before : Places) (y : Graph) (after : Places) (Admit : Valuation → Value → Type 0) (n : ℕ) (s : KoreSort) → PlacesOne g x before y after Admit n →
    PlacesOne g x before (with_sorts y (record { place = n; sort = s } ∷ [])) after (λ v u. Admit v u × HasSort g s u) n
one_asked g x before y after Admit n s one = record {
  more = more_then g x y z before after after one.more (more_sorts g y after rs one.more.placing (λ r c. subst (λ (q : PlacedSort). q.place < length y.shapes) (only r c) one.place));
  place = one.place;
  tells = λ a v h k. (one.tells a v (record { shapes = h.shapes; sorts = λ r c. h.sorts r (Contains-append_left y.sorts rs r c) }) k, h.sorts p (Contains-push y.sorts p));
  reaches = λ a v u h k sorted admit.
      let r = one.reaches a v u h k sorted admit.0 in
      let has : HasSort g s (r.0 n) = subst (HasSort g s) (sym r.2) admit.1 in
      (r.0, reach_then g x y z after after a r.0 r.0 v one.more.longer r.1 (reach_sorts g y after rs r.0 v r.1.solves r.1.agrees (λ q c. subst (λ (o : PlacedSort). HasSort g o.sort (r.0 o.place)) (only q c) has)), r.2);
}
  where
    p : PlacedSort
    p = record { place = n; sort = s }

    rs : List PlacedSort
    rs = p ∷ []

    z : Graph
    z = with_sorts y rs

    only : (r : PlacedSort) → Contains rs r → p ≡ r
    only r c = contains_only p r c

-- the same values, told otherwise
pub one_told : (g : KoreSignature) (x : Graph) (before : Places) (y : Graph) (after : Places) (P Q : Valuation → Value → Type 0) (n : ℕ) → ((v : Valuation) (u : Value) → P v u → Q v u) → ((v : Valuation) (u : Value) → Q v u → P v u) →
    PlacesOne g x before y after P n → PlacesOne g x before y after Q n
one_told g x before y after P Q n to from one = record {
  more = one.more;
  place = one.place;
  tells = λ a v h k. to v (a n) (one.tells a v h k);
  reaches = λ a v u h k sorted admit. one.reaches a v u h k sorted (from v u admit);
}

-- ---- variables

-- a variable that has its place
pub one_found : (g : KoreSignature) (x : Graph) (names : Places) (name : Text) (p : ℕ) → IsPlacing g x names → names name ≡ Some p → PlacesOne g x names x names (λ v u. u ≡ v name) p
one_found g x names name p px e = record {
  more = more_itself g x names px;
  place = px.within name p e;
  tells = λ a v h k. sym (k name p e);
  reaches = λ a v u h k sorted admit. (a, reach_itself g x names a v h k, sym (k name p e) ∙ sym admit);
}

-- a variable that gets a new one
pub one_new : (g : KoreSignature) (x : Graph) (before after : Places) (name : Text) → IsPlacing g x before → None ≡ before name → ((m : Text) → after m ≡ cond (bytes_eq name m) (Some (length x.shapes)) (before m)) →
    PlacesOne g x before (with_shape x any_value) after (λ v u. u ≡ v name) (length x.shapes)
one_new g x before after name px none is = record {
  more = record {
    placing = record { graph = grown.placing.graph; within = λ m p e. within m p (bytes_eq name m) (sym (is m) ∙ e) };
    longer = grown.longer;
    solves = grown.solves;
    agrees = λ a v h m p e. h m p (is m ∙ kept m p (bytes_eq name m) refl e);
  };
  place = omega (arith, longer_shape x any_value);
  tells = λ a v h k. sym (k name n named);
  reaches = λ a v u h k sorted admit.
      let r = reach_shape g x before any_value a v u px h k tt in
      (over a n u, record { solves = r.solves; agrees = λ m p e. agreed a v u k admit m p (bytes_eq name m) refl (sym (is m) ∙ e); below = r.below }, over_same a n u);
}
  where
    n : ℕ
    n = length x.shapes

    grown : IsMore g x before (with_shape x any_value) before
    grown = more_shape g x before any_value px tt

    named : after name ≡ Some n
    named = is name ∙ ap (λ b. cond b (Some n) (before name)) ((bytes_eq-Decides name name).1 refl)

    differ : (p : ℕ) → ◌≡◌ {A = Option ℕ} None (Some p) → ⊥
    differ p e = cc

    same : (a b : ℕ) → ◌≡◌ {A = Option ℕ} (Some a) (Some b) → a ≡ b
    same a b e = cc

    kept : (m : Text) (p : ℕ) (b : Bool) → bytes_eq name m ≡ b → before m ≡ Some p → cond b (Some n) (before m) ≡ Some p
    kept m p false q h = h
    kept m p true q h = absurd (differ p (none ∙ ap before ((bytes_eq-Decides name m).0 q) ∙ h))

    within : (m : Text) (p : ℕ) (b : Bool) → cond b (Some n) (before m) ≡ Some p → p < length (with_shape x any_value).shapes
    within m p true h = let e = same n p h in omega (arith, e, longer_shape x any_value)
    within m p false h = let l : p < length x.shapes = px.within m p h in omega (arith, longer_shape x any_value)

    agreed : (a : ℕ → Value) (v : Valuation) (u : Value) → Agrees before a v → u ≡ v name → (m : Text) (p : ℕ) (b : Bool) → bytes_eq name m ≡ b → cond b (Some n) (before m) ≡ Some p → v m ≡ over a n u p
    agreed a v u k admit m p true q h = sym (ap v ((bytes_eq-Decides name m).0 q)) ∙ sym admit ∙ sym (over_same a n u) ∙ ap (over a n u) (same n p h)
    agreed a v u k admit m p false q h = k m p h ∙ sym (over_below a n u p (px.within m p h))

-- ---- lists

pub all_none : (g : KoreSignature) (x : Graph) (names : Places) (Admit : Valuation → Values → Type 0) → IsPlacing g x names → ((v : Valuation) → Admit v no_values) → ((v : Valuation) (us : Values) → Admit v us → no_values ≡ us) → PlacesAll g x names x names Admit []
all_none g x names Admit px tells only = record {
  more = more_itself g x names px;
  places = tt;
  tells = λ a v h k. tells v;
  reaches = λ a v us h k sorted admit. (a, reach_itself g x names a v h k, only v us admit);
}

-- a list with one more
abbrev pub with_value : Values → Value → Values
with_value no_values w = next_value w no_values
with_value (next_value u us) w = next_value u (with_value us w)

pub values_more : (a : ℕ → Value) (ns : List ℕ) (n : ℕ) → values_at a (ns ++ n ∷ []) ≡ with_value (values_at a ns) (a n)
values_more a [] n = refl
values_more a (m ∷ ns) n = ap (next_value (a m)) (values_more a ns n)

below_also : (k : ℕ) (ns : List ℕ) (n : ℕ) → AreBelow k ns → n < k → AreBelow k (ns ++ n ∷ [])
below_also k [] n h l = (l, tt)
below_also k (m ∷ ns) n h l = (h.0, below_also k ns n h.1 l)

sorted_front : (g : KoreSignature) (us : Values) (w : Value) → AllSorted g (with_value us w) → AllSorted g us × IsSorted g w
sorted_front g no_values w h = (tt, h.0)
sorted_front g (next_value u us) w h = let r = sorted_front g us w h.1 in ((h.0, r.0), r.1)

-- it ends so
pub record IsEnded (Front : Values → Type 0) (Last : Value → Type 0) (us : Values) : Type 0 where
  pub front : Values
  pub last : Value
  pub is : with_value front last ≡ us
  pub has_front : Front front
  pub has_last : Last last

pushed_is : (b : ℕ → Value) (ns : List ℕ) (n : ℕ) (front : Values) (last : Value) (us : Values) → values_at b ns ≡ front → b n ≡ last → with_value front last ≡ us → values_at b (ns ++ n ∷ []) ≡ us
pushed_is b ns n front last us d e is = values_more b ns n ∙ ap (λ q. with_value q (b n)) d ∙ ap (with_value front) e ∙ is

pub all_pushed : (g : KoreSignature) (x : Graph) (before : Places) (y : Graph) (after : Places) (z : Graph) (end : Places) (Front Both : Valuation → Values → Type 0) (Last : Valuation → Value → Type 0) (ns : List ℕ) (n : ℕ) →
    ((v : Valuation) (us : Values) (u : Value) → Front v us → Last v u → Both v (with_value us u)) → ((v : Valuation) (us : Values) → Both v us → IsEnded (Front v) (Last v) us) →
    PlacesAll g x before y after Front ns → PlacesOne g y after z end Last n → PlacesAll g x before z end Both (ns ++ n ∷ [])
all_pushed g x before y after z end Front Both Last ns n joins ends all one = record {
  more = more_then g x y z before after end all.more one.more;
  places = below_also (length z.shapes) ns n (below_more (length y.shapes) (length z.shapes) ns one.more.longer all.places) one.place;
  tells = λ a v h k. subst (Both v) (sym (values_more a ns n)) (joins v (values_at a ns) (a n) (all.tells a v (one.more.solves a h) (one.more.agrees a v k)) (one.tells a v h k));
  reaches = λ a v us h k sorted admit.
      let ended = ends v us admit in
      let are = sorted_front g ended.front ended.last (subst (AllSorted g) (sym ended.is) sorted) in
      let p = all.reaches a v ended.front h k are.0 ended.has_front in
      let q = one.reaches p.0 v ended.last p.1.solves p.1.agrees are.1 ended.has_last in
      let same : values_at q.0 ns ≡ ended.front = values_below (length y.shapes) p.0 q.0 ns q.1.below all.places ∙ p.2 in
      (q.0, reach_then g x y z after end a p.0 q.0 v all.more.longer p.1 q.1, pushed_is q.0 ns n ended.front ended.last us same q.2 ended.is);
}

-- ---- constructors

-- what a sorted value of this constructor tells
pub record IsBuilt (g : KoreSignature) (f : Text) (Admit : Values → Type 0) (u : Value) : Type 0 where
  pub members : Values
  pub is : u ≡ constructed f members
  pub admit : Admit members
  pub sorts : KoreSorts
  pub declared : ArgumentSorts g f sorts
  pub have : HaveSorts g sorts members

built_is : (g : KoreSignature) (f : Text) (Admit : Values → Type 0) (u : Value) → IsSorted g u → IsConstructedBy f Admit u → IsBuilt g f Admit u
built_is g f Admit (constructed c us) sorted h = record {
  members = us;
  is = ap (λ d. constructed d us) h.0;
  admit = h.1;
  sorts = sorted.1.1;
  declared = subst (λ d. ArgumentSorts g d sorted.1.1) h.0 sorted.1.2;
  have = sorted.1.3;
}
built_is g f Admit (whole m) sorted h = absurd h
built_is g f Admit (truth b) sorted h = absurd h
built_is g f Admit (token s t) sorted h = absurd h

-- of such a value's members, told by their places
formed : (g : KoreSignature) (f : Text) (Admit : Values → Type 0) (u : Value) (b : ℕ → Value) (ns : List ℕ) (h : IsBuilt g f Admit u) → values_at b ns ≡ h.members → IsFormed g f ns h.sorts
formed g f Admit u b ns h e = record { declared = h.declared; along = have_along g b h.sorts ns (subst (HaveSorts g h.sorts) (sym e) h.have) }

pub one_unformed : (g : KoreSignature) (x : Graph) (before : Places) (y : Graph) (after : Places) (Admit : Valuation → Values → Type 0) (f : Text) (ns : List ℕ) → PlacesAll g x before y after Admit ns → ((ss : KoreSorts) → ¬ IsFormed g f ns ss) →
    PlacesOne g x before (with_shape y never) after (λ v u. IsConstructedBy f (Admit v) u) (length y.shapes)
one_unformed g x before y after Admit f ns all unformed = record {
  more = more_then g x y (with_shape y never) before after after all.more (more_shape g y after never all.more.placing tt);
  place = omega (arith, longer_shape y never);
  tells = λ a v h k. absurd (h.shapes (length y.shapes) never (at_end y.shapes never));
  reaches = λ a v u h k sorted admit.
      let built = built_is g f (Admit v) u sorted admit in
      let p = all.reaches a v built.members h k (all_sorted g built.sorts built.members built.have) built.admit in
      absurd (unformed built.sorts (formed g f (Admit v) u p.0 ns built p.2));
}

pub one_formed : (g : KoreSignature) (x : Graph) (before : Places) (y : Graph) (after : Places) (Admit : Valuation → Values → Type 0) (f : Text) (ns : List ℕ) (ss : KoreSorts) → PlacesAll g x before y after Admit ns → IsFormed g f ns ss →
    PlacesOne g x before (with_shape (with_sorts y (asked ss ns)) (made f ns)) after (λ v u. IsConstructedBy f (Admit v) u) (length y.shapes)
one_formed g x before y after Admit f ns ss all is = record {
  more = more_then g x y z before after after all.more (more_then g y w z after after after asks makes);
  place = omega (arith, longer_shape w (made f ns));
  tells = λ a v h k.
      let t = all.tells a v (asks.solves a (makes.solves a h)) k in
      subst (IsConstructedBy f (Admit v)) (sym (h.shapes n (made f ns) (at_end w.shapes (made f ns)))) (refl, t);
  reaches = λ a v u h k sorted admit.
      let built = built_is g f (Admit v) u sorted admit in
      let p = all.reaches a v built.members h k (all_sorted g built.sorts built.members built.have) built.admit in
      let have : HaveSorts g ss (values_at p.0 ns) = subst (λ us. HaveSorts g ss us) (sym p.2) (subst (λ ts. HaveSorts g ts built.members) (one_declared g f built.sorts ss built.declared is.declared) built.have) in
      let q = reach_sorts g y after (asked ss ns) p.0 v p.1.solves p.1.agrees (λ r c. asked_have g p.0 ss ns c.0 r (c.1, c.2) have) in
      let shape : u ≡ constructed f (values_at (over p.0 n u) ns) = built.is ∙ ap (constructed f) (sym (values_below n p.0 (over p.0 n u) ns (over_below p.0 n u) all.places ∙ p.2)) in
      let r = reach_shape g w after (made f ns) p.0 v u asks.placing q.solves q.agrees shape in
      (over p.0 n u, reach_then g x y z after after a p.0 (over p.0 n u) v all.more.longer p.1 (reach_then g y w z after after p.0 p.0 (over p.0 n u) v (omega arith) q r), over_same p.0 n u);
}
  where
    n : ℕ
    n = length y.shapes

    w : Graph
    w = with_sorts y (asked ss ns)

    z : Graph
    z = with_shape w (made f ns)

    asks : IsMore g y after w after
    asks = more_sorts g y after (asked ss ns) all.more.placing (λ r c. asked_below n ss ns c.0 r (c.1, c.2) all.places)

    makes : IsMore g w after z after
    makes = more_shape g w after (made f ns) asks.placing (all.places, ss, is.declared, asked_are w ss ns is.along (λ r c. Contains-append_right y.sorts (asked ss ns) r c))

-- the constructor's place
pub one_made : (g : KoreSignature) (x : Graph) (before : Places) (y : Graph) (after : Places) (Admit : Valuation → Values → Type 0) (f : Text) (ns : List ℕ) (z : Graph) (n : ℕ) → PlacesAll g x before y after Admit ns → IsMade g f ns y z n →
    PlacesOne g x before z after (λ v u. IsConstructedBy f (Admit v) u) n
one_made g x before y after Admit f ns z n all is = elim is.1 [
  | inl h ↦ moved (with_shape (with_sorts y (asked h.0 ns)) (made f ns)) h.2 (one_formed g x before y after Admit f ns h.0 all h.1)
  | inr h ↦ moved (with_shape y never) h.1 (one_unformed g x before y after Admit f ns all h.0)
]
  where
    moved : (w : Graph) → z ≡ w → PlacesOne g x before w after (λ v u. IsConstructedBy f (Admit v) u) (length y.shapes) → PlacesOne g x before z after (λ v u. IsConstructedBy f (Admit v) u) n
    moved w e one = subst (λ m. PlacesOne g x before z after (λ v u. IsConstructedBy f (Admit v) u) m) (sym is.0) (subst (λ o. PlacesOne g x before o after (λ v u. IsConstructedBy f (Admit v) u) (length y.shapes)) (sym e) one)
