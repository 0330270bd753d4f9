-- Places that are joined, under an assignment that solves the graph.
use Rattle.std.proofs.Common.{◌≡◌, ℕ, ◌+◌, ◌<◌, sym, ap, subst, ◌∙◌, List, [], ◌∷◌, ◌++◌, length, get_or, map, arith, zero, suc, Result, Ok, Err, IfOk, Vec, Global, add-zero, zero-add, inl, inr}
use Rattle.std.specs.List.{range_with_len}
use Rattle.std.proofs.lemmas.List.{get_or_append_left, get_or_push, length_push, get_or-map, length-map}
use Rattle.std.proofs.lemmas.Bool.{cases_lt}
use Rattle.std.proofs.lemmas.List.FromFn.{length-range_with_len, get_or-range_with_len}
use Rattle.kp_kore.specs.Value.{Value, Values, next_value}
use Rattle.kp_kore.specs.Signature.{KoreSignature}
use Rattle.kp_overlap.specs.Graphs.{IsAt, Graph, Shape as ModelShape, HasShape, values_at}
use Rattle.kp_overlap.specs.Joined.{HaveShapes, AreOne, AreClasses, AreJoined, pair_of}
use Rattle.kp_overlap.specs.Labels.{Follows, AreLabels}
use Rattle.kp_overlap.specs.Views.{shape_view}
use Rattle.kp_overlap.specs.declared.graph.PlaceShape.{PlaceShape}
use Rattle.kp_overlap.specs.declared.labels.Pair.{Pair}
use Rattle.kp_overlap.specs.declared.labels.Classes.{Classes}

pub one_both : (a : ℕ → Value) (ps qs : List Pair) → AreOne a ps → AreOne a qs → AreOne a (ps ++ qs)
one_both a [] qs h i = i
one_both a (p ∷ ps) qs h i = (h.0, one_both a ps qs h.1 i)

pub one_first : (a : ℕ → Value) (ps qs : List Pair) → AreOne a (ps ++ qs) → AreOne a ps
one_first a [] qs h = tt
one_first a (p ∷ ps) qs h = (h.0, one_first a ps qs h.1)

pub one_second : (a : ℕ → Value) (ps qs : List Pair) → AreOne a (ps ++ qs) → AreOne a qs
one_second a [] qs h = h
one_second a (p ∷ ps) qs h = one_second a ps qs h.1

first_same : (u v : Value) (us vs : Values) → next_value u us ≡ next_value v vs → u ≡ v
first_same u v us vs e = cc

rest_same : (u v : Value) (us vs : Values) → next_value u us ≡ next_value v vs → us ≡ vs
rest_same u v us vs e = cc

-- members of one value have one value, place by place
pub same_at : (a : ℕ → Value) (ns ms : List ℕ) (i : ℕ) → values_at a ns ≡ values_at a ms → i < length ns → i < length ms → a (get_or ns i 0) ≡ a (get_or ms i 0)
same_at a [] ms i e h j = absurd (omega arith)
same_at a (n ∷ ns) [] i e h j = absurd (omega arith)
same_at a (n ∷ ns) (m ∷ ms) zero e h j = first_same (a n) (a m) (values_at a ns) (values_at a ms) e
same_at a (n ∷ ns) (m ∷ ms) (suc i) e h j = same_at a ns ms i (rest_same (a n) (a m) (values_at a ns) (values_at a ms) e) (omega arith) (omega arith)

-- one more place, of its label's value
pub follows_more : (a : ℕ → Value) (ls : List ℕ) (n l : ℕ) → length ls ≡ n → a n ≡ a l → Follows a ls → Follows a (ls ++ l ∷ [])
follows_more a ls n l long e h k m i =
    let below : k < length ls + 1 = subst (λ j. k < j) (length_push ls l) i.0 in
    elim (cases_lt k (length ls)) [
      | inl lt ↦ h k m (lt, sym (get_or_append_left ls (l ∷ []) m k lt) ∙ i.1)
      | inr le ↦ let is : k ≡ length ls = omega arith in
          let at : get_or (ls ++ l ∷ []) k m ≡ l = get_or_push ls l m k (sym is) in
          ap a (is ∙ long) ∙ e ∙ ap a (sym at ∙ i.1)
    ]

range_more : (a n : ℕ) → range_with_len a (suc n) ≡ range_with_len a n ++ (a + n) ∷ []
range_more a zero = ap (λ m. m ∷ []) (sym (add-zero a))
range_more a (suc n) =
    let next : (a + 1) + n ≡ a + suc n = omega arith in
    ap (λ ms. a ∷ ms) (range_more (a + 1) n ∙ ap (λ m. range_with_len (a + 1) n ++ m ∷ []) next)

pub one_number_more : (n : ℕ) → range_with_len 0 n ++ n ∷ [] ≡ range_with_len 0 (n + 1)
one_number_more n =
    let next : suc n ≡ n + 1 = omega arith in
    ap (λ m. range_with_len 0 n ++ m ∷ []) (sym (zero-add n)) ∙ sym (range_more 0 n) ∙ ap (range_with_len 0) next

-- each place stands for itself
pub follows_range : (a : ℕ → Value) (n : ℕ) → Follows a (range_with_len 0 n)
follows_range a n k l i =
    let below : k < n = subst (λ m. k < m) (length-range_with_len 0 n) i.0 in
    let at : get_or (range_with_len 0 n) k l ≡ 0 + k = get_or-range_with_len 0 n k l below in
    ap a (sym (zero-add k) ∙ sym at ∙ i.1)

-- ---- steps

pub joined_both : (xs : List PlaceShape) (ps qs : List Pair) (c d e : Classes) → AreJoined xs ps c d → AreJoined xs qs d e → AreJoined xs (ps ++ qs) c e
joined_both xs ps qs c d e h i = record {
  long = i.long ∙ h.long;
  keeps = λ a s o k. i.keeps a s (one_second a ps qs o) (h.keeps a s (one_first a ps qs o) k);
}

-- a pair that waited is joined
pub waiting_joined : (xs : List PlaceShape) (p : Pair) (c d e : Classes) → d.parents ≡ c.parents → d.holders ≡ c.holders → c.waiting.items ≡ d.waiting.items ++ p ∷ [] → AreJoined xs (p ∷ []) d e → AreJoined xs [] c e
waiting_joined xs p c d e parents holders waiting h = record {
  long = h.long ∙ ap (λ v. length v.items) parents;
  keeps = λ a s o k.
      let w : AreOne a (d.waiting.items ++ p ∷ []) = subst (λ (ps : List Pair). AreOne a ps) waiting k.waiting in
      h.keeps a s (one_second a d.waiting.items (p ∷ []) w) (record {
        parents = subst (λ v. Follows a v.items) (sym parents) k.parents;
        holders = subst (λ v. Follows a v.items) (sym holders) k.holders;
        waiting = one_first a d.waiting.items (p ∷ []) w;
      });
}

-- the shape that stands at a place
pub shape_there : (xs : List PlaceShape) (n : ℕ) (s : PlaceShape) → n < length xs → s ≡ get_or xs n s → IsAt (map shape_view xs) n (shape_view s)
shape_there xs n s lt is =
    let long : length (map shape_view xs) ≡ length xs = length-map xs shape_view in
    (subst (λ m. n < m) (sym long) lt, get_or-map shape_view xs n s (shape_view s) lt ∙ ap shape_view (sym is))

pub shape_here : (a : ℕ → Value) (xs : List PlaceShape) (n : ℕ) (s : PlaceShape) → HaveShapes a xs → n < length xs → s ≡ get_or xs n s → HasShape a (shape_view s) (a n)
shape_here a xs n s h lt is = h n (shape_view s) (shape_there xs n s lt is)

pub labels_told : (g : KoreSignature) (x : Graph) (xs : List PlaceShape) (i j : ℕ) (c d : Classes) (ps : List ℕ) {E : Type 0} (r : Result (Vec ℕ Global) E) → x.shapes ≡ map shape_view xs →
    length c.parents.items ≡ length xs → ((a : ℕ → Value) → a i ≡ a j → AreClasses a c) → AreJoined xs [] c d → ps ≡ d.parents.items →
    IfOk r (λ made. length made.items ≡ length ps) → IfOk r (λ made. (a : ℕ → Value) → Follows a ps → Follows a made.items) → IfOk r (λ made. AreLabels g x i j made.items)
labels_told g x xs i j c d ps (Ok made) e long begin h is tops follow = record {
  long = tops ∙ ap length is ∙ h.long ∙ long ∙ sym (ap length e ∙ length-map xs shape_view);
  follow = λ a s.
      let shapes : HaveShapes a xs = subst (λ ss. (n : ℕ) (t : ModelShape) → IsAt ss n t → HasShape a t (a n)) e s.solves.shapes in
      let all : AreClasses a d = h.keeps a shapes tt (begin a s.same) in
      follow a (subst (λ ns. Follows a ns) (sym is) all.parents);
}
labels_told g x xs i j c d ps (Err k) e long begin h is tops follow = tt

pub ok_then : {U E A B : Type 0} (r : Result U E) → (A → B) → IfOk r (λ _. A) → IfOk r (λ _. B)
ok_then (Ok u) f h = f h
ok_then (Err e) f h = tt

pub follow_from : (ms ns : List ℕ) (n m : ℕ) → ms ≡ ns → ((a : ℕ → Value) → Follows a ms → a n ≡ a m) → (a : ℕ → Value) → Follows a ns → a n ≡ a m
follow_from ms ns n m e f a h = f a (subst (λ ls. Follows a ls) (sym e) h)

-- one top is put below another, and a holder of both is the upper one's
pub top_put : (xs : List PlaceShape) (c e : Classes) (low top i j k : ℕ) {U E : Type 0} (r : Result U E) → length e.parents.items ≡ length c.parents.items →
    ((a : ℕ → Value) → Follows a c.holders.items → a low ≡ a i) → ((a : ℕ → Value) → Follows a c.holders.items → a top ≡ a j) → ((a : ℕ → Value) → a i ≡ a j → a j ≡ a k) →
    ((a : ℕ → Value) → a low ≡ a top → Follows a c.parents.items → Follows a e.parents.items) → ((a : ℕ → Value) → a top ≡ a k → Follows a c.holders.items → Follows a e.holders.items) →
    ((a : ℕ → Value) → HaveShapes a xs → a i ≡ a j → AreOne a c.waiting.items → IfOk r (λ _. AreOne a e.waiting.items)) → IfOk r (λ _. AreJoined xs (pair_of low top ∷ []) c e)
top_put xs c e low top i j k (Ok u) long of_low of_top chosen parents holders waiting = record {
  long = long;
  keeps = λ a s o h.
      let is : a i ≡ a j = sym (of_low a h.holders) ∙ o.0 ∙ of_top a h.holders in
      record {
        parents = parents a o.0 h.parents;
        holders = holders a (of_top a h.holders ∙ chosen a is) h.holders;
        waiting = waiting a s is h.waiting;
      };
}
top_put xs c e low top i j k (Err f) long of_low of_top chosen parents holders waiting = tt

-- two places are put below their tops
pub tops_set : (xs : List PlaceShape) (c d : Classes) (p : Pair) (low top : ℕ) (ns : List ℕ) → length d.parents.items ≡ length c.parents.items →
    ((a : ℕ → Value) → Follows a c.parents.items → a p.first ≡ a low) → ((a : ℕ → Value) → Follows a c.parents.items → a p.second ≡ a top) →
    ((a : ℕ → Value) → a p.first ≡ a low → Follows a c.parents.items → Follows a ns) → ((a : ℕ → Value) → a p.second ≡ a top → Follows a ns → Follows a d.parents.items) →
    d.holders ≡ c.holders → d.waiting ≡ c.waiting → AreJoined xs [] c d
tops_set xs c d p low top ns long of_first of_second first second holders waiting = record {
  long = long;
  keeps = λ a s o h. record {
    parents = second a (of_second a h.parents) (first a (of_first a h.parents) h.parents);
    holders = subst (λ v. Follows a v.items) (sym holders) h.holders;
    waiting = subst (λ v. AreOne a v.items) (sym waiting) h.waiting;
  };
}

pub joined_alone : (xs : List PlaceShape) (ps : List Pair) (c d : Classes) → AreJoined xs [] c d → AreJoined xs ps c d
joined_alone xs ps c d h = record { long = h.long; keeps = λ a s o k. h.keeps a s tt k }

-- so are they joined, where their tops are
pub tops_joined : (xs : List PlaceShape) (c d e : Classes) (p : Pair) (low top : ℕ) → ((a : ℕ → Value) → Follows a c.parents.items → a p.first ≡ a low) → ((a : ℕ → Value) → Follows a c.parents.items → a p.second ≡ a top) →
    AreJoined xs [] c d → AreJoined xs (pair_of low top ∷ []) d e → AreJoined xs (p ∷ []) c e
tops_joined xs c d e p low top of_first of_second h i = record {
  long = i.long ∙ h.long;
  keeps = λ a s o k. i.keeps a s (sym (of_first a k.parents) ∙ o.0 ∙ of_second a k.parents, tt) (h.keeps a s tt k);
}
