-- What the code places for skeletons.
use Rattle.std.proofs.Common.{IfOk, OnOk, Result, Ok, Err, Option, Some, None, true, ◌≡◌, refl, sym, ap, subst, ◌∙◌, ℕ, ◌+◌, ◌<◌, ◌≤◌, List, [], ◌∷◌, ◌++◌, length, get_or, take, map, arith}
use Rattle.std.proofs.lemmas.List.{map_more}
use Rattle.std.specs.declared.alloc.AllocError.{AllocError}
use Rattle.kp_kore.specs.Syntax.{Text, KoreSort}
use Rattle.kp_kore.specs.Signature.{KoreSignature}
use Rattle.kp_kore.specs.Value.{Value, truth, Values, no_values, next_value, HasSort}
use Rattle.kp_kore.specs.Instance.{Valuation}
use Rattle.kp_rules.specs.Skeletons.{Form, anything, nothing, any_of, one_of, fixed, built, Forms, no_forms, forms_of, Admits, AdmitAll}
use Rattle.kp_overlap.specs.Graphs.{Shape, any_value, never, PlacedSort, Graph, Solves, HasSolution}
use Rattle.kp_overlap.specs.Overlaps.{Overlap}
use Rattle.kp_overlap.specs.Placing.{with_shape, with_sorts, IsMade, Places, Agrees, IsPlacing, PlacesOne, PlacesValue, PlacesSorted, PlacesSortedVariable, PlacesForm, PlacesForms, PlacesBoth}
use Rattle.kp_overlap.proofs.PlaceSteps.{one_added, one_asked, one_made, all_none, all_pushed, with_value, IsEnded}
use Rattle.kp_overlap.proofs.PlaceCode.{moved_one}

-- ---- one skeleton

pub form_open : (g : KoreSignature) (x y : Graph) (names : Places) (k : Form) (r : Result ℕ AllocError) → anything ≡ k → IfOk r (λ n. n ≡ length x.shapes) → OnOk r (y ≡ with_shape x any_value) → IfOk r (λ n. PlacesForm g x names y names k n)
form_open g x y names k (Ok n) e at is = λ px.
    subst (λ f. PlacesOne g x names y names (λ v u. Admits g v f u) n) e
    (moved_one g x names y (with_shape x any_value) names (λ v u. Admits g v anything u) n (length x.shapes) at is (one_added g x names any_value (λ v u. Admits g v anything u) px tt (λ a v u h. tt) (λ a v u sorted h. tt)))
form_open g x y names k (Err o) e at is = tt

pub form_never : (g : KoreSignature) (x y : Graph) (names : Places) (k : Form) (r : Result ℕ AllocError) → nothing ≡ k → IfOk r (λ n. n ≡ length x.shapes) → OnOk r (y ≡ with_shape x never) → IfOk r (λ n. PlacesForm g x names y names k n)
form_never g x y names k (Ok n) e at is = λ px.
    subst (λ f. PlacesOne g x names y names (λ v u. Admits g v f u) n) e
    (moved_one g x names y (with_shape x never) names (λ v u. Admits g v nothing u) n (length x.shapes) at is (one_added g x names never (λ v u. Admits g v nothing u) px tt (λ a v u h. h) (λ a v u sorted h. h)))
form_never g x y names k (Err o) e at is = tt

pub form_any : (g : KoreSignature) (x y : Graph) (names : Places) (s : KoreSort) (k : Form) (r : Result ℕ AllocError) → any_of s ≡ k → IfOk r (λ n. (g : KoreSignature) → PlacesSorted g x y s n) → IfOk r (λ n. PlacesForm g x names y names k n)
form_any g x y names s k (Ok n) e is = subst (λ f. PlacesForm g x names y names f n) e (λ px. is g names px)
form_any g x y names s k (Err o) e is = tt

pub form_variable : (g : KoreSignature) (x : Graph) (before : Places) (y : Graph) (after : Places) (name : Text) (s : KoreSort) (k : Form) (r : Result ℕ AllocError) → one_of name s ≡ k →
    IfOk r (λ n. (g : KoreSignature) → PlacesSortedVariable g x before y after name s n) → IfOk r (λ n. PlacesForm g x before y after k n)
form_variable g x before y after name s k (Ok n) e is = subst (λ f. PlacesForm g x before y after f n) e (λ px. is g px)
form_variable g x before y after name s k (Err o) e is = tt

pub form_fixed : (g : KoreSignature) (x y : Graph) (names : Places) (w : Value) (k : Form) (r : Result ℕ AllocError) → fixed w ≡ k → IfOk r (λ n. PlacesValue g x y w n) → IfOk r (λ n. PlacesForm g x names y names k n)
form_fixed g x y names w k (Ok n) e is = subst (λ f. PlacesForm g x names y names f n) e (λ px. is names px)
form_fixed g x y names w k (Err o) e is = tt

pub form_built : (g : KoreSignature) (x : Graph) (before : Places) (y z : Graph) (after : Places) (f : Text) (ks : Forms) (k : Form) (ns : List ℕ) (r : Result ℕ AllocError) → built f ks ≡ k → PlacesForms g x before y after ks ns → IfOk r (λ n. IsMade g f ns y z n) →
    IfOk r (λ n. PlacesForm g x before z after k n)
form_built g x before y z after f ks k ns (Ok n) e all is = subst (λ h. PlacesForm g x before z after h n) e (λ px. one_made g x before y after (λ v us. AdmitAll g v ks us) f ns z n (all px) is)
form_built g x before y z after f ks k ns (Err o) e all is = tt

-- ---- lists

pub forms_none : (g : KoreSignature) (x : Graph) (names : Places) → PlacesForms g x names x names no_forms []
forms_none g x names = λ px. all_none g x names (λ v us. AdmitAll g v no_forms us) px (λ v. tt) none
  where
    none : (v : Valuation) (us : Values) → AdmitAll g v no_forms us → no_values ≡ us
    none v no_values h = refl
    none v (next_value u us) h = absurd h

admit_joined : (g : KoreSignature) (v : Valuation) (ks : List Form) (k : Form) (us : Values) (u : Value) → AdmitAll g v (forms_of ks) us → Admits g v k u → AdmitAll g v (forms_of (ks ++ k ∷ [])) (with_value us u)
admit_joined g v [] k no_values u h l = (l, tt)
admit_joined g v [] k (next_value w us) u h l = absurd h
admit_joined g v (j ∷ ks) k no_values u h l = absurd h
admit_joined g v (j ∷ ks) k (next_value w us) u h l = (h.0, admit_joined g v ks k us u h.1 l)

admit_ended : (g : KoreSignature) (v : Valuation) (ks : List Form) (k : Form) (us : Values) → AdmitAll g v (forms_of (ks ++ k ∷ [])) us → IsEnded (AdmitAll g v (forms_of ks)) (Admits g v k) us
admit_ended g v [] k no_values h = absurd h
admit_ended g v [] k (next_value u no_values) h = record { front = no_values; last = u; is = refl; has_front = tt; has_last = h.0 }
admit_ended g v [] k (next_value u (next_value w us)) h = absurd h.1
admit_ended g v (j ∷ ks) k no_values h = absurd h
admit_ended g v (j ∷ ks) k (next_value u us) h =
    let r = admit_ended g v ks k us h.1 in
    record { front = next_value u r.front; last = r.last; is = ap (next_value u) r.is; has_front = (h.0, r.has_front); has_last = r.has_last }

pub forms_pushed : (g : KoreSignature) (x : Graph) (before : Places) (y : Graph) (after : Places) (z : Graph) (last : Places) (ks : List Form) (k : Form) (ns : List ℕ) (n : ℕ) → PlacesForms g x before y after (forms_of ks) ns → PlacesForm g y after z last k n →
    PlacesForms g x before z last (forms_of (ks ++ k ∷ [])) (ns ++ n ∷ [])
forms_pushed g x before y after z last ks k ns n all one = λ px.
    let p = all px in
    all_pushed g x before y after z last (λ v us. AdmitAll g v (forms_of ks) us) (λ v us. AdmitAll g v (forms_of (ks ++ k ∷ [])) us) (λ v u. Admits g v k u) ns n
    (λ v us u h l. admit_joined g v ks k us u h l) (λ v us h. admit_ended g v ks k us h) p (one p.more.placing)

-- with the next of the list
pub forms_next : {X : Type 0} (view : X → Form) (g : KoreSignature) (x : Graph) (before : Places) (y : Graph) (after : Places) (z : Graph) (last : Places) (us : List X) (i : ℕ) (u : X) (ns ms : List ℕ) (n : ℕ) →
    i < length us → u ≡ get_or us i u → ms ≡ ns ++ n ∷ [] → PlacesForms g x before y after (forms_of (map view (take i us))) ns → PlacesForm g y after z last (view u) n → PlacesForms g x before z last (forms_of (map view (take (i + 1) us))) ms
forms_next view g x before y after z last us i u ns ms n l e is all one =
    let more : map view (take (i + 1) us) ≡ map view (take i us) ++ view u ∷ [] = map_more view us i u l ∙ ap (λ q. map view (take i us) ++ view q ∷ []) (sym e) in
    subst (λ ks. PlacesForms g x before z last (forms_of (map view (take (i + 1) us))) ks) (sym is)
    (subst (λ ws. PlacesForms g x before z last (forms_of ws) (ns ++ n ∷ [])) (sym more) (forms_pushed g x before y after z last (map view (take i us)) (view u) ns n all one))

-- ---- two skeletons

differ : (p : ℕ) → ◌≡◌ {A = Option ℕ} None (Some p) → ⊥
differ p e = cc

-- the variables' values, as their places have them
read : (ℕ → Value) → Option ℕ → Value
read a (Some p) = a p
read a None = truth true

reads : (a : ℕ → Value) (names : Places) → Agrees names a (λ name. read a (names name))
unfolding read
reads a names = λ name p e. ap (read a) e

placing_none : (g : KoreSignature) (x : Graph) (names : Places) → x.shapes ≡ [] → x.sorts ≡ [] → ((m : Text) → names m ≡ None) → IsPlacing g x names
placing_none g x names shapes sorts none = record {
  graph = record {
    shapes = λ n t h. absurd (omega (arith, h.0, ap (λ (l : List Shape). length l) shapes));
    sorts = λ r c. absurd (omega (arith, c.1, ap (λ (l : List PlacedSort). length l) sorts));
  };
  within = λ m p e. absurd (differ p (sym (none m) ∙ e));
}

solves_none : (g : KoreSignature) (x : Graph) (a : ℕ → Value) → x.shapes ≡ [] → x.sorts ≡ [] → Solves g x a
solves_none g x a shapes sorts = record {
  shapes = λ n t h. absurd (omega (arith, h.0, ap (λ (l : List Shape). length l) shapes));
  sorts = λ r c. absurd (omega (arith, c.1, ap (λ (l : List PlacedSort). length l) sorts));
}

pub both_placed : (g : KoreSignature) (s : KoreSort) (first second : Form) (x : Graph) (before : Places) (y : Graph) (after : Places) (w : Graph) (other : Places) (z : Graph) (last : Places) (i j : ℕ) → x.shapes ≡ [] → x.sorts ≡ [] → ((m : Text) → before m ≡ None) →
    PlacesForm g x before y after first i → w ≡ with_sorts y (record { place = i; sort = s } ∷ []) → ((m : Text) → other m ≡ None) → PlacesForm g w other z last second j → PlacesBoth g s first second z i j
both_placed g s first second x before y after w other z last i j shapes sorts none one asks empty two = record {
  graph = q.more.placing.graph;
  first_place = let l : i < length w.shapes = p.place in let k : length w.shapes ≤ length z.shapes = q.more.longer in omega arith;
  second_place = q.place;
  exactly = (to, from);
}
  where
    p : PlacesOne g x before w after (λ v u. Admits g v first u × HasSort g s u) i
    p = moved_one g x before w (with_sorts y (record { place = i; sort = s } ∷ [])) after (λ v u. Admits g v first u × HasSort g s u) i i refl asks
        (one_asked g x before y after (λ v u. Admits g v first u) i s (one (placing_none g x before shapes sorts none)))

    q : PlacesOne g w other z last (λ v u. Admits g v second u) j
    q = two (record { graph = p.more.placing.graph; within = λ m k e. absurd (differ k (sym (empty m) ∙ e)) })

    to : Overlap g s first second → HasSolution g z i j
    to o =
        let a : ℕ → Value = λ n. truth true in
        let b = p.reaches a o.of_first o.value (solves_none g x a shapes sorts) (λ m k e. absurd (differ k (sym (none m) ∙ e))) (s, o.sort) (o.is_first, o.sort) in
        let d = q.reaches b.0 o.of_second o.value b.1.solves (λ m k e. absurd (differ k (sym (empty m) ∙ e))) (s, o.sort) o.is_second in
        (d.0, record { solves = d.1.solves; same = d.1.below i p.place ∙ b.2 ∙ sym d.2 })

    from : HasSolution g z i j → Overlap g s first second
    from h =
        let a = h.0 in
        let v : Valuation = λ name. read a (after name) in
        let t : Valuation = λ name. read a (last name) in
        let is = p.tells a v (q.more.solves a h.1.solves) (reads a after) in
        let as_second = q.tells a t h.1.solves (reads a last) in
        record { value = a i; sort = is.1; of_first = v; is_first = is.0; of_second = t; is_second = subst (Admits g t second) (sym h.1.same) as_second }
