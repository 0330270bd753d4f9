-- What the code's loops and calls place.
use Rattle.std.proofs.Common.{IfOk, OnOk, Result, Ok, Err, Some, None, cond, inl, inr, ◌≡◌, refl, sym, ap, subst, ◌∙◌, ℕ, suc, ◌+◌, ◌<◌, List, [], ◌∷◌, ◌++◌, length, get_or, drop, take, map, arith, drop-cons, append_assoc}
use Rattle.std.specs.Bool.{⊤}
use Rattle.std.proofs.lemmas.List.{append-nil, drop_all, map_more}
use Rattle.kp_kore.specs.Syntax.{Text, KoreSort, KoreSorts, SymbolDeclaration}
use Rattle.kp_kore.specs.Signature.{KoreSignature, symbol_declared}
use Rattle.std.specs.declared.alloc.AllocError.{AllocError}
use Rattle.kp_kore.specs.Foreign.{IsConstructedBy}
use Rattle.kp_kore.specs.Value.{Value, whole, truth, token, constructed, Values, no_values, next_value, HasSort}
use Rattle.kp_kore.specs.Instance.{Valuation}
use Rattle.kp_kore.specs.View.{sort_view, sorts_view}
use Rattle.kp_kore.specs.declared.sort.Sort.{Sort}
use Rattle.std.specs.Str.{bytes_eq}
use Rattle.kp_ground.specs.View.{values_of}
use Rattle.kp_overlap.specs.Graphs.{any_value, leaf, made, never, PlacedSort, Graph, IsLeafValue}
use Rattle.kp_overlap.specs.Placing.{with_shape, with_sorts, asked, AreAlong, IsFormed, IsMade, Places, PlacesOne, PlacesValue, PlacesValues, PlacesVariable, PlacesSorted, PlacesSortedVariable}
use Rattle.kp_overlap.proofs.PlaceSteps.{one_asked, one_new, one_added, one_told, one_made, all_none, all_pushed, with_value}

-- ---- sorts, asked one by one

with_more : (x : Graph) (p : PlacedSort) (rs : List PlacedSort) → with_sorts (with_sorts x (p ∷ [])) rs ≡ with_sorts x (p ∷ rs)
with_more x p rs = ap (λ (qs : List PlacedSort). record { shapes = x.shapes; sorts = qs }) (append_assoc x.sorts (p ∷ []) rs)

-- what is left to ask, with the next one
pub asked_next : (sorts : List Sort) (places : List ℕ) (i : ℕ) (s : Sort) → i < length places → i < length sorts → s ≡ get_or sorts i s →
    asked (sorts_view (drop i sorts)) (drop i places) ≡ record { place = get_or places i 0; sort = sort_view s } ∷ asked (sorts_view (drop (i + 1) sorts)) (drop (i + 1) places)
asked_next sorts places i s l m q =
    let next : suc i ≡ i + 1 = omega arith in
    let ns : drop i places ≡ get_or places i 0 ∷ drop (i + 1) places = drop-cons places i 0 l ∙ ap (λ (k : ℕ). get_or places i 0 ∷ drop k places) next in
    let ss : drop i sorts ≡ s ∷ drop (i + 1) sorts = drop-cons sorts i s m ∙ ap (λ (k : Sort). k ∷ drop (suc i) sorts) (sym q) ∙ ap (λ (k : ℕ). s ∷ drop k sorts) next in
    ap (λ (l : List Sort). asked (sorts_view l) (drop i places)) ss ∙ ap (asked (sorts_view (s ∷ drop (i + 1) sorts))) ns

pub asked_more : (x y t : Graph) (sorts : List Sort) (places : List ℕ) (i : ℕ) (s : Sort) → i < length places → i < length sorts → s ≡ get_or sorts i s →
    y ≡ with_sorts x (record { place = get_or places i 0; sort = sort_view s } ∷ []) → with_sorts x (asked (sorts_view (drop i sorts)) (drop i places)) ≡ t →
    with_sorts y (asked (sorts_view (drop (i + 1) sorts)) (drop (i + 1) places)) ≡ t
asked_more x y t sorts places i s l m q is so =
    let p : PlacedSort = record { place = get_or places i 0; sort = sort_view s } in
    let rest = asked (sorts_view (drop (i + 1) sorts)) (drop (i + 1) places) in
    ap (λ z. with_sorts z rest) is ∙ with_more x p rest ∙ sym (ap (with_sorts x) (asked_next sorts places i s l m q)) ∙ so

pub asked_out : (x t : Graph) (sorts : List Sort) (places : List ℕ) (i : ℕ) → length sorts ≡ i → length places ≡ i → with_sorts x (asked (sorts_view (drop i sorts)) (drop i places)) ≡ t → x ≡ t
asked_out x t sorts places i l m so = sym none ∙ so
  where
    none : with_sorts x (asked (sorts_view (drop i sorts)) (drop i places)) ≡ x
    none =
        let ss : drop i sorts ≡ [] = drop_all i sorts (omega arith) in
        ap (λ l. with_sorts x (asked (sorts_view l) (drop i places))) ss ∙ ap (λ (qs : List PlacedSort). record { shapes = x.shapes; sorts = qs }) (append-nil x.sorts)

-- ---- constructors

pub along_length : (sorts : List Sort) (ns : List ℕ) → AreAlong (sorts_view sorts) ns → length sorts ≡ length ns
along_length [] [] h = refl
along_length (s ∷ ss) (n ∷ ns) h = ap suc (along_length ss ns h)
along_length [] (n ∷ ns) h = absurd h
along_length (s ∷ ss) [] h = absurd h

pub along_from : (sorts : List Sort) (ns : List ℕ) → length sorts ≡ length ns → AreAlong (sorts_view sorts) ns
along_from [] [] h = tt
along_from (s ∷ ss) (n ∷ ns) h = along_from ss ns (omega (arith, h))
along_from [] (n ∷ ns) h = absurd (omega (arith, h))
along_from (s ∷ ss) [] h = absurd (omega (arith, h))

some_same : {X : Type 0} {a b : X} → Some a ≡ Some b → a ≡ b
some_same e = cc

-- a symbol that is declared with more or fewer arguments
pub unformed : (g : KoreSignature) (f : Text) (d : SymbolDeclaration) (sorts : List Sort) (ns : List ℕ) → symbol_declared g f ≡ Some d → d.arguments ≡ sorts_view sorts → (length sorts ≡ length ns → ⊥) → (ss : KoreSorts) → ¬ IsFormed g f ns ss
unformed g f d sorts ns e are other ss h =
    let same : d ≡ h.declared.0 = some_same (sym e ∙ h.declared.1) in
    let all : sorts_view sorts ≡ ss = sym are ∙ ap (λ (c : SymbolDeclaration). c.arguments) same ∙ h.declared.2 in
    other (along_length sorts ns (subst (λ ts. AreAlong ts ns) (sym all) h.along))

pub formed_of : (g : KoreSignature) (f : Text) (d : SymbolDeclaration) (sorts : List Sort) (ns : List ℕ) → symbol_declared g f ≡ Some d → d.arguments ≡ sorts_view sorts → length sorts ≡ length ns → IsFormed g f ns (sorts_view sorts)
formed_of g f d sorts ns e are long = record { declared = (d, e, are); along = along_from sorts ns long }

pub made_never : (g : KoreSignature) (f : Text) (ns : List ℕ) (x y : Graph) (r : Result ℕ AllocError) → IfOk r (λ n. n ≡ length x.shapes) → OnOk r (y ≡ with_shape x never) → ((ss : KoreSorts) → ¬ IsFormed g f ns ss) → IfOk r (λ n. IsMade g f ns x y n)
made_never g f ns x y (Ok n) p q h = (p, inr (h, q))
made_never g f ns x y (Err e) p q h = tt

pub made_formed : (g : KoreSignature) (f : Text) (ns : List ℕ) (ss : KoreSorts) (x w y : Graph) (r : Result ℕ AllocError) → IfOk r (λ n. n ≡ length w.shapes) → OnOk r (y ≡ with_shape w (made f ns)) → w ≡ with_sorts x (asked ss ns) → IsFormed g f ns ss → IfOk r (λ n. IsMade g f ns x y n)
made_formed g f ns ss x w y (Ok n) p q e h = (p ∙ ap (λ (z : Graph). length z.shapes) e, inl (ss, h, q ∙ ap (λ z. with_shape z (made f ns)) e))
made_formed g f ns ss x w y (Err o) p q e h = tt

-- ---- values

pub value_leaf : (g : KoreSignature) (x : Graph) (w : Value) → IsLeafValue w → PlacesValue g x (with_shape x (leaf w)) w (length x.shapes)
value_leaf g x w ok = λ names px. one_added g x names (leaf w) (λ v u. u ≡ w) px ok (λ a v u h. h) (λ a v u sorted e. e)

pub value_made : (g : KoreSignature) (x y z : Graph) (f : Text) (ws : Values) (ns : List ℕ) (n : ℕ) → PlacesValues g x y ws ns → IsMade g f ns y z n → PlacesValue g x z (constructed f ws) n
value_made g x y z f ws ns n all is = λ names px.
    one_told g x names z names (λ v u. IsConstructedBy f (λ us. us ≡ ws) u) (λ v u. u ≡ constructed f ws) n (λ v u h. to u h) (λ v u e. from u e) (one_made g x names y names (λ v us. us ≡ ws) f ns z n (all names px) is)
  where
    to : (u : Value) → IsConstructedBy f (λ us. us ≡ ws) u → u ≡ constructed f ws
    to (constructed c us) h = ap (λ d. constructed d us) h.0 ∙ ap (constructed f) h.1
    to (whole m) h = absurd h
    to (truth b) h = absurd h
    to (token s t) h = absurd h

    from : (u : Value) → u ≡ constructed f ws → IsConstructedBy f (λ us. us ≡ ws) u
    from u e = subst (IsConstructedBy f (λ us. us ≡ ws)) (sym e) (refl, refl)

pub values_none : (g : KoreSignature) (x : Graph) → PlacesValues g x x no_values []
values_none g x = λ names px. all_none g x names (λ v us. us ≡ no_values) px (λ v. refl) (λ v us e. sym e)

values_of_more : (ws : List Value) (w : Value) → values_of (ws ++ w ∷ []) ≡ with_value (values_of ws) w
values_of_more [] w = refl
values_of_more (u ∷ ws) w = ap (next_value u) (values_of_more ws w)

pub values_pushed : (g : KoreSignature) (x y z : Graph) (ws : List Value) (w : Value) (ns : List ℕ) (n : ℕ) → PlacesValues g x y (values_of ws) ns → PlacesValue g y z w n → PlacesValues g x z (values_of (ws ++ w ∷ [])) (ns ++ n ∷ [])
values_pushed g x y z ws w ns n all one = λ names px.
    let p = all names px in
    all_pushed g x names y names z names (λ v us. us ≡ values_of ws) (λ v us. us ≡ values_of (ws ++ w ∷ [])) (λ v u. u ≡ w) ns n
    (λ v us u e d. ap (λ q. with_value q u) e ∙ ap (with_value (values_of ws)) d ∙ sym (values_of_more ws w))
    (λ v us e. record { front = values_of ws; last = w; is = sym (values_of_more ws w) ∙ sym e; has_front = refl; has_last = refl })
    p (one names p.more.placing)

pub value_ok_leaf : (g : KoreSignature) (x y : Graph) (u w : Value) (r : Result ℕ AllocError) → IfOk r (λ n. n ≡ length x.shapes) → OnOk r (y ≡ with_shape x (leaf u)) → u ≡ w → IsLeafValue w → IfOk r (λ n. PlacesValue g x y w n)
value_ok_leaf g x y u w (Ok n) p q e ok = moved n (length x.shapes) y (with_shape x (leaf w)) p (q ∙ ap (λ t. with_shape x (leaf t)) e) (value_leaf g x w ok)
  where
    moved : (n m : ℕ) (y z : Graph) → n ≡ m → y ≡ z → PlacesValue g x z w m → PlacesValue g x y w n
    moved n m y z d e h = subst (λ k. PlacesValue g x y w k) (sym d) (subst (λ o. PlacesValue g x o w m) (sym e) h)
value_ok_leaf g x y u w (Err o) p q e ok = tt

pub value_ok_made : (g : KoreSignature) (x y z : Graph) (f : Text) (ws : Values) (w : Value) (ns : List ℕ) (r : Result ℕ AllocError) → PlacesValues g x y ws ns → IfOk r (λ n. IsMade g f ns y z n) → constructed f ws ≡ w → IfOk r (λ n. PlacesValue g x z w n)
value_ok_made g x y z f ws w ns (Ok n) all is e = subst (λ u. PlacesValue g x z u n) e (value_made g x y z f ws ns n all is)
value_ok_made g x y z f ws w ns (Err o) all is e = tt

-- with the next of the list
pub values_next : {X : Type 0} (view : X → Value) (g : KoreSignature) (x y z : Graph) (us : List X) (i : ℕ) (u : X) (ns ms : List ℕ) (n : ℕ) → i < length us → u ≡ get_or us i u → ms ≡ ns ++ n ∷ [] →
    PlacesValues g x y (values_of (map view (take i us))) ns → PlacesValue g y z (view u) n → PlacesValues g x z (values_of (map view (take (i + 1) us))) ms
values_next view g x y z us i u ns ms n l e is all one =
    let more : map view (take (i + 1) us) ≡ map view (take i us) ++ view u ∷ [] = map_more view us i u l ∙ ap (λ q. map view (take i us) ++ view q ∷ []) (sym e) in
    subst (λ ks. PlacesValues g x z (values_of (map view (take (i + 1) us))) ks) (sym is)
    (subst (λ ws. PlacesValues g x z (values_of ws) (ns ++ n ∷ [])) (sym more) (values_pushed g x y z (map view (take i us)) (view u) ns n all one))

-- ---- variables

-- the same place, in the same graph, as these tell it
pub moved_one : (g : KoreSignature) (x : Graph) (before : Places) (y z : Graph) (after : Places) (Admit : Valuation → Value → Type 0) (n m : ℕ) → n ≡ m → y ≡ z → PlacesOne g x before z after Admit m → PlacesOne g x before y after Admit n
moved_one g x before y z after Admit n m d e h = subst (λ k. PlacesOne g x before y after Admit k) (sym d) (subst (λ o. PlacesOne g x before o after Admit m) (sym e) h)

pub sorted_placed : (g : KoreSignature) (x y z : Graph) (n : ℕ) (s : KoreSort) → n ≡ length x.shapes → y ≡ with_shape x any_value → z ≡ with_sorts y (record { place = n; sort = s } ∷ []) → PlacesSorted g x z s n
sorted_placed g x y z n s at is asks = λ names px.
    let any = one_added g x names any_value (λ v u. ⊤) px tt (λ a v u h. tt) (λ a v u sorted e. tt) in
    let one = moved_one g x names y (with_shape x any_value) names (λ v u. ⊤) n (length x.shapes) at is any in
    let both = one_asked g x names y names (λ v u. ⊤) n s one in
    moved_one g x names z (with_sorts y (record { place = n; sort = s } ∷ [])) names (λ v u. HasSort g s u) n n refl asks
    (one_told g x names (with_sorts y (record { place = n; sort = s } ∷ [])) names (λ v u. ⊤ × HasSort g s u) (λ v u. HasSort g s u) n (λ v u h. h.1) (λ v u h. (tt, h)) both)

pub variable_sorted : (g : KoreSignature) (x : Graph) (before : Places) (y z : Graph) (after : Places) (name : Text) (n : ℕ) (s : KoreSort) → PlacesVariable g x before y after name n → z ≡ with_sorts y (record { place = n; sort = s } ∷ []) → PlacesSortedVariable g x before z after name s n
variable_sorted g x before y z after name n s one asks = λ px.
    moved_one g x before z (with_sorts y (record { place = n; sort = s } ∷ [])) after (λ v u. (u ≡ v name) × HasSort g s u) n n refl asks (one_asked g x before y after (λ v u. u ≡ v name) n s (one px))

pub variable_new : (g : KoreSignature) (x y : Graph) (before after : Places) (name : Text) (n : ℕ) → n ≡ length x.shapes → y ≡ with_shape x any_value → None ≡ before name → ((m : Text) → after m ≡ cond (bytes_eq name m) (Some n) (before m)) → PlacesVariable g x before y after name n
variable_new g x y before after name n at is none tells = λ px.
    moved_one g x before y (with_shape x any_value) after (λ v u. u ≡ v name) n (length x.shapes) at is
    (one_new g x before after name px none (λ m. tells m ∙ ap (λ k. cond (bytes_eq name m) (Some k) (before m)) at))
