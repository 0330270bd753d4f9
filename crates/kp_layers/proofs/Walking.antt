-- A walk goes on: what is known of layers, and what a path says, once a claim gets its layer or one more is put on the path.
use Rattle.std.proofs.Common.{◌≡◌, ◌≢◌, refl, sym, ap, subst, ◌∙◌, ℕ, zero, suc, max, ◌+◌, ◌<◌, ◌≤◌, ◌==◌, Bool, true, false, ◌||◌, List, [], ◌∷◌, length, map, get_or, set, take, drop, Contains, inl, inr, arith}
use Rattle.std.specs.List.{list_any}
use Rattle.std.proofs.Math.Nat.{le-max_left, le-max_right, max-le}
use Rattle.std.proofs.lemmas.Bool.{cases_eq, cases_lt}
use Rattle.std.proofs.lemmas.List.{length-map, length-set, drop_more, ext_get_or, get_or-map, get_or_past, get_or_default, get_or-take, get_or-set_same, get_or-set_other, set-get_or, set_past}
use Rattle.std.proofs.lemmas.List.Folds.{list_any_at}
use Rattle.kp_layers.specs.Layers.{Needs, DependsOn, at_once, over, highest, AreLayers, is_open}
use Rattle.kp_layers.specs.Walks.{AreKnown, IsPath}

nothing_below : (k : ℕ) → k < 0 → ⊥
nothing_below k h = omega arith

false_true : {A : Type 0} → false ≡ true → A
false_true h = absurd (cc)

-- ---- the highest layer

max_assoc : (a b c : ℕ) → max (max a b) c ≡ max a (max b c)
max_assoc a b c =
    let a_left : a ≤ max a b = le-max_left a b in
    let b_left : b ≤ max a b = le-max_right a b in
    let ab_left : max a b ≤ max (max a b) c = le-max_left (max a b) c in
    let c_left : c ≤ max (max a b) c = le-max_right (max a b) c in
    let a_right : a ≤ max a (max b c) = le-max_left a (max b c) in
    let bc_right : max b c ≤ max a (max b c) = le-max_right a (max b c) in
    let b_right : b ≤ max b c = le-max_left b c in
    let c_right : c ≤ max b c = le-max_right b c in
    let there : max (max a b) c ≤ max a (max b c) = max-le (max-le a_right (omega arith)) (omega arith) in
    let back : max a (max b c) ≤ max (max a b) c = max-le (omega arith) (max-le (omega arith) c_left) in
    omega arith

pub highest_on : (layers claims : List ℕ) (i most : ℕ) → i < length claims →
    max (max most (get_or layers (get_or claims i 0) 0)) (highest layers (drop (i + 1) claims)) ≡ max most (highest layers (drop i claims))
highest_on layers claims i most h =
    max_assoc most (get_or layers (get_or claims i 0) 0) (highest layers (drop (i + 1) claims))
    ∙ ap (λ js. max most (highest layers js)) (sym (drop_more claims i 0 h))

-- ---- open claims

open_below : (layers : List ℕ) (j : ℕ) → is_open layers j ≡ true → j < length layers
open_below [] j h = false_true h
open_below (l ∷ ls) zero h = omega arith
open_below (l ∷ ls) (suc j) h = let rest : j < length ls = open_below ls j h in omega arith

other_than : (layers : List ℕ) (j claim : ℕ) → is_open layers claim ≡ true → is_open layers j ≡ false → j ≢ claim
other_than layers j claim unknown closed e = false_true (sym closed ∙ ap (is_open layers) e ∙ unknown)

first_closed : (a b : Bool) → (a || b) ≡ false → a ≡ false
first_closed true b h = h
first_closed false b h = refl

rest_closed : (a b : Bool) → (a || b) ≡ false → b ≡ false
rest_closed true b h = false_true (sym h)
rest_closed false b h = h

-- layers of claims that aren't open stay when an open one gets its own
highest_stays : (layers js : List ℕ) (claim x : ℕ) → is_open layers claim ≡ true → list_any (is_open layers) js ≡ false → highest (set layers claim x) js ≡ highest layers js
highest_stays layers [] claim x unknown h = refl
highest_stays layers (j ∷ js) claim x unknown h =
    let other = other_than layers j claim unknown (first_closed (is_open layers j) (list_any (is_open layers) js) h) in
    ap (λ l. max l (highest (set layers claim x) js)) (get_or-set_other layers claim j x 0 other)
    ∙ ap (max (get_or layers j 0)) (highest_stays layers js claim x unknown (rest_closed (is_open layers j) (list_any (is_open layers) js) h))

closed_stays : (layers js : List ℕ) (claim x : ℕ) → is_open layers claim ≡ true → list_any (is_open layers) js ≡ false → list_any (is_open (set layers claim x)) js ≡ false
closed_stays layers [] claim x unknown h = refl
closed_stays layers (j ∷ js) claim x unknown h =
    let closed = first_closed (is_open layers j) (list_any (is_open layers) js) h in
    let rest = rest_closed (is_open layers j) (list_any (is_open layers) js) h in
    ap (λ l. (l == 0) || list_any (is_open (set layers claim x)) js) (get_or-set_other layers claim j x 1 (other_than layers j claim unknown closed))
    ∙ ap (λ b. b || list_any (is_open (set layers claim x)) js) closed
    ∙ closed_stays layers js claim x unknown rest

-- ---- what is known

known_now : (needs : List (List ℕ)) (layers : List ℕ) (claim : ℕ) → AreKnown needs layers → is_open layers claim ≡ true → list_any (is_open layers) (get_or needs claim []) ≡ false →
    AreKnown needs (set layers claim (suc (highest layers (get_or needs claim []))))
known_now needs layers claim known unknown closed i h now = elim (cases_eq i claim) [
  | inl same ↦ subst (λ k. (get_or after k 0 ≡ suc (highest after (get_or needs k []))) × (list_any (is_open after) (get_or needs k []) ≡ false)) (sym same)
      (get_or-set_same layers claim x 0 (open_below layers claim unknown) ∙ ap suc (sym (highest_stays layers (get_or needs claim []) claim x unknown closed)), closed_stays layers (get_or needs claim []) claim x unknown closed)
  | inr other ↦
      let there : i < length layers = subst (λ n. i < n) (length-set layers claim x) h in
      let before : is_open layers i ≡ false = ap (λ l. l == 0) (sym (get_or-set_other layers claim i x 1 other)) ∙ now in
      let k = known i there before in
      (get_or-set_other layers claim i x 0 other ∙ k.0 ∙ ap suc (sym (highest_stays layers (get_or needs i []) claim x unknown k.1)), closed_stays layers (get_or needs i []) claim x unknown k.1)
]
  where
    x : ℕ
    x = suc (highest layers (get_or needs claim []))

    after : List ℕ
    after = set layers claim x

-- a claim that isn't open has its layer already
same_layer : (needs : List (List ℕ)) (layers : List ℕ) (claim : ℕ) → AreKnown needs layers → is_open layers claim ≡ false → set layers claim (suc (highest layers (get_or needs claim []))) ≡ layers
same_layer needs layers claim known closed = elim (cases_lt claim (length layers)) [
  | inl there ↦ ap (set layers claim) (sym (known claim there closed).0) ∙ set-get_or layers claim 0
  | inr past ↦ set_past layers claim (suc (highest layers (get_or needs claim []))) past
]

pub known_more : (needs : List (List ℕ)) (layers : List ℕ) (claim : ℕ) → AreKnown needs layers → list_any (is_open layers) (get_or needs claim []) ≡ false →
    AreKnown needs (set layers claim (suc (highest layers (get_or needs claim []))))
known_more needs layers claim known closed = by (is_open layers claim) refl
  where
    by : (b : Bool) → is_open layers claim ≡ b → AreKnown needs (set layers claim (suc (highest layers (get_or needs claim []))))
    by true unknown = known_now needs layers claim known unknown closed
    by false shut = subst (AreKnown needs) (sym (same_layer needs layers claim known shut)) known

pub all_known : (needs : List (List ℕ)) (layers : List ℕ) → length layers ≡ length needs → AreKnown needs layers → list_any (λ l. l == 0) layers ≡ false → AreLayers needs layers
all_known needs layers count known none = ext_get_or 0 (map f needs) layers (length-map needs f ∙ sym count) (λ i h. each i (subst (λ n. i < n) (length-map needs f) h))
  where
    f : List ℕ → ℕ
    f js = suc (highest layers js)

    shut : (i : ℕ) → i < length layers → (b : Bool) → is_open layers i ≡ b → is_open layers i ≡ false
    shut i h false e = e
    shut i h true e = false_true (sym none ∙ list_any_at (λ l. l == 0) layers i 1 h e)

    each : (i : ℕ) → i < length needs → get_or (map f needs) i 0 ≡ get_or layers i 0
    each i h =
        let there : i < length layers = subst (λ n. i < n) (sym count) h in
        get_or-map f needs i [] 0 h ∙ sym (known i there (shut i there (is_open layers i) refl)).0

-- ---- how high

pub low_more : (layers js : List ℕ) (claim most : ℕ) → ((i : ℕ) → get_or layers i 0 ≤ most) → highest layers js ≤ most → (i : ℕ) → get_or (set layers claim (suc (highest layers js))) i 0 ≤ most + 1
low_more layers js claim most low bound i = elim (cases_eq i claim) [
  | inl same ↦ elim (cases_lt i (length layers)) [
    | inl there ↦ let e : get_or (set layers claim (suc (highest layers js))) i 0 ≡ suc (highest layers js) = subst (λ k. get_or (set layers k (suc (highest layers js))) i 0 ≡ suc (highest layers js)) same (get_or-set_same layers i (suc (highest layers js)) 0 there) in omega (arith, e, bound)
    | inr past ↦ let e : get_or (set layers claim (suc (highest layers js))) i 0 ≡ 0 = get_or_past (set layers claim (suc (highest layers js))) i 0 (subst (λ n. n ≤ i) (sym (length-set layers claim (suc (highest layers js)))) past) in omega (arith, e)
  ]
  | inr other ↦ let e : get_or (set layers claim (suc (highest layers js))) i 0 ≡ get_or layers i 0 = get_or-set_other layers claim i (suc (highest layers js)) 0 other in let l : get_or layers i 0 ≤ most = low i in omega (arith, e, l)
]

-- ---- paths

further : (needs : List (List ℕ)) (i j k : ℕ) → DependsOn needs i j → Needs needs j k → DependsOn needs i k
further needs i j k (at_once _ _ h) l = over i j k h (at_once j k l)
further needs i j k (over _ m _ h rest) l = over i m k h (further needs m j k rest l)

-- each claim of a path depends on what its last one needs
pub path_needs : (needs : List (List ℕ)) (path needed : List ℕ) (rest claim other : ℕ) → IsPath needs path → length path ≡ rest + 1 → get_or path rest 0 ≡ claim → get_or needs claim [] ≡ needed → Contains needed other →
    (i : ℕ) → i < length path → DependsOn needs (get_or path i 0) other
path_needs needs path needed rest claim other is long last are there i h = elim (cases_eq i rest) [
  | inl same ↦ at_once (get_or path i 0) other (subst (λ k. Needs needs (get_or path k 0) other) (sym same) last_needs)
  | inr before ↦ further needs (get_or path i 0) (get_or path rest 0) other (is i rest (omega (arith, h, long, before)) (omega (arith, long))) last_needs
]
  where
    last_needs : Needs needs (get_or path rest 0) other
    last_needs = subst (λ k. Contains (get_or needs k []) other) (sym last) (subst (λ l. Contains l other) (sym are) there)

pub closes : (needs : List (List ℕ)) (path : List ℕ) (other : ℕ) → ((i : ℕ) → i < length path → DependsOn needs (get_or path i 0) other) → Contains path other → DependsOn needs other other
closes needs path other all there = subst (λ k. DependsOn needs k other) (get_or_default path there.0 0 other there.1 ∙ there.2) (all there.0 there.1)

pub path_front : (needs : List (List ℕ)) (path : List ℕ) (n : ℕ) → IsPath needs path → IsPath needs (take n path)
path_front needs path n is i j h l =
    let front : j < n = shorter n path j l in
    let within : j < length path = longer n path j l in
    subst (λ x. DependsOn needs x (get_or (take n path) j 0)) (sym (get_or-take n path i 0 (omega (arith, h, front))))
    (subst (λ y. DependsOn needs (get_or path i 0) y) (sym (get_or-take n path j 0 front)) (is i j h within))
  where
    shorter : (n : ℕ) (xs : List ℕ) (k : ℕ) → k < length (take n xs) → k < n
    shorter zero xs k h = absurd (nothing_below k h)
    shorter (suc n) [] k h = absurd (nothing_below k h)
    shorter (suc n) (x ∷ xs) zero h = omega arith
    shorter (suc n) (x ∷ xs) (suc k) h = let rest : k < n = shorter n xs k (omega (arith, h)) in omega (arith, rest)

    longer : (n : ℕ) (xs : List ℕ) (k : ℕ) → k < length (take n xs) → k < length xs
    longer zero xs k h = absurd (nothing_below k h)
    longer (suc n) [] k h = absurd (nothing_below k h)
    longer (suc n) (x ∷ xs) zero h = omega arith
    longer (suc n) (x ∷ xs) (suc k) h = let rest : k < length xs = longer n xs k (omega (arith, h)) in omega (arith, rest)
