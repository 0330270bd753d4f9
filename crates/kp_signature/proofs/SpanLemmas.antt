-- What lists of spans hold once spans are added, and what is reached from each number.
use Rattle.std.proofs.Common.{◌≡◌, refl, sym, ap, subst, ◌∙◌, ℕ, zero, suc, ◌+◌, ◌<◌, ◌≤◌, ◌⊎◌, ◌↔◌, inl, inr, List, [], ◌∷◌, ◌++◌, map, length, take, drop, get_or, Vec, Global, Contains, arith}
use Rattle.std.proofs.lemmas.List.{drop_all, drop_more, take_more}
use Rattle.std.proofs.lemmas.List.Elements.{Contains-get_or, Contains-append_left, Contains-append_right, Contains-push, Contains-push_cases, Contains-append_cases}
use Rattle.kp_signature.specs.Edges.{Leads, Reaches, stays, goes, edges_of}
use Rattle.kp_signature.specs.Spans.{Holds, IsWithin, IsSpread, spans_of}
use Rattle.kp_signature.specs.declared.spans.Span.{Span}
use Rattle.kp_signature.proofs.EdgeLemmas.{nothing_there}

pub none_within : (j : ℕ) → ¬ IsWithin [] j
none_within j h = nothing_there h.0 h.1

pub within_push : (spans : List Span) (s : Span) (j : ℕ) → IsWithin (spans ++ s ∷ []) j ↔ (IsWithin spans j ⊎ Holds s j)
within_push spans s j = (
  λ h. elim (Contains-push_cases spans s h.0 h.1) [
    | inl old ↦ inl (h.0, old, h.2)
    | inr same ↦ inr (subst (λ v. Holds v j) (sym same) h.2)
  ],
  λ h. elim h [
    | inl old ↦ (old.0, Contains-append_left spans (s ∷ []) old.0 old.1, old.2)
    | inr new ↦ (s, Contains-push spans s, new)
  ],
)

-- a span is added that holds what is to be added
pub pushed_one : {P : Type 0} (spans after : List Span) (s : Span) (j : ℕ) → after ≡ spans ++ s ∷ [] → Holds s j ↔ P → IsWithin after j ↔ (IsWithin spans j ⊎ P)
pushed_one spans after s j is one =
    let push = within_push spans s j in (
      λ w. elim (push.0 (subst (λ l. IsWithin l j) is w)) [ inl old ↦ inl old | inr new ↦ inr (one.0 new) ],
      λ h. subst (λ l. IsWithin l j) (sym is) (push.1 (elim h [ inl old ↦ inl old | inr new ↦ inr (one.1 new) ])),
    )

-- the last one is taken off, and added again with another one
pub put_back : (all spans after : List Span) (last s : Span) (j : ℕ) → all ≡ spans ++ last ∷ [] → IsWithin after j ↔ (IsWithin spans j ⊎ (Holds last j ⊎ Holds s j)) → IsWithin after j ↔ (IsWithin all j ⊎ Holds s j)
put_back all spans after last s j is added =
    let push = within_push spans last j in (
      λ w. elim (added.0 w) [
        | inl old ↦ inl (subst (λ l. IsWithin l j) (sym is) (push.1 (inl old)))
        | inr new ↦ elim new [ inl here ↦ inl (subst (λ l. IsWithin l j) (sym is) (push.1 (inr here))) | inr other ↦ inr other ]
      ],
      λ h. added.1 (elim h [
        | inl old ↦ elim (push.0 (subst (λ l. IsWithin l j) is old)) [ inl there ↦ inl there | inr here ↦ inr (inl here) ]
        | inr other ↦ inr (inr other)
      ]),
    )

-- a span of one number
pub one_number : (n j : ℕ) (s : Span) → s.first ≡ n → s.last ≡ n → Holds s j ↔ (n ≡ j)
one_number n j s e f = (λ h. same h.0 h.1, λ h. (omega (arith, h, e), omega (arith, h, f)))
  where
    same : s.first ≤ j → j ≤ s.last → n ≡ j
    same a b = omega (arith, a, b, e, f)

pub either_of : {P Q R S : Type 0} → P ↔ (Q ⊎ R) → R ↔ S → P ↔ (Q ⊎ S)
either_of f g = (
  λ p. elim (f.0 p) [ inl q ↦ inl q | inr r ↦ inr (g.0 r) ],
  λ h. f.1 (elim h [ inl q ↦ inl q | inr s ↦ inr (g.1 s) ]),
)

pub within_both : (left right : List Span) (j : ℕ) → IsWithin (left ++ right) j ↔ (IsWithin left j ⊎ IsWithin right j)
within_both left right j = (
  λ h. elim (Contains-append_cases left right h.0 h.1) [ inl old ↦ inl (h.0, old, h.2) | inr new ↦ inr (h.0, new, h.2) ],
  λ h. elim h [
    | inl old ↦ (old.0, Contains-append_left left right old.0 old.1, old.2)
    | inr new ↦ (new.0, Contains-append_right left right new.0 new.1, new.2)
  ],
)

pub within_drop : (spans : List Span) (i : ℕ) (d : Span) (j : ℕ) → i < length spans → IsWithin (drop i spans) j ↔ (Holds (get_or spans i d) j ⊎ IsWithin (drop (i + 1) spans) j)
within_drop spans i d j h =
    let both = within_both (get_or spans i d ∷ []) (drop (i + 1) spans) j in
    let one = within_push [] (get_or spans i d) j in (
      λ w. elim (both.0 (subst (λ l. IsWithin l j) (drop_more spans i d h) w)) [
        | inl first ↦ elim (one.0 first) [ inl none ↦ absurd (none_within j none) | inr here ↦ inl here ]
        | inr rest ↦ inr rest
      ],
      λ w. subst (λ l. IsWithin l j) (sym (drop_more spans i d h)) (both.1 (elim w [ inl here ↦ inl (one.1 (inr here)) | inr rest ↦ inr rest ])),
    )

pub within_more : (spans : List Span) (i : ℕ) (d : Span) (j : ℕ) → i < length spans → IsWithin (take (i + 1) spans) j ↔ (IsWithin (take i spans) j ⊎ Holds (get_or spans i d) j)
within_more spans i d j h =
    let push = within_push (take i spans) (get_or spans i d) j in
    (λ w. push.0 (subst (λ l. IsWithin l j) (take_more spans i d h) w), λ w. subst (λ l. IsWithin l j) (sym (take_more spans i d h)) (push.1 w))

pub within_here : (spans : List Span) (i : ℕ) (d : Span) (j : ℕ) → i < length spans → Holds (get_or spans i d) j → IsWithin spans j
within_here spans i d j h k = (get_or spans i d, Contains-get_or spans i d h, k)

-- what is added moves from what is left to what is there
pub moved : {There Here Left After More : Type 0} → After ↔ (There ⊎ Here) → Left ↔ (Here ⊎ More) → (After ⊎ More) ↔ (There ⊎ Left)
moved after left = (
  λ h. elim h [
    | inl a ↦ elim (after.0 a) [ inl t ↦ inl t | inr x ↦ inr (left.1 (inl x)) ]
    | inr m ↦ inr (left.1 (inr m))
  ],
  λ h. elim h [
    | inl t ↦ inl (after.1 (inl t))
    | inr l ↦ elim (left.0 l) [ inl x ↦ inl (after.1 (inr x)) | inr m ↦ inr m ]
  ],
)

pub both_ways : {A B C : Type 0} → A ↔ B → B ↔ C → A ↔ C
both_ways f g = (λ a. g.0 (f.0 a), λ c. f.1 (g.1 c))

-- added behind what was added before
pub added_on : {Old Added Mid New All : Type 0} {Next : Type 0} → Mid ↔ (Old ⊎ Added) → New ↔ (Mid ⊎ Next) → All ↔ (Added ⊎ Next) → New ↔ (Old ⊎ All)
added_on mid new all = (
  λ n. elim (new.0 n) [
    | inl m ↦ elim (mid.0 m) [ inl o ↦ inl o | inr a ↦ inr (all.1 (inl a)) ]
    | inr x ↦ inr (all.1 (inr x))
  ],
  λ h. elim h [
    | inl o ↦ new.1 (inl (mid.1 (inl o)))
    | inr a ↦ elim (all.0 a) [ inl x ↦ new.1 (inl (mid.1 (inr x))) | inr y ↦ new.1 (inr y) ]
  ],
)

-- ---- spans of numbers

pub spans_read : (spans : List (Vec Span Global)) (i : ℕ) (v : Vec Span Global) → i < length spans → v ≡ get_or spans i v → get_or (spans_of spans) i [] ≡ v.items
spans_read [] i v h e = absurd (no i h)
  where
    no : (i : ℕ) → i < 0 → ⊥
    no i h = omega arith
spans_read (w ∷ ws) zero v h e = ap (λ (u : Vec Span Global). u.items) (sym e)
spans_read (w ∷ ws) (suc i) v h e = spans_read ws i v (omega arith) e

pub spans_past : (spans : List (Vec Span Global)) (i : ℕ) → length spans ≤ i → get_or (spans_of spans) i [] ≡ []
spans_past [] i h = refl
spans_past (w ∷ ws) zero h = absurd (no (length ws) h)
  where
    no : (n : ℕ) → suc n ≤ 0 → ⊥
    no n h = omega arith
spans_past (w ∷ ws) (suc i) h = spans_past ws i (omega arith)

pub edges_read : (edges : List (Vec ℕ Global)) (i : ℕ) (v : Vec ℕ Global) → i < length edges → v ≡ get_or edges i v → v.items ≡ get_or (edges_of edges) i []
edges_read [] i v h e = absurd (no i h)
  where
    no : (i : ℕ) → i < 0 → ⊥
    no i h = omega arith
edges_read (w ∷ ws) zero v h e = ap (λ (u : Vec ℕ Global). u.items) e
edges_read (w ∷ ws) (suc i) v h e = edges_read ws i v (omega arith) e

spans_pushed : (spans : List (Vec Span Global)) (v : Vec Span Global) (i : ℕ) → i < length spans → get_or (spans_of (spans ++ v ∷ [])) i [] ≡ get_or (spans_of spans) i []
spans_pushed [] v i h = absurd (no i h)
  where
    no : (i : ℕ) → i < 0 → ⊥
    no i h = omega arith
spans_pushed (w ∷ ws) v zero h = refl
spans_pushed (w ∷ ws) v (suc i) h = spans_pushed ws v i (omega arith)

spans_last : (spans : List (Vec Span Global)) (v : Vec Span Global) → get_or (spans_of (spans ++ v ∷ [])) (length spans) [] ≡ v.items
spans_last [] v = refl
spans_last (w ∷ ws) v = spans_last ws v

pushed_length : {A : Type 0} (xs : List A) (y : A) → length (xs ++ y ∷ []) ≡ suc (length xs)
pushed_length [] y = refl
pushed_length (x ∷ xs) y = ap suc (pushed_length xs y)

pub one_longer : {A : Type 0} (xs ys : List A) (y : A) (n : ℕ) → ys ≡ xs ++ y ∷ [] → length xs ≡ n → length ys ≡ n + 1
one_longer xs ys y n is e = let long : length ys ≡ suc (length xs) = ap length is ∙ pushed_length xs y in omega (arith, long, e)

pub nothing_spread : (edges : List (List ℕ)) (spans : List (Vec Span Global)) → length spans ≡ 0 → IsSpread edges spans
nothing_spread edges spans none i j h = absurd (no i (subst (λ n. i < n) none h))
  where
    no : (i : ℕ) → i < 0 → ⊥
    no i h = omega arith

-- the spans of one number more
pub spread_more : (edges : List (List ℕ)) (spans after : List (Vec Span Global)) (own : Vec Span Global) (n : ℕ) →
    IsSpread edges spans → length spans ≡ n → after ≡ spans ++ own ∷ [] → ((j : ℕ) → IsWithin own.items j ↔ Reaches edges n j) → IsSpread edges after
spread_more edges spans after own n before long is here i j h =
    elim (cases i (subst (λ m. i < m) (ap length is ∙ pushed_length spans own) h)) [
      | inl old ↦
          let same : get_or (spans_of after) i [] ≡ get_or (spans_of spans) i [] = ap (λ l. get_or (spans_of l) i []) is ∙ spans_pushed spans own i old in
          let b = before i j old in
          (λ w. b.0 (subst (λ l. IsWithin l j) same w), λ r. subst (λ l. IsWithin l j) (sym same) (b.1 r))
      | inr last ↦
          let at : i ≡ n = last ∙ long in
          let same : get_or (spans_of after) i [] ≡ own.items = ap (λ l. get_or (spans_of l) i []) is ∙ ap (λ k. get_or (spans_of (spans ++ own ∷ [])) k []) last ∙ spans_last spans own in
          (λ w. subst (λ k. Reaches edges k j) (sym at) ((here j).0 (subst (λ l. IsWithin l j) same w)), λ r. subst (λ l. IsWithin l j) (sym same) ((here j).1 (subst (λ k. Reaches edges k j) at r)))
    ]
  where
    cases : (i : ℕ) → i < suc (length spans) → (i < length spans) ⊎ (i ≡ length spans)
    cases i h = by (length spans) i h
      where
        by : (n i : ℕ) → i < suc n → (i < n) ⊎ (i ≡ n)
        by zero zero h = inr refl
        by zero (suc i) h = absurd (no i h)
          where
            no : (i : ℕ) → suc i < 1 → ⊥
            no i h = omega arith
        by (suc n) zero h = inl (omega arith)
        by (suc n) (suc i) h = elim (by n i (omega arith)) [ inl l ↦ inl (omega (arith, l)) | inr e ↦ inr (ap suc e) ]

-- what is reached from a number is what is reached from those that it leads to, and the number
pub reached_by : (edges : List (List ℕ)) (spans : List (Vec Span Global)) (next : List ℕ) (n : ℕ) (all own : List Span) →
    IsSpread edges spans → next ≡ get_or edges n [] → ((i : ℕ) → Contains next i → i < length spans) →
    ((j : ℕ) → IsWithin all j ↔ ((i : ℕ) × Contains next i × IsWithin (get_or (spans_of spans) i []) j)) → ((j : ℕ) → IsWithin own j ↔ (IsWithin all j ⊎ (n ≡ j))) →
    (j : ℕ) → IsWithin own j ↔ Reaches edges n j
reached_by edges spans next n all own before is short those added j = (to, from)
  where
    to : IsWithin own j → Reaches edges n j
    to w = elim ((added j).0 w) [
      | inl more ↦ let k = (those j).0 more in goes n k.0 j (subst (λ l. Contains l k.0) is k.1) ((before k.0 j (short k.0 k.1)).0 k.2)
      | inr same ↦ subst (λ k. Reaches edges n k) same (stays n)
    ]

    from_reached : (m : ℕ) → m ≡ n → Reaches edges m j → IsWithin own j
    from_reached _ e (stays _) = (added j).1 (inr (sym e))
    from_reached m e (goes _ k _ l rest) =
        let there : Contains next k = subst (λ l. Contains l k) (sym is) (subst (λ v. Leads edges v k) e l) in
        (added j).1 (inl ((those j).1 (k, there, (before k j (short k there)).1 rest)))

    from : Reaches edges n j → IsWithin own j
    from r = from_reached n refl r

-- ---- loops

pub none_in : (spans : List Span) (j : ℕ) → spans ≡ [] → ¬ IsWithin spans j
none_in spans j none w = none_within j (subst (λ l. IsWithin l j) none w)

pub number_more : (numbers : List ℕ) (i j : ℕ) (spans after : List Span) → i < length numbers → IsWithin spans j ↔ Contains (take i numbers) j →
    IsWithin after j ↔ (IsWithin spans j ⊎ (get_or numbers i 0 ≡ j)) → IsWithin after j ↔ Contains (take (i + 1) numbers) j
number_more numbers i j spans after h before added = (
  λ w. subst (λ l. Contains l j) (sym (take_more numbers i 0 h)) (elim (added.0 w) [
    | inl old ↦ Contains-append_left (take i numbers) (get_or numbers i 0 ∷ []) j (before.0 old)
    | inr same ↦ subst (λ v. Contains (take i numbers ++ get_or numbers i 0 ∷ []) v) same (Contains-push (take i numbers) (get_or numbers i 0))
  ]),
  λ k. added.1 (elim (Contains-push_cases (take i numbers) (get_or numbers i 0) j (subst (λ l. Contains l j) (take_more numbers i 0 h) k)) [
    | inl old ↦ inl (before.1 old)
    | inr same ↦ inr same
  ]),
)

pub none_dropped : (There : Type 0) (more : List Span) (i j : ℕ) → length more ≤ i → There ↔ (There ⊎ IsWithin (drop i more) j)
none_dropped There more i j past = (λ t. inl t, λ h. elim h [ inl t ↦ t | inr w ↦ absurd (none_in (drop i more) j (drop_all i more past) w) ])

pub all_dropped : (There : Type 0) (more : List Span) (n i j : ℕ) → length more ≤ n → length more ≤ i → (There ⊎ IsWithin (drop n more) j) ↔ (There ⊎ IsWithin (drop i more) j)
all_dropped There more n i j end past = subst (λ l. (There ⊎ IsWithin (drop n more) j) ↔ (There ⊎ IsWithin l j)) (drop_all n more end ∙ sym (drop_all i more past)) (λ h. h, λ h. h)

-- one span of the one list, behind those of the other that begin before it
module _ {Here There Left Taken Rest Next All After One : Type 0} (before : (Here ⊎ Left) ↔ (There ⊎ Taken)) (next : (Next ⊎ Rest) ↔ (Here ⊎ Left)) (after : After ↔ (Next ⊎ One)) (all : All ↔ (Taken ⊎ One)) where
  taken_on : There ⊎ Taken → There ⊎ All
  taken_on h = elim h [ inl t ↦ inl t | inr k ↦ inr (all.1 (inl k)) ]

  and_one : Next ⊎ Rest → After ⊎ Rest
  and_one h = elim h [ inl n ↦ inl (after.1 (inl n)) | inr r ↦ inr r ]

  pub merged_more : (After ⊎ Rest) ↔ (There ⊎ All)
  merged_more = (
    λ h. elim h [
      | inl a ↦ elim (after.0 a) [ inl n ↦ taken_on (before.0 (next.0 (inl n))) | inr o ↦ inr (all.1 (inr o)) ]
      | inr r ↦ taken_on (before.0 (next.0 (inr r)))
    ],
    λ h. elim h [
      | inl t ↦ and_one (next.1 (before.1 (inl t)))
      | inr l ↦ elim (all.0 l) [ inl k ↦ and_one (next.1 (before.1 (inr k))) | inr o ↦ inl (after.1 (inr o)) ]
    ],
  )

-- the spans of one number more
pub those_more : (spans : List (Vec Span Global)) (numbers : List ℕ) (i j : ℕ) (all after : List Span) → i < length numbers →
    IsWithin all j ↔ ((k : ℕ) × Contains (take i numbers) k × IsWithin (get_or (spans_of spans) k []) j) →
    IsWithin after j ↔ (IsWithin all j ⊎ IsWithin (get_or (spans_of spans) (get_or numbers i 0) []) j) →
    IsWithin after j ↔ ((k : ℕ) × Contains (take (i + 1) numbers) k × IsWithin (get_or (spans_of spans) k []) j)
those_more spans numbers i j all after h before added = (
  λ w. elim (added.0 w) [
    | inl old ↦ let b = before.0 old in (b.0, subst (λ l. Contains l b.0) (sym (take_more numbers i 0 h)) (Contains-append_left (take i numbers) (get_or numbers i 0 ∷ []) b.0 b.1), b.2)
    | inr new ↦ (get_or numbers i 0, subst (λ l. Contains l (get_or numbers i 0)) (sym (take_more numbers i 0 h)) (Contains-push (take i numbers) (get_or numbers i 0)), new)
  ],
  λ k. added.1 (elim (Contains-push_cases (take i numbers) (get_or numbers i 0) k.0 (subst (λ l. Contains l k.0) (take_more numbers i 0 h) k.1)) [
    | inl old ↦ inl (before.1 (k.0, old, k.2))
    | inr same ↦ inr (subst (λ v. IsWithin (get_or (spans_of spans) v []) j) (sym same) k.2)
  ]),
)

-- the spans of the same numbers
pub those_same : (spans : List (Vec Span Global)) (before after : List ℕ) (all : List Span) (j : ℕ) → ((i : ℕ) → Contains before i ↔ Contains after i) →
    IsWithin all j ↔ ((k : ℕ) × Contains before k × IsWithin (get_or (spans_of spans) k []) j) → IsWithin all j ↔ ((k : ℕ) × Contains after k × IsWithin (get_or (spans_of spans) k []) j)
those_same spans before after all j same those = (
  λ w. let k = those.0 w in (k.0, (same k.0).0 k.1, k.2),
  λ k. those.1 (k.0, (same k.0).1 k.1, k.2),
)
