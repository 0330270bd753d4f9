-- What sets of numbers hold once numbers are added, and that a closed one holds all that is reached.
use Rattle.std.proofs.Common.{◌≡◌, refl, sym, ap, subst, ◌∙◌, ℕ, zero, suc, ◌+◌, ◌<◌, ◌⊎◌, ◌↔◌, inl, inr, Bool, true, false, ◌||◌, nat_eq, if◌then◌else◌, List, [], ◌∷◌, ◌++◌, length, take, set, get_or, Vec, Global, Contains, arith}
use Rattle.std.specs.List.{list_any}
use Rattle.std.proofs.lemmas.Bool.Decides.{Decides-eqb}
use Rattle.std.proofs.lemmas.List.{append_assoc, append-nil, length-map, take-append-le, take_more}
use Rattle.std.proofs.lemmas.List.Elements.{Contains-append_left, Contains-append_right, Contains-push, Contains-push_cases, Contains-append_cases}
use Rattle.indexmap.specs.IndexSet.{insert_key}
use Rattle.indexmap.proofs.CallerLemmas.{Contains-list_any, Contains-insert_key}
use Rattle.kp_signature.specs.Edges.{HasEdge, edges_of, Leads, Reaches, stays, goes, IsReachedFrom, Extended}

pub nothing_there : {A : Type 0} (x : A) → Contains [] x → ⊥
nothing_there x h = nothing_below h.0 h.1
  where
    nothing_below : (k : ℕ) → k < 0 → ⊥
    nothing_below k h = omega arith

-- a number is inserted
pub inserted : (keys after : List ℕ) (n : ℕ) → after ≡ insert_key nat_eq keys n → Extended keys (n ∷ []) after
inserted keys after n e = by (list_any (nat_eq n) keys) refl
  where
    by : (b : Bool) → list_any (nat_eq n) keys ≡ b → Extended keys (n ∷ []) after
    by true q = record {
      more = [];
      is = e ∙ ap (λ c. if c then keys else keys ++ n ∷ []) q ∙ sym (append-nil keys);
      among = λ y h. absurd (nothing_there y h);
      all = λ y h. elim (Contains-push_cases [] n y h) [
        | inl old ↦ absurd (nothing_there y old)
        | inr s ↦ subst (λ v. Contains after v) s (subst (λ l. Contains l n) (sym e) (Contains-insert_key nat_eq (λ x z. (Decides-eqb x z).0) keys n))
      ];
    }
    by false q = record {
      more = n ∷ [];
      is = e ∙ ap (λ c. if c then keys else keys ++ n ∷ []) q;
      among = λ y h. h;
      all = λ y h. elim (Contains-push_cases [] n y h) [
        | inl old ↦ absurd (nothing_there y old)
        | inr s ↦ subst (λ v. Contains after v) s (subst (λ l. Contains l n) (sym e) (Contains-insert_key nat_eq (λ x z. (Decides-eqb x z).0) keys n))
      ];
    }

pub extended_start : (keys : List ℕ) → Extended keys [] keys
extended_start keys = record {
  more = [];
  is = sym (append-nil keys);
  among = λ y h. h;
  all = λ y h. absurd (nothing_there y h);
}

pub extended_on : (keys first second added more : List ℕ) → Extended keys added first → Extended first more second → Extended keys (added ++ more) second
extended_on keys first second added more f s = record {
  more = f.more ++ s.more;
  is = s.is ∙ ap (λ l. l ++ s.more) f.is ∙ append_assoc keys f.more s.more;
  among = λ y h. elim (Contains-append_cases f.more s.more y h) [
    | inl old ↦ Contains-append_left added more y (f.among y old)
    | inr new ↦ Contains-append_right added more y (s.among y new)
  ];
  all = λ y h. elim (Contains-append_cases added more y h) [
    | inl old ↦ subst (λ l. Contains l y) (sym s.is) (Contains-append_left first s.more y (f.all y old))
    | inr new ↦ s.all y new
  ];
}

-- what was there stays
pub still_there : (keys added after : List ℕ) (y : ℕ) → Extended keys added after → Contains keys y → Contains after y
still_there keys added after y e h = subst (λ l. Contains l y) (sym e.is) (Contains-append_left keys e.more y h)

-- and what is there was there or was added
pub there_or_added : (keys added after : List ℕ) (y : ℕ) → Extended keys added after → Contains after y → Contains keys y ⊎ Contains added y
there_or_added keys added after y e h = elim (Contains-append_cases keys e.more y (subst (λ l. Contains l y) e.is h)) [
  | inl old ↦ inl old
  | inr new ↦ inr (e.among y new)
]

pub further : (edges : List (List ℕ)) (i j k : ℕ) → Reaches edges i j → Leads edges j k → Reaches edges i k
further edges i _ k (stays _) l = goes i k k l (stays k)
further edges i j k (goes _ m _ h rest) l = goes i m k h (further edges m j k rest l)

pub onwards : (edges : List (List ℕ)) (i j k : ℕ) → Reaches edges i j → Reaches edges j k → Reaches edges i k
onwards edges i _ k (stays _) h = h
onwards edges i j k (goes _ m _ l rest) h = goes i m k l (onwards edges m j k rest h)

-- the search so far: all that is there is reached from the first ones, these are there, and so are the neighbours of what is done
pub record Closing (edges : List (List ℕ)) (starts done found : List ℕ) : Type 0 where
  pub reached : (j : ℕ) → Contains found j → IsReachedFrom edges starts j
  pub start : (j : ℕ) → Contains starts j → Contains found j
  pub closed : (i j : ℕ) → Contains done i → Leads edges i j → Contains found j

pub closing_start : (edges : List (List ℕ)) (starts : List ℕ) → Closing edges starts [] starts
closing_start edges starts = record {
  reached = λ j h. (j, h, stays j);
  start = λ j h. h;
  closed = λ i j h l. absurd (nothing_there i h);
}

pub closing_more : (edges : List (List ℕ)) (starts done found after : List ℕ) (i : ℕ) →
    Closing edges starts done found → Contains found i → Extended found (get_or edges i []) after → Closing edges starts (done ++ i ∷ []) after
closing_more edges starts done found after i s there e = record {
  reached = λ j h. elim (there_or_added found (get_or edges i []) after j e h) [
    | inl old ↦ s.reached j old
    | inr new ↦ let r = s.reached i there in (r.0, r.1, further edges r.0 i j r.2 new)
  ];
  start = λ j h. still_there found (get_or edges i []) after j e (s.start j h);
  closed = λ k j h l. elim (Contains-push_cases done i k h) [
    | inl old ↦ still_there found (get_or edges i []) after j e (s.closed k j old l)
    | inr same ↦ e.all j (subst (λ v. Contains (get_or edges v []) j) (sym same) l)
  ];
}

closed_holds_all : (edges : List (List ℕ)) (found : List ℕ) → ((i j : ℕ) → Contains found i → Leads edges i j → Contains found j) → (i j : ℕ) → Reaches edges i j → Contains found i → Contains found j
closed_holds_all edges found closed i _ (stays _) h = h
closed_holds_all edges found closed i j (goes _ k _ l rest) h = closed_holds_all edges found closed k j rest (closed i k h l)

-- once all that is there is done, it is all that is reached
pub all_closed : (edges : List (List ℕ)) (starts done found : List ℕ) → done ≡ found → Closing edges starts done found → (j : ℕ) → Contains found j ↔ IsReachedFrom edges starts j
all_closed edges starts done found e s j =
    (s.reached j, λ r. closed_holds_all edges found (λ i k h l. s.closed i k (subst (λ l. Contains l i) (sym e) h) l) r.0 j r.2 (s.start r.0 r.1))

-- the first ones, once more are noted behind
pub first_ones : (before more after : List ℕ) (n i : ℕ) → n < length before → i ≡ get_or before n i → after ≡ before ++ more → take n before ++ i ∷ [] ≡ take (n + 1) after
first_ones before more after n i h is e =
    ap (λ t. take n before ++ t ∷ []) is ∙ sym (take_more before n i h) ∙ sym (take-append-le (n + 1) before more (omega arith)) ∙ ap (take (n + 1)) (sym e)

pub is_found : (found : List ℕ) (n i : ℕ) → n < length found → i ≡ get_or found n i → Contains found i
is_found found n i h is = (n, h, sym is)

-- what is read at one default within the list is read at any
pub is_read : (ns : List ℕ) (n d : ℕ) → n < length ns → get_or ns n d ≡ get_or ns n (get_or ns n d)
is_read [] n d h = absurd (no n h)
  where
    no : (k : ℕ) → k < 0 → ⊥
    no k h = omega arith
is_read (x ∷ xs) zero d h = refl
is_read (x ∷ xs) (suc n) d h = is_read xs n d (omega arith)

-- added to nothing
pub only_added : (empty added found : List ℕ) → length empty ≡ 0 → Extended empty added found → (y : ℕ) → Contains found y ↔ Contains added y
only_added empty added found none e y = (
  λ h. elim (there_or_added empty added found y e h) [ inl old ↦ absurd (no old.0 (subst (λ n. old.0 < n) none old.1)) | inr new ↦ new ],
  e.all y,
)
  where
    no : (k : ℕ) → k < 0 → ⊥
    no k h = omega arith

pub from_one : (edges : List (List ℕ)) (empty found : List ℕ) (n : ℕ) → length empty ≡ 0 → Extended empty (n ∷ []) found → (j : ℕ) → IsReachedFrom edges found j ↔ Reaches edges n j
from_one edges empty found n none e j = (
  λ r. elim (Contains-push_cases [] n r.0 ((only_added empty (n ∷ []) found none e r.0).0 r.1)) [
    | inl old ↦ absurd (nothing_there r.0 old)
    | inr same ↦ subst (λ v. Reaches edges v j) (sym same) r.2
  ],
  λ r. (n, e.all n (Contains-push [] n), r),
)

pub from_all : (edges : List (List ℕ)) (empty found numbers : List ℕ) → length empty ≡ 0 → Extended empty numbers found → (j : ℕ) → IsReachedFrom edges found j ↔ IsReachedFrom edges numbers j
from_all edges empty found numbers none e j = (
  λ r. (r.0, (only_added empty numbers found none e r.0).0 r.1, r.2),
  λ r. (r.0, e.all r.0 r.1, r.2),
)

-- the test of a set tells what is in its list
pub in_set : (keys : List ℕ) (n : ℕ) → (list_any (nat_eq n) keys ≡ true) ↔ Contains keys n
in_set keys n = (Contains-list_any nat_eq (λ x z. (Decides-eqb x z).0) keys n, λ h. any keys n h.0 h.1 h.2)
  where
    any : (ks : List ℕ) (m k : ℕ) → k < length ks → get_or ks k m ≡ m → list_any (nat_eq m) ks ≡ true
    any [] m k h e = absurd (no k h)
      where
        no : (k : ℕ) → k < 0 → ⊥
        no k h = omega arith
    any (x ∷ xs) m zero h e = ap (λ b. b || list_any (nat_eq m) xs) ((Decides-eqb m x).1 (sym e))
    any (x ∷ xs) m (suc k) h e = by (nat_eq m x) (any xs m k (omega arith) e)
      where
        by : (b : Bool) → list_any (nat_eq m) xs ≡ true → (b || list_any (nat_eq m) xs) ≡ true
        by true h = refl
        by false h = h

pub not_added : (keys : List ℕ) (n : ℕ) (test : Bool) → test ≡ false → (j : ℕ) → Contains keys j ↔ (Contains keys j ⊎ ((test ≡ true) × (n ≡ j)))
not_added keys n test e j = (λ h. inl h, λ h. elim h [ inl old ↦ old | inr new ↦ absurd (cc (e, new.0)) ])

pub one_added : (keys after : List ℕ) (n : ℕ) (test : Bool) → test ≡ true → Extended keys (n ∷ []) after → (j : ℕ) → Contains after j ↔ (Contains keys j ⊎ ((test ≡ true) × (n ≡ j)))
one_added keys after n test e x j = (
  λ h. elim (there_or_added keys (n ∷ []) after j x h) [
    | inl old ↦ inl old
    | inr new ↦ elim (Contains-push_cases [] n j new) [ inl old ↦ absurd (nothing_there j old) | inr same ↦ inr (e, same) ]
  ],
  λ h. elim h [
    | inl old ↦ still_there keys (n ∷ []) after j x old
    | inr new ↦ subst (λ v. Contains after v) new.1 (x.all n (Contains-push [] n))
  ],
)

-- ---- one more edge

leads_set : (edges : List (Vec ℕ Global)) (from to : ℕ) (w : Vec ℕ Global) → from < length edges → w.items ≡ get_or (edges_of edges) from [] ++ to ∷ [] →
    (i j : ℕ) → Leads (edges_of (set edges from w)) i j ↔ (Leads (edges_of edges) i j ⊎ ((i ≡ from) × (j ≡ to)))
leads_set [] from to w h e i j = absurd (no from h)
  where
    no : (i : ℕ) → i < 0 → ⊥
    no i h = omega arith
leads_set (v ∷ vs) zero to w h e zero j = (
  λ k. elim (Contains-push_cases v.items to j (subst (λ l. Contains l j) e k)) [ inl old ↦ inl old | inr same ↦ inr (refl, sym same) ],
  λ k. subst (λ l. Contains l j) (sym e) (elim k [ inl old ↦ Contains-append_left v.items (to ∷ []) j old | inr same ↦ subst (λ u. Contains (v.items ++ to ∷ []) u) (sym same.1) (Contains-push v.items to) ]),
)
leads_set (v ∷ vs) zero to w h e (suc i) j = (λ k. inl k, λ k. elim k [ inl old ↦ old | inr same ↦ absurd (no i same.0) ])
  where
    no : (i : ℕ) → suc i ≡ zero → ⊥
    no i h = omega arith
leads_set (v ∷ vs) (suc n) to w h e zero j = (λ k. inl k, λ k. elim k [ inl old ↦ old | inr same ↦ absurd (no n same.0) ])
  where
    no : (i : ℕ) → zero ≡ suc i → ⊥
    no i h = omega arith
leads_set (v ∷ vs) (suc n) to w h e (suc i) j =
    let k = leads_set vs n to w (omega arith) e i j in (
      λ l. elim (k.0 l) [ inl old ↦ inl old | inr same ↦ inr (ap suc same.0, same.1) ],
      λ l. k.1 (elim l [ inl old ↦ inl old | inr same ↦ inr (less same.0, same.1) ]),
    )
  where
    less : suc i ≡ suc n → i ≡ n
    less e = omega arith

pub edge_set : (edges : List (Vec ℕ Global)) (from to : ℕ) (v w : Vec ℕ Global) → from < length edges → v ≡ get_or edges from v → w.items ≡ v.items ++ to ∷ [] → HasEdge (edges_of edges) (edges_of (set edges from w)) from to
edge_set edges from to v w h is e = record {
  same_length = length-map (set edges from w) (λ (u : Vec ℕ Global). u.items) ∙ kept edges from ∙ sym (length-map edges (λ (u : Vec ℕ Global). u.items));
  edges = leads_set edges from to w h (e ∙ ap (λ l. l ++ to ∷ []) (ap (λ (u : Vec ℕ Global). u.items) is ∙ read edges from h));
}
  where
    kept : (es : List (Vec ℕ Global)) (n : ℕ) → length (set es n w) ≡ length es
    kept [] n = refl
    kept (u ∷ us) zero = refl
    kept (u ∷ us) (suc n) = ap suc (kept us n)

    read : (es : List (Vec ℕ Global)) (n : ℕ) → n < length es → (get_or es n v).items ≡ get_or (edges_of es) n []
    read [] n h = absurd (no n h)
      where
        no : (i : ℕ) → i < 0 → ⊥
        no i h = omega arith
    read (u ∷ us) zero h = refl
    read (u ∷ us) (suc n) h = read us n (omega arith)
