-- Loops over numbers, and when the sorts of numbers split by heads.
use Rattle.std.proofs.Common.{◌≡◌, sym, subst, ℕ, ◌+◌, ◌<◌, ◌≤◌, ◌⊎◌, ◌↔◌, inl, inr, Bool, true, List, [], ◌∷◌, ◌++◌, length, take, get_or, Contains, arith}
use Rattle.std.proofs.lemmas.List.{take_more, take_all}
use Rattle.std.proofs.lemmas.List.Elements.{Contains-append_left, Contains-push, Contains-push_cases, Contains-get_or}
use Rattle.kp_signature.specs.Edges.{stays, goes, IsReachedFrom, Extended}
use Rattle.kp_rules.specs.Index.{IsAlone, Under, Over, AreOpposite, OwnsHeads, NumberMeet, NumbersSplit, SetMeet, IsSettled, Covers, AreNotOver, down, up}
use Rattle.kp_rules.specs.declared.sort_index.SortIndex.{SortIndex}
use Rattle.kp_signature.proofs.EdgeLemmas.{nothing_there, further, onwards, there_or_added}

-- ---- loops

module _ (P : ℕ → Type 0) (ns : List ℕ) where
  pub none_yet : (j : ℕ) → Contains [] j → P j
  none_yet j h = absurd (nothing_there j h)

  pub all_more : (i : ℕ) → i < length ns → ((j : ℕ) → Contains (take i ns) j → P j) → P (get_or ns i 0) → (j : ℕ) → Contains (take (i + 1) ns) j → P j
  all_more i short all here j h = elim (Contains-push_cases (take i ns) (get_or ns i 0) j (subst (λ l. Contains l j) (take_more ns i 0 short) h)) [
    | inl old ↦ all j old
    | inr same ↦ subst P same here
  ]

  pub all_done : (i : ℕ) → length ns ≤ i → ((j : ℕ) → Contains (take i ns) j → P j) → (j : ℕ) → Contains ns j → P j
  all_done i past all j h = all j (subst (λ l. Contains l j) (sym (take_all i ns past)) h)

  pub not_all : (i : ℕ) → i < length ns → ¬ P (get_or ns i 0) → ¬ ((j : ℕ) → Contains ns j → P j)
  not_all i short not all = not (all (get_or ns i 0) (Contains-get_or ns i 0 short))

  pub filtered_start : (j : ℕ) (found : List ℕ) → length found ≡ 0 → Contains found j ↔ (Contains [] j × P j)
  filtered_start j found none = (λ h. absurd (no h.0 (subst (λ n. h.0 < n) none h.1)), λ h. absurd (nothing_there j h.0))
    where
      no : (k : ℕ) → k < 0 → ⊥
      no k h = omega arith

  pub filtered_more : (i : ℕ) (test : Bool) (found after : List ℕ) → i < length ns → ((j : ℕ) → Contains found j ↔ (Contains (take i ns) j × P j)) → (test ≡ true) ↔ P (get_or ns i 0) →
      ((j : ℕ) → Contains after j ↔ (Contains found j ⊎ ((test ≡ true) × (get_or ns i 0 ≡ j)))) → (j : ℕ) → Contains after j ↔ (Contains (take (i + 1) ns) j × P j)
  filtered_more i test found after short before tests now j = (
    λ h. elim ((now j).0 h) [
      | inl old ↦ let b = (before j).0 old in (subst (λ l. Contains l j) (sym (take_more ns i 0 short)) (Contains-append_left (take i ns) (get_or ns i 0 ∷ []) j b.0), b.1)
      | inr new ↦ (subst (λ l. Contains l j) (sym (take_more ns i 0 short)) (subst (λ v. Contains (take i ns ++ get_or ns i 0 ∷ []) v) new.1 (Contains-push (take i ns) (get_or ns i 0))), subst P new.1 (tests.0 new.0))
    ],
    λ h. elim (Contains-push_cases (take i ns) (get_or ns i 0) j (subst (λ l. Contains l j) (take_more ns i 0 short) h.0)) [
      | inl old ↦ (now j).1 (inl ((before j).1 (old, h.1)))
      | inr same ↦ (now j).1 (inr (tests.1 (subst P (sym same) h.1), same))
    ],
  )

  pub filtered_done : (i : ℕ) (found : List ℕ) → length ns ≤ i → ((j : ℕ) → Contains found j ↔ (Contains (take i ns) j × P j)) → (j : ℕ) → Contains found j ↔ (Contains ns j × P j)
  filtered_done i found past before = subst (λ l. (j : ℕ) → Contains found j ↔ (Contains l j × P j)) (take_all i ns past) before

-- ---- meets

module _ (x : SortIndex) (i : ℕ) (below heads down common : List ℕ)
    (downs : (j : ℕ) → Contains down j ↔ Under x i j) (commons : (j : ℕ) → Contains common j ↔ (Contains heads j × Contains down j)) where
  pub covering : (c : ℕ) → Contains down c → Covers x c below common → SetMeet x i below heads
  covering c there h = record {
    number = c;
    under = (downs c).0 there;
    among = h.0;
    all = λ o head u. h.1 o ((commons o).1 (head, (downs o).1 u));
  }

  pub covered : (m : SetMeet x i below heads) → Contains down m.number × Covers x m.number below common
  covered m = ((downs m.number).1 m.under, (m.among, λ o h. let k = (commons o).0 h in m.all o k.0 ((downs o).0 k.1)))

-- what lies below one that isn't over all isn't over all
pub none_is_over : (x : SortIndex) (i : ℕ) (others lower failed after added : List ℕ) → ((j : ℕ) → Contains lower j ↔ Under x i j) → added ≡ lower → ¬ ((o : ℕ) → Contains others o → Contains lower o) →
    AreNotOver x others failed → Extended failed added after → AreNotOver x others after
none_is_over x i others lower failed after added downs e not none more j h = elim (there_or_added failed added after j more h) [
  | inl old ↦ none j old
  | inr new ↦ λ all. not (λ o k. (downs o).1 (onwards (down x) i j o ((downs j).0 (subst (λ l. Contains l j) e new)) (all o k)))
]

-- ---- edges that are each other's opposites

module _ (x : SortIndex) (opposite : AreOpposite x) where
  pub under_over : (i j : ℕ) → Under x i j → Over x j i
  under_over i _ (stays _) = stays i
  under_over i j (goes _ k _ l rest) = further (up x) j k i (under_over k j rest) ((opposite i k).0 l)

  pub over_under : (i j : ℕ) → Over x i j → Under x j i
  over_under i _ (stays _) = stays i
  over_under i j (goes _ k _ l rest) = further (down x) j k i (over_under k j rest) ((opposite k i).1 l)

-- ---- what splits

module _ (x : SortIndex) (t : ℕ) (below heads : List ℕ) (belows : (j : ℕ) → Contains below j ↔ Under x t j) (headed : (j : ℕ) → Contains heads j ↔ (Contains below j × OwnsHeads x j)) where
  pub meet_of_sets : (i : ℕ) → SetMeet x i below heads → NumberMeet x t i
  meet_of_sets i m = record {
    number = m.number;
    first = (belows m.number).0 m.among;
    second = m.under;
    all = λ o s. m.all o ((headed o).1 ((belows o).1 s.first, s.heads)) s.second;
  }

  pub sets_of_meet : (i : ℕ) → NumberMeet x t i → SetMeet x i below heads
  sets_of_meet i m = record {
    number = m.number;
    under = m.second;
    among = (belows m.number).1 m.first;
    all = λ o h s. let k = (headed o).0 h in m.all o (record { heads = k.1; first = (belows o).0 k.0; second = s });
  }

module _ (x : SortIndex) (opposite : AreOpposite x) (t u : ℕ) (below above under heads sharing : List ℕ)
    (belows : (j : ℕ) → Contains below j ↔ Under x t j) (aboves : (j : ℕ) → Contains above j ↔ Over x t j) (unders : (j : ℕ) → Contains under j ↔ Under x u j)
    (headed : (j : ℕ) → Contains heads j ↔ (Contains below j × OwnsHeads x j)) (shares : (j : ℕ) → Contains sharing j ↔ IsReachedFrom (up x) heads j) where
  meet_below : (i : ℕ) → Under x t i → NumberMeet x t i
  meet_below i h = record { number = i; first = h; second = stays i; all = λ o s. s.second }

  meet_above : (i : ℕ) → Under x i t → NumberMeet x t i
  meet_above i h = record { number = t; first = stays t; second = h; all = λ o s. s.first }

  pub all_split : ((i : ℕ) → Contains sharing i → IsSettled x i under below above heads) → NumbersSplit x t u
  all_split settled i h o s = elim (settled i ((shares i).1 (o, (headed o).1 ((belows o).1 s.first, s.heads), under_over x opposite i o s.second)) ((unders i).1 h)) [
    | inl one ↦ elim one [ inl b ↦ meet_below i ((belows i).0 b) | inr a ↦ meet_above i (over_under x opposite t i ((aboves i).0 a)) ]
    | inr m ↦ meet_of_sets x t below heads belows headed i m
  ]

  pub all_settle : NumbersSplit x t u → (i : ℕ) → Contains sharing i → IsSettled x i under below above heads
  all_settle split i there h =
      let r = (shares i).0 there in
      let k = (headed r.0).0 r.1 in
      inr (sets_of_meet x t below heads belows headed i (split i ((unders i).0 h) r.0 (record { heads = k.1; first = (belows r.0).0 k.0; second = over_under x opposite r.0 i r.2 })))

pub none_failed : (x : SortIndex) (others failed : List ℕ) → length failed ≡ 0 → AreNotOver x others failed
none_failed x others failed none i h = absurd (no h.0 (subst (λ n. h.0 < n) none h.1))
  where
    no : (k : ℕ) → k < 0 → ⊥
    no k h = omega arith

-- one that shares lower sorts with comparable ones alone
pub alone_splits : (x : SortIndex) (t u : ℕ) → IsAlone x.order.now.graph t → NumbersSplit x t u
alone_splits x t u alone i h o s = elim (alone o i s.first s.second) [
  | inl b ↦ record { number = i; first = b; second = stays i; all = λ k r. r.second }
  | inr a ↦ record { number = t; first = stays t; second = a; all = λ k r. r.first }
]
