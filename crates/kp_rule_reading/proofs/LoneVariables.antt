-- A sort that has a meet with each sort that shares heads with it, by numbers and back.
use Rattle.std.proofs.Common.{◌≡◌, sym, subst, ◌∙◌, ℕ, ◌↔◌, inl, inr, Bool, List, Contains}
use Rattle.std.specs.Prelude.{Result, IfOk, MatchBool}
use Rattle.kp_kore.specs.Syntax.{Text, KoreSort, KorePattern, variable}
use Rattle.kp_kore.specs.Signature.{KoreSignature, IsBelow, itself, through}
use Rattle.kp_kore.specs.Foreign.{Meet, LoneVariableSplits}
use Rattle.kp_signature.specs.Edges.{stays, goes, IsNumber, IsReachedFrom}
use Rattle.kp_signature.specs.Order.{sorts_of}
use Rattle.kp_signature.proofs.Below.{onwards}
use Rattle.kp_signature.proofs.OrderLemmas.{one_sort, sort_below, number_below, under_is_below, below_is_under, none_below}
use Rattle.kp_rules.specs.Index.{IsIndexOf, IsAlone, AreOpposite, OwnsHeads, Under, Over, NumberMeet, SetMeet, IsSettled, up}
use Rattle.kp_rules.specs.declared.sort_index.SortIndex.{SortIndex}
use Rattle.kp_rules.proofs.IndexLemmas.{one_own, meet_of_numbers, numbers_of_meet}
use Rattle.kp_rules.proofs.SplitLemmas.{under_over, over_under, meet_of_sets, sets_of_meet}
use Rattle.kp_rule_reading.specs.Lone.{SortSplits, NumberSplits}

-- ---- sets of numbers

module _ (x : SortIndex) (opposite : AreOpposite x) (t : ℕ) (below above heads sharing : List ℕ)
    (belows : (j : ℕ) → Contains below j ↔ Under x t j) (aboves : (j : ℕ) → Contains above j ↔ Over x t j)
    (headed : (j : ℕ) → Contains heads j ↔ (Contains below j × OwnsHeads x j)) (shares : (j : ℕ) → Contains sharing j ↔ IsReachedFrom (up x) heads j) where
  pub all_split : ((i : ℕ) → Contains sharing i → IsSettled x i sharing below above heads) → NumberSplits x t
  all_split settled i o s =
      let there : Contains sharing i = (shares i).1 (o, (headed o).1 ((belows o).1 s.first, s.heads), under_over x opposite i o s.second) in
      elim (settled i there there) [
        | inl one ↦ elim one [
          | inl b ↦ record { number = i; first = (belows i).0 b; second = stays i; all = λ k r. r.second }
          | inr a ↦ record { number = t; first = stays t; second = over_under x opposite t i ((aboves i).0 a); all = λ k r. r.first }
        ]
        | inr m ↦ meet_of_sets x t below heads belows headed i m
      ]

  pub all_settle : NumberSplits x t → (i : ℕ) → Contains sharing i → IsSettled x i sharing below above heads
  all_settle split i there h =
      let r = (shares i).0 there in
      let k = (headed r.0).0 r.1 in
      inr (sets_of_meet x t below heads belows headed i (split i r.0 (record { heads = k.1; first = (belows r.0).0 k.0; second = over_under x opposite r.0 i r.2 })))

-- one that shares lower sorts with comparable ones alone
pub alone_splits : (x : SortIndex) (t : ℕ) → IsAlone x.order.now.graph t → NumberSplits x t
alone_splits x t alone i o s = elim (alone o i s.first s.second) [
  | inl b ↦ record { number = i; first = b; second = stays i; all = λ k r. r.second }
  | inr a ↦ record { number = t; first = stays t; second = a; all = λ k r. r.first }
]

-- ---- sorts

module _ (g : KoreSignature) (x : SortIndex) (ix : IsIndexOf g x) where
  -- what lies above a sort that has a number has one
  numbered_above : (a b : KoreSort) → Contains (sorts_of x.order.now.graph) a → IsBelow g.subsorts a b → Contains (sorts_of x.order.now.graph) b
  numbered_above a _ n (itself _) = n
  numbered_above a b n (through _ c _ p more) = numbered_above c b (ix.order.graph.named a c p).1 more

  -- what lies over a number that has a sort has a sort above it
  sort_over : (k n : ℕ) (o : KoreSort) → IsNumber (sorts_of x.order.now.graph) n o → Under x k n → (a : KoreSort) × IsNumber (sorts_of x.order.now.graph) k a × IsBelow g.subsorts o a
  sort_over k _ o m (stays _) = (o, m, itself o)
  sort_over k n o m (goes _ j _ l more) =
      let p = (ix.order.graph.below k j).0 l in
      let r = sort_over j n o m more in
      let below : IsBelow g.subsorts o p.lower = subst (λ v. IsBelow g.subsorts o v) (one_sort (sorts_of x.order.now.graph) j r.0 p.lower r.1 p.first) r.2 in
      (p.upper, p.second, onwards g.subsorts o p.lower p.upper below (through p.lower p.upper p.upper p.pair (itself p.upper)))

  -- a sort that no pair names
  pub unnamed_splits : (t : KoreSort) → (¬ Contains (sorts_of x.order.now.graph) t) → SortSplits g t
  unnamed_splits t none a h common =
      let p = common.0 in
      let q = common.1 in
      let same : p.0 ≡ t = one_own g h p.0 q.0 p.1 q.1 ∙ none_below g.subsorts x.order.now.graph ix.order.graph q.0 t none q.2 in
      let above : IsBelow g.subsorts t a = subst (λ v. IsBelow g.subsorts v a) same p.2 in
      record {
        sort = t;
        below_first = above;
        below_second = itself t;
        heads = λ k. (λ o. ((o.0, o.1, onwards g.subsorts o.0 t a o.2 above), o), λ both. both.1);
      }

  module _ (t : KoreSort) (i : ℕ) (ti : IsNumber (sorts_of x.order.now.graph) i t) where
    -- a sort that shares a head with one that has a number has a number
    pub sort_splits : NumberSplits x i → SortSplits g t
    sort_splits split a h common =
        let p = common.0 in
        let q = common.1 in
        let below : IsBelow g.subsorts p.0 t = subst (λ v. IsBelow g.subsorts v t) (sym (one_own g h p.0 q.0 p.1 q.1)) q.2 in
        let n = number_below g.subsorts x.order.now.graph ix.order.graph i p.0 t ti below in
        let k = numbered_above p.0 a (n.0, n.1.0, n.1.1) p.2 in
        let under = below_is_under g.subsorts x.order.now.graph ix.order.graph k.0 n.0 p.0 a (k.1, k.2) n.1 p.2 in
        meet_of_numbers g x ix t i ti k.0 a (k.1, k.2) (split k.0 n.0 (record { heads = (ix.heads n.0 p.0 n.1).1 (h, p.1); first = n.2; second = under }))

    pub number_splits : SortSplits g t → NumberSplits x i
    number_splits split k n shared =
        let o = sort_below g.subsorts x.order.now.graph ix.order.graph i n t ti shared.first in
        let own = (ix.heads n o.0 o.1).0 shared.heads in
        let a = sort_over k n o.0 o.1 shared.second in
        numbers_of_meet g x ix t i ti k a.0 a.1 (split a.0 own.0 ((o.0, own.1, a.2), (o.0, own.1, o.2)))

-- ---- the left term

lone_at : {E : Type 0} (g : KoreSignature) (x : Text) (t : KoreSort) (r : Result Bool E) → IfOk r (λ b. MatchBool b (SortSplits g t) (¬ SortSplits g t)) →
    IfOk r (λ b. MatchBool b (LoneVariableSplits g (variable x t)) (¬ LoneVariableSplits g (variable x t)))
lone_at g x t r h = h

pub lone_by : {E : Type 0} (g : KoreSignature) (p : KorePattern) (x : Text) (t : KoreSort) → p ≡ variable x t → (r : Result Bool E) → IfOk r (λ b. MatchBool b (SortSplits g t) (¬ SortSplits g t)) →
    IfOk r (λ b. MatchBool b (LoneVariableSplits g p) (¬ LoneVariableSplits g p))
lone_by g p x t e r h = subst (λ q. IfOk r (λ b. MatchBool b (LoneVariableSplits g q) (¬ LoneVariableSplits g q))) (sym e) (lone_at g x t r h)
