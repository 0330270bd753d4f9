-- An order that is known to be there is at hand, since all that it tells is decided.
use Rattle.std.proofs.Common.{◌≡◌, refl, sym, ap, subst, ◌∙◌, ℕ, zero, suc, ◌<◌, ◌≤◌, ◌↔◌, List, [], ◌∷◌, length, get_or, Option, Some, None, Contains, arith}
use Rattle.indexmap.specs.IndexMap.{get_by_text}
use Rattle.kp_kore.specs.Syntax.{Text, KoreSort, sort_variable}
use Rattle.kp_kore.specs.Signature.{IsBelow, is_below}
use Rattle.kp_signature.specs.Edges.{Leads, Reaches, edges_of, IsNumber}
use Rattle.kp_signature.specs.Numbering.{IsListed, IsNumbering, outer_name, sorts_in}
use Rattle.kp_signature.specs.Order.{IsPair, IsGraphOf, IsOrderOf, Under, sorts_of}
use Rattle.kp_signature.specs.Spans.{Holds, IsWithin, IsSpread, spans_of}
use Rattle.kp_signature.specs.declared.graph.SortGraph.{SortGraph}
use Rattle.kp_signature.specs.declared.numbering.Numbering.{Numbering}
use Rattle.kp_signature.specs.declared.order.SortOrder.{SortOrder}
use Rattle.kp_signature.specs.declared.spans.Span.{Span}
use Rattle.kp_signature.proofs.Below.{is_below-Decides}
use Rattle.kp_signature.proofs.Decided.{IsDecided, out, refuted, like, both, same_number, same_sort, less, is_number, some_of, is_among}
use Rattle.kp_signature.proofs.OrderLemmas.{sort_below, under_is_below, below_is_under}

-- ---- numbers of sorts

listed_by : {A : Type 0} (x : Numbering) (name : Text) (i : ℕ) (o : Option ℕ) → get_by_text x.names name ≡ o → ∥ A ∥₁ → (A → IsListed x name i) → IsListed x name i
listed_by x name i None e hidden so = refuted hidden (λ h. let l = so h in absurd (cc (l.named, e)))
listed_by x name i (Some k) e hidden so = record {
  group = k;
  named = e;
  among = out (is_among same_number (get_or (edges_of x.groups.items) k []) i) hidden (λ h. let l = so h in subst (λ j. Contains (get_or (edges_of x.groups.items) j []) i) (one l.group (sym l.named ∙ e)) l.among);
}
  where
    one : (j : ℕ) → Some j ≡ Some k → j ≡ k
    one j e = cc

numbering_out : {A : Type 0} (x : Numbering) → ∥ A ∥₁ → (A → IsNumbering x) → IsNumbering x
numbering_out x hidden so = record {
  grouped = λ name k e. out (less k (length x.groups.items)) hidden (λ h. (so h).grouped name k e);
  listed = λ i a n. listed_by x (outer_name a) i (get_by_text x.names (outer_name a)) refl hidden (λ h. (so h).listed i a n);
  once = λ i j a n m. out (same_number i j) hidden (λ h. (so h).once i j a n m);
}

-- ---- the graph of pairs

-- the sorts of two numbers
record AreOf (sorts : List KoreSort) (i j : ℕ) (p : KoreSort × KoreSort) : Type 0 where
  first : IsNumber sorts i p.0
  second : IsNumber sorts j p.1

are_of : (sorts : List KoreSort) (i j : ℕ) (p : KoreSort × KoreSort) → IsDecided (AreOf sorts i j p)
are_of sorts i j p = like (λ h. record { first = h.0; second = h.1 }) (λ h. (h.first, h.second)) (both (is_number sorts i p.0) (is_number sorts j p.1))

is_pair : (pairs : List (KoreSort × KoreSort)) (sorts : List KoreSort) (i j : ℕ) → IsDecided (IsPair pairs sorts i j)
is_pair pairs sorts i j = like
    (λ h. record { lower = h.element.0; upper = h.element.1; first = h.holds.first; second = h.holds.second; pair = h.among })
    (λ h. record { element = (h.lower, h.upper); among = h.pair; holds = record { first = h.first; second = h.second } })
    (some_of (AreOf sorts i j) (are_of sorts i j) pairs)

module _ {A : Type 0} (pairs : List (KoreSort × KoreSort)) (x : SortGraph) (hidden : ∥ A ∥₁) (so : A → IsGraphOf pairs x) where
  has_number : (a : KoreSort) → (A → Contains (sorts_of x) a) → Contains (sorts_of x) a
  has_number a h = out (is_among same_sort (sorts_of x) a) hidden h

  leads_out : (edges : List (List ℕ)) (i j : ℕ) → (A → Leads edges i j) → Leads edges i j
  leads_out edges i j h = out (is_among same_number (get_or edges i []) j) hidden h

  pair_out : (i j : ℕ) → (A → IsPair pairs (sorts_of x) i j) → IsPair pairs (sorts_of x) i j
  pair_out i j h = out (is_pair pairs (sorts_of x) i j) hidden h

  pub graph_out : IsGraphOf pairs x
  graph_out = record {
    numbering = numbering_out x.numbering hidden (λ h. (so h).numbering);
    named = λ a b p. (has_number a (λ h. ((so h).named a b p).0), has_number b (λ h. ((so h).named a b p).1));
    above_length = out (same_number (length x.above.items) (length (sorts_of x))) hidden (λ h. (so h).above_length);
    below_length = out (same_number (length x.below.items) (length (sorts_of x))) hidden (λ h. (so h).below_length);
    above = λ i j. (λ l. pair_out i j (λ h. ((so h).above i j).0 l), λ p. leads_out (edges_of x.above.items) i j (λ h. ((so h).above i j).1 p));
    below = λ i j. (λ l. pair_out j i (λ h. ((so h).below i j).0 l), λ p. leads_out (edges_of x.below.items) i j (λ h. ((so h).below i j).1 p));
  }

-- ---- spans

-- a span that holds the number
holds : (j : ℕ) (s : Span) → IsDecided (Holds s j)
holds j s = like (λ h. (least s.first j h.0, least j s.last h.1)) (λ h. (more s.first j h.0, more j s.last h.1)) (both (less s.first (suc j)) (less j (suc s.last)))
  where
    least : (m n : ℕ) → m < suc n → m ≤ n
    least m n h = omega arith

    more : (m n : ℕ) → m ≤ n → m < suc n
    more m n h = omega arith

is_within : (spans : List Span) (j : ℕ) → IsDecided (IsWithin spans j)
is_within spans j = like (λ h. (h.element, h.among, h.holds)) (λ h. record { element = h.0; among = h.1; holds = h.2 }) (some_of (λ s. Holds s j) (holds j) spans)

-- the sort of a number
abbrev sort_at : List KoreSort → ℕ → KoreSort
sort_at sorts i = get_or sorts i (sort_variable [])

is_at : (sorts : List KoreSort) (i : ℕ) → i < length sorts → IsNumber sorts i (sort_at sorts i)
is_at sorts i h = (h, same sorts i h)
  where
    same : (ss : List KoreSort) (k : ℕ) → k < length ss → get_or ss k (sort_at ss k) ≡ sort_at ss k
    same [] k l = absurd (omega (arith, l))
    same (s ∷ ss) zero l = refl
    same (s ∷ ss) (suc k) l = same ss k (omega (arith, l))

module _ (pairs : List (KoreSort × KoreSort)) (x : SortGraph) (ix : IsGraphOf pairs x) where
  under : (i j : ℕ) → i < length (sorts_of x) → j < length (sorts_of x) → IsDecided (Under x i j)
  under i j h k =
      let n = is_at (sorts_of x) i h in
      let m = is_at (sorts_of x) j k in
      like
      (below_is_under pairs x ix i j (sort_at (sorts_of x) j) (sort_at (sorts_of x) i) n m)
      (under_is_below pairs x ix i j (sort_at (sorts_of x) j) (sort_at (sorts_of x) i) n m)
      (record { test = is_below pairs (sort_at (sorts_of x) j) (sort_at (sorts_of x) i); decides = is_below-Decides pairs (sort_at (sorts_of x) j) (sort_at (sorts_of x) i) })

  -- what lies below a number has a number
  within : (i j : ℕ) → i < length (sorts_of x) → Under x i j → j < length (sorts_of x)
  within i j h u = let r = sort_below pairs x ix i j (sort_at (sorts_of x) i) (is_at (sorts_of x) i h) u in let n = r.1 in n.0

  under_out : {A : Type 0} (i j : ℕ) → i < length (sorts_of x) → ∥ A ∥₁ → (A → Under x i j) → Under x i j
  under_out i j h hidden so = out (under i j h (out (less j (length (sorts_of x))) hidden (λ a. within i j h (so a)))) hidden so

-- the order
pub order_out : (pairs : List (KoreSort × KoreSort)) (x : SortOrder) → ∥ IsOrderOf pairs x ∥₁ → IsOrderOf pairs x
order_out pairs x hidden =
    let graph = graph_out pairs x.graph hidden (λ h. h.graph) in
    let long = out (same_number (length x.spans.items) (length x.graph.below.items)) hidden (λ h. h.spans_length) in
    record {
      graph = graph;
      spans_length = long;
      spread = λ i j l. (
        λ w. under_out pairs x.graph graph i j (subst (λ n. i < n) (long ∙ graph.below_length) l) hidden (λ h. (h.spread i j l).0 w),
        λ r. out (is_within (get_or (spans_of x.spans.items) i []) j) hidden (λ h. (h.spread i j l).1 r),
      );
    }
