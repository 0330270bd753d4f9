-- What splits by numbers splits by sorts.
use Rattle.std.proofs.Common.{◌≡◌, refl, sym, ap, subst, ◌∙◌, ℕ, ◌↔◌, Bool, true, false, Some, Contains}
use Rattle.std.specs.Prelude.{MatchBool}
use Rattle.kp_kore.specs.Syntax.{KoreSort, SymbolDeclaration}
use Rattle.kp_kore.specs.Signature.{KoreSignature, IsBelow, itself, Head, integers, booleans, tokens, constructor_of, IsSortOfHead, symbol_declared}
use Rattle.kp_signature.specs.Edges.{IsNumber}
use Rattle.kp_signature.specs.Order.{sorts_of}
use Rattle.kp_signature.proofs.Below.{onwards}
use Rattle.kp_signature.proofs.OrderLemmas.{sort_below, number_below, under_is_below, below_is_under, none_below}
use Rattle.kp_kore.specs.Foreign.{Meet, SplitsByHeads}
use Rattle.kp_rules.specs.Index.{NumberMeet, NumbersSplit, IsIndexOf}
use Rattle.kp_rules.specs.declared.sort_index.SortIndex.{SortIndex}

-- a head has one sort of its own
pub one_own : (g : KoreSignature) (h : Head) (a b : KoreSort) → IsSortOfHead g h a → IsSortOfHead g h b → a ≡ b
one_own g integers a b p q = cc
one_own g booleans a b p q = cc
one_own g (tokens t) a b p q = sym p.0 ∙ q.0
one_own g (constructor_of f) a b p q = by p.0 q.0 p.1 q.1 p.3 q.3
  where
    by : (d e : SymbolDeclaration) → symbol_declared g f ≡ Some d → symbol_declared g f ≡ Some e → d.result ≡ a → e.result ≡ b → a ≡ b
    by d e r s v w = sym v ∙ ap (λ (k : SymbolDeclaration). k.result) (same d e (sym r ∙ s)) ∙ w
      where
        same : (d e : SymbolDeclaration) → Some d ≡ Some e → d ≡ e
        same d e h = cc

-- ---- meets by numbers

module _ (g : KoreSignature) (x : SortIndex) (ix : IsIndexOf g x) (t : KoreSort) (i : ℕ) (ti : IsNumber (sorts_of x.order.now.graph) i t) where
  pub meet_of_numbers : (k : ℕ) (a : KoreSort) → IsNumber (sorts_of x.order.now.graph) k a → NumberMeet x i k → Meet g a t
  meet_of_numbers k a ka m =
      let s = sort_below g.subsorts x.order.now.graph ix.order.graph i m.number t ti m.first in
      let first = under_is_below g.subsorts x.order.now.graph ix.order.graph k m.number s.0 a ka s.1 m.second in
      record {
        sort = s.0;
        below_first = first;
        below_second = s.2;
        heads = λ h. (
          λ o. ((o.0, o.1, onwards g.subsorts o.0 s.0 a o.2 first), (o.0, o.1, onwards g.subsorts o.0 s.0 t o.2 s.2)),
          λ both.
              let p = both.0 in
              let q = both.1 in
              let n = number_below g.subsorts x.order.now.graph ix.order.graph k p.0 a ka p.2 in
              let under = below_is_under g.subsorts x.order.now.graph ix.order.graph i n.0 p.0 t ti n.1 (subst (λ v. IsBelow g.subsorts v t) (sym (one_own g h p.0 q.0 p.1 q.1)) q.2) in
              (p.0, p.1, under_is_below g.subsorts x.order.now.graph ix.order.graph m.number n.0 p.0 s.0 s.1 n.1 (m.all n.0 (record { heads = (ix.heads n.0 p.0 n.1).1 (h, p.1); first = under; second = n.2 }))),
        );
      }

  pub numbers_of_meet : (k : ℕ) (a : KoreSort) → IsNumber (sorts_of x.order.now.graph) k a → Meet g a t → NumberMeet x i k
  numbers_of_meet k a ka m =
      let s = number_below g.subsorts x.order.now.graph ix.order.graph k m.sort a ka m.below_first in
      record {
        number = s.0;
        first = below_is_under g.subsorts x.order.now.graph ix.order.graph i s.0 m.sort t ti s.1 m.below_second;
        second = s.2;
        all = λ n shared.
            let o = sort_below g.subsorts x.order.now.graph ix.order.graph k n a ka shared.second in
            let own = (ix.heads n o.0 o.1).0 shared.heads in
            let r = (m.heads own.0).1 ((o.0, own.1, o.2), (o.0, own.1, under_is_below g.subsorts x.order.now.graph ix.order.graph i n o.0 t ti o.1 shared.first)) in
            below_is_under g.subsorts x.order.now.graph ix.order.graph s.0 n o.0 m.sort s.1 o.1 (subst (λ v. IsBelow g.subsorts v m.sort) (one_own g own.0 r.0 o.0 r.1 own.1) r.2);
      }

-- ---- what splits

module _ (g : KoreSignature) (x : SortIndex) (ix : IsIndexOf g x) (t u : KoreSort) where
  -- a sort that no pair names
  pub lower_alone : (¬ Contains (sorts_of x.order.now.graph) t) → SplitsByHeads g t u
  lower_alone none a below h common =
      let p = common.0 in
      let q = common.1 in
      let same : p.0 ≡ t = one_own g h p.0 q.0 p.1 q.1 ∙ none_below g.subsorts x.order.now.graph ix.order.graph q.0 t none q.2 in
      let above : IsBelow g.subsorts t a = subst (λ v. IsBelow g.subsorts v a) same p.2 in
      record {
        sort = t;
        below_first = above;
        below_second = itself t;
        heads = λ k. (λ o. ((o.0, o.1, onwards g.subsorts o.0 t a o.2 above), o), λ both. both.1);
      }

  pub upper_alone : (¬ Contains (sorts_of x.order.now.graph) u) → SplitsByHeads g t u
  upper_alone none a below h common =
      let p = common.0 in
      let q = common.1 in
      let own : p.0 ≡ u = none_below g.subsorts x.order.now.graph ix.order.graph p.0 u none (onwards g.subsorts p.0 a u p.2 below) in
      let same : q.0 ≡ a = sym (one_own g h p.0 q.0 p.1 q.1) ∙ own ∙ sym (none_below g.subsorts x.order.now.graph ix.order.graph a u none below) in
      let above : IsBelow g.subsorts a t = subst (λ v. IsBelow g.subsorts v t) same q.2 in
      record {
        sort = a;
        below_first = itself a;
        below_second = above;
        heads = λ k. (λ o. (o, (o.0, o.1, onwards g.subsorts o.0 a t o.2 above)), λ both. both.0);
      }

  module _ (i j : ℕ) (ti : IsNumber (sorts_of x.order.now.graph) i t) (uj : IsNumber (sorts_of x.order.now.graph) j u) where
    pub sorts_split : NumbersSplit x i j → SplitsByHeads g t u
    sorts_split split a below h common =
        let p = common.0 in
        let q = common.1 in
        let k = number_below g.subsorts x.order.now.graph ix.order.graph j a u uj below in
        let n = number_below g.subsorts x.order.now.graph ix.order.graph k.0 p.0 a k.1 p.2 in
        let under = below_is_under g.subsorts x.order.now.graph ix.order.graph i n.0 p.0 t ti n.1 (subst (λ v. IsBelow g.subsorts v t) (sym (one_own g h p.0 q.0 p.1 q.1)) q.2) in
        meet_of_numbers g x ix t i ti k.0 a k.1 (split k.0 k.2 n.0 (record { heads = (ix.heads n.0 p.0 n.1).1 (h, p.1); first = under; second = n.2 }))

    pub numbers_split : SplitsByHeads g t u → NumbersSplit x i j
    numbers_split split k under n shared =
        let a = sort_below g.subsorts x.order.now.graph ix.order.graph j k u uj under in
        let o = sort_below g.subsorts x.order.now.graph ix.order.graph k n a.0 a.1 shared.second in
        let own = (ix.heads n o.0 o.1).0 shared.heads in
        numbers_of_meet g x ix t i ti k a.0 a.1 (split a.0 a.2 own.0 ((o.0, own.1, o.2), (o.0, own.1, under_is_below g.subsorts x.order.now.graph ix.order.graph i n o.0 t ti o.1 shared.first)))

-- a test that tells the one tells the other
pub matched : {N P : Type 0} (b : Bool) → (b ≡ true) ↔ N → (N → P) → (P → N) → MatchBool b P (¬ P)
matched true d to from = to (d.0 refl)
matched false d to from = λ p. absurd (cc (d.1 (from p)))
