-- Where flagged nodes come from: each is the child of a node by an edge of which something holds. Arcs of open nodes keep that.
use Rattle.std.proofs.Common.{◌≡◌, sym, ap, subst, ◌∙◌, ℕ, zero, suc, ◌+◌, ◌≤◌, true, List, ◌++◌, length, Option, Some, None, is_none, inl, inr, slice_get, set, arith}
use Rattle.std.proofs.lemmas.Option.{slice_get_within}
use Rattle.kp_kore.specs.Syntax.{KorePattern}
use Rattle.kp_graph.specs.Tree as graph
use Rattle.kp_graph.specs.Tree.{ProofNode, NodeArc}
use Rattle.kp_graph.proofs.Opened.{get_set, split}
use Rattle.kp_graph.proofs.Places.{get_front}
use Rattle.kp_graph.proofs.GrowLemmas.{get_behind}

-- the node at place i comes by an edge from one at another place, of which Q holds
pub record ComesBy (Q : KorePattern → KorePattern → ℕ → Type 0) (tree : List ProofNode) (i : ℕ) (y : ProofNode) : Type 0 where
  pub place : ℕ
  pub before : ProofNode
  pub at : slice_get tree place ≡ Some before
  pub depth : ℕ
  pub from : before.arc ≡ Some (graph.edge depth (i + 1) true)
  pub such : Q before.state y.state depth

abbrev pub FlagsCome : (KorePattern → KorePattern → ℕ → Type 0) → List ProofNode → Type 0
FlagsCome Q tree = (i : ℕ) (y : ProofNode) → slice_get tree i ≡ Some y → y.flagged ≡ true → ComesBy Q tree i y

from_some : (x y : ProofNode) → Some x ≡ Some y → x ≡ y
from_some x y e = cc e

no_arc_has_none : (a : Option NodeArc) (b : NodeArc) → is_none a ≡ true → a ≡ Some b → ⊥
no_arc_has_none None b e f = absurd (cc f)
no_arc_has_none (Some c) b e f = absurd (cc e)

-- what comes by an edge comes by it still, where a node without arc is changed
still_comes : (Q : KorePattern → KorePattern → ℕ → Type 0) (tree : List ProofNode) (p : ℕ) (x y : ProofNode) → slice_get tree p ≡ Some x → is_none x.arc ≡ true → (i : ℕ) (z : ProofNode) → ComesBy Q tree i z → ComesBy Q (set tree p y) i z
still_comes Q tree p x y at none i z c = elim (get_set tree p c.place x y at) [
  | inl h ↦ let same : c.before ≡ x = from_some c.before x (sym c.at ∙ ap (slice_get tree) h.0 ∙ at) in absurd (no_arc_has_none x.arc (graph.edge c.depth (i + 1) true) none (sym (ap (λ (b : ProofNode). b.arc) same) ∙ c.from))
  | inr h ↦ record { place = c.place; before = c.before; at = h ∙ c.at; depth = c.depth; from = c.from; such = c.such }
]

pub flags_with_change : (Q : KorePattern → KorePattern → ℕ → Type 0) (tree : List ProofNode) (p : ℕ) (x y : ProofNode) → slice_get tree p ≡ Some x → is_none x.arc ≡ true → y.state ≡ x.state → y.flagged ≡ x.flagged → FlagsCome Q tree → FlagsCome Q (set tree p y)
flags_with_change Q tree p x y at none state flag come i w there flagged = elim (get_set tree p i x y at) [
  | inl h ↦
      let new : w ≡ y = from_some w y (sym there ∙ h.1) in
      let old : ComesBy Q tree i x = come i x (ap (slice_get tree) h.0 ∙ at) (sym flag ∙ sym (ap (λ (v : ProofNode). v.flagged) new) ∙ flagged) in
      let moved : ComesBy Q (set tree p y) i x = still_comes Q tree p x y at none i x old in
      let states : x.state ≡ w.state = sym state ∙ sym (ap (λ (v : ProofNode). v.state) new) in
      record { place = moved.place; before = moved.before; at = moved.at; depth = moved.depth; from = moved.from; such = subst (λ s. Q moved.before.state s moved.depth) states moved.such }
  | inr h ↦ still_comes Q tree p x y at none i w (come i w (sym h ∙ there) flagged)
]

-- new nodes behind the others, of which the flagged ones come by an edge
pub flags_with_more : (Q : KorePattern → KorePattern → ℕ → Type 0) (tree zs : List ProofNode) → FlagsCome Q tree → ((j : ℕ) (z : ProofNode) → slice_get zs j ≡ Some z → z.flagged ≡ true → ComesBy Q (tree ++ zs) (length tree + j) z) → FlagsCome Q (tree ++ zs)
flags_with_more Q tree zs come new i w there flagged = elim (split (length tree) i) [
  | inl l ↦ behind (i_minus i (length tree) l)
  | inr l ↦ let c : ComesBy Q tree i w = come i w (sym (get_front tree zs i l) ∙ there) flagged in
      record { place = c.place; before = c.before; at = get_front tree zs c.place (slice_get_within tree c.place c.before c.at) ∙ c.at; depth = c.depth; from = c.from; such = c.such }
]
  where
    i_minus : (i n : ℕ) → n ≤ i → (j : ℕ) × (i ≡ n + j)
    i_minus i zero l = (i, omega arith)
    i_minus zero (suc n) l = absurd (omega (arith, l))
    i_minus (suc i) (suc n) l = let rest = i_minus i n (omega (arith, l)) in let is : i ≡ n + rest.0 = rest.1 in (rest.0, omega (arith, is))

    behind : (j : ℕ) × (i ≡ length tree + j) → ComesBy Q (tree ++ zs) i w
    behind h = subst (λ k. ComesBy Q (tree ++ zs) k w) (sym h.1) (new h.0 w (sym (get_behind tree zs i h.0 h.1) ∙ there) flagged)
