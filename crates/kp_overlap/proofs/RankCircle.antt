-- Labels that are made of each other have no values: a member's value is smaller.
use Rattle.std.proofs.Common.{◌≡◌, sym, ap, ◌∙◌, ℕ, zero, suc, ◌<◌, ◌+◌, ◌≤◌, Option, List, [], ◌∷◌, length, get_or, inl, inr, arith}
use Rattle.kp_kore.specs.Signature.{KoreSignature}
use Rattle.kp_kore.specs.Value.{Value, whole, truth, token, constructed, Values, no_values, next_value}
use Rattle.kp_overlap.specs.Graphs.{IsAt, made, Graph, values_at, IsSolution, HasSolution, AreBelow}
use Rattle.kp_overlap.specs.Labels.{IsGraph, AreLabels, AreSettled, AreHolders}
use Rattle.kp_overlap.specs.Ranked.{HasRank, IsRankedOrWaits, IsCircle}
use Rattle.kp_overlap.proofs.RankLemmas.{is_at}

abbrev mutual
  value_size : Value → ℕ
  value_size (whole n) = 0
  value_size (truth b) = 0
  value_size (token s t) = 0
  value_size (constructed c us) = suc (values_size us)

  values_size : Values → ℕ
  values_size no_values = 0
  values_size (next_value u us) = value_size u + values_size us

member_smaller : (a : ℕ → Value) (ns : List ℕ) (m k : ℕ) → k < length ns → get_or ns k m ≡ m → value_size (a m) ≤ values_size (values_at a ns)
member_smaller a [] m k low e = absurd (omega arith)
member_smaller a (n ∷ ns) m zero low e = let same : value_size (a n) ≡ value_size (a m) = ap (λ c. value_size (a c)) e in omega arith
member_smaller a (n ∷ ns) m (suc k) low e = let less : value_size (a m) ≤ values_size (values_at a ns) = member_smaller a ns m k (omega arith) e in omega arith

member_below : (c : ℕ) (ns : List ℕ) (m k : ℕ) → AreBelow c ns → k < length ns → get_or ns k m ≡ m → m < c
member_below c [] m k below low e = absurd (omega arith)
member_below c (n ∷ ns) m zero below low e = let same : n ≡ m = e in omega (arith, below.0)
member_below c (n ∷ ns) m (suc k) below low e = member_below c ns m k below.1 (omega arith) e

falls : (g : KoreSignature) (x : Graph) (i j : ℕ) (ls : List ℕ) (hs rs : List (Option ℕ)) (a : ℕ → Value) → IsGraph g x → AreLabels g x i j ls → AreSettled ls i j → AreHolders x ls hs → IsCircle x ls hs rs → IsSolution g x i j a → (k l : ℕ) → l < length ls → ¬ HasRank rs l → value_size (a l) < k → ⊥
falls g x i j ls hs rs a graph labels settled holders circle solved zero l low none small = omega arith
falls g x i j ls hs rs a graph labels settled holders circle solved (suc k) l low none small = by (λ m. falls g x i j ls hs rs a graph labels settled holders circle solved k m) (circle.all l low)
  where
    by : ((m : ℕ) → m < length ls → ¬ HasRank rs m → value_size (a m) < k → ⊥) → IsRankedOrWaits x.shapes ls hs rs l → ⊥
    by later (inl r) = none r
    by later (inr w) =
        let h = w.1.0 in
        let shape = w.1.3 in
        let long : length ls ≡ length x.shapes = labels.long in
        let own : a h ≡ a l = labels.follow a solved h l (holders.holds l h w.1.2).3 in
        let value : a h ≡ constructed w.1.1 (values_at a w.0) = solved.solves.shapes h (made w.1.1 w.0) shape in
        let place : w.2.0 < length x.shapes = member_below (length x.shapes) w.0 w.2.0 w.2.1.0 (graph.shapes h (made w.1.1 w.0) shape).0 w.2.1.1 w.2.1.2 in
        let at : IsAt ls w.2.0 (get_or ls w.2.0 w.2.0) = is_at ls w.2.0 w.2.0 (omega arith) in
        let next = get_or ls w.2.0 w.2.0 in
        let same : value_size (a w.2.0) ≡ value_size (a next) = ap value_size (labels.follow a solved w.2.0 next at) in
        let larger : value_size (a l) ≡ suc (values_size (values_at a w.0)) = ap value_size (sym own ∙ value) in
        let less : value_size (a w.2.0) ≤ values_size (values_at a w.0) = member_smaller a w.0 w.2.0 w.2.1.0 w.2.1.1 w.2.1.2 in
        later next (settled.own w.2.0 next at).0 (λ r. w.2.2 r.0 (next, at, r.1)) (omega arith)

pub circle_unsolved : (g : KoreSignature) (x : Graph) (i j : ℕ) (ls : List ℕ) (hs rs : List (Option ℕ)) → IsGraph g x → AreLabels g x i j ls → AreSettled ls i j → AreHolders x ls hs → IsCircle x ls hs rs → ¬ HasSolution g x i j
circle_unsolved g x i j ls hs rs graph labels settled holders circle (a, solved) = falls g x i j ls hs rs a graph labels settled holders circle solved (suc (value_size (a circle.label))) circle.label circle.within circle.unranked (omega arith)
