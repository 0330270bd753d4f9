-- The open node of the least number is open.
use Rattle.std.proofs.Common.{◌≡◌, refl, ◌∙◌, ℕ, suc, ◌+◌, Bool, true, false, Some, None, List, [], ◌∷◌, slice_get, arith}
use Rattle.kp_graph.specs.Tree.{ProofNode, is_open, open_from, arc_fault}
use Rattle.kp_graph.proofs.Places.{at_place, none_open}
use Rattle.kp_rounds.specs.Rounds.{least_open}

record IsOpenFrom (k : ℕ) (tree : List ProofNode) (n : ℕ) : Type 0 where
  place : ℕ
  node : ProofNode
  number : place + k ≡ n
  at : slice_get tree place ≡ Some node
  free : is_open node ≡ true

open_from_at : (k : ℕ) (tree : List ProofNode) (n : ℕ) → slice_get (open_from k tree) 0 ≡ Some n → IsOpenFrom k tree n
open_from_at k [] n e = absurd (cc)
open_from_at k (x ∷ xs) n e = by_test (is_open x) refl e (open_from_at (k + 1) xs n)
  where
    by_test : (b : Bool) → is_open x ≡ b → slice_get (open_from k (x ∷ xs)) 0 ≡ Some n → (slice_get (open_from (k + 1) xs) 0 ≡ Some n → IsOpenFrom (k + 1) xs n) → IsOpenFrom k (x ∷ xs) n
    by_test true o h more =
        let here : Some k ≡ Some n = rw o at h in
        let same : k ≡ n = cc in
        record { place = 0; node = x; number = omega arith; at = refl; free = o }
    by_test false o h more =
        let later : IsOpenFrom (k + 1) xs n = more (rw o at h) in
        let number : later.place + (k + 1) ≡ n = later.number in
        record { place = suc later.place; node = later.node; number = omega arith; at = later.at; free = later.free }

-- it may get an arc
pub least_is_open : (tree : List ProofNode) (n : ℕ) → least_open tree ≡ Some n → arc_fault tree n ≡ None
least_is_open tree n e =
    let o : IsOpenFrom 1 tree n = open_from_at 1 tree n e in
    rw (at_place tree n o.place o.number ∙ o.at) (none_open o.node o.free)
