-- Layers against cycles.
use Rattle.std.proofs.Common.{◌≡◌, sym, ap, subst, ◌∙◌, ℕ, zero, suc, max, ◌<◌, ◌≤◌, List, [], ◌∷◌, length, get_or, Contains, arith}
use Rattle.std.proofs.Math.Nat.{le-max_left, le-max_right}
use Rattle.std.proofs.lemmas.List.{get_or-map}
use Rattle.kp_layers.specs.Layers.{Needs, DependsOn, at_once, over, highest, AreLayers}

nothing_below : (k : ℕ) → k < 0 → ⊥
nothing_below k h = omega arith

-- no layer of a member is above the highest
pub below_highest : (layers js : List ℕ) (k : ℕ) → k < length js → get_or layers (get_or js k 0) 0 ≤ highest layers js
below_highest layers [] k h = absurd (nothing_below k h)
below_highest layers (j ∷ js) zero h = le-max_left (get_or layers j 0) (highest layers js)
below_highest layers (j ∷ js) (suc k) h =
    let rest : get_or layers (get_or js k 0) 0 ≤ highest layers js = below_highest layers js k (omega arith) in
    let more : highest layers js ≤ max (get_or layers j 0) (highest layers js) = le-max_right (get_or layers j 0) (highest layers js) in
    omega arith

contained_below : (layers js : List ℕ) (j : ℕ) → Contains js j → get_or layers j 0 ≤ highest layers js
contained_below layers js j h = subst (λ x. get_or layers x 0 ≤ highest layers js) (at js h.0 j h.1 h.2) (below_highest layers js h.0 h.1)
  where
    at : (xs : List ℕ) (k x : ℕ) → k < length xs → get_or xs k x ≡ x → get_or xs k 0 ≡ x
    at [] k x l e = absurd (nothing_below k l)
    at (y ∷ ys) zero x l e = e
    at (y ∷ ys) (suc k) x l e = at ys k x (omega arith) e

-- where something is in a list's member, there is the member
there : (needs : List (List ℕ)) (i j : ℕ) → Contains (get_or needs i []) j → i < length needs
there [] i j h = absurd (nothing_below h.0 h.1)
there (n ∷ ns) zero j h = omega arith
there (n ∷ ns) (suc i) j h = let rest : i < length ns = there ns i j h in omega arith

-- who needs one is in a higher layer
needs_lower : (needs : List (List ℕ)) (layers : List ℕ) (i j : ℕ) → AreLayers needs layers → Needs needs i j → get_or layers j 0 < get_or layers i 0
needs_lower needs layers i j are h =
    let is : get_or layers i 0 ≡ suc (highest layers (get_or needs i [])) = ap (λ ls. get_or ls i 0) (sym are) ∙ get_or-map (λ js. suc (highest layers js)) needs i [] 0 (there needs i j h) in
    let low : get_or layers j 0 ≤ highest layers (get_or needs i []) = contained_below layers (get_or needs i []) j h in
    omega arith

depends_lower : (needs : List (List ℕ)) (layers : List ℕ) (i j : ℕ) → AreLayers needs layers → DependsOn needs i j → get_or layers j 0 < get_or layers i 0
depends_lower needs layers i j are (at_once _ _ h) = needs_lower needs layers i j are h
depends_lower needs layers i k are (over _ j _ h rest) =
    let below : get_or layers j 0 < get_or layers i 0 = needs_lower needs layers i j are h in
    let further : get_or layers k 0 < get_or layers j 0 = depends_lower needs layers j k are rest in
    omega arith

pub no_cycle : (needs : List (List ℕ)) (layers : List ℕ) (i : ℕ) → AreLayers needs layers → ¬ DependsOn needs i i
no_cycle needs layers i are d = let below : get_or layers i 0 < get_or layers i 0 = depends_lower needs layers i i are d in omega arith
