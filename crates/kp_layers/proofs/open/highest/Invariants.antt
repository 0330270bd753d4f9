use Rattle.std.proofs.Common.{◌≡◌, ◌≤◌, ℕ, max, drop, get_or}
use Rattle.kp_layers.specs.Layers.{highest}
use Rattle.kp_layers.proofs.open.highest.Given as goal

abbrev pub invariant-loop-claim : goal.invariant-loop-claim
invariant-loop-claim l =
    (max l.most (highest l.layers (drop l.claim-index l.claims)) ≡ highest l.layers l.claims)
    × ((most : ℕ) → ((j : ℕ) → get_or l.layers j 0 ≤ most) → l.most ≤ most)
