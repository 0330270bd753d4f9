-- When a tree of arcs proves a claim with claims as rules.
-- Source: All-Path Reachability Logic (circularities, transitivity, case analysis); pyk's KCFG and APRProof.
use Rattle.std.specs.Prelude.{◌≡◌, ℕ, Bool, true, ◌||◌, List, [], ◌∷◌}
use Rattle.std.specs.List.{AllByRecursion}
use Rattle.kp_kore.specs.Syntax.{Text, KorePattern}
use Rattle.kp_kore.specs.Rules.{RewriteRule}
use Rattle.kp_kore.specs.Theory.{Theory}
use Rattle.kp_kore.specs.Claims.{ReachabilityClaim}
use Rattle.kp_kore.specs.Replies.{is_listed}
use Rattle.kp_kore.specs.Arcs.{EdgeSays, SplitSays, BranchChild, BranchSays, CoverSays, VacuousSays}
use Rattle.kp_kore.specs.ClaimRules.{with_rules, is_progress, MayUse}

-- A tree from a state, whose path so far has progress or hasn't, and whose leaves are covers or vacuous. Edges and
-- branches may use claims as rules, and an edge lists those that it doesn't use.
mutual
  pub data Proof (t : Theory) (dependencies circularities : List ReachabilityClaim) (claim : ReachabilityClaim) : Bool → KorePattern → Type 0 where
    cover : (progress : Bool) (s : KorePattern) → CoverSays t claim s → Proof t dependencies circularities claim progress s
    vacuous : (progress : Bool) (s : KorePattern) → VacuousSays t claim s → Proof t dependencies circularities claim progress s
    edge : (progress : Bool) (s s' : KorePattern) (rs : List RewriteRule) (listed : List Text) (d : ℕ) → MayUse dependencies circularities progress rs →
        AllByRecursion (λ r. is_listed listed r ≡ true) rs → EdgeSays (with_rules t rs) listed s s' d →
        Proof t dependencies circularities claim true s' → Proof t dependencies circularities claim progress s
    split : (progress : Bool) (s : KorePattern) (children : List KorePattern) → SplitSays t s children →
        Proofs t dependencies circularities claim progress children → Proof t dependencies circularities claim progress s
    branch : (progress : Bool) (s : KorePattern) (rs : List RewriteRule) (children : List BranchChild) → MayUse dependencies circularities progress rs →
        BranchSays (with_rules t rs) s children → BranchProofs t dependencies circularities claim progress children →
        Proof t dependencies circularities claim progress s

  -- of each child of a split
  pub data Proofs (t : Theory) (dependencies circularities : List ReachabilityClaim) (claim : ReachabilityClaim) : Bool → List KorePattern → Type 0 where
    no_children : (progress : Bool) → Proofs t dependencies circularities claim progress []
    next_child : (progress : Bool) (s : KorePattern) (children : List KorePattern) → Proof t dependencies circularities claim progress s →
        Proofs t dependencies circularities claim progress children → Proofs t dependencies circularities claim progress (s ∷ children)

  -- of each child of a branch, with the progress of its step
  pub data BranchProofs (t : Theory) (dependencies circularities : List ReachabilityClaim) (claim : ReachabilityClaim) : Bool → List BranchChild → Type 0 where
    no_branches : (progress : Bool) → BranchProofs t dependencies circularities claim progress []
    next_branch : (progress : Bool) (k : BranchChild) (children : List BranchChild) →
        Proof t dependencies circularities claim (progress || is_progress k.rule) k.state → BranchProofs t dependencies circularities claim progress children →
        BranchProofs t dependencies circularities claim progress (k ∷ children)
