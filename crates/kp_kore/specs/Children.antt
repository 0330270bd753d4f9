-- What the prover makes of a reply: the children of a node, and the target of a claim.
-- Source: pyk's KCFG (split, branch); pyk's APRProver (the target as consequent of implies).
use Rattle.std.specs.Prelude.{List, [], ◌∷◌, ◌++◌, if◌then◌else◌}
use Rattle.kp_kore.specs.Syntax.{KoreSort, KorePattern, conjunction, top, exists}
use Rattle.kp_kore.specs.Parts.{SortedName}
use Rattle.kp_kore.specs.View.{patterns_of}
use Rattle.kp_kore.specs.Instance.{conjoined_terms, conjoined_predicates, is_named}
use Rattle.kp_kore.specs.Claims.{ReachabilityClaim}
use Rattle.kp_kore.specs.ClaimModules.{SortedClaim}
use Rattle.kp_kore.specs.Replies.{variables_beyond}
use Rattle.kp_kore.specs.Cases.{NextState}
use Rattle.kp_kore.specs.Arcs.{BranchChild}

-- ---- children

-- the node's state with one more conjunct: its term, its predicates and this one; the state itself where that is \top
abbrev pub split_child : KoreSort → KorePattern → KorePattern → KorePattern
split_child sort s (top a) = s
split_child sort s predicate = conjunction sort (patterns_of (conjoined_terms s ++ conjoined_predicates s ++ predicate ∷ []))

abbrev pub branch_child : NextState → BranchChild
branch_child n = record { state = n.state; rule = n.rule }

-- ---- the target

-- the pattern under \exists for these variables, the first outermost
abbrev pub under_exists : KoreSort → List SortedName → KorePattern → KorePattern
under_exists s [] p = p
under_exists s (x ∷ xs) p = exists s x.name x.sort (under_exists s xs p)

-- each name once, where it stands last
abbrev pub once : List SortedName → List SortedName
once [] = []
once (x ∷ xs) = if is_named x.name xs then once xs else x ∷ once xs

-- the variables of the right side that the left hasn't, each once
abbrev pub right_alone : ReachabilityClaim → List SortedName
right_alone claim = once (variables_beyond claim.left claim.right)

-- the right side, under \exists for each variable that the left hasn't, bound once
abbrev pub target_of : SortedClaim → KorePattern
target_of c = under_exists c.sort (right_alone c.claim) c.claim.right
