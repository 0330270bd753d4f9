use Rattle.std.proofs.Common.{drop}
use Rattle.std.specs.List.{AllByRecursion, Contains}
use Rattle.kp_unify.specs.Views.{signature_of}
use Rattle.kp_step.specs.Views.{numbered_views}
use Rattle.kp_satisfiability.specs.Read.{HasSortedClauses}
use Rattle.kp_implies.proofs.FoundLemmas.{PartsSoFar}
use Rattle.kp_implies.proofs.parts.search_parts.Given as goal

-- those that are left are among all; what was found so far
abbrev pub invariant-loop-part : goal.invariant-loop-part
invariant-loop-part l =
    let g = signature_of l.setting in let all = numbered_views l.parts in let rest = numbered_views (drop l.part-index l.parts) in
    AllByRecursion (λ q. HasSortedClauses g q.part.state) all → AllByRecursion (λ q. HasSortedClauses g q.part.state) rest × AllByRecursion (Contains all) rest × PartsSoFar g all rest l.kept
