use Rattle.std.proofs.Common.{◌≡◌, ◌++◌, map, length, false, ◌∷◌, []}
use Rattle.std.specs.List.{filter}
use Rattle.kp_kore.specs.Signature.{is_head, heads_of}
use Rattle.kp_kore.specs.View.{sort_view}
use Rattle.kp_signature.specs.View.{signature_view}
use Rattle.kp_sort_heads.specs.Views.{left_of}
use Rattle.kp_symbolic.specs.View.{variable_view, clauses_view}
use Rattle.kp_case_laws.specs.Narrowings.{tested}
use Rattle.kp_unify.proofs.head_clauses.outside.Given as goal

-- what was found, and what is left of the heads
abbrev pub invariant-loop-head : goal.invariant-loop-head
invariant-loop-head l =
    let g = signature_view l.signature in
    let x = variable_view l.variable.value in
    (clauses_view l.found.items ++ map (λ h. tested g false x h ∷ []) (filter (is_head g (sort_view l.sort)) (left_of l.left)) ≡ map (λ h. tested g false x h ∷ []) (filter (is_head g (sort_view l.sort)) (heads_of g x.sort))) × (l.left.signature.now ≡ l.signature)

abbrev pub decreases-loop-head : goal.decreases-loop-head
decreases-loop-head l = length (left_of l.left)
