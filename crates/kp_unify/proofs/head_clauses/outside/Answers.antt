use Rattle.std.proofs.Common.{rules, ◌≡◌, ◌∙◌, sym, ap, subst, ◌++◌, ◌∷◌, [], map, false}
use Rattle.std.proofs.lemmas.List.{map-append}
use Rattle.std.specs.Option.{option_map}
use Rattle.kp_kore.specs.Signature.{is_head, heads_of}
use Rattle.kp_kore.specs.View.{sort_view}
use Rattle.kp_signature.specs.View.{signature_view}
use Rattle.kp_sort_heads.specs.Remaining.{IsNext}
use Rattle.kp_sort_heads.specs.Views.{head_view, left_of}
use Rattle.kp_symbolic.specs.View.{variable_view, clause_view, clauses_view}
use Rattle.kp_case_laws.specs.Narrowings.{tested}
use Rattle.kp_unify.proofs.HeadLists.{begins, taken, left_out}
use Rattle.kp_unify.proofs.head_clauses.outside.Goals as goal

pub loop-head-init : goal.loop-head-init
loop-head-init c =
    let g = signature_view c.args.signature.now in
    let x = variable_view c.args.variable.now.value in
    let left : left_of c.heads-left.result ≡ heads_of g x.sort = search rules in
    let none : clauses_view c.new-found.result.items ≡ [] = search rules in
    (begins (λ h. tested g false x h ∷ []) (is_head g (sort_view c.args.sort.now)) (clauses_view c.new-found.result.items) (left_of c.heads-left.result) (heads_of g x.sort) none left, c.heads-left.ensures.signature)

pub loop-head-preserved-in_ok-push : goal.loop-head-preserved-in_ok-push
loop-head-preserved-in_ok-push c =
    let g = signature_view c.args.signature.now in
    let x = variable_view c.args.variable.now.value in
    let h = head_view c.in-Some.head in
    let before = left_of c.loop-head.left in
    let after = left_of c.next.new.self in
    let e : before ≡ h ∷ after = subst (λ o. IsNext (option_map head_view o) before after) c.in-Some.is c.next.ensures.next in
    let more : clauses_view c.push.new.self.items ≡ clauses_view c.loop-head.found.items ++ (tested g false x h ∷ []) ∷ [] = ap (map clause_view) c.in_ok-push.ensures.items ∙ map-append clause_view c.loop-head.found.items (c.in_ok-fails.field-0 ∷ []) ∙ ap (λ l. clauses_view c.loop-head.found.items ++ l ∷ []) c.in_ok-fails.ensures in
    (taken (λ h. tested g false x h ∷ []) (is_head g (sort_view c.args.sort.now)) (clauses_view c.loop-head.found.items) (clauses_view c.push.new.self.items) _ before after h e (sym c.is_head.ensures ∙ c.if-is_head.true) more c.loop-head.invariant.0, c.next.ensures.signature ∙ c.loop-head.invariant.1)

pub loop-head-preserved : goal.loop-head-preserved
loop-head-preserved c =
    let g = signature_view c.args.signature.now in
    let x = variable_view c.args.variable.now.value in
    let h = head_view c.in-Some.head in
    let before = left_of c.loop-head.left in
    let after = left_of c.next.new.self in
    let e : before ≡ h ∷ after = subst (λ o. IsNext (option_map head_view o) before after) c.in-Some.is c.next.ensures.next in
    (left_out (λ h. tested g false x h ∷ []) (is_head g (sort_view c.args.sort.now)) (clauses_view c.loop-head.found.items) _ before after h e (sym c.is_head.ensures ∙ c.if-is_head.false) c.loop-head.invariant.0, c.next.ensures.signature ∙ c.loop-head.invariant.1)
