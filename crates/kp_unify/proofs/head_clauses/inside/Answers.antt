use Rattle.std.proofs.Common.{rules, ◌≡◌, ◌∙◌, ap, subst, ◌++◌, ◌∷◌, [], true, false, map, not}
use Rattle.std.proofs.lemmas.List.{map-append}
use Rattle.std.specs.Option.{option_map}
use Rattle.kp_kore.specs.Signature.{is_head, heads_of}
use Rattle.kp_kore.specs.View.{sort_view}
use Rattle.kp_signature.specs.View.{signature_view}
use Rattle.kp_sort_heads.specs.Remaining.{IsNext}
use Rattle.kp_sort_heads.specs.Views.{head_view, left_of}
use Rattle.kp_symbolic.specs.View.{variable_view, clause_view, clauses_view}
use Rattle.kp_unify.specs.Heads.{clause_without}
use Rattle.kp_unify.proofs.HeadLists.{begins, taken, left_out}
use Rattle.kp_unify.proofs.head_clauses.inside.Goals as goal

pub loop-head-init : goal.loop-head-init
loop-head-init c =
    let g = signature_view c.args.signature.now in
    let x = variable_view c.args.variable.now.value in
    let left : left_of c.heads-left.result ≡ heads_of g x.sort = search rules in
    let none : clauses_view c.new-found.result.items ≡ [] = search rules in
    (begins (clause_without g x (sort_view c.args.sort.now)) (λ h. not (is_head g (sort_view c.args.sort.now) h)) (clauses_view c.new-found.result.items) (left_of c.heads-left.result) (heads_of g x.sort) none left, c.heads-left.ensures.signature)

pub loop-head-preserved-in_ok-push : goal.loop-head-preserved-in_ok-push
loop-head-preserved-in_ok-push c =
    let g = signature_view c.args.signature.now in
    let x = variable_view c.args.variable.now.value in
    let h = head_view c.in-Some.head in
    let before = left_of c.loop-head.left in
    let after = left_of c.next.new.self in
    let e : before ≡ h ∷ after = subst (λ o. IsNext (option_map head_view o) before after) c.in-Some.is c.next.ensures.next in
    let k : is_head g (sort_view c.args.sort.now) h ≡ false = let p = c.if-not-is_head.true in let q = c.is_head.ensures in cc in
    let more : clauses_view c.push.new.self.items ≡ clauses_view c.loop-head.found.items ++ clause_without g x (sort_view c.args.sort.now) h ∷ [] = ap (map clause_view) c.in_ok-push.ensures.items ∙ map-append clause_view c.loop-head.found.items (c.in_ok-hasnt.field-0 ∷ []) ∙ ap (λ l. clauses_view c.loop-head.found.items ++ l ∷ []) c.in_ok-hasnt.ensures in
    (taken (clause_without g x (sort_view c.args.sort.now)) (λ h. not (is_head g (sort_view c.args.sort.now) h)) (clauses_view c.loop-head.found.items) (clauses_view c.push.new.self.items) _ before after h e (ap not k) more c.loop-head.invariant.0, c.next.ensures.signature ∙ c.loop-head.invariant.1)

pub loop-head-preserved : goal.loop-head-preserved
loop-head-preserved c =
    let g = signature_view c.args.signature.now in
    let x = variable_view c.args.variable.now.value in
    let h = head_view c.in-Some.head in
    let before = left_of c.loop-head.left in
    let after = left_of c.next.new.self in
    let e : before ≡ h ∷ after = subst (λ o. IsNext (option_map head_view o) before after) c.in-Some.is c.next.ensures.next in
    let k : is_head g (sort_view c.args.sort.now) h ≡ true = let p = c.if-not-is_head.false in let q = c.is_head.ensures in cc in
    (left_out (clause_without g x (sort_view c.args.sort.now)) (λ h. not (is_head g (sort_view c.args.sort.now) h)) (clauses_view c.loop-head.found.items) _ before after h e (ap not k) c.loop-head.invariant.0, c.next.ensures.signature ∙ c.loop-head.invariant.1)
