use Rattle.std.proofs.Common.{rules, ◌≡◌, ◌∙◌, sym, ap, subst, ◌++◌, ◌∷◌, [], map, true, ◌&&◌}
use Rattle.std.specs.List.{filter}
use Rattle.std.proofs.lemmas.List.{map-append}
use Rattle.std.specs.Option.{option_map}
use Rattle.kp_kore.specs.Signature.{is_head, heads_of}
use Rattle.kp_kore.specs.View.{sort_view}
use Rattle.kp_signature.specs.View.{signature_view}
use Rattle.kp_symbolic.specs.Heads.{passes_head}
use Rattle.kp_sort_heads.specs.Remaining.{IsNext}
use Rattle.kp_sort_heads.specs.Views.{head_view, left_of}
use Rattle.kp_symbolic.specs.View.{variable_view, test_view, literal_view}
use Rattle.kp_case_laws.specs.Narrowings.{tested}
use Rattle.kp_unify.proofs.HeadLists.{taken, left_out, none_left, both_tests}
use Rattle.kp_unify.proofs.head_clauses.add_shared.Goals as goal

pub loop-head-init : goal.loop-head-init
loop-head-init c =
    let g = signature_view c.args.signature.now in
    let x = variable_view c.args.variable.now.value in
    let left : left_of c.heads-left.result ≡ heads_of g x.sort = search rules in
    (ap (λ hs. map literal_view c.args.found.now.items ++ map (tested g true x) (filter (λ h. is_head g (sort_view c.args.sort.now) h && passes_head g (test_view c.args.test.now) h) hs)) left, c.heads-left.ensures.signature)

pub loop-head-preserved-in_ok-push : goal.loop-head-preserved-in_ok-push
loop-head-preserved-in_ok-push c =
    let g = signature_view c.args.signature.now in
    let x = variable_view c.args.variable.now.value in
    let h = head_view c.in-Some.head in
    let before = left_of c.loop-head.left in
    let after = left_of c.next.new.self in
    let e : before ≡ h ∷ after = subst (λ o. IsNext (option_map head_view o) before after) c.in-Some.is c.next.ensures.next in
    let more : map literal_view c.push.new.self.items ≡ map literal_view c.loop-head.found.items ++ tested g true x h ∷ [] = ap (map literal_view) c.in_ok-push.ensures.items ∙ map-append literal_view c.loop-head.found.items (c.in_ok-tested.field-0 ∷ []) ∙ ap (λ l. map literal_view c.loop-head.found.items ++ l ∷ []) c.in_ok-tested.ensures in
    (taken (tested g true x) (λ h. is_head g (sort_view c.args.sort.now) h && passes_head g (test_view c.args.test.now) h) (map literal_view c.loop-head.found.items) (map literal_view c.push.new.self.items) _ before after h e (sym c.is_shared.ensures ∙ c.if-is_shared.true) more c.loop-head.invariant.0, c.next.ensures.signature ∙ c.loop-head.invariant.1)

pub loop-head-preserved : goal.loop-head-preserved
loop-head-preserved c =
    let g = signature_view c.args.signature.now in
    let x = variable_view c.args.variable.now.value in
    let h = head_view c.in-Some.head in
    let before = left_of c.loop-head.left in
    let after = left_of c.next.new.self in
    let e : before ≡ h ∷ after = subst (λ o. IsNext (option_map head_view o) before after) c.in-Some.is c.next.ensures.next in
    (left_out (tested g true x) (λ h. is_head g (sort_view c.args.sort.now) h && passes_head g (test_view c.args.test.now) h) (map literal_view c.loop-head.found.items) _ before after h e (sym c.is_shared.ensures ∙ c.if-is_shared.false) c.loop-head.invariant.0, c.next.ensures.signature ∙ c.loop-head.invariant.1)

pub returns : goal.returns
returns c =
    let g = signature_view c.args.signature.now in
    let x = variable_view c.args.variable.now.value in
    let before = left_of c.loop-head.left in
    let after = left_of c.next.new.self in
    let e = subst (λ o. IsNext (option_map head_view o) before after) c.in_default.is c.next.ensures.next in
    none_left (tested g true x) (λ h. is_head g (sort_view c.args.sort.now) h && passes_head g (test_view c.args.test.now) h) (map literal_view c.loop-head.found.items) _ before e.0 c.loop-head.invariant.0
    ∙ ap (λ hs. map literal_view c.args.found.now.items ++ map (tested g true x) hs) (both_tests (is_head g (sort_view c.args.sort.now)) (passes_head g (test_view c.args.test.now)) (heads_of g x.sort))
