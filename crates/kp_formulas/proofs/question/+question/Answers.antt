use Rattle.std.proofs.Common.{rules, ◌≡◌, sym, subst, map, IfOk}
use Rattle.std.specs.Option.{option_map}
use Rattle.kp_kore.specs.Syntax.{equals, membership}
use Rattle.kp_kore.specs.View.{view, sort_view}
use Rattle.kp_kore.specs.declared.pattern.Pattern.{the_lemmas}
use Rattle.kp_signature.specs.View.{signature_view}
use Rattle.kp_symbolic.specs.Opening.{head_question}
use Rattle.kp_formulas.specs.LeafView.{bound_view, question_view}
use Rattle.kp_formulas.proofs.question.+question.Goals as goal

pub returns-in-Equals : goal.returns-in-Equals
returns-in-Equals t c =
    let g = signature_view c.args.signature.now in
    let a = sort_view c.in-Equals.argument_sort in
    let s = sort_view c.in-Equals.sort in
    let is : view c.args.pattern.now ≡ equals a s (view c.in-Equals.left.value) (view c.in-Equals.right.value) = search (rules, the_lemmas) in
    subst (λ p. IfOk c.ask_equality.result (λ q. option_map question_view q ≡ head_question g (map bound_view c.args.bound.items) p)) (sym is)
    (subst (λ xs. IfOk c.ask_equality.result (λ q. option_map question_view q ≡ head_question g (map bound_view xs) (equals a s (view c.in-Equals.left.value) (view c.in-Equals.right.value)))) c.deref-in-Equals.ensures.value
    (subst (λ p. IfOk c.ask_equality.result (λ q. option_map question_view q ≡ head_question g (map bound_view c.deref-in-Equals.result.now) (equals a s (view p) (view c.in-Equals.right.value)))) c.deref-in-Equals-2.ensures
    (subst (λ p. IfOk c.ask_equality.result (λ q. option_map question_view q ≡ head_question g (map bound_view c.deref-in-Equals.result.now) (equals a s (view c.deref-in-Equals-2.result.now) (view p)))) c.deref-in-Equals-3.ensures
    c.ask_equality.ensures)))

pub returns-in-In : goal.returns-in-In
returns-in-In t c =
    let g = signature_view c.args.signature.now in
    let a = sort_view c.in-In.argument_sort in
    let s = sort_view c.in-In.sort in
    let is : view c.args.pattern.now ≡ membership a s (view c.in-In.left.value) (view c.in-In.right.value) = search (rules, the_lemmas) in
    subst (λ p. IfOk c.ask_equality-in-In.result (λ q. option_map question_view q ≡ head_question g (map bound_view c.args.bound.items) p)) (sym is)
    (subst (λ xs. IfOk c.ask_equality-in-In.result (λ q. option_map question_view q ≡ head_question g (map bound_view xs) (membership a s (view c.in-In.left.value) (view c.in-In.right.value)))) c.deref-in-In.ensures.value
    (subst (λ p. IfOk c.ask_equality-in-In.result (λ q. option_map question_view q ≡ head_question g (map bound_view c.deref-in-In.result.now) (membership a s (view p) (view c.in-In.right.value)))) c.deref-in-In-2.ensures
    (subst (λ p. IfOk c.ask_equality-in-In.result (λ q. option_map question_view q ≡ head_question g (map bound_view c.deref-in-In.result.now) (membership a s (view c.deref-in-In-2.result.now) (view p)))) c.deref-in-In-3.ensures
    c.ask_equality-in-In.ensures)))
