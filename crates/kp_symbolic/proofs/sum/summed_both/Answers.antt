use Rattle.std.specs.Int.{w128}
use Rattle.std.proofs.Common.{rules, ◌≡◌, sym, ◌∙◌, ap, subst, IfOk, to_z, of_z}
use Rattle.kp_symbolic.specs.Folding.{summed}
use Rattle.kp_signature.specs.View.{signature_view}
use Rattle.kp_symbolic.specs.View.{term_view}
use Rattle.kp_symbolic.proofs.SumLemmas.{right_added, left_added}
use Rattle.kp_symbolic.proofs.sum.summed_both.Goals as goal

pub returns-in-Some : goal.returns-in-Some
returns-in-Some c =
    let g = signature_view c.args.language.now.signature.now in
    let n = c.in-Some.number in
    let same : n ≡ to_z w128 (of_z w128 n) = search rules in
    subst (λ u. IfOk c.summed.result (λ t. term_view t ≡ u))
    (ap (λ o. summed g o n (term_view c.args.call)) c.sum_of-sum.ensures
    ∙ sym (right_added g (term_view c.args.left.now) (term_view c.args.right.now) n (term_view c.args.call) (sym c.whole_of.ensures ∙ c.in-Some.is)))
    (c.summed.ensures n same)

pub returns-in-Some-whole_of : goal.returns-in-Some-whole_of
returns-in-Some-whole_of c =
    let g = signature_view c.args.language.now.signature.now in
    let n = c.in-Some-whole_of.number in
    let same : n ≡ to_z w128 (of_z w128 n) = search rules in
    subst (λ u. IfOk c.summed-in-Some-whole_of.result (λ t. term_view t ≡ u))
    (ap (λ o. summed g o n (term_view c.args.call)) c.sum_of-sum-in-Some-whole_of.ensures
    ∙ sym (left_added g (term_view c.args.left.now) (term_view c.args.right.now) n (term_view c.args.call) (sym c.whole_of.ensures ∙ c.in_default.is) (sym c.whole_of-2.ensures ∙ c.in-Some-whole_of.is)))
    (c.summed-in-Some-whole_of.ensures n same)
