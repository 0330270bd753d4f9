use Rattle.std.specs.Int.{w128}
use Rattle.std.proofs.Common.{rules, ◌≡◌, sym, ◌∙◌, ap, neg_ℤ, to_z, of_z}
use Rattle.std.proofs.lemmas.Result.{IfOk-weaker}
use Rattle.kp_signature.specs.View.{signature_view}
use Rattle.kp_symbolic.specs.Folding.{summed}
use Rattle.kp_symbolic.specs.View.{term_view}
use Rattle.kp_symbolic.proofs.SumLemmas.{right_subtracted}
use Rattle.kp_symbolic.proofs.sum.less_constant.Goals as goal

pub returns-in-Some : goal.returns-in-Some
returns-in-Some c =
    let g = signature_view c.args.language.now.signature.now in
    let n = c.in-Some.number in
    let same : neg_ℤ n ≡ neg_ℤ (to_z w128 (of_z w128 n)) = ap neg_ℤ (search rules) in
    IfOk-weaker c.summed.result _ _
    (λ t told. told ∙ ap (λ o. summed g o (neg_ℤ n) (term_view c.args.call)) c.sum_of-sum.ensures
    ∙ sym (right_subtracted g (term_view c.args.left.now) (term_view c.args.right.now) n (term_view c.args.call) (sym c.whole_of.ensures ∙ c.in-Some.is)))
    (c.summed.ensures (neg_ℤ n) same)
