use Rattle.std.proofs.Common.{rules, ◌≡◌, ◌∙◌, ap, subst, map}
use Rattle.std.specs.Result.{IfOk}
use Rattle.kp_kore.specs.View.{view}
use Rattle.kp_compile.specs.Parts.{seen}
use Rattle.kp_symbolic.specs.Languages.{language_view}
use Rattle.kp_symbolic.specs.View.{clauses_view, replaced_view}
use Rattle.kp_step.specs.Conditions.{condition_clauses}
use Rattle.kp_step.proofs.firing.condition_of.Goals as goal

pub returns : goal.returns
returns c =
    let g = language_view c.args.language.now in
    let rs = map replaced_view c.args.bindings.now in
    let same : seen c.deref-2.result.now ≡ seen c.in_ok-condition.condition.items = ap seen c.deref-2.ensures.value in
    let lent : seen c.in_ok-condition.condition.items ≡ map view c.args.sides.now.condition.items = search rules in
    subst (λ ps. IfOk c.clauses_of_all.result (λ cs. clauses_view cs.items ≡ condition_clauses g rs ps)) (same ∙ lent) c.clauses_of_all.ensures.made
