use Rattle.std.proofs.Common.{◌≡◌, sym, subst, true, false}
use Rattle.std.specs.Prelude.{OnOk, IfErr}
use Rattle.std.specs.List.{list_all}
use Rattle.kp_kore.specs.Instance.{Valuation}
use Rattle.kp_ground.specs.Slots.{term_reads}
use Rattle.kp_ground.specs.Solves.{Solves, bound_names}
use Rattle.kp_ground.specs.declared.evaluate.EvaluationError.TheVariants.{Number}
use Rattle.kp_rules.specs.WideParts.{all_narrow}
use Rattle.kp_successors.proofs.narrow.narrow.Goals as goal

pub evaluate_each-requires : goal.evaluate_each-requires
evaluate_each-requires c =
    let side = c.args.side.now in
    subst (λ ts. list_all (term_reads (bound_names c.args.bindings.now)) ts ≡ true) (sym c.deref.ensures.value) (subst (λ xs. list_all (term_reads xs) side.parts.items ≡ true) c.requires side.bound)

pub returns-clause-narrow : goal.returns-clause-narrow
returns-clause-narrow c = subst (λ ts. OnOk c.evaluate_each.result ((v : Valuation) → Solves v c.args.bindings.now → all_narrow v ts ≡ true)) c.deref.ensures.value c.evaluate_each.ensures.narrow

pub returns-clause-wide : goal.returns-clause-wide
returns-clause-wide c = subst (λ ts. IfErr c.evaluate_each.result (λ e. e ≡ Number → (v : Valuation) → Solves v c.args.bindings.now → all_narrow v ts ≡ false)) c.deref.ensures.value c.evaluate_each.ensures.wide
