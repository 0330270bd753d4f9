use Rattle.std.proofs.Common.{◌≡◌, ◌++◌, map, drop}
use Rattle.kp_formulas.specs.FormulaView.{formula_view, formulas_of}
use Rattle.kp_formulas.specs.Distribution.{distributions_of}
use Rattle.kp_formulas.specs.DistributionView.{distributed_view}
use Rattle.kp_formulas.proofs.distributing.+distribute.Given as goal

abbrev pub invariant-distribute_each-loop-formula : goal.invariant-distribute_each-loop-formula
invariant-distribute_each-loop-formula l =
    map distributed_view l.found.items ++ distributions_of (formulas_of (map formula_view (drop l.formula-index l.formulas)))
    ≡ distributions_of (formulas_of (map formula_view l.formulas))
