use Rattle.std.proofs.Common.{◌≡◌, ◌++◌, map, drop}
use Rattle.kp_symbolic.specs.Solving.{is_single}
use Rattle.kp_symbolic.specs.Languages.{language_view}
use Rattle.kp_symbolic.specs.View.{literal_view, replaced_view}
use Rattle.kp_formulas.specs.Distribution.{distributions_of}
use Rattle.kp_formulas.specs.DistributionView.{distributed_view}
use Rattle.kp_clause_substitution.specs.Replacing.{all_opened_under}
use Rattle.kp_clause_substitution.proofs.clause.open_literals.Given as goal

abbrev pub invariant-loop-literal : goal.invariant-loop-literal
invariant-loop-literal l =
    map distributed_view l.found.items ++ distributions_of (all_opened_under (language_view l.language) (map replaced_view l.by) (is_single (map literal_view l.literals)) (map literal_view (drop l.literal-index l.literals)))
    ≡ distributions_of (all_opened_under (language_view l.language) (map replaced_view l.by) (is_single (map literal_view l.literals)) (map literal_view l.literals))
