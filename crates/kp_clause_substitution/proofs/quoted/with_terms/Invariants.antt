use Rattle.std.proofs.Common.{◌≡◌, ◌++◌, map, drop}
use Rattle.kp_symbolic.specs.Languages.{language_view}
use Rattle.kp_symbolic.specs.View.{replaced_view}
use Rattle.kp_clause_substitution.specs.Replacing.{with_terms}
use Rattle.kp_clause_substitution.proofs.quoted.with_terms.Given as goal

abbrev pub invariant-loop-one : goal.invariant-loop-one
invariant-loop-one l =
    map replaced_view l.found.items ++ with_terms (language_view l.language) (map replaced_view l.by) (map replaced_view (drop l.one-index l.replaced))
    ≡ with_terms (language_view l.language) (map replaced_view l.by) (map replaced_view l.replaced)
