use Rattle.std.proofs.Common.{◌≡◌, ◌++◌, ◌&&◌, not, map, drop, is_some}
use Rattle.std.specs.List.{filter}
use Rattle.kp_kore.specs.View.{sorted_variable_view}
use Rattle.kp_kore.specs.Instance.{is_named}
use Rattle.kp_symbolic.specs.Terms.{replacement_for}
use Rattle.kp_symbolic.specs.View.{replaced_view}
use Rattle.kp_clause_substitution.proofs.quoted.add_new.Given as goal

abbrev pub invariant-loop-one : goal.invariant-loop-one
invariant-loop-one l =
    map replaced_view l.found.items ++ filter (λ q. is_named q.name (map sorted_variable_view l.variables) && not (is_some (replacement_for (map replaced_view l.replaced) q.name))) (map replaced_view (drop l.one-index l.by))
    ≡ map replaced_view l.fn.found.items ++ filter (λ q. is_named q.name (map sorted_variable_view l.variables) && not (is_some (replacement_for (map replaced_view l.replaced) q.name))) (map replaced_view l.by)
