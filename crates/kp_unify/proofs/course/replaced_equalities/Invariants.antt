use Rattle.std.proofs.Common.{◌≡◌, ◌++◌, map, drop}
use Rattle.kp_symbolic.specs.Languages.{language_view}
use Rattle.kp_symbolic.specs.View.{replaced_view}
use Rattle.kp_unify.specs.Views.{equality_view}
use Rattle.kp_unify.specs.Replaced.{equality_put}
use Rattle.kp_unify.proofs.course.replaced_equalities.Given as goal

abbrev pub invariant-loop-equality : goal.invariant-loop-equality
invariant-loop-equality l =
    let put = equality_put (language_view l.language) (map replaced_view l.by) in
    map equality_view l.found.items ++ map put (map equality_view (drop l.equality-index l.equalities)) ≡ map put (map equality_view l.equalities)
