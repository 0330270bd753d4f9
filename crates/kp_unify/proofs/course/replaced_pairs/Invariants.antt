use Rattle.std.proofs.Common.{◌≡◌, ◌++◌, map, drop}
use Rattle.kp_symbolic.specs.Languages.{language_view}
use Rattle.kp_symbolic.specs.View.{replaced_view}
use Rattle.kp_unify.specs.Views.{pair_view}
use Rattle.kp_unify.specs.Replaced.{pair_put}
use Rattle.kp_unify.proofs.course.replaced_pairs.Given as goal

abbrev pub invariant-loop-pair : goal.invariant-loop-pair
invariant-loop-pair l =
    let put = pair_put (language_view l.language) (map replaced_view l.by) in
    map pair_view l.found.items ++ map put (map pair_view (drop l.pair-index l.pairs)) ≡ map put (map pair_view l.pairs)
