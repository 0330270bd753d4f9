use Rattle.std.proofs.Common.{◌≡◌, ◌++◌, map, drop}
use Rattle.kp_symbolic.specs.Languages.{language_view}
use Rattle.kp_symbolic.specs.View.{replaced_view}
use Rattle.kp_unify.specs.Replaced.{binding_put}
use Rattle.kp_unify.proofs.course.replaced_bindings.Given as goal

abbrev pub invariant-loop-binding : goal.invariant-loop-binding
invariant-loop-binding l =
    let put = binding_put (language_view l.language) (map replaced_view l.by) in
    map replaced_view l.found.items ++ map put (map replaced_view (drop l.binding-index l.bindings)) ≡ map put (map replaced_view l.bindings)
