use Rattle.std.proofs.Common.{◌≡◌, ◌++◌, map, drop, string_bytes}
use Rattle.kp_kore.specs.View.{sort_view}
use Rattle.kp_symbolic.specs.Writing.{renamed}
use Rattle.kp_symbolic.specs.View.{replaced_view}
use Rattle.kp_outward.proofs.binder.renamed.Given as goal

abbrev pub invariant-loop-one : goal.invariant-loop-one
invariant-loop-one l =
    map replaced_view l.found.items ++ map replaced_view (drop l.one-index l.replaced)
    ≡ renamed (string_bytes l.name) (string_bytes l.other) (sort_view l.sort) (map replaced_view l.replaced)
