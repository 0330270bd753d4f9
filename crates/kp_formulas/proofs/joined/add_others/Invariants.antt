use Rattle.std.proofs.Common.{◌≡◌, ◌++◌, not, map, drop}
use Rattle.std.specs.List.{filter, list_any}
use Rattle.kp_symbolic.specs.Alike.{literals_same}
use Rattle.kp_symbolic.specs.View.{literal_view}
use Rattle.kp_formulas.proofs.joined.add_others.Given as goal

abbrev pub invariant-loop-literal : goal.invariant-loop-literal
invariant-loop-literal l =
    map literal_view l.found.items ++ filter (λ m. not (list_any (literals_same m) (map literal_view l.first))) (map literal_view (drop l.literal-index l.second))
    ≡ map literal_view l.fn.found.items ++ filter (λ m. not (list_any (literals_same m) (map literal_view l.first))) (map literal_view l.second)
