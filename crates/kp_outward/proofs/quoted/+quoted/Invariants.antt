use Rattle.std.proofs.Common.{◌≡◌, ◌++◌, map, drop}
use Rattle.kp_kore.specs.View.{view, patterns_view}
use Rattle.kp_signature.specs.View.{signature_view}
use Rattle.kp_symbolic.specs.Writing.{written_under}
use Rattle.kp_symbolic_laws.specs.Runs.{AllHaveRoom}
use Rattle.kp_symbolic.specs.View.{replaced_view}
use Rattle.kp_outward.proofs.quoted.+quoted.Given as goal

abbrev pub invariant-all_quoted-loop-pattern : goal.invariant-all_quoted-loop-pattern
invariant-all_quoted-loop-pattern l =
    (map view l.found.items ++ map (λ p. written_under (signature_view l.language.signature.now) (map replaced_view l.replaced) (view p)) (drop l.pattern-index l.patterns)
    ≡ map (λ p. written_under (signature_view l.language.signature.now) (map replaced_view l.replaced) (view p)) l.patterns)
    × (AllHaveRoom (map replaced_view l.replaced) (patterns_view (drop l.pattern-index l.patterns)) → AllHaveRoom (map replaced_view l.replaced) (patterns_view l.patterns))
