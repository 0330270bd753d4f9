use Rattle.std.proofs.Common.{◌≡◌, ◌≤◌, ◌+◌, ◌++◌, drop, map, string_bytes}
use Rattle.kp_kore.specs.View.{sentence_view}
use Rattle.kp_kore.specs.Theory.{rewrite_axioms_from}
use Rattle.kp_modules.specs.Axioms.{axioms_view}
use Rattle.kp_modules.proofs.axioms.add_axioms.Given as goal

abbrev pub invariant-loop-sentence : goal.invariant-loop-sentence
invariant-loop-sentence l =
    let from = rewrite_axioms_from (string_bytes l.fn.key) in
    (l.number ≤ l.sentence-index)
    × (axioms_view l.found.items ++ from (l.number + 1) (map sentence_view (drop l.sentence-index l.sentences)) ≡ axioms_view l.fn.found.items ++ from 1 (map sentence_view l.sentences))
