use Rattle.std.proofs.Common.{◌≡◌, ◌++◌, drop, map}
use Rattle.std.specs.List.{filter}
use Rattle.kp_kore.specs.View.{sentence_view}
use Rattle.kp_claims.specs.Claims.{counts}
use Rattle.kp_claims.specs.Sentences.{seen}
use Rattle.kp_claims.proofs.sentences.add_counted.Given as goal

abbrev pub invariant-loop-sentence : goal.invariant-loop-sentence
invariant-loop-sentence l =
    seen l.found.items ++ filter counts (map sentence_view (drop l.sentence-index l.sentences)) ≡ seen l.fn.found.items ++ filter counts (map sentence_view l.sentences)
