use Rattle.std.proofs.Common.{◌≡◌, ◌++◌, drop, map}
use Rattle.kp_kore.specs.View.{module_view}
use Rattle.kp_claims.specs.Claims.{counted}
use Rattle.kp_claims.specs.Sentences.{seen}
use Rattle.kp_claims.proofs.sentences.counted_sentences.Given as goal

abbrev pub invariant-loop-module : goal.invariant-loop-module
invariant-loop-module l =
    seen l.found.items ++ counted (map module_view (drop l.module-index l.modules)) ≡ counted (map module_view l.modules)
