use Rattle.std.proofs.Common.{◌≡◌, map, take, false}
use Rattle.std.specs.List.{AllByRecursion}
use Rattle.kp_kore.specs.View.{sentence_view}
use Rattle.kp_modules.specs.Extending.{is_declaration}
use Rattle.kp_modules.proofs.extension.check_sentences.Given as goal

abbrev pub invariant-loop-i : goal.invariant-loop-i
invariant-loop-i l = AllByRecursion (λ s. is_declaration s ≡ false) (map sentence_view (take l.i l.sentences))
