use Rattle.std.proofs.Common.{List, ◌++◌, map, take}
use Rattle.kp_kore.specs.Syntax.{KoreSentence}
use Rattle.kp_kore.specs.View.{sentence_view}
use Rattle.kp_signature.specs.Table.{IsTableOf}
use Rattle.kp_signature.proofs.table.DeclarationTable.add_all.Given as goal

abbrev pub invariant-loop-sentence : goal.invariant-loop-sentence
invariant-loop-sentence l = (before : List KoreSentence) → IsTableOf l.fn.self before → IsTableOf l.self (before ++ map sentence_view (take l.sentence-index l.sentences))
