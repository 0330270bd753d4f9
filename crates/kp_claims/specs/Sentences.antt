-- Lists of lent sentences.
use Rattle.std.specs.Prelude.{List, map}
use Rattle.std.specs.Borrow.{Bor}
use Rattle.kp_kore.specs.Syntax.{KoreSentence}
use Rattle.kp_kore.specs.View.{sentence_view}
use Rattle.kp_kore.specs.declared.sentence.Sentence.{Sentence}

abbrev pub seen : List (Bor Sentence) → List KoreSentence
seen = map (λ s. sentence_view s.now)
