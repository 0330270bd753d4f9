use Rattle.std.proofs.Common.{◌∙◌, ap, sym}
use Rattle.kp_text.specs.Sentences.{sentence_step}
use Rattle.kp_text.proofs.SentenceWords.{by_sentence_is}
use Rattle.kp_text.proofs.sentences.sentence_word.Goals as goal

pub returns : goal.returns
returns c = λ so_far k. by_sentence_is so_far k c.args.word.now ∙ ap (sentence_step so_far k) (sym c.word_of.ensures)
