use Rattle.std.proofs.Common.{◌≡◌, ◌++◌, map, string_bytes, drop}
use Rattle.kp_kore.specs.View.{sentence_view}
use Rattle.kp_print.specs.Printed.{sentences_text}
use Rattle.kp_print.proofs.modules.push_sentences.Given as goal

-- what is written and what is left make the whole
abbrev pub invariant-loop-sentence : goal.invariant-loop-sentence
invariant-loop-sentence l = string_bytes l.text ++ sentences_text (map sentence_view (drop l.sentence-index l.sentences)) ≡ string_bytes l.fn.text ++ sentences_text (map sentence_view l.sentences)
