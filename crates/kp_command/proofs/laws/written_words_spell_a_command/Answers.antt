use Rattle.kp_command.proofs.WrittenWords.{written_prove, written_stdio}
use Rattle.kp_command.proofs.laws.written_words_spell_a_command.Goals as goal

pub returns : goal.returns
returns c = record { stdio = written_stdio; prove = written_prove }
