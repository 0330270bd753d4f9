use Rattle.kp_book.proofs.BookLemmas.{meaning_stays}
use Rattle.kp_book.proofs.laws.the_meaning_of_a_name_stays.Goals as goal

pub returns : goal.returns
returns c = meaning_stays
