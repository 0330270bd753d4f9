use Rattle.kp_registry.proofs.LegalLemmas.{stays_legal}
use Rattle.kp_registry.proofs.laws.a_fitting_entry_keeps_a_book_legal.Goals as goal

pub returns : goal.returns
returns c = stays_legal
