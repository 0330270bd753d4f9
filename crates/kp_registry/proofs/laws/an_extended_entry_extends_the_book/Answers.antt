use Rattle.kp_registry.proofs.Extended.{extended_extends}
use Rattle.kp_registry.proofs.laws.an_extended_entry_extends_the_book.Goals as goal

pub returns : goal.returns
returns c = extended_extends
