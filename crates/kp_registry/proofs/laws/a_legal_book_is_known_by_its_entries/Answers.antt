use Rattle.kp_registry.proofs.KnownBooks.{one_legal_book}
use Rattle.kp_registry.proofs.laws.a_legal_book_is_known_by_its_entries.Goals as goal

pub returns : goal.returns
returns c = one_legal_book
