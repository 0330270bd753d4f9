-- A book that an entry fits stays legal.
use Rattle.std.proofs.Common.{sym, subst, arith, List, [], ◌∷◌, ◌++◌, length, ◌<◌, append_assoc, append-nil, length-append}
use Rattle.kp_book.specs.Books.{Opening, Registration, most_entries}
use Rattle.kp_registry.specs.Legal.{Fits, AreLegalFrom, IsLegal}

legal_behind : (o : Opening) (before book : List Registration) (r : Registration) → AreLegalFrom o before book → Fits o (before ++ book) r → AreLegalFrom o before (book ++ r ∷ [])
legal_behind o before [] r legal fits = (subst (λ b. Fits o b r) (append-nil before) fits, tt)
legal_behind o before (q ∷ qs) r legal fits = (legal.0, legal_behind o (before ++ q ∷ []) qs r legal.1 (subst (λ b. Fits o b r) (sym (append_assoc before (q ∷ []) qs)) fits))

pub stays_legal : (o : Opening) (book : List Registration) (r : Registration) → IsLegal o book → length book < most_entries → Fits o book r → IsLegal o (book ++ r ∷ [])
stays_legal o book r legal room fits = record {
  entries = legal_behind o [] book r legal.entries fits;
  room = omega (arith, room, length-append book (r ∷ []));
}
