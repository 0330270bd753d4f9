-- What a name means stays when the book grows; axioms that are apart stand once.
use Rattle.std.proofs.Common.{◌≡◌, refl, sym, ap, suc, length, subst, ◌∙◌, append-nil, append_assoc, Bool, true, false, List, [], ◌∷◌, ◌++◌, Option, Some, None}
use Rattle.std.specs.Prelude.{if◌then◌else◌, ⊤}
use Rattle.std.specs.List.{list_any}
use Rattle.kp_kore.specs.Syntax.{Text}
use Rattle.kp_kore.specs.Theory.{NumberedAxiom}
use Rattle.kp_book.specs.Books.{Opening, Registration, binds, rules_in, rules_bound, first_of, meaning_in, is_same_axiom, each_axiom_once, Grows, Seen, SeenGrows, at_book, with_own}

bound_stays : (name : Text) (book more : List Registration) (axioms : List NumberedAxiom) → rules_bound book name ≡ Some axioms → rules_bound (book ++ more) name ≡ Some axioms
bound_stays name [] more axioms e = absurd (cc)
bound_stays name (r ∷ rs) more axioms e = by_test (binds name r) e (λ h. bound_stays name rs more axioms h)
  where
    by_test : (b : Bool) → (if b then Some r.axioms else rules_bound rs name) ≡ Some axioms → (rules_bound rs name ≡ Some axioms → rules_bound (rs ++ more) name ≡ Some axioms) → (if b then Some r.axioms else rules_bound (rs ++ more) name) ≡ Some axioms
    by_test true e rest = e
    by_test false e rest = rest e

pub meaning_stays : (o : Opening) (book later : List Registration) (name : Text) (axioms : List NumberedAxiom) → Grows book later → meaning_in o book name ≡ Some axioms → meaning_in o later name ≡ Some axioms
meaning_stays o book later name axioms grows e = subst (λ b. meaning_in o b name ≡ Some axioms) (sym grows.1) (by_opening (rules_in o.modules name) e)
  where
    by_opening : (r : Option (List NumberedAxiom)) → first_of r (rules_bound book name) ≡ Some axioms → first_of r (rules_bound (book ++ grows.0) name) ≡ Some axioms
    by_opening (Some x) e = e
    by_opening None e = bound_stays name book grows.0 axioms e

-- ---- what is seen grows

pub grows_none : (book : List Registration) → Grows book book
grows_none book = ([], sym (append-nil book))

pub grows_on : (before between after : List Registration) → Grows before between → Grows between after → Grows before after
grows_on before between after p q = (p.0 ++ q.0, q.1 ∙ ap (λ x. x ++ q.0) p.1 ∙ append_assoc before p.0 q.0)

pub seen_grows_none : (seen : Seen) → SeenGrows seen seen
seen_grows_none seen = record { book = grows_none seen.book; own = ([], sym (append-nil seen.own)) }

pub seen_grows_on : (before between after : Seen) → SeenGrows before between → SeenGrows between after → SeenGrows before after
seen_grows_on before between after p q = record {
  book = grows_on before.book between.book after.book p.book q.book;
  own = (p.own.0 ++ q.own.0, q.own.1 ∙ ap (λ x. x ++ q.own.0) p.own.1 ∙ append_assoc before.own p.own.0 q.own.0);
}

-- where the book alone grows, or gets an entry of the pass's own behind
pub at_grows : (at : List Registration) (seen : Seen) → Grows seen.book at → SeenGrows seen (at_book at seen)
at_grows at seen grows = record { book = grows; own = ([], sym (append-nil seen.own)) }

pub own_grows : (between : List Registration) (r : Registration) (seen : Seen) → Grows seen.book between → SeenGrows seen (with_own between r seen.own)
own_grows between r seen grows = record { book = grows_on seen.book between (between ++ r ∷ []) grows (r ∷ [], refl); own = (suc (length between) ∷ [], refl) }

-- no two of the list are the same axiom
pub AreApart : List NumberedAxiom → List NumberedAxiom → Type 0
AreApart seen [] = ⊤
AreApart seen (a ∷ rest) = (list_any (is_same_axiom a) seen ≡ false) × AreApart (a ∷ seen) rest

pub once_already : (seen axioms : List NumberedAxiom) → AreApart seen axioms → each_axiom_once seen axioms ≡ axioms
unfolding AreApart
once_already seen [] h = refl
once_already seen (a ∷ rest) h = rw h.0 (ap (λ xs. a ∷ xs) (once_already (a ∷ seen) rest h.1))
