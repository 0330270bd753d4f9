-- A text that is added again.
use Rattle.std.proofs.Common.{◌≡◌, refl, sym, ap, subst, ◌∙◌, ℕ, Bool, List, [], ◌∷◌, ◌++◌, Option, Some, None, unwrap_or}
use Rattle.std.specs.List.{AllByRecursion, AllZip}
use Rattle.kp_kore.specs.Syntax.{Text, KoreModule}
use Rattle.kp_text.specs.Spelling.{SpellsModule}
use Rattle.kp_kore.specs.Theory.{NumberedAxiom, imports_in}
use Rattle.kp_book.specs.Books.{Opening, Registration, meaning_in, extended}
use Rattle.kp_book.proofs.BookLemmas.{meaning_stays}
use Rattle.kp_registry.specs.Legal.{id_of}
use Rattle.kp_registry.specs.Passes.{own_name_asked}
use Rattle.kp_additions.specs.Added.{IsAdded}

-- what names mean is one list of lists
meant_once : (o : Opening) (book later : List Registration) (names : List Text) (xs ys : List (List NumberedAxiom)) → ((n : Text) (a : List NumberedAxiom) → meaning_in o book n ≡ Some a → meaning_in o later n ≡ Some a) →
    AllZip (λ n a. meaning_in o book n ≡ Some a) names xs → AllZip (λ n a. meaning_in o later n ≡ Some a) names ys → ys ≡ xs
meant_once o book later [] [] [] stays h k = refl
meant_once o book later [] (a ∷ xs) ys stays h k = absurd h
meant_once o book later [] [] (b ∷ ys) stays h k = absurd k
meant_once o book later (n ∷ ns) [] ys stays h k = absurd h
meant_once o book later (n ∷ ns) (a ∷ xs) [] stays h k = absurd k
meant_once o book later (n ∷ ns) (a ∷ xs) (b ∷ ys) stays h k =
    let one : b ≡ a = ap (λ x. unwrap_or x b) (sym k.0 ∙ stays n a h.0) in
    ap (λ x. x ∷ ys) one ∙ ap (λ l. a ∷ l) (meant_once o book later ns xs ys stays h.1 k.1)

pub same_entry : (one : (bytes : List ℕ) (m n : KoreModule) → SpellsModule bytes m → SpellsModule bytes n → m ≡ n) (o : Opening) (before after : List Registration) (r again : Registration) (text : List ℕ) (flag : Bool) →
    IsAdded o before text flag r → IsAdded o (before ++ r ∷ after) text flag again → again ≡ r
same_entry one o before after r again text flag h k =
    let texts : again.text ≡ r.text = k.text_is ∙ sym h.text_is in
    let modules : k.fits.spelled ≡ h.fits.spelled = one r.text k.fits.spelled h.fits.spelled (subst (λ t. SpellsModule t k.fits.spelled) texts k.fits.spells) h.fits.spells in
    let named : k.spelled ≡ h.spelled = one text k.spelled h.spelled k.sound.importable.spells h.sound.importable.spells in
    let ids : again.id ≡ r.id = k.fits.is_id ∙ (ap id_of texts ∙ sym h.fits.is_id) in
    let names : again.also ≡ r.also = k.also_is ∙ ap (λ m. own_name_asked flag m.name) named ∙ sym h.also_is in
    let lists = meant_once o before (before ++ r ∷ after) (imports_in h.fits.spelled.sentences) h.fits.imports k.fits.imports (λ n a. meaning_stays o before (before ++ r ∷ after) n a (r ∷ after, refl)) h.fits.bound
    (subst (λ m. AllZip (λ n a. meaning_in o (before ++ r ∷ after) n ≡ Some a) (imports_in m.sentences) k.fits.imports) modules k.fits.bound) in
    let axioms : again.axioms ≡ r.axioms = k.fits.axioms ∙ ap (λ l. extended l again.id k.fits.spelled) lists ∙ ap (λ i. extended h.fits.imports i k.fits.spelled) ids ∙ ap (λ m. extended h.fits.imports r.id m) modules ∙ sym h.fits.axioms in
    same again.text again.id again.also again.axioms texts ids names axioms
  where
    same : (t : List ℕ) (i : Text) (a : Option Text) (x : List NumberedAxiom) → t ≡ r.text → i ≡ r.id → a ≡ r.also → x ≡ r.axioms → record { text = t; id = i; also = a; axioms = x } ≡ r
    same t i a x p q s u = rw p (rw q (rw s (rw u refl)))
