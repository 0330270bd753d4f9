-- How what was said of a book goes on in a longer one.
use Rattle.std.proofs.Common.{◌≡◌, refl, sym, ap, subst, ◌∙◌, arith, List, [], ◌∷◌, ◌++◌, Option, Some, None, length-append}
use Rattle.std.specs.List.{AllZip}
use mathlib.Core.List.{IsPrefix}
use Rattle.kp_kore.specs.Signature.{KoreSignature}
use Rattle.kp_kore.specs.Syntax.{Text}
use Rattle.kp_kore.specs.Theory.{NumberedAxiom, imports_in}
use Rattle.kp_book.specs.Books.{Opening, Registration, meaning_in}
use Rattle.kp_book.proofs.BookLemmas.{meaning_stays}
use Rattle.kp_modules.specs.Openings.{IsTableOf}
use Rattle.kp_modules.specs.declared.table.ModuleTable.{ModuleTable}
use Rattle.kp_registry.specs.Legal.{AreLegalFrom, IsExtension, IsLegal}
use Rattle.kp_registry.specs.Passes.{Extends, HasLegalBook, HasSeen}
use Rattle.kp_registry.specs.Refusals.{IsWelcome, TellsFault}
use Rattle.kp_registry.specs.declared.book.RegisterFault.{RegisterFault}
use Rattle.kp_registry.specs.declared.seen.Entry.{Entry}
use Rattle.kp_registry.proofs.KnownBooks.{one_legal_book}
use Rattle.kp_registry.proofs.Welcomed.{seen_then, welcome_legal}

-- the part of a book that goes with a beginning of its entries
seen_split : (g : KoreSignature) (book : List Registration) (xs ys : List Entry) → HasSeen g book (xs ++ ys) → (front : List Registration) × (back : List Registration) × (book ≡ front ++ back) × HasSeen g front xs
seen_split g book [] ys all = ([], book, refl, tt)
seen_split g [] (x ∷ xs) ys all = absurd all
seen_split g (b ∷ book) (x ∷ xs) ys all = let rest = seen_split g book xs ys all.1 in (b ∷ rest.0, rest.1, ap (λ l. b ∷ l) rest.2, (all.0, rest.3))

fronts_from : (o : Opening) (before front back : List Registration) → AreLegalFrom o before (front ++ back) → AreLegalFrom o before front
fronts_from o before [] back legal = tt
fronts_from o before (r ∷ front) back legal = (legal.0, fronts_from o (before ++ r ∷ []) front back legal.1)

-- a beginning of a legal book is legal
pub front_legal : (o : Opening) (front back : List Registration) → IsLegal o (front ++ back) → IsLegal o front
front_legal o front back legal = record { entries = fronts_from o [] front back legal.entries; room = omega (arith, legal.room, length-append front back) }

all_bound : (o : Opening) (book more : List Registration) (names : List Text) (imports : List (List NumberedAxiom)) → AllZip (λ name axioms. meaning_in o book name ≡ Some axioms) names imports →
    AllZip (λ name axioms. meaning_in o (book ++ more) name ≡ Some axioms) names imports
all_bound o book more [] [] all = tt
all_bound o book more [] (a ∷ imports) all = absurd all
all_bound o book more (n ∷ names) [] all = absurd all
all_bound o book more (n ∷ names) (a ∷ imports) all = (meaning_stays o book (book ++ more) n a (more, refl) all.0, all_bound o book more names imports all.1)

-- what extends a book extends it when it has grown
extension_stays : (o : Opening) (book more : List Registration) (r : Registration) → IsExtension o book r → IsExtension o (book ++ more) r
extension_stays o book more r x = record {
  spelled = x.spelled;
  spells = x.spells;
  is_id = x.is_id;
  own_name = x.own_name;
  imports = x.imports;
  bound = all_bound o book more (imports_in x.spelled.sentences) x.imports x.bound;
  axioms = x.axioms;
}

pub nothing_legal : (t : ModuleTable) → HasLegalBook t []
nothing_legal t = λ o table. ([], tt, record { entries = tt; room = omega arith })

-- an entry that extends what was seen, and is welcome behind the longer list, keeps that one a legal book's
entered_legal : (t : ModuleTable) (xs es : List Entry) (e : Entry) → HasLegalBook t es → IsPrefix xs es → Extends t xs e →
    ((o : Opening) (book : List Registration) → IsTableOf o t → HasSeen o.signature book es → IsWelcome o book e) → HasLegalBook t (es ++ e ∷ [])
entered_legal t xs es e legal begins extends welcome = λ o table.
    let b = legal o table in
    let parts = seen_split o.signature b.0 xs begins.0 (subst (HasSeen o.signature b.0) (sym begins.1) b.1) in
    let front = front_legal o parts.0 parts.1 (subst (IsLegal o) parts.2 b.2) in
    let r = extends o parts.0 table parts.3 front in
    let extension = subst (λ book. IsExtension o book r.0) (sym parts.2) (extension_stays o parts.0 parts.1 r.0 r.2) in
    (b.0 ++ r.0 ∷ [], seen_then o.signature b.0 es r.0 e b.1 r.1, welcome_legal o b.0 r.0 e r.1 (welcome o b.0 table b.1) extension b.2)

-- the same where the code has told it: of the table that it was given, the entries that it held, and no fault
pub registered : (t given : ModuleTable) (xs es held after : List Entry) (e : Entry) (fault : Option RegisterFault) → HasLegalBook t es → IsPrefix xs es → Extends t xs e →
    given ≡ t → held ≡ es → after ≡ held ++ e ∷ [] → fault ≡ None → ((o : Opening) (book : List Registration) → IsTableOf o given → HasSeen o.signature book held → TellsFault o book e fault) → HasLegalBook t after
registered t given xs es held after e fault legal begins extends table same is none tells =
    let welcome : (o : Opening) (book : List Registration) → IsTableOf o t → HasSeen o.signature book es → IsWelcome o book e = λ o book here seen.
    subst (TellsFault o book e) none (tells o book (subst (IsTableOf o) (sym table) here) (subst (HasSeen o.signature book) (sym same) seen)) in
    subst (HasLegalBook t) (sym (is ∙ ap (λ l. l ++ e ∷ []) same)) (entered_legal t xs es e legal begins extends welcome)

-- a legal book of what was seen goes on to one of what is seen
pub goes_on : (o : Opening) (t : ModuleTable) (xs ys : List Entry) (book : List Registration) → IsTableOf o t → HasLegalBook t ys → IsPrefix xs ys → HasSeen o.signature book xs → IsLegal o book →
    (more : List Registration) × HasSeen o.signature (book ++ more) ys × IsLegal o (book ++ more)
goes_on o t xs ys book table legal begins seen lawful =
    let b = legal o table in
    let parts = seen_split o.signature b.0 xs begins.0 (subst (HasSeen o.signature b.0) (sym begins.1) b.1) in
    let front = front_legal o parts.0 parts.1 (subst (IsLegal o) parts.2 b.2) in
    let same : parts.0 ≡ book = one_legal_book o parts.0 book xs front lawful parts.3 seen in
    let whole : b.0 ≡ book ++ parts.1 = parts.2 ∙ ap (λ l. l ++ parts.1) same in
    (parts.1, subst (λ l. HasSeen o.signature l ys) whole b.1, subst (IsLegal o) whole b.2)
