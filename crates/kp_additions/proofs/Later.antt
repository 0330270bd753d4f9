-- What was said of what a pass had seen stays of what it has seen.
use Rattle.std.proofs.Common.{◌≡◌, refl, sym, ap, subst, ◌∙◌, arith, ℕ, suc, Bool, ◌<◌, ◌+◌, List, [], ◌∷◌, ◌++◌, length, take, get_or, Option, Some, None, Global, length-append}
use Rattle.std.specs.List.{AllByRecursion, AllZip}
use Rattle.std.specs.declared.sync.Arc.{Arc}
use mathlib.Core.List.{IsPrefix}
use Rattle.kp_kore.specs.Syntax.{Text, KoreModule}
use Rattle.kp_kore.specs.Signature.{KoreSignature}
use Rattle.kp_kore.specs.Theory.{NumberedAxiom, imports_in}
use Rattle.kp_kore.specs.View.{sentence_view}
use Rattle.kp_kore.specs.declared.sentence.Sentence.{Sentence}
use Rattle.kp_imports.specs.Walks.{import_names}
use Rattle.kp_rule_sets.specs.declared.rule_set.RuleSet.{RuleSet}
use Rattle.kp_book.specs.Books.{Opening, Registration, Seen, Grows, at_book, with_own, meaning_in}
use Rattle.kp_book.proofs.BookLemmas.{grows_none, grows_on, meaning_stays}
use Rattle.kp_history.specs.Passes.{Keeps, positions, seen}
use Rattle.kp_history.proofs.Prefixes.{prefix_self, prefix_trans}
use Rattle.kp_modules.specs.Openings.{IsTableOf}
use Rattle.kp_registry.specs.Legal.{IsLegal}
use Rattle.kp_registry.specs.Passes.{Extends, HasLegalBook, HasSeen, IsEntryOf, MeansAt, own_name_asked}
use Rattle.kp_registry.specs.Registries.{HasGained, IsPassOf, table_of}
use Rattle.kp_registry.specs.declared.book.Registry.{Registry}
use Rattle.kp_registry.specs.declared.seen.Entry.{Entry}
use Rattle.kp_registry.proofs.Continuing.{front_legal, goes_on}
use Rattle.kp_registry.proofs.KnownBooks.{one_legal_book}
use Rattle.kp_additions.specs.Added.{AreBound, IsAdded, IsImportable, IsSound}
use Rattle.kp_additions.specs.Served.{AtEachBookSeen, HasLooked, HasSeenAt, Pass}
use Rattle.kp_additions.specs.Told.{AreMeant, IsEntered, IsReadied}
use Rattle.kp_additions.proofs.Meanings.{one_meant}
use Rattle.kp_additions.proofs.Telling.{extends, is_entry, last_fits, registered}

-- ---- looks

pub looked_none : (p : Pass) → HasLooked p p
looked_none p = record { grows = prefix_self (seen p); keeps = (refl, refl) }

pub looked_on : (p q r : Pass) → HasLooked p q → HasLooked q r → HasLooked p r
looked_on p q r h k = record { grows = prefix_trans (seen p) (seen q) (seen r) h.grows k.grows; keeps = (k.keeps.0 ∙ h.keeps.0, k.keeps.1 ∙ h.keeps.1) }

-- ---- the books of two looks

-- what the pass has seen behind a look: a book that begins with the one that it had seen
pub record IsLater (registry : Registry) (later : Pass) (o : Opening) (s : Seen) : Type 0 where
  pub at : List Registration
  pub grows : Grows s.book at
  pub seen : HasSeenAt registry later o (at_book at s)

pub sees_later : (registry : Registry) (p q : Pass) (o : Opening) (s : Seen) → IsPassOf registry q → HasLooked p q → HasSeenAt registry p o s → IsLater registry q o s
sees_later registry p q o s is looked had =
    let more = goes_on o (table_of registry) (seen p) (seen q) s.book had.table is.legal looked.grows had.seen had.legal in
    record {
      at = s.book ++ more.0;
      grows = (more.0, refl);
      seen = record { table = had.table; seen = more.1; legal = more.2; own = had.own ∙ sym looked.keeps.0 };
    }

-- what the pass had seen before a look: a book with which the one that it has seen begins
pub record IsEarlier (registry : Registry) (earlier : Pass) (o : Opening) (book : List Registration) : Type 0 where
  pub at : List Registration
  pub grows : Grows at book
  pub seen : HasSeenAt registry earlier o (record { book = at; own = positions earlier })

pub saw_earlier : (registry : Registry) (p q : Pass) (o : Opening) (book : List Registration) → IsPassOf registry p → IsPassOf registry q → IsPrefix (seen p) (seen q) → IsTableOf o (table_of registry) →
    HasSeen o.signature book (seen q) → IsLegal o book → IsEarlier registry p o book
saw_earlier registry p q o book was is begins table has legal =
    let b = was.legal o table in
    let more = goes_on o (table_of registry) (seen p) (seen q) b.0 table is.legal begins b.1 b.2 in
    record {
      at = b.0;
      grows = (more.0, one_legal_book o book (b.0 ++ more.0) (seen q) legal more.2 has more.1);
      seen = record { table = table; seen = b.1; legal = b.2; own = refl };
    }

-- what stays when a book grows, and held at each book that was seen, holds at each that is seen
pub at_later : (registry : Registry) (p q : Pass) (Holds : Opening → List Registration → Type 0) → ((o : Opening) (book later : List Registration) → Grows book later → Holds o book → Holds o later) →
    IsPassOf registry p → IsPassOf registry q → HasLooked p q → AtEachBookSeen registry p Holds → AtEachBookSeen registry q Holds
at_later registry p q Holds stay was is looked all o s has =
    let e = saw_earlier registry p q o s.book was is looked.grows has.table has.seen has.legal in
    stay o e.at s.book e.grows (all o (record { book = e.at; own = positions p }) e.seen)

-- ---- what stays

pub means_stays : (o : Opening) (book later : List Registration) (name : Text) (rules : RuleSet) → Grows book later → MeansAt o book name (Some rules) → MeansAt o later name (Some rules)
means_stays o book later name rules grows m = (m.0, meaning_stays o book later name m.0 grows m.1, m.2)

pub are_meant_stay : (o : Opening) (names : List Text) (sets : List (Arc RuleSet Global)) (book later : List Registration) → Grows book later → AreMeant o book names sets → AreMeant o later names sets
are_meant_stay o [] [] book later grows m = tt
are_meant_stay o [] (x ∷ xs) book later grows m = absurd m
are_meant_stay o (n ∷ ns) [] book later grows m = absurd m
are_meant_stay o (n ∷ ns) (x ∷ xs) book later grows m = (means_stays o book later n x.value grows m.0, are_meant_stay o ns xs book later grows m.1)

bound_stay : (o : Opening) (names : List Text) (book later : List Registration) → Grows book later → AreBound o book names → AreBound o later names
bound_stay o [] book later grows b = tt
bound_stay o (n ∷ ns) book later grows b = ((b.0.0, meaning_stays o book later n b.0.0 grows b.0.1), bound_stay o ns book later grows b.1)

sound_stays : (o : Opening) (book later : List Registration) (text : List ℕ) (m : KoreModule) → Grows book later → IsSound o book text m → IsSound o later text m
sound_stays o book later text m grows s = record {
  importable = record { spells = s.importable.spells; bound = bound_stay o (imports_in m.sentences) book later grows s.importable.bound };
  addable = s.addable;
}

lists_stay : (o : Opening) (names : List Text) (lists : List (List NumberedAxiom)) (book later : List Registration) → Grows book later → AllZip (λ name axioms. meaning_in o book name ≡ Some axioms) names lists →
    AllZip (λ name axioms. meaning_in o later name ≡ Some axioms) names lists
lists_stay o [] [] book later grows b = tt
lists_stay o [] (a ∷ lists) book later grows b = absurd b
lists_stay o (n ∷ ns) [] book later grows b = absurd b
lists_stay o (n ∷ ns) (a ∷ lists) book later grows b = (meaning_stays o book later n a grows b.0, lists_stay o ns lists book later grows b.1)

pub readied_stays : (o : Opening) (text : List ℕ) (flag : Bool) (e : Entry) (book later : List Registration) → Grows book later → IsReadied o book text flag e → IsReadied o later text flag e
readied_stays o text flag e book later grows r = record {
  spelled = r.spelled;
  sound = sound_stays o book later text r.spelled grows r.sound;
  is_text = r.is_text;
  is_id = r.is_id;
  own_name = r.own_name;
  imports = r.imports;
  bound = lists_stay o (imports_in r.spelled.sentences) r.imports book later grows r.bound;
  rules = r.rules;
}

-- ---- imports

-- what the names of the imports so far meant they mean
pub still_meant : (registry : Registry) (p q : Pass) (names : List Text) (sets : List (Arc RuleSet Global)) → IsPassOf registry p → IsPassOf registry q → HasLooked p q → AtEachBookSeen registry p (λ o book. AreMeant o book names sets) →
    AtEachBookSeen registry q (λ o book. AreMeant o book names sets)
still_meant registry p q names sets = at_later registry p q (λ o book. AreMeant o book names sets) (λ o book later. are_meant_stay o names sets book later)

pub one_further_meant : (registry : Registry) (p q : Pass) (ss : List Sentence) (i : ℕ) (s : Sentence) (n : Text) (sets : List (Arc RuleSet Global)) (rules : Arc RuleSet Global) → i < length ss → s ≡ get_or ss i s → imports_in (sentence_view s ∷ []) ≡ n ∷ [] →
    IsPassOf registry p → IsPassOf registry q → HasLooked p q → AtEachBookSeen registry p (λ o book. AreMeant o book (import_names (take i ss)) sets) → AtEachBookSeen registry q (λ o book. MeansAt o book n (Some rules.value)) →
    AtEachBookSeen registry q (λ o book. AreMeant o book (import_names (take (i + 1) ss)) (sets ++ rules ∷ []))
one_further_meant registry p q ss i s n sets rules h e own was is looked all means o t has =
    one_meant o t.book ss i s n sets rules h e own (still_meant registry p q (import_names (take i ss)) sets was is looked all o t has) (means o t has)

-- ---- what is ready

pub still_ready : (registry : Registry) (p q : Pass) (text : List ℕ) (flag : Bool) (e : Entry) → IsPassOf registry p → IsPassOf registry q → HasLooked p q → AtEachBookSeen registry p (λ o book. IsReadied o book text flag e) →
    AtEachBookSeen registry q (λ o book. IsReadied o book text flag e)
still_ready registry p q text flag e = at_later registry p q (λ o book. IsReadied o book text flag e) (λ o book later. readied_stays o text flag e book later)

-- ---- an entry at the end

-- what is ready at each book that was seen extends it
pub extends_all : (registry : Registry) (p : Pass) (text : List ℕ) (flag : Bool) (e : Entry) → AtEachBookSeen registry p (λ o book. IsReadied o book text flag e) → Extends (table_of registry) (seen p) e
extends_all registry p text flag e all o book table has legal =
    let r = all o (record { book = book; own = positions p }) (record { table = table; seen = has; legal = legal; own = refl }) in
    (registered o book text flag e r, is_entry o book text flag e r, extends o book text flag e r)

-- the book of entries, the last of which is this one
record EndsIn (g : KoreSignature) (book : List Registration) (others : List Entry) (e : Entry) : Type 0 where
  pub front : List Registration
  pub last : Registration
  pub are : book ≡ front ++ last ∷ []
  pub seen : HasSeen g front others
  pub entry : IsEntryOf g last e

ends_in : (g : KoreSignature) (book : List Registration) (others : List Entry) (e : Entry) → HasSeen g book (others ++ e ∷ []) → EndsIn g book others e
ends_in g [] [] e h = absurd h
ends_in g [] (x ∷ xs) e h = absurd h
ends_in g (b ∷ []) [] e h = record { front = []; last = b; are = refl; seen = tt; entry = h.0 }
ends_in g (b ∷ (c ∷ book)) [] e h = absurd h.1
ends_in g (b ∷ book) (x ∷ xs) e h =
    let rest = ends_in g book xs e h.1 in
    record { front = b ∷ rest.front; last = rest.last; are = ap (λ l. b ∷ l) rest.are; seen = (h.0, rest.seen); entry = rest.entry }

pub long_as : (g : KoreSignature) (book : List Registration) (es : List Entry) → HasSeen g book es → length es ≡ length book
long_as g [] [] h = refl
long_as g [] (e ∷ es) h = absurd h
long_as g (b ∷ book) [] h = absurd h
long_as g (b ∷ book) (e ∷ es) h = ap suc (long_as g book es h.1)

-- the legal book of what is seen behind an entry ends in it
ends_legal : (registry : Registry) (r : Pass) (others : List Entry) (e : Entry) (o : Opening) → IsPassOf registry r → seen r ≡ others ++ e ∷ [] → IsTableOf o (table_of registry) →
    (book : List Registration) × EndsIn o.signature book others e × HasSeen o.signature book (seen r) × IsLegal o book
ends_legal registry r others e o is ends table =
    let b = is.legal o table in
    (b.0, ends_in o.signature b.0 others e (subst (HasSeen o.signature b.0) ends b.1), b.1, b.2)

others_legal : (registry : Registry) (r : Pass) (others : List Entry) (e : Entry) → IsPassOf registry r → seen r ≡ others ++ e ∷ [] → HasLegalBook (table_of registry) others
others_legal registry r others e is ends o table =
    let b = ends_legal registry r others e o is ends table in
    (b.1.front, b.1.seen, front_legal o b.1.front (b.1.last ∷ []) (subst (IsLegal o) b.1.are b.3))

-- the entry of a sound module, behind a legal book
is_added : (o : Opening) (front : List Registration) (last : Registration) (text : List ℕ) (flag : Bool) (e : Entry) → IsReadied o front text flag e → IsEntryOf o.signature last e → IsLegal o (front ++ last ∷ []) → IsAdded o front text flag last
is_added o front last text flag e ready entry legal = record {
  spelled = ready.spelled;
  sound = ready.sound;
  fits = last_fits o [] front last legal.entries;
  text_is = sym entry.text ∙ ready.is_text;
  also_is = sym entry.also ∙ ready.own_name;
  room = omega (arith, legal.room, length-append front (last ∷ []));
}

-- the pass looked, and then entered what was ready
pub entered : (registry : Registry) (p q r : Pass) (text : List ℕ) (flag : Bool) (e : Entry) (id : Text) (others : List Entry) → IsPassOf registry q → IsPassOf registry r → HasLooked p q → IsPrefix (seen q) others → seen r ≡ others ++ e ∷ [] → HasGained q r →
    id ≡ e.id → AtEachBookSeen registry q (λ o book. IsReadied o book text flag e) → (o : Opening) (s : Seen) → HasSeenAt registry p o s → IsEntered o s text flag id registry r
entered registry p q r text flag e id others was is looked begins ends gained same all o s had =
    let now = sees_later registry p q o s was looked had in
    let b = ends_legal registry r others e o is ends had.table in
    let last = b.1 in
    let more = goes_on o (table_of registry) (seen q) others now.at had.table (others_legal registry r others e is ends) begins now.seen.seen now.seen.legal in
    let legal : IsLegal o (last.front ++ last.last ∷ []) = subst (IsLegal o) last.are b.3 in
    let grown : Grows now.at last.front = (more.0, one_legal_book o last.front (now.at ++ more.0) others (front_legal o last.front (last.last ∷ []) legal) more.2 last.seen more.1) in
    let ready = readied_stays o text flag e now.at last.front grown (all o (at_book now.at s) now.seen) in
    let long : length (seen r) ≡ suc (length last.front) = long_as o.signature b.0 (seen r) b.2 ∙ ap length last.are ∙ behind last.front last.last in
    record {
      between = last.front;
      grows = grows_on s.book now.at last.front now.grows grown;
      registration = last.last;
      is_added = is_added o last.front last.last text flag e ready last.entry legal;
      is_id = sym last.entry.id ∙ sym same;
      seen = record {
        table = had.table;
        seen = subst (λ l. HasSeen o.signature l (seen r)) last.are b.2;
        legal = legal;
        own = ap (λ l. l ++ suc (length last.front) ∷ []) now.seen.own ∙ ap (λ n. positions q ++ n ∷ []) (sym long) ∙ sym gained.own;
      };
    }
  where
    behind : (xs : List Registration) (x : Registration) → length (xs ++ x ∷ []) ≡ suc (length xs)
    behind [] x = refl
    behind (y ∷ ys) x = ap suc (behind ys x)
