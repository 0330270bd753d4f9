-- Chains of imports, and the faults that they show.
use Rattle.std.proofs.Common.{◌≡◌, sym, ap, subst, ◌∙◌, ℕ, ◌+◌, ◌<◌, Bool, true, false, ◌||◌, List, [], ◌∷◌, ◌++◌, length, map, take, drop, get_or, Some, None, String, Global, Result, Ok, Err, ◌⊎◌, inl, inr}
use Rattle.std.specs.Prelude.{IsErr, IsErrAnd, IfErr}
use Rattle.std.specs.Str.{bytes_eq}
use Rattle.std.proofs.lemmas.List.{map-append, take-append-drop}
use Rattle.std.proofs.lemmas.List.Folds.{list_any-append}
use Rattle.std.proofs.lemmas.Slice.Eq.{bytes_eq-Decides}
use Rattle.indexmap.specs.IndexMap.{IndexMap, get_by_text}
use Rattle.kp_kore.specs.Syntax.{Text, KoreModule}
use Rattle.kp_kore.specs.View.{module_view, sentence_view}
use Rattle.kp_kore.specs.declared.sentence.Module.{Module}
use Rattle.kp_kore.specs.declared.sentence.Sentence.{Sentence}
use Rattle.kp_kore.specs.Theory.{imports_in, module_named}
use Rattle.kp_signature.specs.Names.{Indexes, first_place}
use Rattle.kp_signature.proofs.FirstPlaces.{no_row}
use Rattle.kp_imports.specs.Faults.{Fault, unknown_import, Leads, stays, goes, IsUnknown, IsCyclic, IsImportFault, IsUnplaced}
use Rattle.kp_imports.specs.Names.{module_names}
use Rattle.kp_imports.specs.Reaching.{has, imports_of}
use Rattle.kp_imports.specs.Walks.{is_open, import_names, sentences_at, backwards, AreOpen, IsReachedPlace, Stands, IsWalkOf, ComesTo}
use Rattle.kp_imports.specs.declared.fault.LoadError.{LoadError}
use Rattle.kp_imports.specs.declared.imports.Import.{Import}
use Rattle.kp_imports.specs.declared.imports.Mark.TheVariants as mark
use Rattle.kp_imports.specs.declared.walk.Parent.{Parent}
use Rattle.kp_imports.specs.declared.walk.ImportWalk.{ImportWalk}
use Rattle.kp_imports.proofs.Collect.{false_true, or_true, or_cases, has_more}
use Rattle.kp_imports.proofs.Sentences.{imports_in-append, one_further}
use Rattle.kp_imports.proofs.Walking.{bytes_same, imports_at}

-- a name among the imports up to a sentence is among all
pub among_all : (ss : List Sentence) (k : ℕ) (n : Text) → has n (import_names (take k ss)) ≡ true → has n (import_names ss) ≡ true
among_all ss k n h =
    ap (λ l. has n (import_names l)) (sym (take-append-drop k ss))
    ∙ ap (λ l. has n (imports_in l)) (map-append sentence_view (take k ss) (drop k ss))
    ∙ ap (has n) (imports_in-append (map sentence_view (take k ss)) (map sentence_view (drop k ss)))
    ∙ list_any-append (bytes_eq n) (import_names (take k ss)) (import_names (drop k ss))
    ∙ ap (λ b. b || has n (import_names (drop k ss))) h

pub last_there : (n : Text) (ns : List Text) → has n (ns ++ n ∷ []) ≡ true
last_there n ns = has_more n n ns ∙ ap (λ b. has n ns || (b || false)) (bytes_same n) ∙ or_true (has n ns)

-- what the last import names
pub last_import : (ss : List Sentence) (k : ℕ) (n : Text) (passed : List Text) → import_names (take k ss) ≡ passed ++ n ∷ [] → has n (import_names ss) ≡ true
last_import ss k n passed h = among_all ss k n (ap (has n) h ∙ last_there n passed)

-- what a sentence imports
pub imported_here : (ss : List Sentence) (i : ℕ) (s : Sentence) (n : Text) → i < length ss → s ≡ get_or ss i s → imports_in (sentence_view s ∷ []) ≡ n ∷ [] → has n (import_names ss) ≡ true
imported_here ss i s n h e own = last_import ss (i + 1) n (import_names (take i ss)) (one_further ss i s (n ∷ []) h e own)

-- ---- open modules

imports_next : (rows : List Module) (above name : Text) (place k : ℕ) (passed : List Text) → first_place above (module_names rows) ≡ Some place → import_names (take k (sentences_at rows place)) ≡ passed ++ name ∷ [] → has name (imports_of (map module_view rows) above) ≡ true
imports_next rows above name place k passed at are = ap (has name) (imports_at rows above place at) ∙ last_import (sentences_at rows place) k name passed are

-- main leads to each open module
to_open : (rows : List Module) (main : Text) (parents : List Parent) (above : List Text) (name : Text) (before : List Text) → AreOpen rows main parents above name before → Leads (map module_view rows) main name
to_open rows main [] [] name before h = subst (Leads (map module_view rows) main) (sym h.0) (stays main)
to_open rows main [] (x ∷ xs) name before h = absurd h
to_open rows main (f ∷ fs) [] name before h = absurd h
to_open rows main (f ∷ fs) (x ∷ xs) name before h =
    goes main x name (to_open rows main fs xs x h.rest h.further) (imports_next rows x name f.place f.from h.passed h.at h.imports)

-- the name itself, or one that leads to it
itself_or : (ms : List KoreModule) (y name : Text) (b : Bool) → (bytes_eq y name || b) ≡ true → (b ≡ true → Leads ms y name) → Leads ms y name
itself_or ms y name b k further = by (or_cases (bytes_eq y name) b k)
  where
    by : (bytes_eq y name ≡ true) ⊎ (b ≡ true) → Leads ms y name
    by (inl e) = subst (Leads ms y) ((bytes_eq-Decides y name).0 e) (stays y)
    by (inr e) = further e

-- each open module leads to the innermost
from_open : (rows : List Module) (main : Text) (parents : List Parent) (above : List Text) (name : Text) (before : List Text) (y : Text) → AreOpen rows main parents above name before → has y (name ∷ above) ≡ true → Leads (map module_view rows) y name
from_open rows main [] [] name before y h k = itself_or (map module_view rows) y name false k (λ q. false_true q)
from_open rows main [] (x ∷ xs) name before y h k = absurd h
from_open rows main (f ∷ fs) [] name before y h k = absurd h
from_open rows main (f ∷ fs) (x ∷ xs) name before y h k =
    itself_or (map module_view rows) y name (has y (x ∷ xs)) k (λ q. goes y x name (from_open rows main fs xs x h.rest y h.further q) (imports_next rows x name f.place f.from h.passed h.at h.imports))

pub no_name : (rows : List Module) (n : Text) → first_place n (module_names rows) ≡ None → module_named (map module_view rows) n ≡ None
no_name rows n h = sym (no_row module_view (λ m. m.name) n rows (sym h))

pub on_way : {S : Type 0} (rows : List Module) (main : Text) (places : IndexMap (String Global) ℕ S) (w : ImportWalk) (ss : List Sentence) → Indexes (module_names rows) places → IsWalkOf rows main w → ss ≡ sentences_at rows w.current → Stands rows main places ss
on_way rows main places w ss is way e = record {
  name = way.name;
  reached = to_open rows main (backwards w.parents.items) way.above way.name way.before way.opens;
  imports = imports_at rows way.name w.current way.at ∙ ap import_names (sym e);
  indexes = is;
}

-- an import of an open module
pub cycle : (rows : List Module) (main : Text) (w : ImportWalk) (i : Import) (h : ComesTo rows main w i) → is_open (get_or w.marks.items i.place mark.Open) ≡ true → IsCyclic (map module_view rows) main
cycle rows main w i h opened = record {
  name = h.way.name;
  next = h.name;
  reached = to_open rows main (backwards w.parents.items) h.way.above h.way.name h.way.before h.way.opens;
  imports = imports_next rows h.way.name h.name w.current i.from h.passed h.way.at h.are;
  back = from_open rows main (backwards w.parents.items) h.way.above h.way.name h.way.before h.name h.way.opens (h.way.only h.name i.place mark.Open h.found opened);
}

-- ---- an import of no module

pub unknown_told : {S : Type 0} (rows : List Module) (main : Text) (places : IndexMap (String Global) ℕ S) (ss : List Sentence) → Stands rows main places ss → (f : Fault) → IsUnplaced places (import_names ss) f → (n : Text) × (f ≡ unknown_import n) × IsUnknown (map module_view rows) main n
unknown_told rows main places ss s f u =
    (u.name, u.told, record { importer = s.name; reached = s.reached; imports = ap (has u.name) s.imports ∙ u.among; unknown = no_name rows u.name (sym (s.indexes u.name) ∙ u.unknown) })

pub unplaced : {S : Type 0} (rows : List Module) (main : Text) (places : IndexMap (String Global) ℕ S) (ss : List Sentence) → Stands rows main places ss → (f : Fault) → IsUnplaced places (import_names ss) f → IsImportFault (map module_view rows) main f
unplaced rows main places ss s f u =
    let h = unknown_told rows main places ss s f u in
    subst (IsImportFault (map module_view rows) main) (sym h.1) h.2

-- ---- places that are reached

pub main_reached : (rows : List Module) (main : Text) (start : ℕ) → first_place main (module_names rows) ≡ Some start → IsReachedPlace rows main start
main_reached rows main start h = record { name = main; reached = stays main; at = h }

pub import_reached : {S : Type 0} (rows : List Module) (main : Text) (places : IndexMap (String Global) ℕ S) (ss : List Sentence) → Stands rows main places ss →
    (n : Text) (p : ℕ) → has n (import_names ss) ≡ true → get_by_text places n ≡ Some p → IsReachedPlace rows main p
import_reached rows main places ss s n p h k = record { name = n; reached = goes main s.name n s.reached (ap (has n) s.imports ∙ h); at = sym (s.indexes n) ∙ k }

pub place_stands : {S : Type 0} (rows : List Module) (main : Text) (places : IndexMap (String Global) ℕ S) (p : ℕ) (ss : List Sentence) → IsReachedPlace rows main p → Indexes (module_names rows) places → ss ≡ sentences_at rows p → Stands rows main places ss
place_stands rows main places p ss h is e = record { name = h.name; reached = h.reached; imports = imports_at rows h.name p h.at ∙ ap import_names (sym e); indexes = is }

-- ---- errors that are handed on

pub exit : {X : Type 0} (r : Result X LoadError) (P : LoadError → Type 0) (e : LoadError) → IsErr r × IsErrAnd r (λ y. y ≡ e) → P e → IfErr r P
exit (Ok x) P e h p = tt
exit (Err y) P e h p = subst P (sym h.1) p
