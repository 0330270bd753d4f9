-- An entry over what its imports mean extends a book; an id means what its first entry holds.
use Rattle.std.proofs.Common.{◌≡◌, refl, sym, ap, ◌∙◌, ◌||◌, Bool, true, false, List, [], ◌∷◌, ◌++◌, Option, Some, None, ◌⊎◌, inl, inr, append_assoc, append-nil, subst}
use Rattle.std.specs.List.{AllByRecursion, AllZip}
use Rattle.std.specs.Str.{bytes_eq}
use Rattle.std.proofs.lemmas.Slice.Eq.{bytes_eq-Decides}
use Rattle.kp_kore.specs.Syntax.{Text, KoreModule}
use Rattle.kp_text.specs.Spelling.{SpellsModule}
use Rattle.kp_kore.specs.Theory.{NumberedAxiom, imports_in}
use Rattle.kp_book.specs.Books.{Opening, Registration, binds, extended, first_of, meaning_in, rules_bound}
use Rattle.kp_modules.specs.Made.{IsSetOf}
use Rattle.kp_registry.specs.Legal.{Fits, AreLegalFrom, IsExtension, IsLegal, id_of}
use Rattle.kp_registry.specs.Passes.{IsEntryOf, own_name_asked}
use Rattle.kp_registry.specs.Refusals.{own_name_of}
use Rattle.kp_registry.specs.declared.seen.Entry.{Entry}
use Rattle.kp_registry.proofs.Binders.{bound_at}

pub extended_extends : (o : Opening) (book : List Registration) (m : KoreModule) (also_name : Bool) (imports : List (List NumberedAxiom)) (e : Entry) → SpellsModule e.text.items m →
    AllZip (λ name axioms. meaning_in o book name ≡ Some axioms) (imports_in m.sentences) imports → e.id ≡ id_of e.text.items → own_name_of e ≡ own_name_asked also_name m.name →
    IsSetOf o.signature (extended imports (id_of e.text.items) m) e.rules.value → (r : Registration) × IsEntryOf o.signature r e × IsExtension o book r
extended_extends o book m also_name imports e spells bound id own rules = (
  record { text = e.text.items; id = id_of e.text.items; also = own_name_asked also_name m.name; axioms = extended imports (id_of e.text.items) m },
  record { text = refl; id = id; also = own; rules = rules },
  record { spelled = m; spells = spells; is_id = refl; own_name = asked also_name; imports = imports; bound = bound; axioms = refl },
)
  where
    asked : (b : Bool) → (own_name_asked b m.name ≡ None) ⊎ (own_name_asked b m.name ≡ Some m.name)
    asked true = inr refl
    asked false = inl refl

-- an entry of a legal book fits behind those before it
fits_at : (o : Opening) (passed before after : List Registration) (r : Registration) → AreLegalFrom o passed (before ++ r ∷ after) → Fits o (passed ++ before) r
fits_at o passed [] after r legal = subst (λ l. Fits o l r) (sym (append-nil passed)) legal.0
fits_at o passed (q ∷ before) after r legal = subst (λ l. Fits o l r) (append_assoc passed (q ∷ []) before) (fits_at o (passed ++ q ∷ []) before after r legal.1)

binds_its_id : (r : Registration) → binds r.id r ≡ true
binds_its_id r = by r.also
  where
    same : bytes_eq r.id r.id ≡ true
    same = (bytes_eq-Decides r.id r.id).1 refl

    by : (also : Option Text) → binds r.id (record { text = r.text; id = r.id; also = also; axioms = r.axioms }) ≡ true
    by (Some n) = ap (λ b. b || bytes_eq r.id n) same
    by None = ap (λ b. b || false) same

pub first_meant : (o : Opening) (before after : List Registration) (r : Registration) → IsLegal o (before ++ r ∷ after) → AllByRecursion (λ q. binds r.id q ≡ false) before → meaning_in o (before ++ r ∷ after) r.id ≡ Some r.axioms
first_meant o before after r legal passed =
    ap (λ m. first_of m (rules_bound (before ++ r ∷ after) r.id)) ((fits_at o [] before after r legal.entries).not_opening r.id (binds_its_id r))
    ∙ bound_at before after r r.id passed (binds_its_id r)
