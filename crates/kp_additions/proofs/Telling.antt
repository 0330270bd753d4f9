-- What is ready to be entered, what a refusal tells, and the entry behind the book.
use Rattle.std.proofs.Common.{◌≡◌, refl, sym, ap, subst, ◌∙◌, ◌⊎◌, ℕ, Bool, true, false, List, [], ◌∷◌, ◌++◌, map, Option, Some, unwrap_or, None, inl, inr, Global, string_bytes, append-nil, append_assoc}
use Rattle.std.specs.declared.sync.Arc.{Arc}
use Rattle.kp_kore.specs.Syntax.{Text, KoreModule}
use Rattle.kp_kore.specs.Signature.{KoreSignature}
use Rattle.kp_kore.specs.View.{module_view, sentence_view}
use Rattle.kp_kore.specs.declared.sentence.Module.{Module}
use Rattle.kp_text.specs.Kinds.{kind_number}
use Rattle.kp_text.specs.Spelling.{IsFaultOf, IsModuleText, SpellsModule}
use Rattle.kp_text.specs.declared.fault.TextFault.{TextFault}
use Rattle.kp_rule_sets.specs.declared.rule_set.RuleSet.{RuleSet}
use Rattle.kp_kore.specs.Theory.{NumberedAxiom, imports_in}
use Rattle.kp_book.specs.Books.{Opening, Registration, IsDuplicate, extended}
use Rattle.kp_modules.specs.Extending.{AreSetsOf, ExtendFault, IsAddable, IsExtendFault, declaration, rule_fault}
use Rattle.kp_modules.specs.Made.{IsSetOf}
use Rattle.kp_registry.specs.Legal.{AreLegalFrom, Fits, IsExtension, id_of}
use Rattle.kp_registry.specs.Passes.{IsEntryOf, own_name_asked}
use Rattle.kp_registry.specs.Refusals.{IsAlsoDuplicate, IsAlsoFree, IsFree, IsRefused, own_name_of}
use Rattle.kp_registry.specs.declared.book.RegisterFault.TheVariants.{Duplicate, Many}
use Rattle.kp_registry.specs.declared.seen.Entry.{Entry}
use Rattle.kp_replies.specs.Failures.{Failure, bad_module, bad_text, unknown_import, full_book, duplicate}
use Rattle.kp_additions.specs.Added.{IsFirstUnbound, IsRefusedFor, IsSound, no_import, no_module, no_rule, declares, no_room, other_id, other_name}
use Rattle.kp_additions.specs.Told.{AreMeant, IsReadied, sentence_fault}
use Rattle.kp_additions.proofs.Meanings.{listed, all_bound}

pub inside : {X : Type 0} (x y : X) → Some x ≡ Some y → x ≡ y
inside x y e = ap (λ o. unwrap_or o x) e

-- ---- an entry

pub readied : (o : Opening) (g : KoreSignature) (book : List Registration) (text : List ℕ) (flag : Bool) (m : Module) (id : Text) (sets : List (Arc RuleSet Global)) (rules : RuleSet) (e : Entry) → g ≡ o.signature → id ≡ id_of text → SpellsModule text (module_view m) →
    AreMeant o book (imports_in (map sentence_view m.sentences.items)) sets → ((lists : List (List NumberedAxiom)) → AreSetsOf g lists sets → IsSetOf g (extended lists id (module_view m)) rules) → IsAddable g id (module_view m) →
    e.text.items ≡ text → e.id ≡ id_of text → own_name_of e ≡ own_name_asked flag (string_bytes m.name) → e.rules.value ≡ rules → IsReadied o book text flag e
readied o g book text flag m id sets rules e same is_id spells are set addable t i a r =
    let l = listed o book (imports_in (map sentence_view m.sentences.items)) sets are in
    let made : IsSetOf o.signature (extended l.lists (id_of text) (module_view m)) rules =
    subst (λ x. IsSetOf o.signature (extended l.lists x (module_view m)) rules) is_id (subst (λ h. IsSetOf h (extended l.lists id (module_view m)) rules) same (set l.lists (subst (λ h. AreSetsOf h l.lists sets) (sym same) l.are_sets))) in
    record {
      spelled = module_view m;
      sound = record {
        importable = record { spells = spells; bound = all_bound o book (imports_in (map sentence_view m.sentences.items)) sets are };
        addable = subst (λ x. IsAddable o.signature x (module_view m)) is_id (subst (λ h. IsAddable h id (module_view m)) same addable);
      };
      is_text = t;
      is_id = i;
      own_name = a;
      imports = l.lists;
      bound = l.bound;
      rules = subst (IsSetOf o.signature (extended l.lists (id_of text) (module_view m))) (sym r) made;
    }

-- ---- refusals

pub of_text : (o : Opening) (book : List Registration) (text : List ℕ) (flag : Bool) (f : Failure) (t : TextFault) → f ≡ bad_module (bad_text t.at (kind_number t.kind)) → IsFaultOf IsModuleText text t → IsRefusedFor o book text flag f
of_text o book text flag f t is h = subst (IsRefusedFor o book text flag) (sym is) (no_module t h)

pub of_import : (o : Opening) (book : List Registration) (text : List ℕ) (flag : Bool) (m : KoreModule) (f : Failure) (name : Text) → SpellsModule text m → f ≡ bad_module (unknown_import name) → IsFirstUnbound o book (imports_in m.sentences) name →
    IsRefusedFor o book text flag f
of_import o book text flag m f name spells is h = subst (IsRefusedFor o book text flag) (sym is) (no_import m name spells h)

of_fault : (o : Opening) (book : List Registration) (text : List ℕ) (flag : Bool) (m : KoreModule) (x : ExtendFault) → SpellsModule text m → (sets : List (Arc RuleSet Global)) → AreMeant o book (imports_in m.sentences) sets →
    IsExtendFault o.signature (id_of text) m x → IsRefusedFor o book text flag (bad_module (sentence_fault x))
of_fault o book text flag m (rule_fault n) spells sets are h = no_rule m n (record { spells = spells; bound = all_bound o book (imports_in m.sentences) sets are }) h
of_fault o book text flag m (declaration n) spells sets are h = declares m n (record { spells = spells; bound = all_bound o book (imports_in m.sentences) sets are }) h

pub of_sentence : (o : Opening) (g : KoreSignature) (book : List Registration) (text : List ℕ) (flag : Bool) (m : Module) (id : Text) (sets : List (Arc RuleSet Global)) (f : Failure) → g ≡ o.signature → id ≡ id_of text → SpellsModule text (module_view m) →
    AreMeant o book (imports_in (map sentence_view m.sentences.items)) sets → (x : ExtendFault) × (f ≡ bad_module (sentence_fault x)) × IsExtendFault g id (module_view m) x → IsRefusedFor o book text flag f
of_sentence o g book text flag m id sets f same is_id spells are h = subst (IsRefusedFor o book text flag) (sym h.1)
    (of_fault o book text flag (module_view m) h.0 spells sets are (subst (λ i. IsExtendFault o.signature i (module_view m) h.0) is_id (subst (λ k. IsExtendFault k id (module_view m) h.0) same h.2)))

free_id : (o : Opening) (book : List Registration) (text : List ℕ) (flag : Bool) (e : Entry) → IsReadied o book text flag e → IsFree o book e.text.items e.id → IsFree o book text (id_of text)
free_id o book text flag e p f = subst (IsFree o book text) p.is_id (subst (λ t. IsFree o book t e.id) p.is_text f)

also_free : (o : Opening) (book : List Registration) (text : List ℕ) (flag : Bool) (e : Entry) (p : IsReadied o book text flag e) → IsAlsoFree o book e.text.items (own_name_of e) → IsAlsoFree o book text (own_name_asked flag p.spelled.name)
also_free o book text flag e p f = subst (IsAlsoFree o book text) p.own_name (subst (λ t. IsAlsoFree o book t (own_name_of e)) p.is_text f)

own_duplicate : (o : Opening) (book : List Registration) (text : List ℕ) (flag : Bool) (m : KoreModule) (n : ℕ) (name : Text) → IsSound o book text m → IsFree o book text (id_of text) →
    IsAlsoDuplicate o book text (own_name_asked flag m.name) n → ((x : Text) → own_name_asked flag m.name ≡ Some x → name ≡ x) → IsRefusedFor o book text flag (duplicate n name)
own_duplicate o book text true m n name s f d is = subst (λ x. IsRefusedFor o book text true (duplicate n x)) (sym (is m.name refl)) (other_name m n s f refl d)
own_duplicate o book text false m n name s f d is = absurd d

-- a name is bound to another text
pub of_duplicate : (o : Opening) (book : List Registration) (text : List ℕ) (flag : Bool) (e : Entry) (n : ℕ) (of_id : Bool) (name : Text) → IsReadied o book text flag e → IsRefused o book e (Duplicate n of_id) →
    (of_id ≡ true → name ≡ e.id) → (of_id ≡ false → (m : Text) → own_name_of e ≡ Some m → name ≡ m) → IsRefusedFor o book text flag (duplicate n name)
of_duplicate o book text flag e n true name p refused id own = subst (λ x. IsRefusedFor o book text flag (duplicate n x)) (sym (id refl ∙ p.is_id))
    (other_id p.spelled n p.sound (subst (λ i. IsDuplicate o book text i n) p.is_id (subst (λ t. IsDuplicate o book t e.id n) p.is_text refused)))
of_duplicate o book text flag e n false name p refused id own = own_duplicate o book text flag p.spelled n name p.sound (free_id o book text flag e p refused.0)
    (subst (λ x. IsAlsoDuplicate o book text x n) p.own_name (subst (λ t. IsAlsoDuplicate o book t (own_name_of e) n) p.is_text refused.1)) (λ x is. own refl x (p.own_name ∙ is))

-- the book is full
pub of_room : (o : Opening) (book : List Registration) (text : List ℕ) (flag : Bool) (e : Entry) → IsReadied o book text flag e → IsRefused o book e Many → IsRefusedFor o book text flag (bad_module full_book)
of_room o book text flag e p refused = no_room p.spelled p.sound (free_id o book text flag e p refused.0) (also_free o book text flag e p refused.1) refused.2

-- the failure that an error tells
pub told : (o : Opening) (book : List Registration) (text : List ℕ) (flag : Bool) (f g : Failure) → IsRefusedFor o book text flag f → Some f ≡ Some g → IsRefusedFor o book text flag g
told o book text flag f g h e = subst (IsRefusedFor o book text flag) (inside f g e) h

-- ---- the entry behind the book

abbrev pub registered : (o : Opening) (book : List Registration) (text : List ℕ) (flag : Bool) (e : Entry) → IsReadied o book text flag e → Registration
registered o book text flag e p = record { text = text; id = id_of text; also = own_name_asked flag p.spelled.name; axioms = extended p.imports (id_of text) p.spelled }

pub is_entry : (o : Opening) (book : List Registration) (text : List ℕ) (flag : Bool) (e : Entry) (p : IsReadied o book text flag e) → IsEntryOf o.signature (registered o book text flag e p) e
is_entry o book text flag e p = record { text = p.is_text; id = p.is_id; also = p.own_name; rules = p.rules }

own_or_none : (flag : Bool) (name : Text) → (own_name_asked flag name ≡ None) ⊎ (own_name_asked flag name ≡ Some name)
own_or_none true name = inr refl
own_or_none false name = inl refl

pub extends : (o : Opening) (book : List Registration) (text : List ℕ) (flag : Bool) (e : Entry) (p : IsReadied o book text flag e) → IsExtension o book (registered o book text flag e p)
extends o book text flag e p = record {
  spelled = p.spelled;
  spells = p.sound.importable.spells;
  is_id = refl;
  own_name = own_or_none flag p.spelled.name;
  imports = p.imports;
  bound = p.bound;
  axioms = refl;
}

pub last_fits : (o : Opening) (before xs : List Registration) (r : Registration) → AreLegalFrom o before (xs ++ r ∷ []) → Fits o (before ++ xs) r
last_fits o before [] r h = subst (λ b. Fits o b r) (sym (append-nil before)) h.0
last_fits o before (x ∷ xs) r h = subst (λ b. Fits o b r) (append_assoc before (x ∷ []) xs) (last_fits o (before ++ x ∷ []) xs r h.1)
