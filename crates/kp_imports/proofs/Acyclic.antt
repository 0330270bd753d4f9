-- Where all imports are done there is no fault of imports.
use Rattle.std.proofs.Common.{◌≡◌, refl, sym, ap, subst, ◌∙◌, ℕ, suc, Bool, true, false, ◌||◌, cond, List, [], ◌∷◌, ◌++◌, map, Option, Some, None, ◌⊎◌, inl, inr, length}
use Rattle.std.specs.Option.{option_map}
use Rattle.std.specs.Str.{bytes_eq}
use Rattle.std.proofs.lemmas.Slice.Eq.{bytes_eq-Decides}
use Rattle.kp_kore.specs.Syntax.{Text, KoreModule}
use Rattle.kp_kore.specs.View.{module_view}
use Rattle.kp_kore.specs.declared.sentence.Module.{Module}
use Rattle.kp_kore.specs.Theory.{module_named, names_reached}
use Rattle.kp_signature.specs.Names.{first_place}
use Rattle.kp_imports.specs.Faults.{Fault, unknown_import, import_cycle, duplicate_sort, duplicate_symbol, duplicate_module, rule_fault, no_main_module, Leads, stays, goes, IsImportFault}
use Rattle.kp_imports.specs.Names.{names_of, module_names}
use Rattle.kp_imports.specs.Reaching.{has, imports_of, AllIn, IsClosed}
use Rattle.kp_imports.specs.Walks.{IsAcyclic, IsOver}
use Rattle.kp_imports.proofs.Collect.{false_true, or_cases, has_more}

pub in_all : (names ns : List Text) (n : Text) → AllIn names ns → has n ns ≡ true → has n names ≡ true
in_all names [] n all h = false_true h
in_all names (x ∷ xs) n all h = by (λ e. in_all names xs n all.1 e) (or_cases (bytes_eq n x) (has n xs) h)
  where
    by : (has n xs ≡ true → has n names ≡ true) → (bytes_eq n x ≡ true) ⊎ (has n xs ≡ true) → has n names ≡ true
    by further (inl e) = subst (λ m. has m names ≡ true) (sym ((bytes_eq-Decides n x).0 e)) all.0
    by further (inr e) = further e

pub leads_in : (ms : List KoreModule) (names : List Text) → IsClosed ms names → (a b : Text) → Leads ms a b → has a names ≡ true → has b names ≡ true
leads_in ms names closed a _ (stays _) h = h
leads_in ms names closed a c (goes _ b _ l i) h = in_all names (imports_of ms b) c (closed b (leads_in ms names closed a b l h)) i

or_last : (a b : Bool) → (a || (b || false)) ≡ true → (a ≡ true) ⊎ (b ≡ true)
or_last true b h = inl h
or_last false true h = inr h
or_last false false h = inl h

-- one more name, whose imports are among the names
pub acyclic_more : (ms : List KoreModule) (names : List Text) (x : Text) → IsClosed ms names → IsAcyclic ms names → AllIn names (imports_of ms x) → has x names ≡ false → IsAcyclic ms (names ++ x ∷ [])
acyclic_more ms names x closed old own new a next h i l = by (or_last (has a names) (bytes_eq a x) (sym (has_more a x names) ∙ h))
  where
    by : (has a names ≡ true) ⊎ (bytes_eq a x ≡ true) → ⊥
    by (inl e) = old a next e i l
    by (inr e) =
        let same : a ≡ x = (bytes_eq-Decides a x).0 e in
        let next_there : has next names ≡ true = in_all names (imports_of ms x) next own (subst (λ m. has next (imports_of ms m) ≡ true) same i) in
        false_true (sym new ∙ leads_in ms names closed next x (subst (Leads ms next) same l) next_there)

-- a name with a place is a module's
pub found_named : (ms : List KoreModule) (n : Text) (p : ℕ) → first_place n (names_of ms) ≡ Some p → module_named ms n ≡ None → ⊥
found_named [] n p h k = absurd (cc)
found_named (m ∷ ms) n p h k = by (bytes_eq m.name n) (first_place n (names_of ms)) (λ q e. found_named ms n q e) h k
  where
    by : (b : Bool) (o : Option ℕ) → ((q : ℕ) → o ≡ Some q → module_named ms n ≡ None → ⊥) → cond b (Some 0) (option_map suc o) ≡ Some p → cond b (Some m) (module_named ms n) ≡ None → ⊥
    by true o f h k = absurd (cc)
    by false (Some q) f h k = f q refl k
    by false None f h k = absurd (cc)

abbrev first_of : {A : Type 0} → A → List A → A
first_of d [] = d
first_of d (x ∷ xs) = x

abbrev rest_of : {A : Type 0} → List A → List A
rest_of [] = []
rest_of (x ∷ xs) = xs

placed : (f : Text → Option ℕ) (names : List Text) (order : List ℕ) (n : Text) → map f names ≡ map Some order → has n names ≡ true → (p : ℕ) × (f n ≡ Some p)
placed f [] order n e h = false_true h
placed f (x ∷ xs) [] n e h = absurd (cc)
placed f (x ∷ xs) (p ∷ ps) n e h = by (λ k. placed f xs ps n (ap rest_of e) k) (or_cases (bytes_eq n x) (has n xs) h)
  where
    by : (has n xs ≡ true → (q : ℕ) × (f n ≡ Some q)) → (bytes_eq n x ≡ true) ⊎ (has n xs ≡ true) → (q : ℕ) × (f n ≡ Some q)
    by further (inl k) = (p, ap f ((bytes_eq-Decides n x).0 k) ∙ ap (first_of (Some p)) e)
    by further (inr k) = further k

-- ---- after the walk

pub no_import_fault : (rows : List Module) (main : Text) (order : List ℕ) → IsOver rows main order → (f : Fault) → IsImportFault (map module_view rows) main f → ⊥
no_import_fault rows main order over (unknown_import n) u =
    let ms = map module_view rows in
    let names = names_reached (length rows) ms main in
    let importer : has u.importer names ≡ true = leads_in ms names over.closed main u.importer u.reached over.there in
    let p = placed (λ m. first_place m (module_names rows)) names order n over.places (in_all names (imports_of ms u.importer) n (over.closed u.importer importer) u.imports) in
    found_named ms n p.0 p.1 u.unknown
no_import_fault rows main order over import_cycle c =
    let ms = map module_view rows in
    let names = names_reached (length rows) ms main in
    over.acyclic c.name c.next (leads_in ms names over.closed main c.name c.reached over.there) c.imports c.back
no_import_fault rows main order over (duplicate_sort n) h = h
no_import_fault rows main order over (duplicate_symbol n) h = h
no_import_fault rows main order over (duplicate_module n) h = h
no_import_fault rows main order over (rule_fault i) h = h
no_import_fault rows main order over no_main_module h = h
