-- Modules that stand for others by their outlines: they reach the same, in the same order.
use Rattle.std.proofs.Common.{◌≡◌, refl, sym, ap, subst, ◌∙◌, ℕ, zero, suc, ◌≤◌, Bool, true, false, ◌||◌, cond, List, [], ◌∷◌, ◌++◌, length, map, slice_get, Option, Some, None, ◌⊎◌, inl, inr}
use Rattle.std.specs.List.{AllByRecursion, cons_option, filter_map, find, flat_map}
use Rattle.std.specs.Option.{option_map, option_and_then}
use Rattle.std.specs.Str.{bytes_eq}
use Rattle.std.proofs.lemmas.List.{length-map}
use Rattle.std.proofs.lemmas.Slice.Eq.{bytes_eq-Decides}
use Rattle.kp_kore.specs.Syntax.{Text, KoreModule, KoreDefinition}
use Rattle.kp_kore.specs.View.{module_view}
use Rattle.kp_kore.specs.declared.sentence.Module.{Module}
use Rattle.kp_kore.specs.Theory.{each_once, imports_in, module_named, modules_reached, names_reached, sentences_of}
use Rattle.kp_signature.specs.Names.{first_place}
use Rattle.kp_imports.specs.Faults.{Fault, unknown_import, import_cycle, duplicate_sort, duplicate_symbol, duplicate_module, rule_fault, no_main_module, Leads, stays, goes, IsImportFault}
use Rattle.kp_modules.specs.Keeping.{outline, StandsAt}
use Rattle.kp_imports.specs.Names.{names_of}
use Rattle.kp_imports.specs.Reaching.{has, imports_of, AllIn, IsClosed}
use Rattle.kp_imports.specs.Walks.{IsLaidOut, IsOver}
use Rattle.kp_imports.proofs.Acyclic.{found_named, in_all, leads_in}
use Rattle.kp_imports.proofs.Collect.{false_true, flat_same, or_cases}
use Rattle.kp_modules.proofs.Opened.{named_so}
use Rattle.kp_imports.proofs.Settled.{all_reached}
use Rattle.kp_imports.proofs.Walking.{bool_not}

-- ---- after a walk

abbrev first_of : {A : Type 0} → A → List A → A
first_of d [] = d
first_of d (x ∷ xs) = x

abbrev rest_of : {A : Type 0} → List A → List A
rest_of [] = []
rest_of (x ∷ xs) = xs

all_named : (ms : List KoreModule) (names : List Text) (order : List ℕ) → map (λ n. first_place n (names_of ms)) names ≡ map Some order → AllByRecursion (λ n. ¬ (module_named ms n ≡ None)) names
all_named ms [] order e = tt
all_named ms (x ∷ xs) [] e = absurd (cc)
all_named ms (x ∷ xs) (p ∷ ps) e = (λ none. found_named ms x p (ap (first_of (Some p)) e) none, all_named ms xs ps (ap rest_of e))

pub laid_out : (rows : List Module) (main : Text) (order : List ℕ) → IsOver rows main order → IsLaidOut (map module_view rows) (names_reached (length (map module_view rows)) (map module_view rows) main)
laid_out rows main order over =
    let ms = map module_view rows in
    let many : length ms ≡ length rows = length-map rows module_view in
    subst (λ k. IsLaidOut ms (names_reached k ms main)) (sym many) (record {
      named = all_named ms (names_reached (length rows) ms main) order over.places;
      room = subst (λ k. length (names_reached (length rows) ms main) ≤ k) (sym many) over.room;
      closed = over.closed;
      settled = over.settled;
      acyclic = over.acyclic;
    })

-- ---- by name

imports_told : Option (Text × List Text) → List Text
imports_told (Some p) = p.1
imports_told None = []

abbrev the_name : Text × List Text → Text
the_name p = p.0

imports_by : (ms : List KoreModule) (n : Text) → imports_of ms n ≡ imports_told (option_map outline (module_named ms n))
unfolding imports_told
imports_by ms n = by (module_named ms n)
  where
    by : (o : Option KoreModule) → imports_in (sentences_of o) ≡ imports_told (option_map outline o)
    by (Some m) = refl
    by None = refl

outline_named : (ms : List KoreModule) (n : Text) → option_map outline (module_named ms n) ≡ find (λ p. bytes_eq (the_name p) n) (map outline ms)
outline_named [] n = refl
outline_named (m ∷ ms) n = by (bytes_eq m.name n) (outline_named ms n)
  where
    by : (b : Bool) → option_map outline (module_named ms n) ≡ find (λ p. bytes_eq (the_name p) n) (map outline ms) →
        option_map outline (cond b (Some m) (module_named ms n)) ≡ cond b (Some (outline m)) (find (λ p. bytes_eq (the_name p) n) (map outline ms))
    by true h = refl
    by false h = h

imports_same : (ms ks : List KoreModule) (n : Text) → map outline ms ≡ map outline ks → imports_of ms n ≡ imports_of ks n
imports_same ms ks n e =
    imports_by ms n
    ∙ ap imports_told (outline_named ms n ∙ ap (find (λ p. bytes_eq (the_name p) n)) e ∙ sym (outline_named ks n))
    ∙ sym (imports_by ks n)

outlined_names : (ms : List KoreModule) → names_of ms ≡ map the_name (map outline ms)
outlined_names [] = refl
outlined_names (m ∷ ms) = ap (λ l. m.name ∷ l) (outlined_names ms)

-- ---- the modules of names

both_none : {A : Type 0} (b : Bool) → ◌≡◌ {A = Option A} (cond b None None) None
both_none true = refl
both_none false = refl

-- one of the modules of these names
among_named : (ms : List KoreModule) (names : List Text) (n : Text) → module_named (filter_map (module_named ms) names) n ≡ cond (has n names) (module_named ms n) None
among_named ms [] n = refl
among_named ms (x ∷ names) n = by (bytes_eq n x) refl (module_named ms x) refl (among_named ms names n)
  where
    rest : List KoreModule
    rest = filter_map (module_named ms) names

    by : (b : Bool) → bytes_eq n x ≡ b → (o : Option KoreModule) → module_named ms x ≡ o → module_named rest n ≡ cond (has n names) (module_named ms n) None →
        module_named (cons_option o rest) n ≡ cond (b || has n names) (module_named ms n) None
    by true e None f h =
        let none : module_named ms n ≡ None = ap (module_named ms) ((bytes_eq-Decides n x).0 e) ∙ f in
        h ∙ ap (λ o. cond (has n names) o None) none ∙ both_none (has n names) ∙ sym none
    by true e (Some m) f h =
        let same : n ≡ x = (bytes_eq-Decides n x).0 e in
        let own : x ≡ m.name = (bytes_eq-Decides x m.name).0 (named_so ms x m f) in
        ap (λ b. cond b (Some m) (module_named rest n)) ((bytes_eq-Decides m.name n).1 (sym (same ∙ own))) ∙ sym (ap (module_named ms) same ∙ f)
    by false e None f h = h
    by false e (Some m) f h =
        let own : x ≡ m.name = (bytes_eq-Decides x m.name).0 (named_so ms x m f) in
        let other : bytes_eq m.name n ≡ false = bool_not (bytes_eq m.name n) (λ q. false_true (sym e ∙ (bytes_eq-Decides n x).1 (sym (own ∙ (bytes_eq-Decides m.name n).0 q)))) in
        ap (λ b. cond b (Some m) (module_named rest n)) other ∙ h

pub names_named : (ms : List KoreModule) (names : List Text) → AllByRecursion (λ n. ¬ (module_named ms n ≡ None)) names → names_of (filter_map (module_named ms) names) ≡ names
names_named ms [] h = refl
names_named ms (x ∷ names) h = by (module_named ms x) refl h.0 (names_named ms names h.1)
  where
    by : (o : Option KoreModule) → module_named ms x ≡ o → ¬ (o ≡ None) → names_of (filter_map (module_named ms) names) ≡ names → names_of (cons_option o (filter_map (module_named ms) names)) ≡ x ∷ names
    by (Some m) f k r = ap (λ n. n ∷ names_of (filter_map (module_named ms) names)) (sym ((bytes_eq-Decides x m.name).0 (named_so ms x m f))) ∙ ap (λ l. x ∷ l) r
    by None f k r = absurd (k refl)

has_all : (P : Text → Type 0) (names : List Text) (n : Text) → AllByRecursion P names → has n names ≡ true → P n
has_all P [] n all h = false_true h
has_all P (x ∷ xs) n all h = by (λ k. has_all P xs n all.1 k) (or_cases (bytes_eq n x) (has n xs) h)
  where
    by : (has n xs ≡ true → P n) → (bytes_eq n x ≡ true) ⊎ (has n xs ≡ true) → P n
    by further (inl k) = subst P (sym ((bytes_eq-Decides n x).0 k)) all.0
    by further (inr k) = further k

-- a module's name is that of a module
there : (ms : List KoreModule) (n : Text) → has n (names_of ms) ≡ true → module_named ms n ≡ None → ⊥
there [] n h k = false_true h
there (m ∷ ms) n h k = by (there ms n) (bytes_eq m.name n) refl (bytes_eq n m.name) refl h k
  where
    by : (has n (names_of ms) ≡ true → module_named ms n ≡ None → ⊥) → (b : Bool) → bytes_eq m.name n ≡ b → (c : Bool) → bytes_eq n m.name ≡ c → (c || has n (names_of ms)) ≡ true → cond b (Some m) (module_named ms n) ≡ None → ⊥
    by again true e c f i j = absurd (cc)
    by again false e true f i j = false_true (sym e ∙ (bytes_eq-Decides m.name n).1 (sym ((bytes_eq-Decides n m.name).0 f)))
    by again false e false f i j = again i j

looked : (n : Text) (rows : List KoreModule) → option_and_then (slice_get rows) (first_place n (names_of rows)) ≡ module_named rows n
looked n [] = refl
looked n (r ∷ rows) = by (bytes_eq r.name n) (first_place n (names_of rows)) (looked n rows)
  where
    further : (o : Option ℕ) → option_and_then (slice_get (r ∷ rows)) (option_map suc o) ≡ option_and_then (slice_get rows) o
    further (Some i) = refl
    further None = refl

    by : (b : Bool) (o : Option ℕ) → option_and_then (slice_get rows) o ≡ module_named rows n → option_and_then (slice_get (r ∷ rows)) (cond b (Some 0) (option_map suc o)) ≡ cond b (Some r) (module_named rows n)
    by true o rest = refl
    by false o rest = further o ∙ rest

-- ---- outlines of the modules of names that are laid out

module _ (ms : List KoreModule) (names : List Text) (laid : IsLaidOut ms names) (kept : List KoreModule) (e : map outline kept ≡ map outline (filter_map (module_named ms) names)) where
  pub same_names : names_of kept ≡ names
  same_names = outlined_names kept ∙ ap (map the_name) e ∙ sym (outlined_names (filter_map (module_named ms) names)) ∙ names_named ms names laid.named

  same_imports : (n : Text) → has n names ≡ true → imports_of kept n ≡ imports_of ms n
  same_imports n h = imports_same kept (filter_map (module_named ms) names) n e ∙ ap (λ o. imports_in (sentences_of o)) (among_named ms names n ∙ ap (λ b. cond b (module_named ms n) None) h)

  same_reach : (k : ℕ) (n : Text) → has n names ≡ true → names_reached k kept n ≡ names_reached k ms n
  same_reach zero n h = refl
  same_reach (suc k) n h =
      ap (λ l. each_once [] (l ++ n ∷ []))
      (ap (flat_map (names_reached k kept)) (same_imports n h)
      ∙ flat_same (λ m. has m names ≡ true) (names_reached k kept) (names_reached k ms) (imports_of ms n) (laid.closed n h) (λ m i. same_reach k m i))

  as_many : length kept ≡ length names
  as_many = sym (length-map kept (λ m. m.name)) ∙ ap length same_names

  own_reach : (n : Text) → has n names ≡ true → names_reached (length kept) kept n ≡ names_reached (length ms) ms n
  own_reach n h = ap (λ k. names_reached k kept n) as_many ∙ same_reach (length names) n h ∙ sym (laid.settled n h (length ms) laid.room)

  -- there is no fault of imports
  closed_too : IsClosed kept names
  closed_too n h = subst (AllIn names) (sym (same_imports n h)) (laid.closed n h)

  leads_too : (a b : Text) → Leads kept a b → has a names ≡ true → Leads ms a b
  leads_too a _ (stays _) h = stays a
  leads_too a c (goes _ b _ l i) h = goes a b c (leads_too a b l h) (sym (ap (has c) (same_imports b (leads_in kept names closed_too a b l h))) ∙ i)

  pub no_fault_kept : (n : Text) → has n names ≡ true → (f : Fault) → IsImportFault kept n f → ⊥
  no_fault_kept n h (unknown_import x) u =
      let importer : has u.importer names ≡ true = leads_in kept names closed_too n u.importer u.reached h in
      there kept x (ap (has x) same_names ∙ in_all names (imports_of kept u.importer) x (closed_too u.importer importer) u.imports) u.unknown
  no_fault_kept n h import_cycle c =
      let at : has c.name names ≡ true = leads_in kept names closed_too n c.name c.reached h in
      let next_at : has c.next names ≡ true = in_all names (imports_of kept c.name) c.next (closed_too c.name at) c.imports in
      laid.acyclic c.name c.next at (sym (ap (has c.next) (same_imports c.name at)) ∙ c.imports) (leads_too c.next c.name c.back next_at)
  no_fault_kept n h (duplicate_sort x) k = k
  no_fault_kept n h (duplicate_symbol x) k = k
  no_fault_kept n h (duplicate_module x) k = k
  no_fault_kept n h (rule_fault i) k = k
  no_fault_kept n h no_main_module k = k

  -- what stands at the places of names
  stand : (ns : List Text) (order : List ℕ) → AllIn names ns → map (λ n. first_place n (names_of kept)) ns ≡ map Some order →
      map (slice_get (filter_map (module_named ms) names)) order ≡ map Some (filter_map (module_named ms) ns)
  stand [] [] all k = refl
  stand [] (p ∷ ps) all k = absurd (cc)
  stand (x ∷ ns) [] all k = absurd (cc)
  stand (x ∷ ns) (p ∷ ps) all k = by (module_named ms x) refl (has_all (λ n. ¬ (module_named ms n ≡ None)) names x laid.named all.0) (stand ns ps all.1 (ap rest_of k))
    where
      reached : List KoreModule
      reached = filter_map (module_named ms) names

      place : first_place x (names_of reached) ≡ Some p
      place = ap (first_place x) (names_named ms names laid.named ∙ sym same_names) ∙ ap (first_of (Some p)) k

      here : slice_get reached p ≡ module_named ms x
      here = ap (option_and_then (slice_get reached)) (sym place) ∙ looked x reached ∙ among_named ms names x ∙ ap (λ b. cond b (module_named ms x) None) all.0

      by : (o : Option KoreModule) → module_named ms x ≡ o → ¬ (o ≡ None) → map (slice_get reached) ps ≡ map Some (filter_map (module_named ms) ns) →
          slice_get reached p ∷ map (slice_get reached) ps ≡ map Some (cons_option o (filter_map (module_named ms) ns))
      by (Some m) f q r = ap (λ o. o ∷ map (slice_get reached) ps) (here ∙ f) ∙ ap (λ l. Some m ∷ l) r
      by None f q r = absurd (q refl)

-- the places of a walk over outlines
pub stands_at : (d : KoreDefinition) (main name : Text) (rows : List Module) (order : List ℕ) → IsLaidOut d.modules (names_reached (length d.modules) d.modules main) →
    map outline (map module_view rows) ≡ map outline (modules_reached d main) → has name (names_reached (length d.modules) d.modules main) ≡ true → IsOver rows name order → StandsAt d main name order
stands_at d main name rows order laid e h over =
    let ms = d.modules in
    let names = names_reached (length ms) ms main in
    let kept = map module_view rows in
    let own : names_reached (length rows) kept name ≡ names_reached (length ms) ms name = ap (λ k. names_reached k kept name) (sym (length-map rows module_view)) ∙ own_reach ms names laid kept e name h in
    stand ms names laid kept e (names_reached (length ms) ms name) order (all_reached ms names laid.closed (length ms) name h)
    (subst (λ l. map (λ n. first_place n (names_of kept)) l ≡ map Some order) own over.places)
