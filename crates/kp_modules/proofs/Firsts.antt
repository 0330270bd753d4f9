-- Which fault comes first.
use Rattle.std.proofs.Common.{◌≡◌, refl, sym, ap, subst, Result, Ok, Err, IfErr, OnOk, ◌∙◌, ℕ, zero, suc, ◌+◌, ◌<◌, ◌≤◌, count_by, List, [], ◌∷◌, ◌++◌, length, map, take, drop, get_or, None, Contains, arith}
use Rattle.std.specs.Borrow.{Bor}
use Rattle.std.specs.List.{flat_map}
use Rattle.std.specs.Str.{bytes_eq}
use Rattle.kp_kore.specs.Syntax.{Text, KoreDefinition}
use Rattle.kp_kore.specs.Signature.{KoreSignature, signature_of, sorts_in, symbols_in}
use Rattle.kp_kore.specs.View.{module_view}
use Rattle.kp_kore.specs.declared.sentence.Module.{Module}
use Rattle.kp_kore.specs.Theory.{NumberedAxiom, module_named, modules_reached, rewrite_axioms}
use Rattle.kp_signature.specs.Table.{sort_names, symbol_names}
use Rattle.kp_signature.specs.View.{sentences_of}
use Rattle.kp_rules.specs.Bodies.{IsFaulty}
use Rattle.kp_modules.specs.Axioms.{axiom_view, axioms_view}
use Rattle.kp_imports.specs.Faults.{Fault, unknown_import, import_cycle, duplicate_sort, duplicate_symbol, duplicate_module, rule_fault, no_main_module, rank, IsUnknown, IsCyclic, IsImportFault, IsFaultOf, IsFaultyAmong, IsFirstFaulty, IsFirstFault, AreSound, HasNoFault, signature_reached, axioms_reached, TellsAxiom}
use Rattle.kp_imports.specs.declared.fault.LoadError.{LoadError}
use Rattle.kp_imports.specs.declared.fault.LoadError.TheVariants.{Memory}
use Rattle.kp_imports.specs.Names.{names_of, IsFirstRepeated, AreOnce}
use Rattle.kp_modules.specs.declared.axioms.RewriteAxiom.{RewriteAxiom}
use Rattle.kp_imports.proofs.Collect.{all_append}
use Rattle.kp_modules.proofs.Ruled.{axioms_more, sentences_seen}
use Rattle.kp_imports.proofs.Seen.{all_at}
use Rattle.kp_imports.proofs.Twice.{stands_twice}

-- ---- the rule of an axiom

memory_alone : (g : KoreSignature) (a : NumberedAxiom) (e : LoadError) → e ≡ Memory → TellsAxiom g a e
memory_alone g a e is = subst (TellsAxiom g a) (sym is) (λ f told. absurd (cc))

-- want of memory tells no axiom
pub no_axiom : {T : Type 0} (g : KoreSignature) (a : NumberedAxiom) (r : Result T LoadError) → IfErr r (λ e. e ≡ Memory) → IfErr r (TellsAxiom g a)
no_axiom g a (Ok x) h = tt
no_axiom g a (Err e) h = memory_alone g a e h

pub on_value : {T E : Type 0} (P : Type 0) (r : Result T E) → P → OnOk r P
on_value P (Ok x) p = p
on_value P (Err e) p = tt

-- ---- rewrite axioms

-- one more that isn't faulty
pub one_more_sound : (g : KoreSignature) (axioms : List RewriteAxiom) (i : ℕ) (a : RewriteAxiom) → i < length axioms → a ≡ get_or axioms i a → AreSound g (axioms_view (take i axioms)) → ¬ IsFaulty g (axiom_view a).axiom_of →
    AreSound g (axioms_view (take (i + 1) axioms))
one_more_sound g axioms i a h e old own = subst (AreSound g) (sym (axioms_more axioms i a h e)) (all_append (λ x. ¬ IsFaulty g x.axiom_of) (axioms_view (take i axioms)) (axiom_view a ∷ []) old (own, tt))

pub parted : (axioms : List RewriteAxiom) (i : ℕ) (d : RewriteAxiom) → i < length axioms → axioms_view axioms ≡ axioms_view (take i axioms) ++ axiom_view (get_or axioms i d) ∷ axioms_view (drop (suc i) axioms)
parted [] i d h = absurd (no i h)
  where
    no : (k : ℕ) → k < 0 → ⊥
    no k h = omega arith
parted (a ∷ rest) zero d h = refl
parted (a ∷ rest) (suc i) d h = ap (λ l. axiom_view a ∷ l) (parted rest i d (omega arith))

-- the first faulty one
pub first_faulty : (g : KoreSignature) (axioms : List RewriteAxiom) (i : ℕ) (a : RewriteAxiom) → i < length axioms → a ≡ get_or axioms i a → AreSound g (axioms_view (take i axioms)) → IsFaulty g (axiom_view a).axiom_of →
    IsFirstFaulty g (axioms_view axioms) (axiom_view a).number
first_faulty g axioms i a h e old own = record {
  before = axioms_view (take i axioms);
  rewriting = axiom_view a;
  after = axioms_view (drop (suc i) axioms);
  are = parted axioms i a h ∙ ap (λ x. axioms_view (take i axioms) ++ axiom_view x ∷ axioms_view (drop (suc i) axioms)) (sym e);
  sound = old;
  number = refl;
  faulty = own;
}

in_the_middle : (before : List NumberedAxiom) (a : NumberedAxiom) (after : List NumberedAxiom) → Contains (before ++ a ∷ after) a
in_the_middle [] a after = (0, omega arith, refl)
in_the_middle (b ∷ bs) a after = let h = in_the_middle bs a after in (suc h.0, omega (arith, h.1), h.2)

faulty_among : (g : KoreSignature) (axioms : List NumberedAxiom) (i : ℕ) → IsFirstFaulty g axioms i → IsFaultyAmong g axioms i
faulty_among g axioms i h = record { rewriting = h.rewriting; among = subst (λ l. Contains l h.rewriting) (sym h.are) (in_the_middle h.before h.rewriting h.after); number = h.number; faulty = h.faulty }

none_faulty : (g : KoreSignature) (axioms : List NumberedAxiom) (i : ℕ) → AreSound g axioms → ¬ IsFaultyAmong g axioms i
none_faulty g axioms i all h = subst (λ (a : NumberedAxiom). ¬ IsFaulty g a.axiom_of) h.among.2 (all_at (λ a. ¬ IsFaulty g a.axiom_of) axioms h.among.0 h.rewriting all h.among.1) h.faulty

repeated_once : (n : Text) (names : List Text) → AreOnce names → ¬ IsFirstRepeated n names
repeated_once n names h k =
    let most : count_by (bytes_eq n) names ≤ 1 = h n in
    let twice : 1 < count_by (bytes_eq n) names = stands_twice n names k in
    absurd (omega arith)

-- ---- faults by rank

module _ (d : KoreDefinition) (main : Text) where
  abbrev SortsOnce : Type 0
  SortsOnce = AreOnce (sort_names (sorts_in (flat_map (λ m. m.sentences) (modules_reached d main))))

  abbrev SymbolsOnce : Type 0
  SymbolsOnce = AreOnce (symbol_names (symbols_in (flat_map (λ m. m.sentences) (modules_reached d main))))

  -- no fault of less rank
  none_before : (k : ℕ) → (0 < k → AreOnce (names_of d.modules)) → (1 < k → ¬ (module_named d.modules main ≡ None)) → (2 < k → (n : Text) → ¬ IsUnknown d.modules main n) → (3 < k → ¬ IsCyclic d.modules main) →
      (4 < k → SortsOnce) → (5 < k → SymbolsOnce) → (6 < k → AreSound (signature_reached d main) (axioms_reached d main)) → (f : Fault) → rank f < k → ¬ IsFaultOf d main f
  none_before k once found known acyclic sorts symbols sound (unknown_import n) l h = known l n h
  none_before k once found known acyclic sorts symbols sound import_cycle l h = acyclic l h
  none_before k once found known acyclic sorts symbols sound (duplicate_sort n) l h = repeated_once n (sort_names (sorts_in (flat_map (λ m. m.sentences) (modules_reached d main)))) (sorts l) h
  none_before k once found known acyclic sorts symbols sound (duplicate_symbol n) l h = repeated_once n (symbol_names (symbols_in (flat_map (λ m. m.sentences) (modules_reached d main)))) (symbols l) h
  none_before k once found known acyclic sorts symbols sound (duplicate_module n) l h = repeated_once n (names_of d.modules) (once l) h
  none_before k once found known acyclic sorts symbols sound (rule_fault i) l h = none_faulty (signature_reached d main) (axioms_reached d main) i (sound l) h
  none_before k once found known acyclic sorts symbols sound no_main_module l h = found l h

  past : {A : Type 0} (m k : ℕ) → m < k → k ≤ m → A
  past m k h e = absurd (no h e)
    where
      no : m < k → k ≤ m → ⊥
      no h e = omega arith

  -- M5
  pub first_of_modules : (f : Fault) → (n : Text) × (f ≡ duplicate_module n) × IsFirstRepeated n (names_of d.modules) → IsFirstFault d main f
  first_of_modules f h = subst (IsFirstFault d main) (sym h.1) (record {
    is_fault = h.2;
    first = none_before 0 (λ l. past 0 0 l (omega arith)) (λ l. past 1 0 l (omega arith)) (λ l. past 2 0 l (omega arith)) (λ l. past 3 0 l (omega arith)) (λ l. past 4 0 l (omega arith)) (λ l. past 5 0 l (omega arith)) (λ l. past 6 0 l (omega arith));
    first_axiom = λ i e. absurd (cc);
  })

  module _ (once : AreOnce (names_of d.modules)) where
    -- M8
    pub first_of_main : module_named d.modules main ≡ None → IsFirstFault d main no_main_module
    first_of_main h = record {
      is_fault = h;
      first = none_before 1 (λ _. once) (λ l. past 1 1 l (omega arith)) (λ l. past 2 1 l (omega arith)) (λ l. past 3 1 l (omega arith)) (λ l. past 4 1 l (omega arith)) (λ l. past 5 1 l (omega arith)) (λ l. past 6 1 l (omega arith));
      first_axiom = λ i e. absurd (cc);
    }

    module _ (found : ¬ (module_named d.modules main ≡ None)) where
      -- M1
      pub first_of_imports : (f : Fault) → (n : Text) × (f ≡ unknown_import n) × IsUnknown d.modules main n → IsFirstFault d main f
      first_of_imports f h = subst (IsFirstFault d main) (sym h.1) (record {
        is_fault = h.2;
        first = none_before 2 (λ _. once) (λ _. found) (λ l. past 2 2 l (omega arith)) (λ l. past 3 2 l (omega arith)) (λ l. past 4 2 l (omega arith)) (λ l. past 5 2 l (omega arith)) (λ l. past 6 2 l (omega arith));
        first_axiom = λ i e. absurd (cc);
      })

      module _ (known : (n : Text) → ¬ IsUnknown d.modules main n) where
        -- M2
        pub first_of_cycles : (f : Fault) → IsImportFault d.modules main f → IsFirstFault d main f
        first_of_cycles (unknown_import n) h = absurd (known n h)
        first_of_cycles import_cycle h = record {
          is_fault = h;
          first = none_before 3 (λ _. once) (λ _. found) (λ _. known) (λ l. past 3 3 l (omega arith)) (λ l. past 4 3 l (omega arith)) (λ l. past 5 3 l (omega arith)) (λ l. past 6 3 l (omega arith));
          first_axiom = λ i e. absurd (cc);
        }
        first_of_cycles (duplicate_sort n) h = absurd h
        first_of_cycles (duplicate_symbol n) h = absurd h
        first_of_cycles (duplicate_module n) h = absurd h
        first_of_cycles (rule_fault i) h = absurd h
        first_of_cycles no_main_module h = absurd h

    module _ (ms : List (Bor Module)) (seen : map (λ m. module_view m.now) ms ≡ modules_reached d main) (found : ¬ (module_named d.modules main ≡ None)) (imports : (f : Fault) → IsImportFault d.modules main f → ⊥) where
      sentences : sentences_of ms ≡ flat_map (λ m. m.sentences) (modules_reached d main)
      sentences = sentences_seen ms ∙ ap (flat_map (λ m. m.sentences)) seen

      -- M3
      pub first_of_sorts : (f : Fault) → (n : Text) × (f ≡ duplicate_sort n) × IsFirstRepeated n (sort_names (sorts_in (sentences_of ms))) → IsFirstFault d main f
      first_of_sorts f h = subst (IsFirstFault d main) (sym h.1) (record {
        is_fault = subst (λ ss. IsFirstRepeated h.0 (sort_names (sorts_in ss))) sentences h.2;
        first = none_before 4 (λ _. once) (λ _. found) (λ _ n. imports (unknown_import n)) (λ _. imports import_cycle) (λ l. past 4 4 l (omega arith)) (λ l. past 5 4 l (omega arith)) (λ l. past 6 4 l (omega arith));
        first_axiom = λ i e. absurd (cc);
      })

      module _ (sorts : AreOnce (sort_names (sorts_in (sentences_of ms)))) where
        sorts_once : SortsOnce
        sorts_once = subst (λ ss. AreOnce (sort_names (sorts_in ss))) sentences sorts

        -- M4
        pub first_of_symbols : (f : Fault) → (n : Text) × (f ≡ duplicate_symbol n) × IsFirstRepeated n (symbol_names (symbols_in (sentences_of ms))) → IsFirstFault d main f
        first_of_symbols f h = subst (IsFirstFault d main) (sym h.1) (record {
          is_fault = subst (λ ss. IsFirstRepeated h.0 (symbol_names (symbols_in ss))) sentences h.2;
          first = none_before 5 (λ _. once) (λ _. found) (λ _ n. imports (unknown_import n)) (λ _. imports import_cycle) (λ _. sorts_once) (λ l. past 5 5 l (omega arith)) (λ l. past 6 5 l (omega arith));
          first_axiom = λ i e. absurd (cc);
        })

        module _ (symbols : AreOnce (symbol_names (symbols_in (sentences_of ms)))) where
          symbols_once : SymbolsOnce
          symbols_once = subst (λ ss. AreOnce (symbol_names (symbols_in ss))) sentences symbols

          -- M6
          pub first_of_rules : (f : Fault) → (i : ℕ) × (f ≡ rule_fault i) × IsFirstFaulty (signature_of (sentences_of ms)) (rewrite_axioms (map (λ m. module_view m.now) ms)) i → IsFirstFault d main f
          first_of_rules f h =
              let told : IsFirstFaulty (signature_reached d main) (axioms_reached d main) h.0 =
              subst (λ l. IsFirstFaulty (signature_reached d main) (rewrite_axioms l) h.0) seen
              (subst (λ ss. IsFirstFaulty (signature_of ss) (rewrite_axioms (map (λ m. module_view m.now) ms)) h.0) sentences h.2) in
              subst (IsFirstFault d main) (sym h.1) (record {
                is_fault = faulty_among (signature_reached d main) (axioms_reached d main) h.0 told;
                first = none_before 6 (λ _. once) (λ _. found) (λ _ n. imports (unknown_import n)) (λ _. imports import_cycle) (λ _. sorts_once) (λ _. symbols_once) (λ l. past 6 6 l (omega arith));
                first_axiom = λ i e. subst (IsFirstFaulty (signature_reached d main) (axioms_reached d main)) (same_number h.0 i e) told;
              })
            where
              same_number : (j i : ℕ) → rule_fault j ≡ rule_fault i → j ≡ i
              same_number j i e = cc

          -- none of them
          pub no_fault : AreSound (signature_of (sentences_of ms)) (rewrite_axioms (map (λ m. module_view m.now) ms)) → HasNoFault d main
          no_fault sound f =
              let rules : AreSound (signature_reached d main) (axioms_reached d main) =
              subst (λ l. AreSound (signature_reached d main) (rewrite_axioms l)) seen (subst (λ ss. AreSound (signature_of ss) (rewrite_axioms (map (λ m. module_view m.now) ms))) sentences sound) in
              none_before 7 (λ _. once) (λ _. found) (λ _ n. imports (unknown_import n)) (λ _. imports import_cycle) (λ _. sorts_once) (λ _. symbols_once) (λ _. rules) f (least f)
            where
              least : (f : Fault) → rank f < 7
              least (unknown_import n) = omega arith
              least import_cycle = omega arith
              least (duplicate_sort n) = omega arith
              least (duplicate_symbol n) = omega arith
              least (duplicate_module n) = omega arith
              least (rule_fault i) = omega arith
              least no_main_module = omega arith
