-- What a definition binds from the start.
use Rattle.std.proofs.Common.{◌≡◌, refl, sym, ap, subst, ◌∙◌, Bool, true, false, ◌||◌, cond, List, [], ◌∷◌, ◌++◌, Option, Some, None, unwrap_or, length}
use Rattle.std.specs.Option.{is_some}
use Rattle.std.specs.List.{cons_option, filter_map, flat_map}
use Rattle.std.specs.Str.{bytes_eq}
use Rattle.std.proofs.lemmas.Slice.Eq.{bytes_eq-Decides}
use Rattle.kp_kore.specs.Syntax.{Text, KoreModule, KoreDefinition}
use Rattle.kp_kore.specs.Theory.{NumberedAxiom, modules_reached, module_named, names_reached, imports_in, sentences_of, rewrite_axioms}
use Rattle.kp_book.specs.Books.{rules_in}
use Rattle.kp_imports.specs.Faults.{signature_reached}
use Rattle.kp_modules.specs.Keeping.{KeepsReached}
use Rattle.kp_modules.specs.Made.{IsSetOf}
use Rattle.kp_imports.specs.Names.{names_of}
use Rattle.kp_modules.specs.Openings.{IsTableOf, bound_in, opening_of}
use Rattle.kp_imports.specs.Reaching.{has}
use Rattle.kp_modules.specs.Tables.{rule_set_of, main_of, does_reach}
use Rattle.kp_modules.specs.declared.table.ModuleTable.{ModuleTable}
use Rattle.kp_imports.proofs.Chains.{last_there}
use Rattle.kp_imports.proofs.Collect.{each_once_is, false_true, has_collect}

-- a name of one of the modules means what that module reaches
pub bound_where : (d : KoreDefinition) (ms : List KoreModule) (n : Text) → rules_in (bound_in d ms) n ≡ cond (has n (names_of ms)) (Some (rewrite_axioms (modules_reached d n))) None
bound_where d [] n = refl
bound_where d (m ∷ ms) n = by (bytes_eq n m.name) refl (bound_where d ms n)
  where
    by : (b : Bool) → bytes_eq n m.name ≡ b → rules_in (bound_in d ms) n ≡ cond (has n (names_of ms)) (Some (rewrite_axioms (modules_reached d n))) None →
        cond b (Some (rewrite_axioms (modules_reached d m.name))) (rules_in (bound_in d ms) n) ≡ cond (b || has n (names_of ms)) (Some (rewrite_axioms (modules_reached d n))) None
    by true e h = ap (λ x. Some (rewrite_axioms (modules_reached d x))) (sym ((bytes_eq-Decides n m.name).0 e))
    by false e h = h

told : (b : Bool) (axioms : List NumberedAxiom) → is_some (cond b (Some axioms) None) ≡ b
told true axioms = refl
told false axioms = refl

pub opened : (d : KoreDefinition) (main : Text) (t : ModuleTable) → main_of t ≡ main → IsSetOf (signature_reached d main) (rewrite_axioms (modules_reached d main)) (rule_set_of t) →
    ((n : Text) → does_reach t n ≡ has n (names_of (modules_reached d main))) → has main (names_of (modules_reached d main)) ≡ true → KeepsReached d main t → IsTableOf (opening_of d main) t
opened d main t e h reaches there keeps = record {
  main = e;
  axioms = rewrite_axioms (modules_reached d main);
  bound = bound_where d (modules_reached d main) main ∙ ap (λ b. cond b (Some (rewrite_axioms (modules_reached d main))) None) there;
  rules = h;
  reaches = λ n. reaches n ∙ sym (ap is_some (bound_where d (modules_reached d main) n) ∙ told (has n (names_of (modules_reached d main))) (rewrite_axioms (modules_reached d n)));
  definition = d;
  modules = refl;
  keeps = keeps;
}

-- ---- main is reached

pub named_so : (ms : List KoreModule) (n : Text) (m : KoreModule) → module_named ms n ≡ Some m → bytes_eq n m.name ≡ true
named_so [] n m h = absurd (cc)
named_so (x ∷ ms) n m h = by (bytes_eq x.name n) refl h (named_so ms n m)
  where
    the_one : Some x ≡ Some m → x ≡ m
    the_one e = ap (λ o. unwrap_or o x) e

    by : (b : Bool) → bytes_eq x.name n ≡ b → cond b (Some x) (module_named ms n) ≡ Some m → (module_named ms n ≡ Some m → bytes_eq n m.name ≡ true) → bytes_eq n m.name ≡ true
    by true e k rest = subst (λ y. bytes_eq n y.name ≡ true) (the_one k) ((bytes_eq-Decides n x.name).1 (sym ((bytes_eq-Decides x.name n).0 e)))
    by false e k rest = rest k

kept : (ms : List KoreModule) (names : List Text) (n : Text) → has n names ≡ true → ¬ (module_named ms n ≡ None) → has n (names_of (filter_map (module_named ms) names)) ≡ true
kept ms [] n h k = false_true h
kept ms (x ∷ names) n h k = by (bytes_eq n x) refl h (module_named ms x) refl (λ e. kept ms names n e k)
  where
    later : (b : Bool) → has n (names_of (filter_map (module_named ms) names)) ≡ true → (b || has n (names_of (filter_map (module_named ms) names))) ≡ true
    later true e = refl
    later false e = e

    at_first : (b c : Bool) → b ≡ true → (b || c) ≡ true
    at_first true c e = refl
    at_first false c e = false_true e

    by : (b : Bool) → bytes_eq n x ≡ b → (b || has n names) ≡ true → (o : Option KoreModule) → module_named ms x ≡ o → (has n names ≡ true → has n (names_of (filter_map (module_named ms) names)) ≡ true) →
        has n (names_of (cons_option o (filter_map (module_named ms) names))) ≡ true
    by true e a (Some m) f rest = at_first (bytes_eq n m.name) (has n (names_of (filter_map (module_named ms) names))) (named_so ms n m (ap (module_named ms) ((bytes_eq-Decides n x).0 e) ∙ f))
    by true e a None f rest = absurd (k (ap (module_named ms) ((bytes_eq-Decides n x).0 e) ∙ f))
    by false e a (Some m) f rest = later (bytes_eq n m.name) (rest a)
    by false e a None f rest = rest a

among_reached : (ms : List KoreModule) (main : Text) → ¬ (module_named ms main ≡ None) → has main (names_reached (length ms) ms main) ≡ true
among_reached [] main h = absurd (h refl)
among_reached (m ∷ ms) main h =
    let before = flat_map (names_reached (length ms) (m ∷ ms)) (imports_in (sentences_of (module_named (m ∷ ms) main))) in
    ap (has main) (each_once_is (before ++ main ∷ [])) ∙ has_collect main [] (before ++ main ∷ []) ∙ last_there main before

pub main_reached : (d : KoreDefinition) (main : Text) → ¬ (module_named d.modules main ≡ None) → has main (names_of (modules_reached d main)) ≡ true
main_reached d main h = kept d.modules (names_reached (length d.modules) d.modules main) main (among_reached d.modules main h) h
