use Rattle.std.proofs.Common.{◌≡◌, sym, true, ap, ◌∙◌, subst, map}
use Rattle.kp_kore.specs.Signature.{signature_of, sorts_in, symbols_in}
use Rattle.kp_kore.specs.Syntax.{Text}
use Rattle.kp_kore.specs.View.{module_view, definition_view}
use Rattle.kp_kore.specs.Theory.{modules_reached, rewrite_axioms}
use Rattle.kp_signature.specs.Table.{sort_names, symbol_names}
use Rattle.kp_signature.specs.View.{sentences_of}
use Rattle.kp_imports.specs.Faults.{signature_reached, AreSound, TellsFaulty, TellsFirst, duplicate_symbol}
use Rattle.kp_imports.specs.Names.{AreOnce, IsFirstRepeated, Lists, names_of}
use Rattle.kp_modules.specs.Made.{IsRunOf, IsSetOf}
use Rattle.kp_imports.specs.Reaching.{has}
use Rattle.kp_imports.proofs.Chains.{exit}
use Rattle.kp_modules.proofs.Firsts.{first_of_sorts, first_of_symbols, first_of_rules, no_fault}
use Rattle.kp_rule_sets.specs.RuleSets.{RunsAs}
use Rattle.kp_modules.proofs.Kept.{kept}
use Rattle.kp_modules.proofs.Opened.{opened, main_reached}
use Rattle.kp_modules.proofs.table.load.Goals as goal

pub returns-in_err-check_sorts-clause-err : goal.returns-in_err-check_sorts-clause-err
returns-in_err-check_sorts-clause-err c =
    let d = definition_view c.args.definition.now in
    let main = c.args.main.now in
    let ms = c.deref.result.now in
    let seen : map (λ m. module_view m.now) ms ≡ modules_reached d main = ap (map (λ m. module_view m.now)) c.deref.ensures.value ∙ c.in_ok-modules.ensures.ok in
    exit c.from_residual-in_err-check_sorts.result (TellsFirst d main) c.in_err-check_sorts.field-0.0 c.from_residual-in_err-check_sorts.ensures
    (λ f h. first_of_sorts d main c.in_ok-modules.ensures.once ms seen c.in_ok-modules.ensures.main c.in_ok-modules.ensures.none f (c.in_err-check_sorts.ensures.err f h))

pub returns-in_err-check_symbols-clause-err : goal.returns-in_err-check_symbols-clause-err
returns-in_err-check_symbols-clause-err c =
    let d = definition_view c.args.definition.now in
    let main = c.args.main.now in
    let ms = c.in_ok-modules.modules.items in
    exit c.from_residual-in_err-check_symbols.result (TellsFirst d main) c.in_err-check_symbols.field-0.0 c.from_residual-in_err-check_symbols.ensures
    (λ f h. first_of_symbols d main c.in_ok-modules.ensures.once ms c.in_ok-modules.ensures.ok c.in_ok-modules.ensures.main c.in_ok-modules.ensures.none
    (subst (λ l. AreOnce (sort_names (sorts_in (sentences_of l)))) c.deref.ensures.value c.in_ok-check_sorts.ensures.ok) f
    (subst (λ l. (n : Text) × (f ≡ duplicate_symbol n) × IsFirstRepeated n (symbol_names (symbols_in (sentences_of l)))) c.deref-2.ensures.value (c.in_err-check_symbols.ensures.err f h)))

pub returns-in_err-set-clause-err : goal.returns-in_err-set-clause-err
returns-in_err-set-clause-err c =
    let d = definition_view c.args.definition.now in
    let main = c.args.main.now in
    let ms = c.in_ok-modules.modules.items in
    exit c.from_residual-in_err-set.result (TellsFirst d main) c.in_err-set.field-0.0 c.from_residual-in_err-set.ensures
    (λ f h. first_of_rules d main c.in_ok-modules.ensures.once ms c.in_ok-modules.ensures.ok c.in_ok-modules.ensures.main c.in_ok-modules.ensures.none
    (subst (λ l. AreOnce (sort_names (sorts_in (sentences_of l)))) c.deref.ensures.value c.in_ok-check_sorts.ensures.ok)
    (subst (λ l. AreOnce (symbol_names (symbols_in (sentences_of l)))) c.deref-2.ensures.value c.in_ok-check_symbols.ensures.ok) f
    (subst (λ l. TellsFaulty (signature_of (sentences_of l)) (rewrite_axioms (map (λ m. module_view m.now) l)) c.in_err-set.field-0.0) c.deref-3.ensures.value c.in_err-set.ensures.err f h))

pub returns-clause-none : goal.returns-clause-none
returns-clause-none c =
    let d = definition_view c.args.definition.now in
    let main = c.args.main.now in
    no_fault d main c.in_ok-modules.ensures.once c.in_ok-modules.modules.items c.in_ok-modules.ensures.ok c.in_ok-modules.ensures.main c.in_ok-modules.ensures.none
    (subst (λ l. AreOnce (sort_names (sorts_in (sentences_of l)))) c.deref.ensures.value c.in_ok-check_sorts.ensures.ok)
    (subst (λ l. AreOnce (symbol_names (symbols_in (sentences_of l)))) c.deref-2.ensures.value c.in_ok-check_symbols.ensures.ok)
    (subst (λ l. AreSound (signature_of (sentences_of l)) (rewrite_axioms (map (λ m. module_view m.now) l))) c.deref-3.ensures.value c.in_ok-set.ensures.sound)

pub returns-clause-loaded : goal.returns-clause-loaded
returns-clause-loaded c =
    let d = definition_view c.args.definition.now in
    let main = c.args.main.now in
    let seen : map (λ m. module_view m.now) c.deref-3.result.now ≡ modules_reached d main = ap (map (λ m. module_view m.now)) c.deref-3.ensures.value ∙ c.in_ok-modules.ensures.ok in
    let run = subst (λ l. IsRunOf l c.in_ok-set.set) seen c.in_ok-set.ensures.ok in
    (run.theory, record { signature = run.signature; rules = run.meant }, subst (RunsAs run.theory) (sym c.in_ok-table_over.ensures.rules) run.runs)

pub returns-clause-made : goal.returns-clause-made
returns-clause-made c =
    let d = definition_view c.args.definition.now in
    let main = c.args.main.now in
    let seen : map (λ m. module_view m.now) c.deref-3.result.now ≡ modules_reached d main = ap (map (λ m. module_view m.now)) c.deref-3.ensures.value ∙ c.in_ok-modules.ensures.ok in
    let run = subst (λ l. IsRunOf l c.in_ok-set.set) seen c.in_ok-set.ensures.ok in
    let axioms = rewrite_axioms (modules_reached d main) in
    let set : IsSetOf (signature_reached d main) axioms c.in_ok-set.set = subst (λ g. IsSetOf g axioms c.in_ok-set.set) run.signature run.made in
    subst (IsSetOf (signature_reached d main) axioms) (sym c.in_ok-table_over.ensures.rules) set

pub returns-clause-main : goal.returns-clause-main
returns-clause-main c = c.in_ok-table_over.ensures.table.main_named

pub returns-clause-reaches : goal.returns-clause-reaches
returns-clause-reaches c =
    let d = definition_view c.args.definition.now in
    let main = c.args.main.now in
    let tabled : map (λ m. module_view m.now) c.deref-4.result.now ≡ modules_reached d main = ap (map (λ m. module_view m.now)) c.deref-4.ensures.value ∙ c.in_ok-modules.ensures.ok in
    subst (λ l. Lists (names_of l) c.in_ok-table_over.field-0.names) tabled c.in_ok-table_over.ensures.table.names

pub returns-clause-opening : goal.returns-clause-opening
returns-clause-opening c =
    let d = definition_view c.args.definition.now in
    let main = c.args.main.now in
    let seen : map (λ m. module_view m.now) c.deref-3.result.now ≡ modules_reached d main = ap (map (λ m. module_view m.now)) c.deref-3.ensures.value ∙ c.in_ok-modules.ensures.ok in
    let tabled : map (λ m. module_view m.now) c.deref-4.result.now ≡ modules_reached d main = ap (map (λ m. module_view m.now)) c.deref-4.ensures.value ∙ c.in_ok-modules.ensures.ok in
    let run = subst (λ l. IsRunOf l c.in_ok-set.set) seen c.in_ok-set.ensures.ok in
    let axioms = rewrite_axioms (modules_reached d main) in
    let set : IsSetOf (signature_reached d main) axioms c.in_ok-set.set = subst (λ g. IsSetOf g axioms c.in_ok-set.set) run.signature run.made in
    let table = c.in_ok-table_over.field-0 in
    let over = c.in_ok-table_over.ensures.table in
    let listed : Lists (names_of (modules_reached d main)) table.names = subst (λ l. Lists (names_of l) table.names) tabled over.names in
    let there : has main (names_of (modules_reached d main)) ≡ true = main_reached d main c.in_ok-modules.ensures.main in
    opened d main table over.main_named (subst (IsSetOf (signature_reached d main) axioms) (sym c.in_ok-table_over.ensures.rules) set) listed there
    (kept d main table c.deref-4.result.now c.deref-4.result.now tabled tabled c.in_ok-modules.ensures.laid over.outlines over.spans)
