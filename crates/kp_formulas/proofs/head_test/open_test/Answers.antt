use Rattle.std.proofs.Common.{rules, ◌≡◌, sym, subst, map, IfOk, string_bytes}
use Rattle.kp_signature.specs.View.{signature_view}
use Rattle.kp_symbolic.specs.Formulas.{fact}
use Rattle.kp_symbolic.specs.Opening.{opened_test}
use Rattle.kp_symbolic.specs.Terms.{headed}
use Rattle.kp_symbolic.specs.View.{term_view, terms_of, test_view, literal_view}
use Rattle.kp_symbolic.specs.declared.term.Term.{the_lemmas}
use Rattle.kp_formulas.specs.FormulaView.{formula_view}
use Rattle.kp_formulas.proofs.head_test.open_test.Goals as goal

pub returns-in-Headed : goal.returns-in-Headed
returns-in-Headed c =
    let g = signature_view c.args.signature.now in
    let test = test_view c.args.test.now in
    let kept = fact (literal_view c.args.kept.now) in
    let ts = terms_of (map term_view c.in-Headed.arguments.value.items) in
    let is : term_view c.args.term.now ≡ headed (string_bytes c.in-Headed.symbol.value) ts = search (rules, the_lemmas) in
    let name : c.deref-in-Headed.result.now ≡ string_bytes c.in-Headed.symbol.value = search rules in
    subst (λ t. IfOk c.open_applied.result (λ f. formula_view f ≡ opened_test g c.args.sign test kept t)) (sym is)
    (subst (λ n. IfOk c.open_applied.result (λ f. formula_view f ≡ opened_test g c.args.sign test kept (headed n ts))) name (c.open_applied.ensures ts))
