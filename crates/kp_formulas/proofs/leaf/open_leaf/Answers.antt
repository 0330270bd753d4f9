use Rattle.std.proofs.Common.{rules, ◌≡◌, ◌∙◌, sym, ap, string_bytes, subst, map, IfOk, IfErr, inl, inr}
use Rattle.kp_compile.specs.declared.error.CompileError.TheVariants.{Memory}
use Rattle.kp_kore.specs.Syntax.{equals, membership, exists, forall}
use Rattle.kp_kore.specs.View.{view, sort_view}
use Rattle.kp_kore.specs.declared.pattern.Pattern.{the_lemmas}
use Rattle.kp_symbolic.specs.Opening.{opened_leaf}
use Rattle.kp_symbolic.specs.Faultless.{IsFaultless}
use Rattle.kp_symbolic.specs.Languages.{language_view}
use Rattle.kp_symbolic.specs.View.{replaced_view}
use Rattle.kp_symbolic.proofs.FaultlessParts.{first_equal, second_equal, first_in, second_in}
use Rattle.kp_formulas.specs.FormulaView.{formula_view}
use Rattle.kp_formulas.proofs.FaultlessLemmas.{both_handed}
use Rattle.kp_formulas.proofs.LeafLemmas.{asked_exists, asked_forall}
use Rattle.kp_formulas.proofs.leaf.open_leaf.Goals as goal

pub returns-in-Exists-clause-opened : goal.returns-in-Exists-clause-opened
returns-in-Exists-clause-opened c =
    let g = language_view c.args.language.now in
    let rs = map replaced_view c.args.replaced.now in
    let is : view c.args.pattern.now ≡ exists (sort_view c.in-Exists.sort) (string_bytes c.in-Exists.name) (sort_view c.in-Exists.name_sort) (view c.in-Exists.pattern.value) = search (rules, the_lemmas) in
    subst (λ x. IfOk c.open_exists.result (λ f. formula_view f ≡ x)) (asked_exists g rs c.args.alone c.args.sign (view c.args.pattern.now) _ _ _ _ is) c.open_exists.ensures.opened

pub returns-in-Forall-clause-opened : goal.returns-in-Forall-clause-opened
returns-in-Forall-clause-opened c =
    let g = language_view c.args.language.now in
    let rs = map replaced_view c.args.replaced.now in
    let is : view c.args.pattern.now ≡ forall (sort_view c.in-Forall.sort) (string_bytes c.in-Forall.name) (sort_view c.in-Forall.name_sort) (view c.in-Forall.pattern.value) = search (rules, the_lemmas) in
    subst (λ x. IfOk c.open_forall.result (λ f. formula_view f ≡ x)) (asked_forall g rs c.args.alone c.args.sign (view c.args.pattern.now) _ _ _ _ is) c.open_forall.ensures.opened

pub returns-in-Equals-clause-refused : goal.returns-in-Equals-clause-refused
returns-in-Equals-clause-refused c =
    let g = language_view c.args.language.now in
    let a = sort_view c.in-Equals.argument_sort in
    let p = view c.in-Equals.left.value in
    let q = view c.in-Equals.right.value in
    let left : c.deref-in-Equals.result.now ≡ c.in-Equals.left.value = search rules in
    let right : c.deref-in-Equals-2.result.now ≡ c.in-Equals.right.value = search rules in
    let both : IfErr c.open_equality.result (λ e. IsFaultless g p → IsFaultless g q → e ≡ Memory) =
    subst (λ x. IfErr c.open_equality.result (λ e. IsFaultless g (view x) → IsFaultless g q → e ≡ Memory)) left
    (subst (λ x. IfErr c.open_equality.result (λ e. IsFaultless g (view c.deref-in-Equals.result.now) → IsFaultless g (view x) → e ≡ Memory)) right c.open_equality.ensures.refused) in
    elim c.in-Equals.is [
      | inl i ↦ let is : view c.args.pattern.now ≡ equals a (sort_view i.0) p q = search (rules, the_lemmas, i.1) in
          subst (λ x. IfErr c.open_equality.result (λ e. IsFaultless g x → e ≡ Memory)) (sym is) (both_handed c.open_equality.result (first_equal g a (sort_view i.0) p q) (second_equal g a (sort_view i.0) p q) both)
      | inr i ↦ let is : view c.args.pattern.now ≡ membership a (sort_view i.0) p q = search (rules, the_lemmas, i.1) in
          subst (λ x. IfErr c.open_equality.result (λ e. IsFaultless g x → e ≡ Memory)) (sym is) (both_handed c.open_equality.result (first_in g a (sort_view i.0) p q) (second_in g a (sort_view i.0) p q) both)
    ]
