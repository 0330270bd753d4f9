use Rattle.std.proofs.Common.{rules, ◌≡◌, sym, ◌∙◌, ap, map, subst, string_bytes, length, ◌≤◌}
use Rattle.std.proofs.lemmas.Result.{err_from_is_err_and}
use Rattle.kp_kore.specs.Syntax.{application}
use Rattle.kp_kore.specs.View.{view, sorts_view, patterns_view}
use Rattle.kp_kore.specs.declared.pattern.Pattern.{the_lemmas}
use Rattle.kp_signature.specs.View.{signature_view}
use Rattle.kp_symbolic.specs.View.{replaced_view}
use Rattle.kp_symbolic.specs.Faultless.{IsFaultless}
use Rattle.kp_symbolic.proofs.EachTerm.{all_are_folded, faultless_arguments}
use Rattle.kp_symbolic.proofs.fold.+fold.Goals as goal

pub term_under-returns-in_err-terms-in-Application-clause-refused : goal.term_under-returns-in_err-terms-in-Application-clause-refused
term_under-returns-in_err-terms-in-Application-clause-refused t c =
    let g = signature_view c.args.language.now.signature.now in
    let p = err_from_is_err_and c.from_residual-in_err-terms-in-Application.result c.from_residual-in_err-terms-in-Application.ensures.1 in
    let is : view c.args.pattern.now ≡ application (string_bytes c.in-Application.symbol) (sorts_view c.in-Application.sorts.items) (patterns_view c.deref.result.now) =
    (search (rules, the_lemmas)) ∙ ap (λ ps. application (string_bytes c.in-Application.symbol) (sorts_view c.in-Application.sorts.items) (patterns_view ps)) (sym c.deref.ensures.value) in
    rw (p.1, p.2) (λ faultless. c.in_err-terms-in-Application.ensures.refused
    (faultless_arguments g (string_bytes c.in-Application.symbol) (sorts_view c.in-Application.sorts.items) c.deref.result.now (subst (IsFaultless g) is faultless)))

pub terms_under-returns-clause-meant : goal.terms_under-returns-clause-meant
terms_under-returns-clause-meant t c =
    let past : length c.args.patterns.now ≤ c.loop-pattern.pattern-index = search rules in
    all_are_folded (signature_view c.args.language.now.signature.now) (map replaced_view c.args.replaced.now) c.loop-pattern.terms.items c.args.patterns.now c.loop-pattern.pattern-index c.loop-pattern.invariant past
