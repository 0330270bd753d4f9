use Rattle.std.specs.Int.{w128}
use Rattle.std.proofs.Common.{rules, ◌≡◌, sym, ◌∙◌, ap, map, subst, IfOk, to_z, of_z, length, ◌≤◌, arith}
use Rattle.std.proofs.lemmas.Result.{err_from_is_err_and}
use Rattle.kp_signature.specs.View.{signature_view}
use Rattle.kp_symbolic.specs.Terms.{offset}
use Rattle.kp_symbolic.specs.Folding as model
use Rattle.kp_symbolic.specs.View.{variable_view, term_view, replaced_view}
use Rattle.kp_symbolic.specs.declared.term.Term.{the_lemmas}
use Rattle.kp_symbolic.proofs.EachTerm.{all_are_replaced, written_at}
use Rattle.kp_symbolic.proofs.term.Term.+replace.Goals as goal

pub all_replaced-returns-in_err-replaced-clause-refused : goal.all_replaced-returns-in_err-replaced-clause-refused
all_replaced-returns-in_err-replaced-clause-refused t c =
    let p = err_from_is_err_and c.from_residual.result c.from_residual.ensures.1 in
    rw (p.1, p.2) (λ all. c.in_err-replaced.ensures.refused
    (written_at (signature_view c.args.language.now.signature.now) c.args.terms.now c.loop-term.term-index c.term-item.result (omega arith) c.term-item.is all))

pub all_replaced-returns-clause-meant : goal.all_replaced-returns-clause-meant
all_replaced-returns-clause-meant t c =
    let past : length c.args.terms.now ≤ c.loop-term.term-index = search rules in
    all_are_replaced (signature_view c.args.language.now.signature.now) (map replaced_view c.args.replaced.now) c.loop-term.found.items c.args.terms.now c.loop-term.term-index c.loop-term.invariant past

pub replaced-returns-in_ok-term-in-Offset-clause-meant : goal.replaced-returns-in_ok-term-in-Offset-clause-meant
replaced-returns-in_ok-term-in-Offset-clause-meant t c =
    let g = signature_view c.args.language.now.signature.now in
    let rs = map replaced_view c.args.replaced.now in
    let x = variable_view c.in-Offset.variable.value in
    let n = c.in-Offset.constant in
    let same : to_z w128 (of_z w128 n) ≡ n = search rules in
    let is : term_view c.args.self.now ≡ offset x n = search (rules, the_lemmas) in
    subst (λ u. IfOk c.added.result (λ r. term_view r ≡ u))
    (ap (λ k. model.added g (term_view c.in_ok-term-in-Offset.term) k (offset x k)) same
    ∙ ap (λ r. model.added g r n (offset x n)) c.in_ok-term-in-Offset.ensures
    ∙ ap (model.replaced g rs) (sym is))
    (c.added.ensures.meant x)
