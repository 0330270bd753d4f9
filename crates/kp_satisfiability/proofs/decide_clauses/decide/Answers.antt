use Rattle.std.proofs.Common.{rules, ◌≡◌, ◌∙◌, sym, subst, true, false}
use Rattle.std.specs.List.{AllByRecursion, list_all}
use Rattle.kp_signature.specs.View.{signature_view}
use Rattle.kp_heads.specs.Heads.{HasValue}
use Rattle.kp_symbolic.specs.View as terms
use Rattle.kp_symbolic.specs.View.{state_view, variables_view}
use Rattle.kp_literals.specs.Readings.{clauses_view}
use Rattle.kp_satisfiability.specs.Heads.{AreStanding}
use Rattle.kp_satisfiability.specs.Read.{has_literal, AreReadOf}
use Rattle.kp_satisfiability.proofs.Answered.{if_ok, none_of_values, none_of_literals, none_of_heads}
use Rattle.kp_satisfiability.proofs.HeadSearch.{true_false}
use Rattle.kp_satisfiability.proofs.decide_clauses.decide.Goals as goal

pub returns-then-not-have_values : goal.returns-then-not-have_values
returns-then-not-have_values c sorted =
    let g = signature_view c.args.signature.now in
    let no : c.have_values.result ≡ false = search rules in
    none_of_values g (state_view c.args.state.now)
    (λ all. true_false (sym (c.have_values.ensures.1 (subst (λ xs. AllByRecursion (λ x. HasValue g x.sort) (variables_view xs)) (sym c.deref.ensures.value) all)) ∙ no))

pub returns-then-not-have_literals : goal.returns-then-not-have_literals
returns-then-not-have_literals c sorted =
    let no : c.have_literals.result ≡ false = search rules in
    none_of_literals (signature_view c.args.signature.now) (state_view c.args.state.now)
    (subst (λ ds. list_all has_literal (terms.clauses_view ds) ≡ false) c.deref-2.ensures.value (sym c.have_literals.ensures ∙ no))

pub returns-then-not-heads_stand : goal.returns-then-not-heads_stand
returns-then-not-heads_stand c sorted =
    let g = signature_view c.args.signature.now in
    let some : c.have_literals.result ≡ true = search rules in
    let no : c.heads_stand.result ≡ false = search rules in
    none_of_heads g (state_view c.args.state.now) (clauses_view c.in_ok-clauses.clauses.items) c.in_ok-clauses.ensures.view
    (subst (λ ds. list_all has_literal (terms.clauses_view ds) ≡ true) c.deref-2.ensures.value (sym c.have_literals.ensures ∙ some))
    (λ all. true_false (sym (c.heads_stand.ensures.1 (subst (λ ds. AreStanding g (clauses_view ds)) (sym c.deref-3.ensures.value) all)) ∙ no)) sorted

pub returns : goal.returns
returns c =
    let g = signature_view c.args.signature.now in
    let s = state_view c.args.state.now in
    let valued : c.have_values.result ≡ true = search rules in
    let some : c.have_literals.result ≡ true = search rules in
    let stand : c.heads_stand.result ≡ true = search rules in
    if_ok c.decide_read.result _ _
    (λ a right sorted. right (subst (AreReadOf g s) (sym c.deref-4.ensures.value) (record {
      sorted = sorted;
      read = c.in_ok-clauses.ensures.view;
      kinds = c.in_ok-clauses.ensures.kinds;
      values = subst (λ xs. AllByRecursion (λ x. HasValue g x.sort) (variables_view xs)) c.deref.ensures.value (c.have_values.ensures.0 valued);
      literals = subst (λ ds. list_all has_literal (terms.clauses_view ds) ≡ true) c.deref-2.ensures.value (sym c.have_literals.ensures ∙ some);
      heads = subst (λ ds. AreStanding g (clauses_view ds)) c.deref-3.ensures.value (c.heads_stand.ensures.0 stand);
    })))
    c.decide_read.ensures
