use Rattle.std.proofs.Common.{rules, ◌≡◌, sym, ap, subst, ◌∙◌, true, false, [], length, nat_eq}
use Rattle.std.proofs.lemmas.Result.{err_from_is_err_and}
use Rattle.kp_kore.specs.Parts.{free_variables}
use Rattle.kp_kore.specs.View.{view}
use Rattle.kp_compile.specs.Exact.{are_named}
use Rattle.kp_compile.specs.Names.{names_seen}
use Rattle.kp_ground.specs.Slots.{term_reads}
use Rattle.kp_signature.specs.View.{signature_view}
use Rattle.kp_kore.specs.Numbers.{computes_wide}
use Rattle.kp_ground.specs.Terms.{stays_narrow}
use Rattle.kp_ground.specs.TermView.{term_view}
use Rattle.kp_compile.proofs.GroundStates.{no_variables}
use Rattle.kp_successors.proofs.Finding.{not_none, not_wide, unvalued}
use Rattle.kp_successors.proofs.value.value_of.Goals as goal

pub returns-then-not-is_empty-clause-refused : goal.returns-then-not-is_empty-clause-refused
returns-then-not-is_empty-clause-refused c =
    let empty : c.is_empty.result ≡ nat_eq (length c.in_ok-free_vars.field-0.items) 0 = search rules in
    let isnt : c.is_empty.result ≡ false = search rules in
    λ _ closed. not_none c.is_empty.result c.in_ok-free_vars.field-0.items empty isnt (c.in_ok-free_vars.ensures ∙ closed)

pub returns-in_err-evaluate-in-Ok-clause-refused : goal.returns-in_err-evaluate-in-Ok-clause-refused
returns-in_err-evaluate-in-Ok-clause-refused c =
    let e = err_from_is_err_and c.from_residual-in_err-evaluate-in-Ok.result c.from_residual-in_err-evaluate-in-Ok.ensures.1 in
    let empty : c.is_empty.result ≡ nat_eq (length c.in_ok-free_vars.field-0.items) 0 = search rules in
    let is : c.is_empty.result ≡ true = search rules in
    rw e.1 (unvalued (signature_view c.args.signature.now) (view c.args.pattern.now) (term_view c.in-Ok.term) c.in_err-evaluate-in-Ok.field-0.0 e.0 e.2
    c.in_err-evaluate-in-Ok.ensures c.in-Ok.ensures.narrow)

pub returns-in-Ok-clause-meant : goal.returns-in-Ok-clause-meant
returns-in-Ok-clause-meant c = λ v. sym (c.in-Ok.ensures.meaning v) ∙ sym ((c.in_ok-evaluate-in-Ok.ensures v tt).0)

pub returns-in-Ok-clause-narrow : goal.returns-in-Ok-clause-narrow
returns-in-Ok-clause-narrow c = λ v.
    not_wide (stays_narrow v (term_view c.in-Ok.term)) (computes_wide (signature_view c.args.signature.now) v (view c.args.pattern.now)) (c.in-Ok.ensures.narrow v) ((c.in_ok-evaluate-in-Ok.ensures v tt).1)

pub evaluate-requires : goal.evaluate-requires
evaluate-requires c =
    let empty : c.is_empty.result ≡ nat_eq (length c.in_ok-free_vars.field-0.items) 0 = search rules in
    let is : c.is_empty.result ≡ true = search rules in
    let closed : free_variables (view c.args.pattern.now) ≡ [] = sym c.in_ok-free_vars.ensures ∙ no_variables c.is_empty.result c.in_ok-free_vars.field-0.items empty is in
    subst (λ xs. term_reads xs c.in-Ok.term ≡ true) c.no_names.ensures (c.in-Ok.ensures.reads (ap (are_named (names_seen c.no_names.result)) closed))
