use Rattle.std.proofs.Common.{rules, ◌≡◌, ◌∙◌, sym, ap, subst, true, [], length, nat_eq}
use Rattle.std.specs.Prelude.{IsTrue}
use Rattle.kp_kore.specs.Parts.{is_term, free_variables}
use Rattle.kp_kore.specs.View.{view}
use Rattle.kp_ground.specs.Slots.{term_reads}
use Rattle.kp_signature.specs.View.{signature_view}
use Rattle.kp_compile.specs.Exact.{are_named}
use Rattle.kp_compile.specs.Names.{names_seen}
use Rattle.kp_compile.proofs.GroundStates.{no_variables, value_meant, value_narrow, value_wide}
use Rattle.kp_compile.proofs.Injections.{is_compiled}
use Rattle.kp_compile.proofs.state.value_of.Goals as goal

pub returns-in-Ok-clause-meant : goal.returns-in-Ok-clause-meant
returns-in-Ok-clause-meant c = value_meant c.evaluated.result (signature_view c.args.signature.now) (view c.args.pattern.now) c.in-Ok.term c.in-Ok.ensures.meaning c.evaluated.ensures.meant

pub returns-in-Ok-clause-narrow : goal.returns-in-Ok-clause-narrow
returns-in-Ok-clause-narrow c = value_narrow c.evaluated.result (signature_view c.args.signature.now) (view c.args.pattern.now) c.in-Ok.term c.in-Ok.ensures.narrow c.evaluated.ensures.narrow

pub returns-in-Ok-clause-other_shape : goal.returns-in-Ok-clause-other_shape
returns-in-Ok-clause-other_shape c = λ place verified none.
    value_wide c.evaluated.result (signature_view c.args.signature.now) (view c.args.pattern.now) c.in-Ok.term c.in-Ok.ensures.narrow c.evaluated.ensures.wide

-- what is verified and without foreign symbols is compiled
pub returns-clause-other_shape : goal.returns-clause-other_shape
returns-clause-other_shape c = λ place verified none is.
    let term : IsTrue (is_term (view c.args.pattern.now)) = search rules in
    absurd (c.refused.ensures.other_shape is (c.in-Err.ensures.refused (is_compiled (signature_view c.args.signature.now) place (view c.args.pattern.now) verified none term)))

-- no variable, so that nothing is read
pub evaluated-requires : goal.evaluated-requires
evaluated-requires c =
    let empty : c.is_empty.result ≡ nat_eq (length c.in_ok-free_vars.field-0.items) 0 = search rules in
    let is : c.is_empty.result ≡ true = search rules in
    let closed : free_variables (view c.args.pattern.now) ≡ [] = sym c.in_ok-free_vars.ensures ∙ no_variables c.is_empty.result c.in_ok-free_vars.field-0.items empty is in
    subst (λ xs. term_reads xs c.in-Ok.term ≡ true) c.no_names.ensures (c.in-Ok.ensures.reads (ap (are_named (names_seen c.no_names.result)) closed))
