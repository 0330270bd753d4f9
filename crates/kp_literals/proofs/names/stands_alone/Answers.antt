use Rattle.std.proofs.Common.{rules, ◌≡◌, refl, sym, true, false}
use Rattle.kp_kore.specs.Instance.{is_named}
use Rattle.kp_symbolic.specs.Terms.{term_variables}
use Rattle.kp_symbolic.specs.View.{clauses_view, state_view, term_view}
use Rattle.kp_literals.specs.Names.{is_named_in}
use Rattle.kp_literals.proofs.NameLemmas.{alone_by}
use Rattle.kp_literals.proofs.names.stands_alone.Goals as goal

pub returns-then-branch : goal.returns-then-branch
returns-then-branch c =
    let x = c.args.name.now in
    let after = clauses_view c.args.after.now in
    let out : false ≡ is_named x (term_variables (term_view c.args.state.now.term)) = search rules in
    let here : true ≡ is_named_in x (clauses_view c.args.before.now) = search rules in
    sym (alone_by (state_view c.args.state.now) (clauses_view c.args.before.now) after x false true (is_named_in x after) out here refl)

pub returns : goal.returns
returns c =
    let x = c.args.name.now in
    let out : false ≡ is_named x (term_variables (term_view c.args.state.now.term)) = search rules in
    let not_before : false ≡ is_named_in x (clauses_view c.args.before.now) = search rules in
    sym (alone_by (state_view c.args.state.now) (clauses_view c.args.before.now) (clauses_view c.args.after.now) x false false c.in_ok-clauses_have_name-2.field-0 out not_before c.in_ok-clauses_have_name-2.ensures)
