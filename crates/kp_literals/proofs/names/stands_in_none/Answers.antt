use Rattle.std.proofs.Common.{rules, ◌≡◌, refl, sym, true, false}
use Rattle.kp_symbolic.specs.View.{clauses_view}
use Rattle.kp_literals.specs.Names.{is_named_in}
use Rattle.kp_literals.proofs.NameLemmas.{in_none_by}
use Rattle.kp_literals.proofs.names.stands_in_none.Goals as goal

pub returns-then-branch : goal.returns-then-branch
returns-then-branch c =
    let x = c.args.name.now in
    let after = clauses_view c.args.after.now in
    let here : true ≡ is_named_in x (clauses_view c.args.before.now) = search rules in
    sym (in_none_by (clauses_view c.args.before.now) after x true (is_named_in x after) here refl)

pub returns : goal.returns
returns c =
    let x = c.args.name.now in
    let not_before : false ≡ is_named_in x (clauses_view c.args.before.now) = search rules in
    sym (in_none_by (clauses_view c.args.before.now) (clauses_view c.args.after.now) x false c.in_ok-clauses_have_name-2.field-0 not_before c.in_ok-clauses_have_name-2.ensures)
