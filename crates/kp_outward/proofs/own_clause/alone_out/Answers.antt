use Rattle.std.proofs.Common.{rules, ◌≡◌, ◌∙◌, sym, ap, true, false}
use Rattle.kp_kore.specs.View.{view, sort_view}
use Rattle.kp_signature.specs.View.{signature_view}
use Rattle.kp_symbolic.specs.States.{same}
use Rattle.kp_symbolic.specs.Writing.{written_literal, variable_first}
use Rattle.kp_symbolic.specs.View.{literal_view, term_view}
use Rattle.kp_outward.proofs.TurnedLemmas.{as_it_stands, equation_first, denied_first, other_first, is_equality}
use Rattle.kp_outward.proofs.own_clause.alone_out.Goals as goal

pub returns-then-not-literal-clause-written : goal.returns-then-not-literal-clause-written
returns-then-not-literal-clause-written c =
    let g = signature_view c.args.language.now.signature.now in
    let l = literal_view c.args.literal.now in
    as_it_stands (λ p. view p.value) g (sort_view c.args.sort.now) l c.literal_out.result (denied_first g l (search rules)) c.literal_out.ensures.written

pub returns-in_ok-equation_out-in-Same-clause-written : goal.returns-in_ok-equation_out-in-Same-clause-written
returns-in_ok-equation_out-in-Same-clause-written c =
    let g = signature_view c.args.language.now.signature.now in
    let s = sort_view c.deref.result.now in
    let t = term_view c.in-Same.left in
    let u = term_view c.in-Same.right in
    let is : record { holds = true; atom = same s t u } ≡ literal_view c.args.literal.now = search rules in
    c.in_ok-equation_out-in-Same.ensures ∙ ap (written_literal g (sort_view c.args.sort.now)) (sym (equation_first g s t u) ∙ ap (variable_first g) is)

pub returns-in-Head-clause-written : goal.returns-in-Head-clause-written
returns-in-Head-clause-written c =
    let g = signature_view c.args.language.now.signature.now in
    let l = literal_view c.args.literal.now in
    let other : is_equality l.atom ≡ false = search rules in
    as_it_stands (λ p. view p.value) g (sort_view c.args.sort.now) l c.literal_out-in-Head.result (other_first g l other) c.literal_out-in-Head.ensures.written
