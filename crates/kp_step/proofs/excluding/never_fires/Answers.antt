use Rattle.std.proofs.Common.{rules, ◌≡◌, ◌∙◌, ap, subst}
use Rattle.kp_symbolic.specs.View.{clauses_view, state_view}
use Rattle.kp_solving.specs.Further.{constrained}
use Rattle.kp_satisfiability.specs.Read.{HasSortedClauses}
use Rattle.kp_satisfiability.proofs.Answered.{if_ok}
use Rattle.kp_unify.specs.Views.{signature_of, numbered_view}
use Rattle.kp_step.specs.Opposites.{plain_state, TellsNone}
use Rattle.kp_step.specs.Firings.{numbered, clauses_of_firing}
use Rattle.kp_step.proofs.SilentLemmas.{never_by_plain, plain_sorted}
use Rattle.kp_step.proofs.excluding.never_fires.Goals as goal

pub returns : goal.returns
returns c used body p f =
    let g = signature_of c.args.setting.now in
    let s = state_view c.args.firing.now.part.state in
    let cs = clauses_of_firing c.args.firing.now in
    let made : clauses_view c.in_ok-clauses.clauses.items ≡ cs = search rules in
    let plain : state_view c.in_ok-plain.plain ≡ plain_state g s = search rules in
    let with : state_view c.in_ok-state.state ≡ constrained (state_view c.in_ok-plain.plain) (clauses_view c.in_ok-clauses.clauses.items) = search rules in
    let is = with ∙ ap (λ z. constrained z (clauses_view c.in_ok-clauses.clauses.items)) plain ∙ ap (constrained (plain_state g s)) made in
    if_ok c.is_empty.result _ _
    (λ b told.
    let tells = subst (λ z. HasSortedClauses g z → TellsNone g z b) is told (plain_sorted g s cs f.here.sorted.state f.right) in
    ((λ shown. never_by_plain g used body p (numbered_view c.args.firing.now.part) cs (numbered c.args.firing.now.apart.items) f (tells.0 shown)), tells.1))
    c.is_empty.ensures
