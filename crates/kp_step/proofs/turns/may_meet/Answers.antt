use Rattle.std.proofs.Common.{◌≡◌, ◌∙◌, ap}
use Rattle.kp_symbolic.specs.View.{clauses_view, state_view}
use Rattle.kp_case_laws.specs.Parts.{with_clauses}
use Rattle.kp_unify.specs.Views.{signature_of, numbered_view}
use Rattle.kp_step.specs.Answers.{firing_model}
use Rattle.kp_step.proofs.MeetLemmas.{whole_sorted}
use Rattle.kp_step.proofs.TriedLemmas.{some_answer, may_meet, not_met}
use Rattle.kp_step.proofs.turns.may_meet.Goals as goal

pub returns : goal.returns
returns c t used s place e setting w at i =
    let f = firing_model c.args.firing.now in
    let same : state_view c.in_ok-met.met ≡ (with_clauses f.part.part f.equations).state = c.in_ok-met.ensures ∙ ap (λ cs. (with_clauses f.part.part (clauses_view cs)).state) c.deref.ensures.value in
    (λ holds. may_meet t used s (state_view c.args.whole.now.state) place f c.args.left.now (signature_of c.args.setting) (state_view c.in_ok-met.met) c.in_ok-answer_where_met.field-0 e (ap (λ p. p.state) w.is) (whole_sorted t.signature used s (numbered_view c.args.whole.now) w) at i same c.in_ok-answer_where_met.ensures (some_answer c.in_ok-answer_where_met.field-0 c.in-Instance.is), (λ no. absurd (cc)))

pub returns-in-Nothing : goal.returns-in-Nothing
returns-in-Nothing c t used s place e setting w at i =
    let f = firing_model c.args.firing.now in
    let same : state_view c.in_ok-met.met ≡ (with_clauses f.part.part f.equations).state = c.in_ok-met.ensures ∙ ap (λ cs. (with_clauses f.part.part (clauses_view cs)).state) c.deref.ensures.value in
    ((λ holds. absurd (cc)), (λ no. not_met t used s (state_view c.args.whole.now.state) place f c.args.left.now (signature_of c.args.setting) (state_view c.in_ok-met.met) c.in_ok-answer_where_met.field-0 e (ap (λ p. p.state) w.is) (whole_sorted t.signature used s (numbered_view c.args.whole.now) w) at i same c.in_ok-answer_where_met.ensures c.in-Nothing.is))
