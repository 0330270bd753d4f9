use Rattle.kp_kore.specs.Parts.{variable_names}
use Rattle.kp_symbolic.specs.View.{state_view}
use Rattle.kp_results.specs.View.{options_view}
use Rattle.kp_unify.specs.Views.{signature_of}
use Rattle.kp_execute.proofs.AnswerLemmas.{run_from, run_of}
use Rattle.kp_execute.proofs.WantsLemmas.{lacking}
use Rattle.kp_execute.proofs.executing.by_run.Goals as goal

pub returns-in-Ok-clause-found : goal.returns-in-Ok-clause-found
returns-in-Ok-clause-found c = λ t p b.
    let s = state_view c.args.state in
    let k = c.args.setting in
    let rules = c.args.rules.now in
    let o = options_view c.args.options.now in
    let own = c.in_ok-have_own_ids.ensures c.if-not-branch.false t b.runs in
    c.answered.ensures.found t o p b.runs b.signature (run_of t o p s k rules c.in-Ok.run' b own (c.in-Ok.ensures t (variable_names p) (run_from t p s k rules b own)))

pub returns-in-Ok-clause-refused : goal.returns-in-Ok-clause-refused
returns-in-Ok-clause-refused c = c.answered.ensures.refused

pub returns-in-Err-clause-refused : goal.returns-in-Err-clause-refused
returns-in-Err-clause-refused c = c.unstepped.ensures.told (signature_of c.args.setting)

pub returns-in-Ok-clause-wants : goal.returns-in-Ok-clause-wants
returns-in-Ok-clause-wants c = λ t p b.
    let s = state_view c.args.state in
    let k = c.args.setting in
    let rules = c.args.rules.now in
    let o = options_view c.args.options.now in
    let own = c.in_ok-have_own_ids.ensures c.if-not-branch.false t b.runs in
    lacking t o p (signature_of k) c.in-Ok.run' c.answered.result b.signature (run_of t o p s k rules c.in-Ok.run' b own (c.in-Ok.ensures t (variable_names p) (run_from t p s k rules b own))) c.answered.ensures.wants

pub returns-in-Err-clause-wants : goal.returns-in-Err-clause-wants
returns-in-Err-clause-wants c = λ t p b told. absurd (c.unstepped.ensures.wants told)
