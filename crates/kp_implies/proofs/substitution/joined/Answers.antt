use Rattle.std.proofs.Common.{subst, IfErr}
use Rattle.kp_symbolic.specs.Languages.{language_view}
use Rattle.kp_symbolic.specs.Writing.{InjectsWhereItStands}
use Rattle.kp_outward.specs.Errors.{IsNoInjection}
use Rattle.kp_implies.proofs.substitution.joined.Goals as goal

pub returns-clause-refused : goal.returns-clause-refused
returns-clause-refused c =
    subst (λ p. IfErr c.checked.result (λ e. IsNoInjection e → ¬ InjectsWhereItStands (language_view c.args.language.now) p)) c.in_ok-pattern.ensures c.checked.ensures.refused
