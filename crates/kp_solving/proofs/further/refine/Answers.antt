use Rattle.std.proofs.Common.{◌≡◌, subst, IfErr}
use Rattle.kp_compile.specs.declared.error.CompileError.TheVariants.{Memory}
use Rattle.kp_symbolic.specs.Languages.{language_view}
use Rattle.kp_solving.specs.Readable.{IsReadable}
use Rattle.kp_solving.proofs.further.refine.Goals as goal

pub returns-clause-refused : goal.returns-clause-refused
returns-clause-refused c =
    subst (λ s. IfErr c.solve_at.result (λ e. IsReadable (language_view c.args.language.now) s → e ≡ Memory)) c.in_ok-larger.ensures c.solve_at.ensures.refused
