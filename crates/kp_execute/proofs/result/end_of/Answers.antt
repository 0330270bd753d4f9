use Rattle.std.proofs.Common.{sym, subst}
use Rattle.std.proofs.lemmas.Result.{err_from_is_err_and}
use Rattle.kp_symbolic.specs.Languages.{language_view}
use Rattle.kp_execute.specs.Wants.{CasesWant, EndWants}
use Rattle.kp_execute.proofs.result.end_of.Goals as goal

pub returns-in_err-branching-in-Branching-clause-wants : goal.returns-in_err-branching-in-Branching-clause-wants
returns-in_err-branching-in-Branching-clause-wants c =
    let g = language_view c.args.language.now in
    let nexts = c.in-Branching.nexts.items in
    let p = err_from_is_err_and c.from_residual.result c.from_residual.ensures.1 in
    rw (p.1, p.2) (λ is sort.
    subst (EndWants g sort) (sym c.in-Branching.is)
    (subst (λ parts. CasesWant g nexts parts) c.deref-in-Branching.ensures.value (subst (λ xs. CasesWant g xs c.deref-in-Branching.result.now) c.deref.ensures.value (c.in_err-branching-in-Branching.ensures.wants is))))

pub returns-in_err-cut_point-in-CutPoint-clause-wants : goal.returns-in_err-cut_point-in-CutPoint-clause-wants
returns-in_err-cut_point-in-CutPoint-clause-wants c =
    let g = language_view c.args.language.now in
    let p = err_from_is_err_and c.from_residual-in_err-cut_point-in-CutPoint.result c.from_residual-in_err-cut_point-in-CutPoint.ensures.1 in
    rw (p.1, p.2) (λ is sort. subst (EndWants g sort) (sym c.in-CutPoint.is) (c.in_err-cut_point-in-CutPoint.ensures.wants is))

pub returns-in_err-terminal-in-Terminal-clause-wants : goal.returns-in_err-terminal-in-Terminal-clause-wants
returns-in_err-terminal-in-Terminal-clause-wants c =
    let p = err_from_is_err_and c.from_residual-in_err-terminal-in-Terminal.result c.from_residual-in_err-terminal-in-Terminal.ensures.1 in
    rw (p.1, p.2) (λ is. absurd (c.in_err-terminal-in-Terminal.ensures.refused is))
