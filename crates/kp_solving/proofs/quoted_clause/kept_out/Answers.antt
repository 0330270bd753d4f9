use Rattle.std.specs.List.{AllByRecursion}
use Rattle.kp_compile.specs.declared.error.CompileError.TheVariants.{Memory}
use Rattle.kp_kore.specs.View.{view, sort_view}
use Rattle.kp_symbolic.specs.Writing.{written_clause}
use Rattle.kp_symbolic.specs.Languages.{language_view}
use Rattle.kp_symbolic.specs.View.{literal_view, clause_view}
use Rattle.kp_outward.specs.Parts.{IsFaultlessAtom}
use Rattle.kp_solving.proofs.WholeLemmas.{kept_right, written_as, refused_anyway}
use Rattle.kp_solving.proofs.quoted_clause.kept_out.Goals as goal

pub returns-clause-written : goal.returns-clause-written
returns-clause-written c =
    let w = written_clause (language_view c.args.language.now) (sort_view c.args.sort.now) (clause_view c.args.clause.now) in
    written_as view c.checked.result (view c.in_ok-pattern.pattern) w c.checked.ensures.same c.in_ok-pattern.ensures.written

pub returns-clause-right : goal.returns-clause-right
returns-clause-right c =
    kept_right (language_view c.args.language.now) (sort_view c.args.sort.now) (clause_view c.args.clause.now) view c.checked.result (view c.in_ok-pattern.pattern)
    c.checked.ensures.same c.checked.ensures.injects c.in_ok-pattern.ensures.written c.in_ok-pattern.ensures.room

pub returns-clause-refused : goal.returns-clause-refused
returns-clause-refused c =
    let g = language_view c.args.language.now in
    refused_anyway (AllByRecursion (λ l. IsFaultlessAtom g (literal_view l).atom) c.args.clause.now.literals.value.items) c.checked.result Memory c.checked.ensures.refused
