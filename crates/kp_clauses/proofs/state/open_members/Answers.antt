use Rattle.std.proofs.Common.{rules, ◌≡◌, not, Some, None}
use Rattle.std.specs.List.{filter, find}
use Rattle.kp_compile.specs.Parts.{seen}
use Rattle.kp_kore.specs.Parts.{is_term}
use Rattle.kp_kore.specs.View.{view}
use Rattle.kp_symbolic.specs.Languages.{language_view}
use Rattle.kp_clauses.proofs.FaultlessLemmas.{of_members, not_found}
use Rattle.kp_clauses.proofs.state.open_members.Goals as goal

pub returns-in-Some-clause-refused : goal.returns-in-Some-clause-refused
returns-in-Some-clause-refused c =
    let ms = seen c.args.members.now in
    let is : Some (view c.in-Some.term.now) ≡ find is_term ms = search rules in
    let are : seen c.deref.result.now ≡ filter (λ q. not (is_term q)) ms = search rules in
    of_members (language_view c.args.language.now) c.open_term.result ms (seen c.deref.result.now) (view c.in-Some.term.now) is are c.open_term.ensures.refused

pub returns-in-None-clause-refused : goal.returns-in-None-clause-refused
returns-in-None-clause-refused c =
    let none : find is_term (seen c.args.members.now) ≡ None = search rules in
    λ u found all. absurd (not_found (find is_term (seen c.args.members.now)) u none found)
