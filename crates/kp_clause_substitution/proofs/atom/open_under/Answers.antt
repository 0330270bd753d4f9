use Rattle.std.proofs.Common.{rules, ◌≡◌, map}
use Rattle.kp_kore.specs.View.{view}
use Rattle.kp_symbolic.specs.States.{quoted}
use Rattle.kp_symbolic.specs.Languages.{language_view}
use Rattle.kp_symbolic.specs.View.{atom_view, replaced_view}
use Rattle.kp_clause_substitution.proofs.SumLemmas.{of_quoted}
use Rattle.kp_clause_substitution.proofs.atom.open_under.Goals as goal

pub returns-in-Quoted-clause-refused : goal.returns-in-Quoted-clause-refused
returns-in-Quoted-clause-refused c =
    let rs = c.in-Quoted.replaced.value.items in
    let is : atom_view c.args.literal.now.atom ≡ quoted (view c.in-Quoted.pattern.value) (map replaced_view rs) = search rules in
    let are : c.deref-in-Quoted-2.result.now ≡ rs = search rules in
    of_quoted (language_view c.args.language.now) c.quote_under.result (atom_view c.args.literal.now.atom) (view c.in-Quoted.pattern.value) rs c.deref-in-Quoted-2.result.now is are c.quote_under.ensures.refused
