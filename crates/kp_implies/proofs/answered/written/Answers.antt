use Rattle.std.proofs.lemmas.Result.{err_from_is_err_and}
use Rattle.std.proofs.Common.{map}
use Rattle.kp_kore.specs.View.{sort_view}
use Rattle.kp_symbolic.specs.View.{atom_view}
use Rattle.kp_unify.specs.Views.{signature_of}
use Rattle.kp_implies.specs.Printed.{joined_atoms}
use Rattle.kp_implies.proofs.ToldLemmas.{unwritten}
use Rattle.kp_implies.proofs.answered.written.Goals as goal

pub returns-in_err-substitution-clause-refused : goal.returns-in_err-substitution-clause-refused
returns-in_err-substitution-clause-refused c =
    let g = signature_of c.args.setting.now in
    let p = err_from_is_err_and c.from_residual.result c.from_residual.ensures.1 in
    rw p.1 (unwritten g (joined_atoms g (sort_view c.args.sort.now) (map atom_view c.args.all.now)) _ p.0 p.2 c.in_err-substitution.ensures.refused)
