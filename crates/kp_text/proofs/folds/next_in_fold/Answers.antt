use Rattle.std.proofs.Common.{◌+◌, ap, refl}
use Rattle.kp_text.specs.declared.level.Level.{Level}
use Rattle.kp_text.proofs.Depths.{next_after}
use Rattle.kp_text.proofs.folds.next_in_fold.Goals as goal

pub returns-clause-alike : goal.returns-clause-alike
returns-clause-alike c = λ f ss p ps long h.
    let m : Level = record { written = c.args.level.written + 2; meant = c.args.level.meant + c.depth_after.result; reached = c.max.result } in
    next_after c.args.side f ss c.args.level m p ps c.args.others c.args.deep h long refl (ap (λ n. c.args.level.meant + n) c.depth_after.ensures.same) c.max.ensures
