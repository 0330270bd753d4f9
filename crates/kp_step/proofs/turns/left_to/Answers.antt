use Rattle.std.proofs.Common.{rules, ◌≡◌, subst, Some, [], ◌∷◌}
use Rattle.kp_unify.specs.Views.{signature_of, numbered_view}
use Rattle.kp_step.specs.Remainders.{AreUntaken}
use Rattle.kp_step.specs.Views.{numbered_views}
use Rattle.kp_step.proofs.turns.left_to.Goals as goal

pub returns : goal.returns
returns c t used r found s p steps setting number z left =
    let same : numbered_view c.args.part ∷ [] ≡ numbered_views c.push.new.self.items = search rules in
    c.left_after.ensures.left t used (Some r) found s p steps setting number z (subst (AreUntaken (signature_of c.args.setting) used (Some r) [] s p) same left)
