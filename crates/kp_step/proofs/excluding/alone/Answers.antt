use Rattle.std.proofs.Common.{rules, ◌≡◌, ◌∙◌, ap, [], ◌∷◌}
use Rattle.kp_step.specs.Firings.{numbered}
use Rattle.kp_step.proofs.FiringViews.{numbered_same}
use Rattle.kp_step.proofs.excluding.alone.Goals as goal

pub returns : goal.returns
returns c =
    let x = c.in_ok-share.field-0 in
    let pushed : c.push.new.self.items ≡ x ∷ [] = search rules in
    ap numbered pushed ∙ ap (λ q. q ∷ []) (numbered_same x c.args.part.now c.in_ok-share.ensures.view c.in_ok-share.ensures.next)
