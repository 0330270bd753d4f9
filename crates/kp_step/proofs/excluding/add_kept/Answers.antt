use Rattle.std.proofs.Common.{rules, ◌≡◌, ◌++◌, ◌∷◌, []}
use Rattle.kp_unify.specs.Views.{signature_of}
use Rattle.kp_step.proofs.ExcludeLemmas.{part_kept, part_dropped}
use Rattle.kp_step.proofs.excluding.add_kept.Goals as goal

pub returns-then-branch : goal.returns-then-branch
returns-then-branch c used body p rest e =
    part_dropped (signature_of c.args.setting.now) used body p c.args.kept.now.items c.args.part rest e (λ sorted. (c.in_ok-is_empty.ensures sorted).0 c.if-branch.true)

pub returns : goal.returns
returns c used body p rest e =
    let pushed : c.push.new.self.items ≡ c.args.kept.now.items ++ c.args.part ∷ [] = search rules in
    part_kept (signature_of c.args.setting.now) used body p c.args.kept.now.items c.push.new.self.items c.args.part rest pushed e
