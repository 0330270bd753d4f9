use Rattle.std.proofs.Common.{◌≡◌, ◌==◌, subst, false}
use Rattle.std.specs.List.{list_any}
use Rattle.kp_layers.proofs.Walking.{all_known}
use Rattle.kp_layers.proofs.walk.Walk.begin.Goals as goal

pub returns-in-None : goal.returns-in-None
returns-in-None c needs walk none = all_known needs c.args.self.now.layers.items walk.count walk.known (subst (λ ls. list_any (λ l. l == 0) ls ≡ false) c.deref.ensures.value c.in-None.ensures.none)
