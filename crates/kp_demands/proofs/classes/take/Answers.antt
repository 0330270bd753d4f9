use Rattle.std.proofs.Common.{sym, subst, ◌↔◌, ℕ, IsTrue}
use Rattle.kp_demands.specs.Demands.{MeetsSame}
use Rattle.kp_demands.specs.Classes.{HaveRoots}
use Rattle.kp_demands.proofs.classes.take.Goals as goal

pub returns-in-Same-clause-yes : goal.returns-in-Same-clause-yes
returns-in-Same-clause-yes c = subst (λ d. IsTrue c.join.result → (classes : ℕ → ℕ) → HaveRoots c.join.new.roots classes ↔ (HaveRoots c.args.roots.now classes × MeetsSame classes d)) (sym c.in-Same.is) c.join.ensures.yes
