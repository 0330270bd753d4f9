use Rattle.std.proofs.Common.{rules, ◌≡◌, length}
use Rattle.std.specs.List.{AllByRecursion}
use Rattle.kp_demands.specs.Classes.{root_in}
use Rattle.kp_demands.specs.Demands.{MeetsApart}
use Rattle.kp_demands.proofs.Roots.{roots_apart}
use Rattle.kp_demands.proofs.classes.agree.Goals as goal

pub returns-then-equate-clause-same : goal.returns-then-equate-clause-same
returns-then-equate-clause-same c _ = (c.equate.ensures.yes (search rules) (root_in c.equate.new.roots)).0 ((c.equate.ensures.roots (search rules)).own)

pub returns-then-equate-clause-no : goal.returns-then-equate-clause-no
returns-then-equate-clause-no c no_ classes fixed same apart =
    let long : c.requires.0.classes ≡ length c.equate.new.roots = search rules in
    let all : AllByRecursion (MeetsApart (root_in c.equate.new.roots)) c.args.demands.now = roots_apart c.requires.0 c.equate.new.roots classes long ((c.equate.ensures.yes (search rules) classes).1 same) c.args.demands.now c.requires.2 apart in
    absurd (cc (c.are_apart.ensures.1 all, no_))
