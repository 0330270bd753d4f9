use Rattle.kp_demands.proofs.Roots.{is_root, by_roots, turned}
use Rattle.kp_demands.proofs.classes.join.Goals as goal

pub unite-requires-clause-low : goal.unite-requires-clause-low
unite-requires-clause-low c =
    let a = is_root c.args.fixed c.args.roots.now c.args.x c.root_of-first.result c.requires.roots c.requires.places.0 c.root_of-first.ensures in
    let b = is_root c.args.fixed c.args.roots.now c.args.y c.root_of-second.result c.requires.roots c.requires.places.1 c.root_of-second.ensures in
    (c.if-first-second.true, b.0, a.1, b.1)

pub returns-then-first-second-clause-yes : goal.returns-then-first-second-clause-yes
returns-then-first-second-clause-yes c h classes = by_roots c.args.roots.now c.unite.new.roots c.args.x c.args.y c.root_of-first.result c.root_of-second.result classes
    c.requires.places.0 c.requires.places.1 c.root_of-first.ensures c.root_of-second.ensures (c.unite.ensures.yes h classes)

pub unite-requires-then-second-first-clause-low : goal.unite-requires-then-second-first-clause-low
unite-requires-then-second-first-clause-low c =
    let a = is_root c.args.fixed c.args.roots.now c.args.x c.root_of-first.result c.requires.roots c.requires.places.0 c.root_of-first.ensures in
    let b = is_root c.args.fixed c.args.roots.now c.args.y c.root_of-second.result c.requires.roots c.requires.places.1 c.root_of-second.ensures in
    (c.if-second-first.true, a.0, b.1, a.1)

pub returns-then-second-first-clause-yes : goal.returns-then-second-first-clause-yes
returns-then-second-first-clause-yes c h classes = turned c.args.roots.now c.unite-then-second-first.new.roots c.args.y c.args.x classes
    (by_roots c.args.roots.now c.unite-then-second-first.new.roots c.args.y c.args.x c.root_of-second.result c.root_of-first.result classes
    c.requires.places.1 c.requires.places.0 c.root_of-second.ensures c.root_of-first.ensures (c.unite-then-second-first.ensures.yes h classes))
