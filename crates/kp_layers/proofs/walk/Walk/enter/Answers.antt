use Rattle.kp_layers.proofs.Walking.{path_needs, closes}
use Rattle.kp_layers.proofs.walk.Walk.enter.Goals as goal

pub returns-then-is_on_path : goal.returns-then-is_on_path
returns-then-is_on_path c needs claim needed l there =
    closes needs c.args.self.now.path.items c.args.other
    (path_needs needs c.args.self.now.path.items needed l.last.0 claim c.args.other l.walk.path l.last.1 l.last.2 l.needed there) (c.is_on_path.ensures c.if-is_on_path.true)

pub returns : goal.returns
returns c needs claim needed l there =
    c.put.ensures needs l.walk (path_needs needs c.args.self.now.path.items needed l.last.0 claim c.args.other l.walk.path l.last.1 l.last.2 l.needed there)
