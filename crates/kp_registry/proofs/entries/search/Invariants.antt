use Rattle.std.proofs.Common.{◌≤◌, ◌-◌, length, map, take, drop}
use Rattle.kp_registry.specs.Passes.{AreAbove, AreBelow, name_of}
use Rattle.kp_registry.proofs.entries.search.Given as goal

abbrev pub invariant-loop-from : goal.invariant-loop-from
invariant-loop-from l = (l.from ≤ l.to) × (l.to ≤ length l.names) × AreBelow l.name (take l.from (map name_of l.names)) × AreAbove l.name (drop l.to (map name_of l.names))

abbrev pub decreases-loop-from : goal.decreases-loop-from
decreases-loop-from l = l.to - l.from
