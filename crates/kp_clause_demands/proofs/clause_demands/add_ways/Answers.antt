use Rattle.std.proofs.Common.{rules, ◌≡◌, ◌<◌, ◌≤◌, ◌++◌, [], ◌∷◌, ap, length, get_or}
use Rattle.kp_demands.specs.Demands.{IsMetBy, HasWay, IsSized}
use Rattle.kp_clause_demands.specs.Ways.{items_of_ways, AreWaysSized}
use Rattle.kp_clause_demands.proofs.AskedLemmas.{only_one, one_added, choice_added, way_alone, sizes_alone}
use Rattle.kp_clause_demands.proofs.clause_demands.add_ways.Goals as goal

pub returns-in-len1-clause-met : goal.returns-in-len1-clause-met
returns-in-len1-clause-met c =
    let ds = c.args.asked.now.demands.items in
    let way = c.way-item.result in
    let long : 1 ≤ length c.args.ways.items = search rules in
    let short : length c.args.ways.items < 2 = search rules in
    let first : way ≡ get_or c.args.ways.items 0 way = search rules in
    let more : c.extend_from_slice.new.self.items ≡ ds ++ way.items = search rules in
    let one : items_of_ways c.args.ways.items ≡ way.items ∷ [] = ap items_of_ways (only_one c.args.ways.items way long short first) in
    λ a. one_added (IsMetBy a) (HasWay a) ds c.extend_from_slice.new.self.items way.items c.args.asked.now.choices.items (items_of_ways c.args.ways.items) (way_alone a way.items) more one

pub returns-in-len1-clause-sized : goal.returns-in-len1-clause-sized
returns-in-len1-clause-sized c =
    let ds = c.args.asked.now.demands.items in
    let way = c.way-item.result in
    let long : 1 ≤ length c.args.ways.items = search rules in
    let short : length c.args.ways.items < 2 = search rules in
    let first : way ≡ get_or c.args.ways.items 0 way = search rules in
    let more : c.extend_from_slice.new.self.items ≡ ds ++ way.items = search rules in
    let one : items_of_ways c.args.ways.items ≡ way.items ∷ [] = ap items_of_ways (only_one c.args.ways.items way long short first) in
    λ s. one_added (IsSized s) (AreWaysSized s) ds c.extend_from_slice.new.self.items way.items c.args.asked.now.choices.items (items_of_ways c.args.ways.items) (sizes_alone s way.items) more one

pub returns-clause-met : goal.returns-clause-met
returns-clause-met c a = choice_added (IsMetBy a) (HasWay a) c.args.asked.now.demands.items c.args.asked.now.choices.items c.push.new.self.items c.args.ways c.in_ok-push.ensures.items

pub returns-clause-sized : goal.returns-clause-sized
returns-clause-sized c s = choice_added (IsSized s) (AreWaysSized s) c.args.asked.now.demands.items c.args.asked.now.choices.items c.push.new.self.items c.args.ways c.in_ok-push.ensures.items
