use Rattle.std.proofs.Common.{[], ◌∷◌}
use Rattle.kp_kore.specs.View.{sort_view}
use Rattle.kp_signature.proofs.NewOrder.{sort_added}
use Rattle.kp_signature.proofs.graph.SortGraph.add_sort.Goals as goal

pub returns : goal.returns
returns c pairs ix new =
    let a = sort_view c.args.sort.now in
    let h = c.in_ok-number.ensures ix.numbering new in
    record {
      more = a ∷ [];
      is = h.is;
      number = h.number;
      kept = sort_added pairs a c.args.self.now (record { numbering = c.add_sort.new.self; above = c.push.new.self; below = c.push-2.new.self }) c.new.result c.new-2.result c.in_ok-number.number
          ix new h c.in_ok-push.ensures.items c.new.ensures.items c.in_ok-push-2.ensures.items c.new-2.ensures.items;
    }
