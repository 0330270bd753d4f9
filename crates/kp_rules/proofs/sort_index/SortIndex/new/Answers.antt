use Rattle.kp_signature.specs.View.{signature_view}
use Rattle.kp_rules.proofs.MarkLemmas.{own_marks}
use Rattle.kp_rules.proofs.sort_index.SortIndex.new.Goals as goal

pub returns : goal.returns
returns c =
    let g = signature_view c.args.signature.now in
    record {
      order = c.order-order.ensures;
      heads = own_marks g c.order-order.result.now.graph c.in_ok-heads.heads.items (c.in_ok-heads.ensures c.order-order.ensures);
      alone = c.in_ok-alone.ensures g.subsorts c.order-order.ensures;
    }
