use Rattle.kp_overlap.proofs.LabelLemmas.{follow_from, top_put}
use Rattle.kp_overlap.proofs.labels.put_below.Goals as goal

pub returns : goal.returns
returns c =
    let old = c.args.classes.now in
    let i = c.above-first.result in
    let j = c.above-second.result in
    top_put c.args.shapes.now old _ c.args.low c.args.top i j c.closed_of.result c.add_members_at.result c.set.ensures.long
    (follow_from c.deref.result.now old.holders.items c.args.low i c.deref.ensures.value c.above-first.ensures.follows)
    (follow_from c.deref-2.result.now old.holders.items c.args.top j c.deref-2.ensures.value c.above-second.ensures.follows) c.closed_of.ensures
    c.set.ensures.follow c.set-2.ensures.follow c.add_members_at.ensures
