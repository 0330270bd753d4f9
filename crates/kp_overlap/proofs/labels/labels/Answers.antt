use Rattle.kp_overlap.proofs.LabelLemmas.{labels_told}
use Rattle.kp_overlap.proofs.labels.labels.Goals as goal

pub returns : goal.returns
returns c = λ g x e.
    labels_told g x c.args.shapes.now c.args.first c.args.second c.in_ok-classes.classes c.join_all.new.classes c.deref.result.now c.tops.result e
    c.in_ok-classes.ensures.long c.in_ok-classes.ensures.classes c.in_ok-join_all.ensures c.deref.ensures.value c.tops.ensures.long c.tops.ensures.follow
