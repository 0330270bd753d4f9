use Rattle.std.proofs.Common.{ℕ, ◌<◌, get_or}
use Rattle.kp_overlap.specs.Labels.{HaveOneLabel}
use Rattle.kp_overlap.proofs.label_holders.all_have_one_label.Given as goal

abbrev pub invariant-loop-i : goal.invariant-loop-i
invariant-loop-i l = (k : ℕ) → k < l.i → HaveOneLabel l.labels (get_or l.members k 0) (get_or l.others k 0)
