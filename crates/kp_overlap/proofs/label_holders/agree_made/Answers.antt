use Rattle.std.proofs.Common.{string_bytes}
use Rattle.kp_overlap.proofs.HolderLemmas.{members_long}
use Rattle.kp_overlap.proofs.label_holders.agree_made.Goals as goal

pub returns-then-members-others : goal.returns-then-members-others
returns-then-members-others c = λ a u s t e i.
    c.if-members-others.true (members_long a u (string_bytes c.args.constructor.now.value) (string_bytes c.args.other.now.value) c.args.members.now c.args.others.now e i)
