use Rattle.kp_replies.proofs.Texts.{line_tells}
use Rattle.kp_replies.proofs.laws.a_line_tells_what_its_tree_tells.Goals as goal

pub returns : goal.returns
returns c = line_tells
