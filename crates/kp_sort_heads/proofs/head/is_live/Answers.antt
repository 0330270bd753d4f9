use Rattle.std.proofs.Common.{ap}
use Rattle.kp_signature.specs.View.{signature_view}
use Rattle.kp_sort_heads.specs.Views.{head_view}
use Rattle.kp_sort_heads.proofs.HeadLemmas.{integers_told, booleans_told, tokens_told}
use Rattle.kp_sort_heads.proofs.head.is_live.Goals as goal

pub returns-in-Integers : goal.returns-in-Integers
returns-in-Integers c s t = integers_told (signature_view c.args.signature.now) s (head_view c.args.head.now) (ap head_view c.in-Integers.is)

pub returns-in-Booleans : goal.returns-in-Booleans
returns-in-Booleans c s t = booleans_told (signature_view c.args.signature.now) s (head_view c.args.head.now) (ap head_view c.in-Booleans.is)

pub returns-in-Tokens : goal.returns-in-Tokens
returns-in-Tokens c s t = tokens_told (signature_view c.args.signature.now) s _ (head_view c.args.head.now) (ap head_view c.in-Tokens.is)
