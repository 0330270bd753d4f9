-- Which head the code's is, and which heads are to come.
-- Source: the K framework's Kore language (sorts and their heads).
use Rattle.std.specs.Prelude.{List, string_bytes}
use Rattle.kp_kore.specs.Signature as model
use Rattle.kp_kore.specs.View.{sort_view}
use Rattle.kp_signature.specs.View.{signature_view}
use Rattle.kp_sort_heads.specs.Remaining.{remaining_heads}
use Rattle.kp_sort_heads.specs.declared.head.SortHead.{SortHead}
use Rattle.kp_sort_heads.specs.declared.head.SortHead.TheVariants as head
use Rattle.kp_sort_heads.specs.declared.sequence.HeadSequence.{HeadSequence}

abbrev pub head_view : SortHead → model.Head
head_view head.Integers = model.integers
head_view head.Booleans = model.booleans
head_view (head.Tokens s) = model.tokens (sort_view s.now)
head_view (head.Constructor d) = model.constructor_of (string_bytes d.now.name)

-- the heads of the sort that are to come
abbrev pub left_of : HeadSequence → List model.Head
left_of x = remaining_heads (signature_view x.signature.now) (sort_view x.sort.now) x.left
