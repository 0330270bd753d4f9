-- Of which sort the tokens of a side are.
-- Source: the K framework's Kore language (sorts of tokens, subsorts).
use Rattle.std.specs.Prelude.{Bool, false, List, Option, Some, None}
use Rattle.std.specs.List.{find}
use Rattle.kp_kore.specs.Attributes.{sorts_equal}
use Rattle.kp_kore.specs.Syntax.{KoreSort}
use Rattle.kp_kore.specs.Signature.{KoreSignature, is_head, tokens}
use Rattle.kp_kore.specs.Value.{Value, token}
use Rattle.kp_ground.specs.View.{value_view}
use Rattle.kp_symbolic.specs.View.{variable_view}
use Rattle.kp_literals.specs.Kinds.{lowers}
use Rattle.kp_literals.specs.declared.form.TokenPart.{TokenPart}
use Rattle.kp_literals.specs.declared.form.TokenPart.TheVariants.{Unknown, Known}

-- the first of these sorts whose tokens are values of the sort
abbrev pub tokens_among : KoreSignature → KoreSort → List KoreSort → Option KoreSort
tokens_among g s = find (λ t. is_head g s (tokens t))

-- the sort of the tokens that are values of a sort: its own, or else the first below it that has tokens
abbrev pub token_sort : KoreSignature → KoreSort → Option KoreSort
token_sort g s = tokens_among g s (lowers g s)

abbrev pub sort_of_token : Value → Option KoreSort
sort_of_token (token s t) = Some s
sort_of_token u = None

-- of which sort a side is, where it is a token
abbrev pub part_sort : KoreSignature → TokenPart → Option KoreSort
part_sort g (Unknown x) = token_sort g (variable_view x.now).sort
part_sort g (Known u) = sort_of_token (value_view u.now)

abbrev pub same_sort : Option KoreSort → Option KoreSort → Bool
same_sort (Some s) (Some t) = sorts_equal s t
same_sort o q = false

-- both sides are tokens of one sort
abbrev pub are_alike : KoreSignature → TokenPart → TokenPart → Bool
are_alike g p q = same_sort (part_sort g p) (part_sort g q)
