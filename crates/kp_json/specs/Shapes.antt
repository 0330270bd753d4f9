-- What forms that are alike but for a word are read as.
use Rattle.kp_kore.specs.Syntax.{Text, KoreSort, KorePattern, implication, equivalence, rewriting, exists, forall, ceil, floor, equals, membership}
use Rattle.serde_json.specs.Data.{Members}
use Rattle.kp_json.specs.Faults.{Reading, PatternReader, after, one_read, two_read, sort_and_two, sorts_and_one, sorts_and_two, bound_and_one}
use Rattle.kp_json.specs.declared.shape.Connected.{Connected}
use Rattle.kp_json.specs.declared.shape.Connected.TheVariants as connected
use Rattle.kp_json.specs.declared.shape.Compared.{Compared}
use Rattle.kp_json.specs.declared.shape.Compared.TheVariants as compared
use Rattle.kp_json.specs.declared.shape.Quantified.{Quantified}
use Rattle.kp_json.specs.declared.shape.Quantified.TheVariants as quantified
use Rattle.kp_json.specs.declared.shape.Bracketed.{Bracketed}
use Rattle.kp_json.specs.declared.shape.Bracketed.TheVariants as bracketed

-- the form that a word stands for, of its sorts, its variable and the patterns below
abbrev pub connected_view : Connected → KoreSort → KorePattern → KorePattern → KorePattern
connected_view connected.Implies = implication
connected_view connected.Iff = equivalence
connected_view connected.Rewrites = rewriting

abbrev pub compared_view : Compared → KoreSort → KoreSort → KorePattern → KorePattern → KorePattern
compared_view compared.Equals = equals
compared_view compared.In = membership

abbrev pub quantified_view : Quantified → KoreSort → Text → KoreSort → KorePattern → KorePattern
quantified_view quantified.Exists = exists
quantified_view quantified.Forall = forall

abbrev pub bracketed_view : Bracketed → KoreSort → KoreSort → KorePattern → KorePattern
bracketed_view bracketed.Ceil = ceil
bracketed_view bracketed.Floor = floor

-- what is read of an object as each of them
abbrev pub connected_reading : PatternReader → Connected → Text → Text → Members → Reading KorePattern
connected_reading pattern form first second o = after (sort_and_two first second o) (λ r. two_read pattern (connected_view form r.0) r.1 r.2)

abbrev pub compared_reading : PatternReader → Compared → Members → Reading KorePattern
compared_reading pattern form o = after (sorts_and_two o) (λ r. two_read pattern (compared_view form r.0 r.1) r.2 r.3)

abbrev pub quantified_reading : PatternReader → Quantified → Members → Reading KorePattern
quantified_reading pattern form o = after (bound_and_one o) (λ r. one_read pattern (quantified_view form r.0 r.1 r.2) r.3)

abbrev pub bracketed_reading : PatternReader → Bracketed → Members → Reading KorePattern
bracketed_reading pattern form o = after (sorts_and_one o) (λ r. one_read pattern (bracketed_view form r.0 r.1) r.2)
