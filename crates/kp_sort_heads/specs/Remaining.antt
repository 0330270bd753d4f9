-- The heads that a sort might have, from one on.
-- Source: the K framework's Kore language (subsorts, constructors).
use Rattle.std.specs.Prelude.{◌≡◌, List, [], ◌∷◌, ◌++◌, map, Option, Some, None}
use Rattle.std.specs.List.{filter}
use Rattle.kp_kore.specs.Syntax.{KoreSort}
use Rattle.kp_kore.specs.Signature.{KoreSignature, Head, integers, booleans, tokens, constructor_of, is_head}
use Rattle.kp_kore.specs.View.{symbol_sentence_view}
use Rattle.kp_kore.specs.declared.sentence.SymbolSentence.{SymbolSentence}
use Rattle.kp_signature.specs.Pairs.{subsort_view}
use Rattle.kp_signature.specs.declared.subsort.Subsort.{Subsort}
use Rattle.kp_sort_heads.specs.declared.remaining.Stage.{Stage}
use Rattle.kp_sort_heads.specs.declared.remaining.Stage.TheVariants as stage
use Rattle.kp_sort_heads.specs.declared.remaining.RemainingHeads.{RemainingHeads}

-- the first of the list, and the rest of it; none where there is nothing
abbrev pub IsNext : Option Head → List Head → List Head → Type 0
IsNext (Some h) before after = before ≡ h ∷ after
IsNext None before after = (before ≡ []) × (after ≡ [])

abbrev pub remaining_constructors : List SymbolSentence → List Head
remaining_constructors symbols = map (λ d. constructor_of d.name) (map symbol_sentence_view symbols)

-- the tokens of the sorts on the left of these pairs, and these symbols
abbrev pub remaining_listed : List Subsort → List SymbolSentence → List Head
remaining_listed pairs symbols = map tokens (map (λ p. p.0) (map subsort_view pairs)) ++ remaining_constructors symbols

abbrev pub from_stage : KoreSort → Stage → List Head → List Head
from_stage s stage.Integers listed = integers ∷ booleans ∷ tokens s ∷ listed
from_stage s stage.Booleans listed = booleans ∷ tokens s ∷ listed
from_stage s stage.Own listed = tokens s ∷ listed
from_stage s stage.Listed listed = listed

abbrev pub remaining_possible : KoreSort → RemainingHeads → List Head
remaining_possible s x = from_stage s x.stage (remaining_listed x.pairs.now x.symbols.now)

-- those of what is left that are heads of the sort
abbrev pub remaining_heads : KoreSignature → KoreSort → RemainingHeads → List Head
remaining_heads g s x = filter (is_head g s) (remaining_possible s x)
