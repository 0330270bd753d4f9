-- Whether the sorts of whole numbers and of truth values have these values alone, head by head.
use Rattle.std.specs.Prelude.{Bool, true, not, ◌&&◌, List, Option, Some, None, if◌then◌else◌}
use Rattle.std.specs.List.{list_all}
use Rattle.kp_kore.specs.Syntax.{KoreSort, SymbolDeclaration}
use Rattle.kp_kore.specs.Signature.{KoreSignature, integer_sort, boolean_sort, is_token_sort, is_head, is_own_below, tokens, constructor_of, has_only_numbers, has_only_truths}

-- the test of a sort, where there is one
abbrev pub holds_of : (KoreSort → Bool) → Option KoreSort → Bool
holds_of test (Some s) = test s
holds_of test None = true

abbrev pub numbers_stand_alone : KoreSignature → Bool
numbers_stand_alone g = holds_of (has_only_numbers g) (integer_sort g)

abbrev pub truths_stand_alone : KoreSignature → Bool
truths_stand_alone g = holds_of (has_only_truths g) (boolean_sort g)

-- ---- head by head

abbrev pub token_sort : KoreSignature → KoreSort → Option KoreSort
token_sort g t = if is_token_sort g t then Some t else None

abbrev pub no_tokens_below : KoreSignature → KoreSort → List (KoreSort × KoreSort) → Bool
no_tokens_below g s = list_all (λ p. not (is_head g s (tokens p.0)))

abbrev pub no_constructors_below : KoreSignature → KoreSort → List SymbolDeclaration → Bool
no_constructors_below g s = list_all (λ d. not (is_head g s (constructor_of d.name)))

-- neither the other of the two sorts is below it, nor tokens, nor what a constructor makes
abbrev pub no_other_heads : KoreSignature → KoreSort → Option KoreSort → Bool
no_other_heads g s other = not (is_own_below g s other) && no_tokens_below g s g.subsorts && no_constructors_below g s g.symbols

abbrev pub none_but_own : KoreSignature → Option KoreSort → Option KoreSort → Bool
none_but_own g own other = holds_of (λ s. no_other_heads g s other) own
