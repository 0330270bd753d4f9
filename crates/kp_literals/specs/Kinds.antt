-- The heads of a sort, tested one by one.
use Rattle.std.specs.Prelude.{Bool, false, not, ◌&&◌, ◌||◌, List, [], ◌∷◌, map, if◌then◌else◌}
use Rattle.std.specs.List.{list_all, list_any}
use Rattle.kp_kore.specs.Syntax.{KoreSort, SymbolDeclaration}
use Rattle.kp_kore.specs.Attributes.{sorts_equal}
use Rattle.kp_kore.specs.Signature.{KoreSignature, tokens, constructor_of, is_head, is_below}

-- the sorts of which tokens might be heads of the sort
abbrev pub lower_sorts : List (KoreSort × KoreSort) → List KoreSort
lower_sorts ps = map (λ p. p.0) ps

abbrev pub lowers : KoreSignature → KoreSort → List KoreSort
lowers g s = s ∷ lower_sorts g.subsorts

-- one of these sorts passes the test, and is the sort or below it
abbrev pub some_below : KoreSignature → KoreSort → (KoreSort → Bool) → List KoreSort → Bool
some_below g s test ts = list_any (λ t. test t && is_below g.subsorts t s) ts

-- no tokens of these sorts are heads of the sort
abbrev pub no_tokens_among : KoreSignature → KoreSort → List KoreSort → Bool
no_tokens_among g s ts = list_all (λ t. not (is_head g s (tokens t))) ts

-- none of these symbols is
abbrev pub no_constructors_among : KoreSignature → KoreSort → List SymbolDeclaration → Bool
no_constructors_among g s ds = list_all (λ d. not (is_head g s (constructor_of d.name))) ds

-- the sort has no heads but whole numbers and truth values
abbrev pub are_other : KoreSignature → KoreSort → Bool
are_other g s = no_tokens_among g s (lowers g s) && no_constructors_among g s g.symbols

-- those of the sorts whose tokens are heads are this one
abbrev pub tokens_are : KoreSignature → KoreSort → KoreSort → List KoreSort → Bool
tokens_are g s t ts = list_all (λ u. sorts_equal t u || not (is_head g s (tokens u))) ts

-- the tokens of one of the sorts, and no others, are heads
abbrev pub one_kind_of_tokens : KoreSignature → KoreSort → List KoreSort → Bool
one_kind_of_tokens g s [] = false
one_kind_of_tokens g s (t ∷ ts) = if is_head g s (tokens t) then tokens_are g s t ts else one_kind_of_tokens g s ts
