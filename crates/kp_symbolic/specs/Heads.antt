-- Whether a term's head passes a test.
-- Source: the K framework's Kore language (subsorts, constructors); kp_kore's heads.
use Rattle.std.specs.Prelude.{Bool, true, false, not, Option, Some, None}
use Rattle.std.specs.List.{list_all}
use Rattle.std.specs.Str.{bytes_eq}
use Rattle.kp_kore.specs.Syntax.{Text, KoreSort}
use Rattle.kp_kore.specs.Signature.{KoreSignature, SymbolMeaning, construction, Head, constructor_of, is_head, heads_of}
use Rattle.kp_symbolic.specs.States.{HeadTest, one_head, head_of_sort}

abbrev pub is_construction : SymbolMeaning → Bool
is_construction construction = true
is_construction _ = false

-- ---- tests of heads

abbrev pub is_constructor_head : Text → Head → Bool
is_constructor_head c (constructor_of d) = bytes_eq d c
is_constructor_head c _ = false

abbrev pub passes_head : KoreSignature → HeadTest → Head → Bool
passes_head g (one_head c) h = is_constructor_head c h
passes_head g (head_of_sort s) h = is_head g s h

-- what a test says of every value of a sort: yes, no, or neither
abbrev pub answer_of : Bool → Bool → Option Bool
answer_of true n = Some true
answer_of false true = Some false
answer_of false false = None

abbrev pub head_answer : KoreSignature → KoreSort → HeadTest → Option Bool
head_answer g s test = answer_of (list_all (passes_head g test) (heads_of g s)) (list_all (λ h. not (passes_head g test h)) (heads_of g s))
