-- A small signature, and patterns over it for the examples of what `verify` answers.
use Rattle.std.specs.Prelude.{ℕ, zero, suc, true, false, List, [], ◌∷◌, codes}
use Rattle.kp_kore.specs.Syntax.{Text, KoreSort, sort_of, sort_variable, no_sorts, next_sort, KorePattern, variable, application, string_literal, literal, conjunction, exists, KorePatterns, no_patterns}
use Rattle.kp_kore.specs.Signature.{KoreSignature}
use Rattle.kp_kore.specs.View.{sorts_of, patterns_of}

abbrev pub plain_sort : Text → KoreSort
plain_sort name = sort_of name no_sorts

abbrev pub sort_int : KoreSort
sort_int = plain_sort (codes "SortInt")

abbrev pub sort_bool : KoreSort
sort_bool = plain_sort (codes "SortBool")

abbrev pub sort_e : KoreSort
sort_e = plain_sort (codes "SortE")

abbrev pub sort_nope : KoreSort
sort_nope = plain_sort (codes "SortNope")

-- SortList{SortNope{}}
abbrev pub list_of_nope : KoreSort
list_of_nope = sort_of (codes "SortList") (next_sort sort_nope no_sorts)

abbrev pub hook : Text → KorePatterns
hook name = patterns_of (application (codes "hook") no_sorts (patterns_of (string_literal name ∷ [])) ∷ [])

-- SortInt and SortBool hooked, SortE, SortList of one parameter; inj{From,To}, pair(SortInt, SortE) : SortE;
-- SortInt below SortE
abbrev pub small : KoreSignature
small = record {
  sorts =
      record { hooked = true; name = codes "SortInt"; parameters = []; attributes = hook (codes "INT.Int") } ∷
      record { hooked = true; name = codes "SortBool"; parameters = []; attributes = hook (codes "BOOL.Bool") } ∷
      record { hooked = false; name = codes "SortE"; parameters = []; attributes = no_patterns } ∷
      record { hooked = false; name = codes "SortList"; parameters = codes "A" ∷ []; attributes = no_patterns } ∷ [];
  symbols =
      record { hooked = false; name = codes "inj"; parameters = codes "From" ∷ codes "To" ∷ []; arguments = sorts_of (sort_variable (codes "From") ∷ []); result = sort_variable (codes "To"); attributes = no_patterns } ∷
      record { hooked = false; name = codes "pair"; parameters = []; arguments = sorts_of (sort_int ∷ sort_e ∷ []); result = sort_e; attributes = no_patterns } ∷
      record { hooked = false; name = codes "minus"; parameters = []; arguments = sorts_of (sort_int ∷ []); result = sort_int; attributes = no_patterns } ∷ [];
  aliases = [];
  subsorts = (sort_int, sort_e) ∷ [];
}

abbrev pub integer : Text → KorePattern
integer text = literal sort_int text

-- x:S
abbrev pub named : Text → KoreSort → KorePattern
named x s = variable x s

abbrev pub call : Text → List KorePattern → KorePattern
call f ps = application f no_sorts (patterns_of ps)

-- inj{A,B}(p)
abbrev pub injected : KoreSort → KoreSort → KorePattern → KorePattern
injected a b p = application (codes "inj") (sorts_of (a ∷ b ∷ [])) (patterns_of (p ∷ []))

-- pair(p, inj{SortInt{},SortE{}}(q))
abbrev pub pair_of : KorePattern → KorePattern → KorePattern
pair_of p q = call (codes "pair") (p ∷ injected sort_int sort_e q ∷ [])

-- minus(minus(.. p)), n times
abbrev pub minus_times : ℕ → KorePattern → KorePattern
minus_times zero p = p
minus_times (suc n) p = call (codes "minus") (minus_times n p ∷ [])

-- \and{SortE{}}(p, q)
abbrev pub both_of : KorePattern → KorePattern → KorePattern
both_of p q = conjunction sort_e (patterns_of (p ∷ q ∷ []))

-- \exists{SortE{}}(X:SortInt{}, p)
abbrev pub some_integer : KorePattern → KorePattern
some_integer p = exists sort_e (codes "X") sort_int p

-- inj{SortInt{},SortE{}}(X:SortInt{}) and X:SortE{}
abbrev pub x_int : KorePattern
x_int = injected sort_int sort_e (variable (codes "X") sort_int)

abbrev pub x_e : KorePattern
x_e = variable (codes "X") sort_e
