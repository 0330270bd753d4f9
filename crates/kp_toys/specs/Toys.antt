-- The example definition of examples/toys/toys.kore, as data.
use Rattle.std.specs.Prelude.{true, false, List, [], ◌∷◌, codes}
use Rattle.kp_kore.specs.Syntax.{Text, KoreSort, sort_of, sort_variable, KoreSorts, no_sorts, next_sort, KorePattern, variable, application, string_literal, literal, conjunction, rewriting, exists, equals, KorePatterns, no_patterns, next_pattern, KoreSentence, import_sentence, sort_sentence, symbol_sentence, axiom_sentence, KoreModule, KoreDefinition}

-- ---- short forms

abbrev pub sorts : List KoreSort → KoreSorts
sorts [] = no_sorts
sorts (s ∷ ss) = next_sort s (sorts ss)

abbrev pub patterns : List KorePattern → KorePatterns
patterns [] = no_patterns
patterns (p ∷ ps) = next_pattern p (patterns ps)

abbrev pub plain_sort : Text → KoreSort
plain_sort name = sort_of name no_sorts

abbrev pub sort_int : KoreSort
sort_int = plain_sort (codes "SortInt")

abbrev pub sort_bool : KoreSort
sort_bool = plain_sort (codes "SortBool")

abbrev pub sort_s : KoreSort
sort_s = plain_sort (codes "SortS")

abbrev pub sort_p : KoreSort
sort_p = plain_sort (codes "SortP")

abbrev pub sort_e : KoreSort
sort_e = plain_sort (codes "SortE")

-- name{}(arguments)
abbrev pub call : Text → List KorePattern → KorePattern
call name arguments = application name no_sorts (patterns arguments)

abbrev pub mark : Text → KorePattern
mark name = call name []

abbrev pub marked : Text → Text → KorePattern
marked name text = call name (string_literal text ∷ [])

abbrev pub integer : Text → KorePattern
integer text = literal sort_int text

abbrev pub always : KorePattern
always = literal sort_bool (codes "true")

-- ---- declarations

abbrev pub hooked_sort : Text → Text → KoreSentence
hooked_sort name hook = sort_sentence (record { hooked = true; name = name; parameters = []; attributes = patterns (marked (codes "hook") hook ∷ mark (codes "hasDomainValues") ∷ []) })

abbrev pub declared : Text → KoreSentence
declared name = sort_sentence (record { hooked = false; name = name; parameters = []; attributes = no_patterns })

abbrev pub hooked_function : Text → KoreSort → Text → KoreSentence
hooked_function name result hook = symbol_sentence (record { hooked = true; name = name; parameters = []; arguments = sorts (sort_int ∷ sort_int ∷ []); result = result; attributes = patterns (marked (codes "hook") hook ∷ mark (codes "function") ∷ []) })

abbrev pub constructor : Text → List KoreSort → KoreSort → KoreSentence
constructor name arguments result = symbol_sentence (record { hooked = false; name = name; parameters = []; arguments = sorts arguments; result = result; attributes = patterns (mark (codes "constructor") ∷ []) })

-- axiom{} pattern [label{}("label")]
abbrev pub rewrite_axiom : KorePattern → Text → KoreSentence
rewrite_axiom pattern label = axiom_sentence (record { parameters = []; pattern = pattern; attributes = patterns (marked (codes "label") label ∷ []) })

-- ---- the modules

abbrev pub basic : KoreModule
basic = record {
  name = codes "BASIC";
  sentences =
      hooked_sort (codes "SortBool") (codes "BOOL.Bool") ∷
      hooked_sort (codes "SortInt") (codes "INT.Int") ∷
      symbol_sentence (record { hooked = false; name = codes "inj"; parameters = codes "From" ∷ codes "To" ∷ []; arguments = sorts (sort_variable (codes "From") ∷ []); result = sort_variable (codes "To"); attributes = patterns (mark (codes "sortInjection") ∷ []) }) ∷
      hooked_function (codes "Lbladd") sort_int (codes "INT.add") ∷
      hooked_function (codes "Lblsub") sort_int (codes "INT.sub") ∷
      hooked_function (codes "Lblmul") sort_int (codes "INT.mul") ∷
      hooked_function (codes "Lbleq") sort_bool (codes "INT.eq") ∷
      hooked_function (codes "Lblgt") sort_bool (codes "INT.gt") ∷
      hooked_function (codes "Lblge") sort_bool (codes "INT.ge") ∷
      hooked_function (codes "Lbllt") sort_bool (codes "INT.lt") ∷
      hooked_function (codes "Lblle") sort_bool (codes "INT.le") ∷ [];
  attributes = no_patterns;
}

-- N:SortInt{}
abbrev pub n : KorePattern
n = variable (codes "N") sort_int

-- \and{SortS{}}(term, \equals{SortBool{}, SortS{}}(test, true))
abbrev pub where_true : KorePattern → KorePattern → KorePattern
where_true term test = conjunction sort_s (patterns (term ∷ equals sort_bool sort_s test always ∷ []))

-- inj{SortInt{}, SortE{}}(p)
abbrev pub injected : KorePattern → KorePattern
injected p = application (codes "inj") (sorts (sort_int ∷ sort_e ∷ [])) (patterns (p ∷ []))

-- the axiom that SortInt{} is below SortE{}
abbrev pub subsort_axiom : KoreSentence
subsort_axiom = axiom_sentence (record {
  parameters = codes "R" ∷ [];
  pattern = exists (sort_variable (codes "R")) (codes "Val") sort_e (equals sort_e (sort_variable (codes "R")) (variable (codes "Val") sort_e) (injected (variable (codes "From") sort_int)));
  attributes = patterns (application (codes "subsort") (sorts (sort_int ∷ sort_e ∷ [])) no_patterns ∷ []);
})

-- ---- the rewrite axioms

abbrev pub dec_axiom : KorePattern
dec_axiom = rewriting sort_s (where_true (call (codes "Lblcount") (n ∷ [])) (call (codes "Lblgt") (n ∷ integer (codes "0") ∷ []))) (call (codes "Lblcount") (call (codes "Lblsub") (n ∷ integer (codes "1") ∷ []) ∷ []))

abbrev pub stop_axiom : KorePattern
stop_axiom = rewriting sort_s (where_true (call (codes "Lblcount") (n ∷ [])) (call (codes "Lbleq") (n ∷ integer (codes "0") ∷ []))) (call (codes "Lbldone") [])

abbrev pub pick_axiom : KorePattern
pick_axiom = rewriting sort_s (call (codes "Lblpick") (call (codes "Lblpa") [] ∷ [])) (call (codes "Lbldone") [])

abbrev pub num_axiom : KorePattern
num_axiom = rewriting sort_s (call (codes "Lblnum") (injected n ∷ [])) (call (codes "Lbldone") [])

abbrev pub sq_axiom : KorePattern
sq_axiom = rewriting sort_s (where_true (call (codes "Lblsq") (n ∷ [])) (call (codes "Lbllt") (call (codes "Lblmul") (n ∷ n ∷ []) ∷ integer (codes "0") ∷ []))) (call (codes "Lbldone") [])

abbrev pub up_axiom : KorePattern
up_axiom = rewriting sort_s (call (codes "Lblup") (n ∷ [])) (call (codes "Lblup") (call (codes "Lbladd") (n ∷ integer (codes "1") ∷ []) ∷ []))

abbrev pub odd_axiom : KorePattern
odd_axiom = rewriting sort_s (call (codes "Lblodd") (n ∷ [])) (call (codes "Lblodd") (call (codes "Lblother") (n ∷ []) ∷ []))

abbrev pub spin_axiom : KorePattern
spin_axiom = rewriting sort_s (call (codes "Lblloop") []) (call (codes "Lblloop") [])

abbrev pub van_axiom : KorePattern
van_axiom = rewriting sort_s (call (codes "Lblvf") (n ∷ [])) (call (codes "Lblvg") [])

abbrev pub back_axiom : KorePattern
back_axiom = rewriting sort_s (call (codes "Lblvg") []) (call (codes "Lblvh") (variable (codes "Y") sort_int ∷ []))

-- ---- the main module

abbrev pub toys_sentences : List KoreSentence
toys_sentences =
    import_sentence (codes "BASIC") no_patterns ∷
    declared (codes "SortS") ∷
    declared (codes "SortP") ∷
    declared (codes "SortE") ∷
    constructor (codes "Lblpa") [] sort_p ∷
    constructor (codes "Lblpb") [] sort_p ∷
    constructor (codes "Lblpc") [] sort_p ∷
    constructor (codes "Lblnil") [] sort_e ∷
    constructor (codes "Lblcount") (sort_int ∷ []) sort_s ∷
    constructor (codes "Lbldone") [] sort_s ∷
    constructor (codes "Lblpick") (sort_p ∷ []) sort_s ∷
    constructor (codes "Lblnum") (sort_e ∷ []) sort_s ∷
    constructor (codes "Lblsq") (sort_int ∷ []) sort_s ∷
    constructor (codes "Lblup") (sort_int ∷ []) sort_s ∷
    constructor (codes "Lblodd") (sort_int ∷ []) sort_s ∷
    constructor (codes "Lbllone") [] sort_s ∷
    constructor (codes "Lblgoal") [] sort_s ∷
    constructor (codes "Lblloop") [] sort_s ∷
    constructor (codes "Lblvf") (sort_int ∷ []) sort_s ∷
    constructor (codes "Lblvg") [] sort_s ∷
    constructor (codes "Lblvh") (sort_int ∷ []) sort_s ∷
    symbol_sentence (record { hooked = false; name = codes "Lblother"; parameters = []; arguments = sorts (sort_int ∷ []); result = sort_int; attributes = patterns (mark (codes "function") ∷ []) }) ∷
    subsort_axiom ∷
    rewrite_axiom dec_axiom (codes "TOYS.dec") ∷
    rewrite_axiom stop_axiom (codes "TOYS.stop") ∷
    rewrite_axiom pick_axiom (codes "TOYS.pick") ∷
    rewrite_axiom num_axiom (codes "TOYS.num") ∷
    rewrite_axiom sq_axiom (codes "TOYS.sq") ∷
    rewrite_axiom up_axiom (codes "TOYS.up") ∷
    rewrite_axiom odd_axiom (codes "TOYS.odd") ∷
    rewrite_axiom spin_axiom (codes "TOYS.spin") ∷
    rewrite_axiom van_axiom (codes "TOYS.van") ∷
    rewrite_axiom back_axiom (codes "TOYS.back") ∷ []

abbrev pub toys_definition : KoreDefinition
toys_definition = record {
  attributes = no_patterns;
  modules = basic ∷ record { name = codes "TOYS"; sentences = toys_sentences; attributes = no_patterns } ∷ [];
}
