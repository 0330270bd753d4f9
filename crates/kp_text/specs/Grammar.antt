-- The grammar of Kore text. A writing is one way to write a pattern, a sentence, a module or a definition: it has its
-- tokens, which are put in front of what follows, and it means a pattern, a sentence, a module or a definition.
-- Beside each token stands the level of nesting that it reaches, 0 where it begins neither a pattern nor a sort.
-- Source: the K framework's Kore language.
use Rattle.std.specs.Prelude.{ℕ, suc, pred, ◌+◌, max, Bool, true, false, List, [], ◌∷◌, ◌++◌, map, length, codes}
use Rattle.kp_kore.specs.Syntax.{Text, KoreSort, sort_of, sort_variable, KoreSorts, no_sorts, next_sort, KorePattern, KorePatterns, variable, set_variable, application, string_literal, literal, top, bottom, negation, next, conjunction, disjunction, implication, equivalence, rewriting, exists, forall, ceil, floor, equals, membership, mu, nu, next_pattern, KoreSentence, import_sentence, sort_sentence, symbol_sentence, alias_sentence, axiom_sentence, claim_sentence, KoreModule, KoreDefinition}
use Rattle.kp_kore.specs.View.{patterns_of}
use Rattle.kp_kore.specs.Folds.{left_nested, right_nested}
use Rattle.kp_kore.specs.Parts.{nesting}
use Rattle.kp_text.specs.Tokens.{KoreToken, identifier, backslashed, string_token, mark, defined_as}
use Rattle.kp_text.specs.declared.keyword.Constant.{Constant}
use Rattle.kp_text.specs.declared.keyword.Constant.TheVariants.{Top, Bottom}
use Rattle.kp_text.specs.declared.keyword.Unary.{Unary}
use Rattle.kp_text.specs.declared.keyword.Unary.TheVariants.{Not, Next}
use Rattle.kp_text.specs.declared.keyword.Variadic.{Variadic}
use Rattle.kp_text.specs.declared.keyword.Variadic.TheVariants.{And, Or}
use Rattle.kp_text.specs.declared.keyword.Binary.{Binary}
use Rattle.kp_text.specs.declared.keyword.Binary.TheVariants.{Implies, Iff, Rewrites}
use Rattle.kp_text.specs.declared.keyword.Quantifier.{Quantifier}
use Rattle.kp_text.specs.declared.keyword.Quantifier.TheVariants.{Exists, Forall}
use Rattle.kp_text.specs.declared.keyword.Rounding.{Rounding}
use Rattle.kp_text.specs.declared.keyword.Rounding.TheVariants.{Ceil, Floor}
use Rattle.kp_text.specs.declared.keyword.ComparisonKeyword.{ComparisonKeyword}
use Rattle.kp_text.specs.declared.keyword.ComparisonKeyword.TheVariants.{Equals, In}
use Rattle.kp_text.specs.declared.keyword.FixedPoint.{FixedPoint}
use Rattle.kp_text.specs.declared.keyword.FixedPoint.TheVariants.{Mu, Nu}
use Rattle.kp_text.specs.declared.level.Level.{Level}
use Rattle.kp_text.specs.declared.keyword.FoldSide.{FoldSide}
use Rattle.kp_text.specs.declared.keyword.FoldSide.TheVariants.{Left, Right}

-- a token and the level of nesting that it reaches
pub record Leveled : Type 0 where
  pub token : KoreToken
  pub level : ℕ

abbrev pub at_level : ℕ → KoreToken → List Leveled → List Leveled
at_level n t more = record { token = t; level = n } ∷ more

abbrev pub plain : KoreToken → List Leveled → List Leveled
plain t more = at_level 0 t more

-- the words of the grammar, and what they mean of a sort and of the patterns that they stand before
abbrev pub constant_word : Constant → Text
constant_word Top = codes "top"
constant_word Bottom = codes "bottom"

abbrev pub constant_meaning : Constant → KoreSort → KorePattern
constant_meaning Top s = top s
constant_meaning Bottom s = bottom s

abbrev pub unary_word : Unary → Text
unary_word Not = codes "not"
unary_word Next = codes "next"

abbrev pub unary_meaning : Unary → KoreSort → KorePattern → KorePattern
unary_meaning Not s p = negation s p
unary_meaning Next s p = next s p

abbrev pub variadic_word : Variadic → Text
variadic_word And = codes "and"
variadic_word Or = codes "or"

-- of none it is top or bottom, and of one that member
abbrev pub variadic_meaning : Variadic → KoreSort → List KorePattern → KorePattern
variadic_meaning And s [] = top s
variadic_meaning Or s [] = bottom s
variadic_meaning And s (p ∷ []) = p
variadic_meaning Or s (p ∷ []) = p
variadic_meaning And s (p ∷ (q ∷ ps)) = conjunction s (next_pattern p (next_pattern q (patterns_of ps)))
variadic_meaning Or s (p ∷ (q ∷ ps)) = disjunction s (next_pattern p (next_pattern q (patterns_of ps)))

abbrev pub binary_word : Binary → Text
binary_word Implies = codes "implies"
binary_word Iff = codes "iff"
binary_word Rewrites = codes "rewrites"

abbrev pub binary_meaning : Binary → KoreSort → KorePattern → KorePattern → KorePattern
binary_meaning Implies s p q = implication s p q
binary_meaning Iff s p q = equivalence s p q
binary_meaning Rewrites s p q = rewriting s p q

abbrev pub quantifier_word : Quantifier → Text
quantifier_word Exists = codes "exists"
quantifier_word Forall = codes "forall"

abbrev pub quantifier_meaning : Quantifier → KoreSort → Text → KoreSort → KorePattern → KorePattern
quantifier_meaning Exists s x t p = exists s x t p
quantifier_meaning Forall s x t p = forall s x t p

abbrev pub rounding_word : Rounding → Text
rounding_word Ceil = codes "ceil"
rounding_word Floor = codes "floor"

abbrev pub rounding_meaning : Rounding → KoreSort → KoreSort → KorePattern → KorePattern
rounding_meaning Ceil a s p = ceil a s p
rounding_meaning Floor a s p = floor a s p

abbrev pub comparison_word : ComparisonKeyword → Text
comparison_word Equals = codes "equals"
comparison_word In = codes "in"

abbrev pub comparison_meaning : ComparisonKeyword → KoreSort → KoreSort → KorePattern → KorePattern → KorePattern
comparison_meaning Equals a s p q = equals a s p q
comparison_meaning In a s p q = membership a s p q

abbrev pub fixed_point_word : FixedPoint → Text
fixed_point_word Mu = codes "mu"
fixed_point_word Nu = codes "nu"

abbrev pub fixed_point_meaning : FixedPoint → Text → KoreSort → KorePattern → KorePattern
fixed_point_meaning Mu x s p = mu x s p
fixed_point_meaning Nu x s p = nu x s p

abbrev pub side_word : FoldSide → Text
side_word Left = codes "left-assoc"
side_word Right = codes "right-assoc"

-- an application of many members, folded from the left or from the right
abbrev pub fold_meaning : FoldSide → Text → KoreSorts → KorePattern → List KorePattern → KorePattern
fold_meaning Left f ss p ps = left_nested f ss p (patterns_of ps)
fold_meaning Right f ss p ps = right_nested f ss p (patterns_of ps)

-- The ways to write a pattern.
mutual
  pub data Writing : Type 0 where
    -- x:S and @x:S
    written_variable : Text → KoreSort → Writing
    written_set_variable : Text → KoreSort → Writing
    -- f{sorts}(members)
    written_application : Text → KoreSorts → Writings → Writing
    -- "text" and \dv{S}("text")
    written_string : Text → Writing
    written_literal : KoreSort → Text → Writing
    -- \top{S}()
    written_constant : Constant → KoreSort → Writing
    -- \not{S}(p)
    written_unary : Unary → KoreSort → Writing → Writing
    -- \and{S}(members)
    written_variadic : Variadic → KoreSort → Writings → Writing
    -- \implies{S}(p,q)
    written_binary : Binary → KoreSort → Writing → Writing → Writing
    -- \exists{S}(x:T,p)
    written_quantifier : Quantifier → KoreSort → Text → KoreSort → Writing → Writing
    -- \ceil{A,S}(p)
    written_rounding : Rounding → KoreSort → KoreSort → Writing → Writing
    -- \equals{A,S}(p,q)
    written_comparison : ComparisonKeyword → KoreSort → KoreSort → Writing → Writing → Writing
    -- \mu{}(@x:S,p)
    written_fixed_point : FixedPoint → Text → KoreSort → Writing → Writing
    -- \left-assoc{}(f{sorts}(first, members))
    written_fold : FoldSide → Text → KoreSorts → Writing → Writings → Writing
    -- \left-assoc{}(\and{S}(members))
    written_variadic_fold : FoldSide → Variadic → KoreSort → Writings → Writing

  pub data Writings : Type 0 where
    no_writings : Writings
    next_writing : Writing → Writings → Writings

-- What is meant.
abbrev mutual
  pub meaning : Writing → KorePattern
  meaning (written_variable x s) = variable x s
  meaning (written_set_variable x s) = set_variable x s
  meaning (written_application f ss ws) = application f ss (patterns_of (meanings ws))
  meaning (written_string t) = string_literal t
  meaning (written_literal s t) = literal s t
  meaning (written_constant c s) = constant_meaning c s
  meaning (written_unary u s w) = unary_meaning u s (meaning w)
  meaning (written_variadic v s ws) = variadic_meaning v s (meanings ws)
  meaning (written_binary b s v w) = binary_meaning b s (meaning v) (meaning w)
  meaning (written_quantifier q s x t w) = quantifier_meaning q s x t (meaning w)
  meaning (written_rounding r a s w) = rounding_meaning r a s (meaning w)
  meaning (written_comparison c a s v w) = comparison_meaning c a s (meaning v) (meaning w)
  meaning (written_fixed_point f x s w) = fixed_point_meaning f x s (meaning w)
  meaning (written_fold side f ss w ws) = fold_meaning side f ss (meaning w) (meanings ws)
  meaning (written_variadic_fold side v s ws) = variadic_meaning v s (meanings ws)

  pub meanings : Writings → List KorePattern
  meanings no_writings = []
  meanings (next_writing w ws) = meaning w ∷ meanings ws

-- Tokens. Punctuation by its characters' codes: { } are 123 125, ( ) are 40 41, [ ] are 91 93, then , : @ 44 58 64.
abbrev mutual
  -- a sort, at a level of its own
  pub sort_tokens : ℕ → KoreSort → List Leveled → List Leveled
  sort_tokens n (sort_of name ss) more = at_level n (identifier name) (plain (mark 123) (sorts_tokens (suc n) ss (plain (mark 125) more)))
  sort_tokens n (sort_variable name) more = at_level n (identifier name) more

  -- sorts with commas between them
  pub sorts_tokens : ℕ → KoreSorts → List Leveled → List Leveled
  sorts_tokens n no_sorts more = more
  sorts_tokens n (next_sort s ss) more = sort_tokens n s (more_sorts_tokens n ss more)

  pub more_sorts_tokens : ℕ → KoreSorts → List Leveled → List Leveled
  more_sorts_tokens n no_sorts more = more
  more_sorts_tokens n (next_sort s ss) more = plain (mark 44) (sort_tokens n s (more_sorts_tokens n ss more))

-- sorts in braces
abbrev pub braced_sorts : KoreSorts → List Leveled → List Leveled
braced_sorts ss more = plain (mark 123) (sorts_tokens 1 ss (plain (mark 125) more))

abbrev pub braced_sort : KoreSort → List Leveled → List Leveled
braced_sort s more = plain (mark 123) (sort_tokens 1 s (plain (mark 125) more))

abbrev pub two_braced_sorts : KoreSort → KoreSort → List Leveled → List Leveled
two_braced_sorts a s more = plain (mark 123) (sort_tokens 1 a (plain (mark 44) (sort_tokens 1 s (plain (mark 125) more))))

abbrev pub no_braced_sorts : List Leveled → List Leveled
no_braced_sorts more = plain (mark 123) (plain (mark 125) more)

-- x:S
abbrev pub variable_tokens : ℕ → Text → KoreSort → List Leveled → List Leveled
variable_tokens n x s more = at_level n (identifier x) (plain (mark 58) (sort_tokens 1 s more))

-- Where a pattern stands: at which level as written, and at which as meant. A fold means a nest of applications, so
-- its members stand deeper as meant than as written; else what stands in a pattern is one level deeper in both.
-- reached is the level that the pattern reaches by beginning.
abbrev pub first_level : Level
first_level = record { written = 1; meant = 1; reached = 1 }

abbrev pub below : Level → Level
below l = record { written = suc l.written; meant = suc l.meant; reached = suc (max l.written l.meant) }

-- of a fold, the application in it, and its first member
abbrev pub in_fold : Level → Level
in_fold l = record { written = suc l.written; meant = l.meant; reached = suc l.written }

abbrev pub first_in_fold : Level → Level
first_in_fold l = record { written = suc (suc l.written); meant = l.meant; reached = max (suc (suc l.written)) l.meant }

-- how much deeper than the fold a member after these others stands as meant, at least
abbrev pub member_depth : FoldSide → List KorePattern → ℕ
member_depth Left others = 1
member_depth Right others = suc (length others)

-- a member after the first and these others: it makes the fold of all that stand before it deeper
abbrev pub next_in_fold : FoldSide → Text → KoreSorts → Level → KorePattern → List KorePattern → Level
next_in_fold side f ss l first others = record {
  written = suc (suc l.written);
  meant = member_depth side others + l.meant;
  reached = max (suc (suc l.written)) (pred (l.meant + nesting (fold_meaning side f ss first (others ++ string_literal [] ∷ []))));
}

abbrev mutual
  pub pattern_tokens : Level → Writing → List Leveled → List Leveled
  pattern_tokens l (written_variable x s) more = variable_tokens l.reached x s more
  pattern_tokens l (written_set_variable x s) more = at_level l.reached (mark 64) (variable_tokens 0 x s more)
  pattern_tokens l (written_application f ss ws) more = at_level l.reached (identifier f) (braced_sorts ss (plain (mark 40) (list_tokens (below l) ws (plain (mark 41) more))))
  pattern_tokens l (written_string t) more = at_level l.reached (string_token t) more
  pattern_tokens l (written_literal s t) more = at_level l.reached (backslashed (codes "dv")) (braced_sort s (plain (mark 40) (plain (string_token t) (plain (mark 41) more))))
  pattern_tokens l (written_constant c s) more = at_level l.reached (backslashed (constant_word c)) (braced_sort s (plain (mark 40) (plain (mark 41) more)))
  pattern_tokens l (written_unary u s w) more = at_level l.reached (backslashed (unary_word u)) (braced_sort s (plain (mark 40) (pattern_tokens (below l) w (plain (mark 41) more))))
  pattern_tokens l (written_variadic v s ws) more = at_level l.reached (backslashed (variadic_word v)) (braced_sort s (plain (mark 40) (list_tokens (below l) ws (plain (mark 41) more))))
  pattern_tokens l (written_binary b s v w) more = at_level l.reached (backslashed (binary_word b)) (braced_sort s (plain (mark 40) (pattern_tokens (below l) v (plain (mark 44) (pattern_tokens (below l) w (plain (mark 41) more))))))
  pattern_tokens l (written_quantifier q s x t w) more = at_level l.reached (backslashed (quantifier_word q)) (braced_sort s (plain (mark 40) (variable_tokens 0 x t (plain (mark 44) (pattern_tokens (below l) w (plain (mark 41) more))))))
  pattern_tokens l (written_rounding r a s w) more = at_level l.reached (backslashed (rounding_word r)) (two_braced_sorts a s (plain (mark 40) (pattern_tokens (below l) w (plain (mark 41) more))))
  pattern_tokens l (written_comparison c a s v w) more = at_level l.reached (backslashed (comparison_word c)) (two_braced_sorts a s (plain (mark 40) (pattern_tokens (below l) v (plain (mark 44) (pattern_tokens (below l) w (plain (mark 41) more))))))
  pattern_tokens l (written_fixed_point f x s w) more = at_level l.reached (backslashed (fixed_point_word f)) (no_braced_sorts (plain (mark 40) (plain (mark 64) (variable_tokens 0 x s (plain (mark 44) (pattern_tokens (below l) w (plain (mark 41) more)))))))
  pattern_tokens l (written_fold side f ss w ws) more = at_level l.reached (backslashed (side_word side)) (no_braced_sorts (plain (mark 40) (at_level (suc l.written) (identifier f) (braced_sorts ss (plain (mark 40) (pattern_tokens (first_in_fold l) w (fold_tokens side f ss l (meaning w) [] ws (plain (mark 41) (plain (mark 41) more)))))))))
  pattern_tokens l (written_variadic_fold side v s ws) more = at_level l.reached (backslashed (side_word side)) (no_braced_sorts (plain (mark 40) (at_level (suc l.written) (backslashed (variadic_word v)) (braced_sort s (plain (mark 40) (list_tokens (below (in_fold l)) ws (plain (mark 41) (plain (mark 41) more))))))))

  -- patterns with commas between them
  pub list_tokens : Level → Writings → List Leveled → List Leveled
  list_tokens l no_writings more = more
  list_tokens l (next_writing w ws) more = pattern_tokens l w (more_tokens l ws more)

  pub more_tokens : Level → Writings → List Leveled → List Leveled
  more_tokens l no_writings more = more
  more_tokens l (next_writing w ws) more = plain (mark 44) (pattern_tokens l w (more_tokens l ws more))

  -- the members of a fold after the first and these others
  pub fold_tokens : FoldSide → Text → KoreSorts → Level → KorePattern → List KorePattern → Writings → List Leveled → List Leveled
  fold_tokens side f ss l first others no_writings more = more
  fold_tokens side f ss l first others (next_writing w ws) more = plain (mark 44) (pattern_tokens (next_in_fold side f ss l first others) w (fold_tokens side f ss l first (others ++ meaning w ∷ []) ws more))

-- attributes: patterns in brackets
abbrev pub attributes_tokens : Writings → List Leveled → List Leveled
attributes_tokens ws more = plain (mark 91) (list_tokens first_level ws (plain (mark 93) more))

-- names in braces, with commas between them
abbrev pub more_names_tokens : List Text → List Leveled → List Leveled
more_names_tokens [] more = more
more_names_tokens (x ∷ xs) more = plain (mark 44) (plain (identifier x) (more_names_tokens xs more))

abbrev pub names_tokens : List Text → List Leveled → List Leveled
names_tokens [] more = more
names_tokens (x ∷ xs) more = plain (identifier x) (more_names_tokens xs more)

abbrev pub braced_names : List Text → List Leveled → List Leveled
braced_names xs more = plain (mark 123) (names_tokens xs (plain (mark 125) more))

-- The ways to write a sentence; the flags tell hooked sorts and symbols, and claims.
pub data WrittenSentence : Type 0 where
  -- import name []
  written_import : Text → Writings → WrittenSentence
  -- sort name{parameters} []
  written_sort : Bool → Text → List Text → Writings → WrittenSentence
  -- symbol name{parameters}(sorts) : sort []
  written_symbol : Bool → Text → List Text → KoreSorts → KoreSort → Writings → WrittenSentence
  -- alias name{parameters}(sorts) : sort where left := right []
  written_alias : Text → List Text → KoreSorts → KoreSort → Writing → Writing → Writings → WrittenSentence
  -- axiom{parameters} pattern []
  written_statement : Bool → List Text → Writing → Writings → WrittenSentence

abbrev pub sort_word : Bool → Text
sort_word false = codes "sort"
sort_word true = codes "hooked-sort"

abbrev pub symbol_word : Bool → Text
symbol_word false = codes "symbol"
symbol_word true = codes "hooked-symbol"

abbrev pub statement_word : Bool → Text
statement_word false = codes "axiom"
statement_word true = codes "claim"

abbrev pub statement_meaning : Bool → List Text → KorePattern → KorePatterns → KoreSentence
statement_meaning false xs p as_ = axiom_sentence (record { parameters = xs; pattern = p; attributes = as_ })
statement_meaning true xs p as_ = claim_sentence (record { parameters = xs; pattern = p; attributes = as_ })

abbrev pub sentence_meaning : WrittenSentence → KoreSentence
sentence_meaning (written_import x ws) = import_sentence x (patterns_of (meanings ws))
sentence_meaning (written_sort h x xs ws) = sort_sentence (record { hooked = h; name = x; parameters = xs; attributes = patterns_of (meanings ws) })
sentence_meaning (written_symbol h x xs ss s ws) = symbol_sentence (record { hooked = h; name = x; parameters = xs; arguments = ss; result = s; attributes = patterns_of (meanings ws) })
sentence_meaning (written_alias x xs ss s v w ws) = alias_sentence (record { name = x; parameters = xs; arguments = ss; result = s; left = meaning v; right = meaning w; attributes = patterns_of (meanings ws) })
sentence_meaning (written_statement c xs w ws) = statement_meaning c xs (meaning w) (patterns_of (meanings ws))

-- name{parameters}(sorts) : sort
abbrev pub signature_tokens : Text → List Text → KoreSorts → KoreSort → List Leveled → List Leveled
signature_tokens x xs ss s more = plain (identifier x) (braced_names xs (plain (mark 40) (sorts_tokens 1 ss (plain (mark 41) (plain (mark 58) (sort_tokens 1 s more))))))

abbrev pub sentence_tokens : WrittenSentence → List Leveled → List Leveled
sentence_tokens (written_import x ws) more = plain (identifier (codes "import")) (plain (identifier x) (attributes_tokens ws more))
sentence_tokens (written_sort h x xs ws) more = plain (identifier (sort_word h)) (plain (identifier x) (braced_names xs (attributes_tokens ws more)))
sentence_tokens (written_symbol h x xs ss s ws) more = plain (identifier (symbol_word h)) (signature_tokens x xs ss s (attributes_tokens ws more))
sentence_tokens (written_alias x xs ss s v w ws) more = plain (identifier (codes "alias")) (signature_tokens x xs ss s (plain (identifier (codes "where")) (pattern_tokens first_level v (plain defined_as (pattern_tokens first_level w (attributes_tokens ws more))))))
sentence_tokens (written_statement c xs w ws) more = plain (identifier (statement_word c)) (braced_names xs (pattern_tokens first_level w (attributes_tokens ws more)))

abbrev pub sentences_tokens : List WrittenSentence → List Leveled → List Leveled
sentences_tokens [] more = more
sentences_tokens (x ∷ xs) more = sentence_tokens x (sentences_tokens xs more)

-- module name sentences endmodule []
pub record WrittenModule : Type 0 where
  pub name : Text
  pub sentences : List WrittenSentence
  pub attributes : Writings

abbrev pub module_meaning : WrittenModule → KoreModule
module_meaning m = record { name = m.name; sentences = map sentence_meaning m.sentences; attributes = patterns_of (meanings m.attributes) }

abbrev pub module_tokens : WrittenModule → List Leveled → List Leveled
module_tokens m more = plain (identifier (codes "module")) (plain (identifier m.name) (sentences_tokens m.sentences (plain (identifier (codes "endmodule")) (attributes_tokens m.attributes more))))

-- one or more modules
pub record WrittenModules : Type 0 where
  pub first : WrittenModule
  pub others : List WrittenModule

abbrev pub modules_meaning : WrittenModules → List KoreModule
modules_meaning ms = module_meaning ms.first ∷ map module_meaning ms.others

abbrev pub other_modules_tokens : List WrittenModule → List Leveled → List Leveled
other_modules_tokens [] more = more
other_modules_tokens (m ∷ ms) more = module_tokens m (other_modules_tokens ms more)

abbrev pub modules_tokens : WrittenModules → List Leveled → List Leveled
modules_tokens ms more = module_tokens ms.first (other_modules_tokens ms.others more)

-- attributes and one or more modules
pub record WrittenDefinition : Type 0 where
  pub attributes : Writings
  pub modules : WrittenModules

abbrev pub definition_meaning : WrittenDefinition → KoreDefinition
definition_meaning d = record { attributes = patterns_of (meanings d.attributes); modules = modules_meaning d.modules }

abbrev pub definition_tokens : WrittenDefinition → List Leveled → List Leveled
definition_tokens d more = attributes_tokens d.attributes (modules_tokens d.modules more)
