-- What is written from a place on: the places seen as parts of the grammar.
use Rattle.std.proofs.Common.{◌≡◌, suc, List, [], ◌++◌, map, ◌⊎◌}
use Rattle.std.specs.Prelude.{codes}
use Rattle.kp_kore.specs.Syntax.{Text, KoreSort, KoreSorts, sort_of, sort_variable, variable, application}
use Rattle.kp_kore.specs.View.{patterns_of}
use Rattle.kp_kore.specs.Parts.{sort_list}
use Rattle.kp_text.specs.Tokens.{identifier, backslashed, string_token, mark, defined_as}
use Rattle.kp_text.specs.Grammar.{Leveled, at_level, plain, sort_tokens, sorts_tokens, more_sorts_tokens, braced_sorts, braced_sort, below, in_fold, first_in_fold, pattern_tokens, list_tokens, more_tokens, fold_tokens, meaning, meanings, Writing, Writings, variadic_word, variadic_meaning, fold_meaning, more_names_tokens, names_tokens, WrittenSentence, sentence_meaning, sentences_tokens, WrittenModule, module_meaning, other_modules_tokens}
use Rattle.kp_text.specs.Next.{Answer, Place, done, a_mark, a_defined_as, a_word, a_name, a_string, a_sort, after_sort_name, sorts, more_sorts, names, more_names, a_pattern, after_name, patterns, more_patterns, folded, more_folded, sentences, more_modules}
use Rattle.kp_text.specs.declared.keyword.Variadic.{Variadic}
use Rattle.kp_text.specs.declared.level.Level.{Level}
use Rattle.kp_text.specs.declared.keyword.FoldSide.{FoldSide}

-- a writing with these tokens in front, and what follows it
abbrev pub InFront : (W : Type 0) → (W → List Leveled → List Leveled) → List Leveled → (W → List Leveled → Type 0) → Type 0
InFront W tokens ls P = (w : W) × (rest : List Leveled) × (ls ≡ tokens w rest) × P w rest

-- the members of a fold: an application's, or those of \and and \or
pub record OfFold : Type 0 where
  pub symbol : Text
  pub sorts : KoreSorts
  pub first : Writing
  pub others : Writings

pub record OfVariadic : Type 0 where
  pub word : Variadic
  pub sort : KoreSort
  pub members : Writings

pub record Members : Type 0 where
  pub sorts : KoreSorts
  pub members : Writings

abbrev pub members_tokens : Level → Members → List Leveled → List Leveled
members_tokens l m more = braced_sorts m.sorts (plain (mark 40) (list_tokens (below l) m.members (plain (mark 41) more)))

abbrev pub of_fold_tokens : Level → FoldSide → OfFold → List Leveled → List Leveled
of_fold_tokens l side m more = at_level (suc l.written) (identifier m.symbol) (braced_sorts m.sorts (plain (mark 40) (pattern_tokens (first_in_fold l) m.first (fold_tokens side m.symbol m.sorts l (meaning m.first) [] m.others (plain (mark 41) more)))))

abbrev pub of_variadic_tokens : Level → OfVariadic → List Leveled → List Leveled
of_variadic_tokens l m more = at_level (suc l.written) (backslashed (variadic_word m.word)) (braced_sort m.sort (plain (mark 40) (list_tokens (below (in_fold l)) m.members (plain (mark 41) more))))

abbrev pub Written : Place → List Leveled → Answer → Type 0
Written (done a) = λ ls b. (ls ≡ []) × (a ≡ b)
Written (a_mark c g) = λ ls b. (rest : List Leveled) × (ls ≡ plain (mark c) rest) × Written g rest b
Written (a_defined_as g) = λ ls b. (rest : List Leveled) × (ls ≡ plain defined_as rest) × Written g rest b
Written (a_word w g) = λ ls b. (rest : List Leveled) × (ls ≡ plain (identifier w) rest) × Written g rest b
Written (a_name k) = λ ls b. InFront Text (λ x more. plain (identifier x) more) ls (λ x rest. Written (k x) rest b)
Written (a_string k) = λ ls b. InFront Text (λ x more. plain (string_token x) more) ls (λ x rest. Written (k x) rest b)
Written (a_sort n k) = λ ls b. InFront KoreSort (sort_tokens n) ls (λ s rest. Written (k s) rest b)
Written (after_sort_name n x k) = λ ls b. InFront KoreSorts (λ ss more. plain (mark 123) (sorts_tokens (suc n) ss (plain (mark 125) more))) ls (λ ss rest. Written (k (sort_of x ss)) rest b) ⊎ Written (k (sort_variable x)) ls b
Written (sorts n close k) = λ ls b. InFront KoreSorts (λ ss more. sorts_tokens n ss (plain (mark close) more)) ls (λ ss rest. Written (k (sort_list ss)) rest b)
Written (more_sorts n close ts k) = λ ls b. InFront KoreSorts (λ ss more. more_sorts_tokens n ss (plain (mark close) more)) ls (λ ss rest. Written (k (ts ++ sort_list ss)) rest b)
Written (names k) = λ ls b. InFront (List Text) (λ xs more. names_tokens xs (plain (mark 125) more)) ls (λ xs rest. Written (k xs) rest b)
Written (more_names ys k) = λ ls b. InFront (List Text) (λ xs more. more_names_tokens xs (plain (mark 125) more)) ls (λ xs rest. Written (k (ys ++ xs)) rest b)
Written (a_pattern l k) = λ ls b. InFront Writing (pattern_tokens l) ls (λ w rest. Written (k (meaning w)) rest b)
Written (after_name l x k) = λ ls b. InFront Members (members_tokens l) ls (λ m rest. Written (k (application x m.sorts (patterns_of (meanings m.members)))) rest b) ⊎ InFront KoreSort (λ s more. plain (mark 58) (sort_tokens 1 s more)) ls (λ s rest. Written (k (variable x s)) rest b)
Written (patterns l close k) = λ ls b. InFront Writings (λ ws more. list_tokens l ws (plain (mark close) more)) ls (λ ws rest. Written (k (meanings ws)) rest b)
Written (more_patterns l close ps k) = λ ls b. InFront Writings (λ ws more. more_tokens l ws (plain (mark close) more)) ls (λ ws rest. Written (k (ps ++ meanings ws)) rest b)
Written (folded l side k) = λ ls b. InFront OfFold (of_fold_tokens l side) ls (λ m rest. Written (k (fold_meaning side m.symbol m.sorts (meaning m.first) (meanings m.others))) rest b) ⊎ InFront OfVariadic (of_variadic_tokens l) ls (λ m rest. Written (k (variadic_meaning m.word m.sort (meanings m.members))) rest b)
Written (more_folded side f ss l p ps k) = λ ls b. InFront Writings (λ ws more. fold_tokens side f ss l p ps ws (plain (mark 41) more)) ls (λ ws rest. Written (k (fold_meaning side f ss p (ps ++ meanings ws))) rest b)
Written (sentences so_far k) = λ ls b. InFront (List WrittenSentence) (λ ws more. sentences_tokens ws (plain (identifier (codes "endmodule")) more)) ls (λ ws rest. Written (k (so_far ++ map sentence_meaning ws)) rest b)
Written (more_modules so_far answer) = λ ls b. (ms : List WrittenModule) × (ls ≡ other_modules_tokens ms []) × (answer (so_far ++ map module_meaning ms) ≡ b)
