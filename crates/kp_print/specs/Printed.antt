-- The text that is printed of sorts, patterns, sentences and modules: tokens without white space between them, and one
-- space between sentences, between words, before attributes and before what an axiom or a claim states.
-- Source: the K framework's Kore language.
use Rattle.std.specs.Prelude.{Bool, true, false, List, [], ◌∷◌, ◌++◌, codes}
use Rattle.kp_kore.specs.Syntax.{Text, KoreSort, sort_of, sort_variable, KoreSorts, no_sorts, next_sort, KorePattern, KorePatterns, variable, set_variable, application, string_literal, literal, top, bottom, negation, next, conjunction, disjunction, implication, equivalence, rewriting, exists, forall, ceil, floor, equals, membership, mu, nu, no_patterns, next_pattern, Statement, KoreSentence, import_sentence, sort_sentence, symbol_sentence, alias_sentence, axiom_sentence, claim_sentence, KoreModule}
use Rattle.kp_print.specs.Strings.{quoted}

-- two parts with a comma between them
abbrev pub pair : Text → Text → Text
pair a b = a ++ codes "," ++ b

-- name{sorts}( and name{sorts}(members)
abbrev pub head : Text → Text → Text
head name sorts = name ++ codes "{" ++ sorts ++ codes "}("

abbrev pub form : Text → Text → Text → Text
form name sorts members = head name sorts ++ members ++ codes ")"

abbrev mutual
  -- SortInt{}, and the bare name of a sort variable
  pub sort_text : KoreSort → Text
  sort_text (sort_of name ss) = name ++ codes "{" ++ sorts_after [] ss ++ codes "}"
  sort_text (sort_variable name) = name

  -- sorts, the first after this text and each other one after a comma
  pub sorts_after : Text → KoreSorts → Text
  sorts_after before no_sorts = []
  sorts_after before (next_sort s ss) = before ++ sort_text s ++ sorts_after (codes ",") ss

-- sorts with commas between them
abbrev pub sorts_text : KoreSorts → Text
sorts_text ss = sorts_after [] ss

-- x:S
abbrev pub variable_text : Text → KoreSort → Text
variable_text x s = x ++ codes ":" ++ sort_text s

abbrev mutual
  pub pattern_text : KorePattern → Text
  pattern_text (variable x s) = variable_text x s
  pattern_text (set_variable x s) = codes "@" ++ variable_text x s
  pattern_text (application f ss ps) = form f (sorts_text ss) (patterns_after [] ps)
  pattern_text (string_literal t) = quoted t
  pattern_text (literal s t) = form (codes "\\dv") (sort_text s) (quoted t)
  pattern_text (top s) = form (codes "\\top") (sort_text s) []
  pattern_text (bottom s) = form (codes "\\bottom") (sort_text s) []
  pattern_text (negation s p) = form (codes "\\not") (sort_text s) (pattern_text p)
  pattern_text (next s p) = form (codes "\\next") (sort_text s) (pattern_text p)
  pattern_text (conjunction s ps) = form (codes "\\and") (sort_text s) (patterns_after [] ps)
  pattern_text (disjunction s ps) = form (codes "\\or") (sort_text s) (patterns_after [] ps)
  pattern_text (implication s p q) = form (codes "\\implies") (sort_text s) (pair (pattern_text p) (pattern_text q))
  pattern_text (equivalence s p q) = form (codes "\\iff") (sort_text s) (pair (pattern_text p) (pattern_text q))
  pattern_text (rewriting s p q) = form (codes "\\rewrites") (sort_text s) (pair (pattern_text p) (pattern_text q))
  pattern_text (exists s x t p) = form (codes "\\exists") (sort_text s) (pair (variable_text x t) (pattern_text p))
  pattern_text (forall s x t p) = form (codes "\\forall") (sort_text s) (pair (variable_text x t) (pattern_text p))
  pattern_text (ceil a s p) = form (codes "\\ceil") (pair (sort_text a) (sort_text s)) (pattern_text p)
  pattern_text (floor a s p) = form (codes "\\floor") (pair (sort_text a) (sort_text s)) (pattern_text p)
  pattern_text (equals a s p q) = form (codes "\\equals") (pair (sort_text a) (sort_text s)) (pair (pattern_text p) (pattern_text q))
  pattern_text (membership a s p q) = form (codes "\\in") (pair (sort_text a) (sort_text s)) (pair (pattern_text p) (pattern_text q))
  pattern_text (mu x s p) = form (codes "\\mu") [] (pair (codes "@" ++ variable_text x s) (pattern_text p))
  pattern_text (nu x s p) = form (codes "\\nu") [] (pair (codes "@" ++ variable_text x s) (pattern_text p))

  -- patterns, the first after this text and each other one after a comma
  pub patterns_after : Text → KorePatterns → Text
  patterns_after before no_patterns = []
  patterns_after before (next_pattern p ps) = before ++ pattern_text p ++ patterns_after (codes ",") ps

-- attributes in brackets, after a space
abbrev pub attributes_text : KorePatterns → Text
attributes_text ps = codes " [" ++ patterns_after [] ps ++ codes "]"

-- names, the first after this text and each other one after a comma
abbrev pub names_after : Text → List Text → Text
names_after before [] = []
names_after before (x ∷ xs) = before ++ x ++ names_after (codes ",") xs

-- names in braces
abbrev pub parameters_text : List Text → Text
parameters_text xs = codes "{" ++ names_after [] xs ++ codes "}"

-- name{parameters}(sorts):sort
abbrev pub signature_text : Text → List Text → KoreSorts → KoreSort → Text
signature_text x xs ss s = x ++ parameters_text xs ++ codes "(" ++ sorts_text ss ++ codes "):" ++ sort_text s

-- before the keyword of a hooked sort or symbol
abbrev pub hooked_text : Bool → Text
hooked_text true = codes "hooked-"
hooked_text false = []

-- what an axiom or a claim states, after its keyword
abbrev pub statement_text : Statement → Text
statement_text s = parameters_text s.parameters ++ codes " " ++ pattern_text s.pattern ++ attributes_text s.attributes

abbrev pub sentence_text : KoreSentence → Text
sentence_text (import_sentence x as_) = codes "import " ++ x ++ attributes_text as_
sentence_text (sort_sentence s) = hooked_text s.hooked ++ codes "sort " ++ s.name ++ parameters_text s.parameters ++ attributes_text s.attributes
sentence_text (symbol_sentence s) = hooked_text s.hooked ++ codes "symbol " ++ signature_text s.name s.parameters s.arguments s.result ++ attributes_text s.attributes
sentence_text (alias_sentence s) = codes "alias " ++ signature_text s.name s.parameters s.arguments s.result ++ codes " where " ++ pattern_text s.left ++ codes ":=" ++ pattern_text s.right ++ attributes_text s.attributes
sentence_text (axiom_sentence s) = codes "axiom" ++ statement_text s
sentence_text (claim_sentence s) = codes "claim" ++ statement_text s

-- sentences, each after a space
abbrev pub sentences_text : List KoreSentence → Text
sentences_text [] = []
sentences_text (s ∷ ss) = codes " " ++ sentence_text s ++ sentences_text ss

-- module NAME, the sentences, endmodule []
abbrev pub module_text : KoreModule → Text
module_text m = codes "module " ++ m.name ++ sentences_text m.sentences ++ codes " endmodule" ++ attributes_text m.attributes
