-- The data of Kore's syntax that the Rust types stand for: a name is seen as its bytes, a list by its members.
use Rattle.std.specs.Prelude.{List, [], ◌∷◌, map, String, string_bytes}
use Rattle.std.specs.declared.alloc.Global.{Global}
use Rattle.kp_kore.specs.Syntax.{Text, KoreSort, sort_of, sort_variable, KoreSorts, no_sorts, next_sort, KorePattern, KorePatterns, variable, set_variable, application, string_literal, literal, top, bottom, negation, next, conjunction, disjunction, implication, equivalence, rewriting, exists, forall, ceil, floor, equals, membership, mu, nu, no_patterns, next_pattern, SymbolDeclaration, SortDeclaration, AliasDeclaration, Statement, KoreSentence, import_sentence, sort_sentence, symbol_sentence, alias_sentence, axiom_sentence, claim_sentence, KoreModule, KoreDefinition}
use Rattle.kp_kore.specs.declared.sort.Sort.{Sort, fold-Sort}
use Rattle.kp_kore.specs.declared.sort.Sort.TheOpen.{Sort-F}
use Rattle.kp_kore.specs.declared.pattern.Pattern.{Pattern, fold-Pattern}
use Rattle.kp_kore.specs.declared.pattern.Pattern.TheOpen.{Pattern-F}
use Rattle.kp_kore.specs.Parts.{SortedName}
use Rattle.kp_kore.specs.declared.pattern_free.SortedVariable.{SortedVariable}
use Rattle.kp_kore.specs.declared.sentence.SortSentence.{SortSentence}
use Rattle.kp_kore.specs.declared.sentence.SymbolSentence.{SymbolSentence}
use Rattle.kp_kore.specs.declared.sentence.AliasSentence.{AliasSentence}
use Rattle.kp_kore.specs.declared.sentence.AxiomSentence.{AxiomSentence}
use Rattle.kp_kore.specs.declared.sentence.Sentence.{Sentence}
use Rattle.kp_kore.specs.declared.sentence.Sentence.TheVariants as sentence
use Rattle.kp_kore.specs.declared.sentence.Module.{Module}
use Rattle.kp_kore.specs.declared.sentence.Definition.{Definition}

-- a list of sorts or of patterns as Kore's lists of them
abbrev pub sorts_of : List KoreSort → KoreSorts
sorts_of [] = no_sorts
sorts_of (s ∷ ss) = next_sort s (sorts_of ss)

abbrev pub patterns_of : List KorePattern → KorePatterns
patterns_of [] = no_patterns
patterns_of (p ∷ ps) = next_pattern p (patterns_of ps)

-- one level of a sort, with each argument already seen as its data
abbrev pub sort_step : Sort-F KoreSort → KoreSort
sort_step (Sort-F.App n ss) = sort_of (string_bytes n) (sorts_of ss.items)
sort_step (Sort-F.Variable n) = sort_variable (string_bytes n)

abbrev pub sort_view : Sort → KoreSort
sort_view = fold-Sort KoreSort sort_step

abbrev pub sorts_view : List Sort → KoreSorts
sorts_view ss = sorts_of (map sort_view ss)

-- one level of a pattern, with each pattern in it already seen as its data
abbrev pub pattern_step : Pattern-F KorePattern → KorePattern
pattern_step (Pattern-F.Variable x s) = variable (string_bytes x) (sort_view s)
pattern_step (Pattern-F.SetVariable x s) = set_variable (string_bytes x) (sort_view s)
pattern_step (Pattern-F.Application f ss ps) = application (string_bytes f) (sorts_view ss.items) (patterns_of ps.items)
pattern_step (Pattern-F.StringLiteral t) = string_literal (string_bytes t)
pattern_step (Pattern-F.Literal s t) = literal (sort_view s) (string_bytes t)
pattern_step (Pattern-F.Top s) = top (sort_view s)
pattern_step (Pattern-F.Bottom s) = bottom (sort_view s)
pattern_step (Pattern-F.Not s p) = negation (sort_view s) p.value
pattern_step (Pattern-F.Next s p) = next (sort_view s) p.value
pattern_step (Pattern-F.And s ps) = conjunction (sort_view s) (patterns_of ps.items)
pattern_step (Pattern-F.Or s ps) = disjunction (sort_view s) (patterns_of ps.items)
pattern_step (Pattern-F.Implies s p q) = implication (sort_view s) p.value q.value
pattern_step (Pattern-F.Iff s p q) = equivalence (sort_view s) p.value q.value
pattern_step (Pattern-F.Rewrites s p q) = rewriting (sort_view s) p.value q.value
pattern_step (Pattern-F.Exists s x t p) = exists (sort_view s) (string_bytes x) (sort_view t) p.value
pattern_step (Pattern-F.Forall s x t p) = forall (sort_view s) (string_bytes x) (sort_view t) p.value
pattern_step (Pattern-F.Ceil a s p) = ceil (sort_view a) (sort_view s) p.value
pattern_step (Pattern-F.Floor a s p) = floor (sort_view a) (sort_view s) p.value
pattern_step (Pattern-F.Equals a s p q) = equals (sort_view a) (sort_view s) p.value q.value
pattern_step (Pattern-F.In a s p q) = membership (sort_view a) (sort_view s) p.value q.value
pattern_step (Pattern-F.Mu x s p) = mu (string_bytes x) (sort_view s) p.value
pattern_step (Pattern-F.Nu x s p) = nu (string_bytes x) (sort_view s) p.value

abbrev pub view : Pattern → KorePattern
view = fold-Pattern KorePattern pattern_step

abbrev pub patterns_view : List Pattern → KorePatterns
patterns_view ps = patterns_of (map view ps)

abbrev pub sorted_variable_view : SortedVariable → SortedName
sorted_variable_view v = record { name = string_bytes v.name; sort = sort_view v.sort }

-- the names of a list, each as its bytes
abbrev pub names_view : List (String Global) → List Text
names_view = map string_bytes

abbrev pub sort_sentence_view : SortSentence → SortDeclaration
sort_sentence_view s = record { hooked = s.hooked; name = string_bytes s.name; parameters = names_view s.parameters.items; attributes = patterns_view s.attributes.items }

abbrev pub symbol_sentence_view : SymbolSentence → SymbolDeclaration
symbol_sentence_view s = record { hooked = s.hooked; name = string_bytes s.name; parameters = names_view s.parameters.items; arguments = sorts_view s.arguments.items; result = sort_view s.result_sort; attributes = patterns_view s.attributes.items }

abbrev pub alias_sentence_view : AliasSentence → AliasDeclaration
alias_sentence_view s = record { name = string_bytes s.name; parameters = names_view s.parameters.items; arguments = sorts_view s.arguments.items; result = sort_view s.result_sort; left = view s.left; right = view s.right; attributes = patterns_view s.attributes.items }

abbrev pub axiom_sentence_view : AxiomSentence → Statement
axiom_sentence_view s = record { parameters = names_view s.parameters.items; pattern = view s.pattern; attributes = patterns_view s.attributes.items }

abbrev pub sentence_view : Sentence → KoreSentence
sentence_view (sentence.Import n attributes) = import_sentence (string_bytes n) (patterns_view attributes.items)
sentence_view (sentence.Sort s) = sort_sentence (sort_sentence_view s)
sentence_view (sentence.Symbol s) = symbol_sentence (symbol_sentence_view s)
sentence_view (sentence.Alias s) = alias_sentence (alias_sentence_view s)
sentence_view (sentence.Axiom s) = axiom_sentence (axiom_sentence_view s)
sentence_view (sentence.Claim s) = claim_sentence (axiom_sentence_view s)

abbrev pub module_view : Module → KoreModule
module_view m = record { name = string_bytes m.name; sentences = map sentence_view m.sentences.items; attributes = patterns_view m.attributes.items }

abbrev pub definition_view : Definition → KoreDefinition
definition_view d = record { attributes = patterns_view d.attributes.items; modules = map module_view d.modules.items }
