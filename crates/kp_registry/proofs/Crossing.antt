-- A pass may go to another thread, and a registry may be shared: type by type, since one search over all that a book holds
-- meets its limits.
use denote.Param.Send.{IsSend, IsSync, sendable}
use Rattle.std.proofs.Crossing.{crosses}
use Rattle.kp_kore.proofs.sort.Sort.TheLaws.TheKnot as sort_knot
use Rattle.kp_kore.specs.contracts.sort.Sort as Sort
use Rattle.kp_kore.proofs.pattern.Pattern.TheLaws.TheKnot as pattern_knot
use Rattle.kp_kore.specs.contracts.pattern.Pattern as Pattern
use Rattle.kp_kore.specs.contracts.pattern_free.SortedVariable as SortedVariable
use Rattle.kp_kore.specs.contracts.sentence.SortSentence as SortSentence
use Rattle.kp_kore.specs.contracts.sentence.SymbolSentence as SymbolSentence
use Rattle.kp_kore.specs.contracts.sentence.AliasSentence as AliasSentence
use Rattle.kp_kore.specs.contracts.sentence.AxiomSentence as AxiomSentence
use Rattle.kp_kore.specs.contracts.sentence.Sentence as Sentence
use Rattle.kp_kore.specs.contracts.sentence.Module as Module
use Rattle.kp_kore.specs.contracts.hook.Hook as Hook
use Rattle.kp_ground.proofs.value.Value.TheLaws.TheKnot as value_knot
use Rattle.kp_ground.specs.contracts.value.Value as Value
use Rattle.kp_ground.proofs.term.CompiledTerm.TheLaws.TheKnot as compiled_term_knot
use Rattle.kp_ground.specs.contracts.term.CompiledTerm as CompiledTerm
use Rattle.kp_ground.proofs.left_side.CompiledLeft.TheLaws.TheKnot as compiled_left_knot
use Rattle.kp_ground.specs.contracts.left_side.CompiledLeft as CompiledLeft
use Rattle.kp_ground.proofs.condition.Condition.TheLaws.TheKnot as condition_knot
use Rattle.kp_ground.specs.contracts.condition.Condition as Condition
use Rattle.kp_rules.proofs.skeleton.Skeleton.TheLaws.TheKnot as skeleton_knot
use Rattle.kp_rules.specs.contracts.skeleton.Skeleton as Skeleton
use Rattle.kp_rules.specs.contracts.sides.ReadSides as ReadSides
use Rattle.kp_rules.specs.contracts.right_side.RightSide as RightSide
use Rattle.kp_rules.specs.contracts.rule.SortTest as SortTest
use Rattle.kp_rules.specs.contracts.rule.Rewrite as Rewrite
use Rattle.kp_rules.specs.contracts.rule.RuleBody as RuleBody
use Rattle.kp_rules.specs.contracts.rule.RuleSource as RuleSource
use Rattle.kp_rules.specs.contracts.rule.Rule as Rule
use Rattle.kp_signature.specs.contracts.numbering.Numbering as Numbering
use Rattle.kp_signature.specs.contracts.graph.SortGraph as SortGraph
use Rattle.kp_signature.specs.contracts.spans.Span as Span
use Rattle.kp_signature.specs.contracts.order.SortOrder as SortOrder
use Rattle.kp_signature.specs.contracts.subsort.Subsort as Subsort
use Rattle.kp_signature.specs.contracts.table.DeclarationTable as DeclarationTable
use Rattle.kp_signature.specs.contracts.declarations.Declarations as Declarations
use Rattle.kp_signature.specs.contracts.kinds.Kinds as Kinds
use Rattle.kp_signature.specs.contracts.meaning.Meaning as Meaning
use Rattle.kp_signature.specs.contracts.signature.Signature as Signature
use Rattle.kp_rule_sets.specs.contracts.places.Ranked as Ranked
use Rattle.kp_rule_sets.specs.contracts.index.Index as Index
use Rattle.kp_rule_sets.specs.contracts.rule_set.RuleSet as RuleSet
use Rattle.kp_modules.specs.contracts.outlines.RuleSpan as RuleSpan
use Rattle.kp_modules.specs.contracts.table.ModuleTable as ModuleTable
use Rattle.kp_registry.specs.contracts.seen.Entry as Entry
use Rattle.kp_registry.specs.contracts.seen.NameBinding as NameBinding
use Rattle.kp_registry.specs.contracts.seen.Book as Book
use Rattle.kp_registry.specs.contracts.book.Registry as Registry
use Rattle.kp_history.specs.contracts.pass.HistoryPass as HistoryPass
use Rattle.atomic_table.proofs.shared.Seat.TheSendSync as seat
use Rattle.atomic_table.proofs.shared.Shared.TheSendSync as shared
use Rattle.atomic_table.proofs.owned.Table.TheSendSync as table

sort_send : IsSend (Sort.the_field).row
sort_send = search (sort_knot.crosses, sendable, crosses) depth 40 fits 4000

sort_sync : IsSync (Sort.the_field).row
sort_sync = search (sort_knot.crosses, sendable, crosses) depth 40 fits 4000

pattern_send : IsSend (Pattern.the_field).row
pattern_send = search (pattern_knot.crosses, sort_send, sendable, crosses) depth 40 fits 4000

pattern_sync : IsSync (Pattern.the_field).row
pattern_sync = search (pattern_knot.crosses, sort_sync, sendable, crosses) depth 40 fits 4000

sorted_variable_send : IsSend (SortedVariable.the_field).row
sorted_variable_send = search (sort_send, sendable, crosses) depth 40 fits 4000

sorted_variable_sync : IsSync (SortedVariable.the_field).row
sorted_variable_sync = search (sort_sync, sendable, crosses) depth 40 fits 4000

sort_sentence_send : IsSend (SortSentence.the_field).row
sort_sentence_send = search (pattern_send, sendable, crosses) depth 40 fits 4000

sort_sentence_sync : IsSync (SortSentence.the_field).row
sort_sentence_sync = search (pattern_sync, sendable, crosses) depth 40 fits 4000

symbol_sentence_send : IsSend (SymbolSentence.the_field).row
symbol_sentence_send = search (sort_send, pattern_send, sendable, crosses) depth 40 fits 4000

symbol_sentence_sync : IsSync (SymbolSentence.the_field).row
symbol_sentence_sync = search (sort_sync, pattern_sync, sendable, crosses) depth 40 fits 4000

alias_sentence_send : IsSend (AliasSentence.the_field).row
alias_sentence_send = search (sort_send, pattern_send, sendable, crosses) depth 40 fits 4000

alias_sentence_sync : IsSync (AliasSentence.the_field).row
alias_sentence_sync = search (sort_sync, pattern_sync, sendable, crosses) depth 40 fits 4000

axiom_sentence_sync : IsSync (AxiomSentence.the_field).row
axiom_sentence_sync = search (pattern_sync, sendable, crosses) depth 40 fits 4000

sentence_sync : IsSync (Sentence.the_field).row
sentence_sync = search (pattern_sync, sort_sentence_sync, symbol_sentence_sync, alias_sentence_sync, axiom_sentence_sync, sendable, crosses) depth 40 fits 4000

module_sync : IsSync (Module.the_field).row
module_sync = search (pattern_sync, sentence_sync, sendable, crosses) depth 40 fits 4000

hook_send : IsSend (Hook.the_field).row
hook_send = search (sendable, crosses) depth 40 fits 4000

hook_sync : IsSync (Hook.the_field).row
hook_sync = search (sendable, crosses) depth 40 fits 4000

value_send : IsSend (Value.the_field).row
value_send = search (value_knot.crosses_both, sort_send, sort_sync, sendable, crosses) depth 40 fits 4000

value_sync : IsSync (Value.the_field).row
value_sync = search (value_knot.crosses_both, sort_send, sort_sync, sendable, crosses) depth 40 fits 4000

compiled_term_send : IsSend (CompiledTerm.the_field).row
compiled_term_send = search (compiled_term_knot.crosses, hook_send, value_send, sendable, crosses) depth 40 fits 4000

compiled_term_sync : IsSync (CompiledTerm.the_field).row
compiled_term_sync = search (compiled_term_knot.crosses, hook_sync, value_sync, sendable, crosses) depth 40 fits 4000

compiled_left_send : IsSend (CompiledLeft.the_field).row
compiled_left_send = search (compiled_left_knot.crosses, value_send, sendable, crosses) depth 40 fits 4000

compiled_left_sync : IsSync (CompiledLeft.the_field).row
compiled_left_sync = search (compiled_left_knot.crosses, value_sync, sendable, crosses) depth 40 fits 4000

condition_send : IsSend (Condition.the_field).row
condition_send = search (condition_knot.crosses, compiled_term_send, sendable, crosses) depth 40 fits 4000

condition_sync : IsSync (Condition.the_field).row
condition_sync = search (condition_knot.crosses, compiled_term_sync, sendable, crosses) depth 40 fits 4000

skeleton_send : IsSend (Skeleton.the_field).row
skeleton_send = search (skeleton_knot.crosses, sort_send, value_send, sendable, crosses) depth 40 fits 4000

skeleton_sync : IsSync (Skeleton.the_field).row
skeleton_sync = search (skeleton_knot.crosses, sort_sync, value_sync, sendable, crosses) depth 40 fits 4000

read_sides_send : IsSend (ReadSides.the_field).row
read_sides_send = search (skeleton_send, pattern_send, sorted_variable_send, sendable, crosses) depth 40 fits 4000

read_sides_sync : IsSync (ReadSides.the_field).row
read_sides_sync = search (skeleton_sync, pattern_sync, sorted_variable_sync, sendable, crosses) depth 40 fits 4000

right_side_send : IsSend (RightSide.the_field).row
right_side_send = search (pattern_send, sorted_variable_send, compiled_term_send, sendable, crosses) depth 40 fits 4000

right_side_sync : IsSync (RightSide.the_field).row
right_side_sync = search (pattern_sync, sorted_variable_sync, compiled_term_sync, sendable, crosses) depth 40 fits 4000

sort_test_send : IsSend (SortTest.the_field).row
sort_test_send = search (sort_send, sendable, crosses) depth 40 fits 4000

sort_test_sync : IsSync (SortTest.the_field).row
sort_test_sync = search (sort_sync, sendable, crosses) depth 40 fits 4000

rewrite_send : IsSend (Rewrite.the_field).row
rewrite_send = search (sort_send, compiled_left_send, sort_test_send, condition_send, compiled_term_send, right_side_send, read_sides_send, sendable, crosses) depth 40 fits 4000

rewrite_sync : IsSync (Rewrite.the_field).row
rewrite_sync = search (sort_sync, compiled_left_sync, sort_test_sync, condition_sync, compiled_term_sync, right_side_sync, read_sides_sync, sendable, crosses) depth 40 fits 4000

rule_body_send : IsSend (RuleBody.the_field).row
rule_body_send = search (rewrite_send, skeleton_send, sendable, crosses) depth 40 fits 4000

rule_body_sync : IsSync (RuleBody.the_field).row
rule_body_sync = search (rewrite_sync, skeleton_sync, sendable, crosses) depth 40 fits 4000

rule_source_send : IsSend (RuleSource.the_field).row
rule_source_send = search (sendable, crosses) depth 40 fits 4000

rule_source_sync : IsSync (RuleSource.the_field).row
rule_source_sync = search (sendable, crosses) depth 40 fits 4000

rule_send : IsSend (Rule.the_field).row
rule_send = search (rule_body_send, rule_body_sync, rule_source_send, rule_source_sync, sendable, crosses) depth 40 fits 4000

rule_sync : IsSync (Rule.the_field).row
rule_sync = search (rule_body_send, rule_body_sync, rule_source_send, rule_source_sync, sendable, crosses) depth 40 fits 4000

numbering_send : IsSend (Numbering.the_field).row
numbering_send = search (sort_send, sendable, crosses) depth 40 fits 4000

numbering_sync : IsSync (Numbering.the_field).row
numbering_sync = search (sort_sync, sendable, crosses) depth 40 fits 4000

sort_graph_send : IsSend (SortGraph.the_field).row
sort_graph_send = search (numbering_send, sendable, crosses) depth 40 fits 4000

sort_graph_sync : IsSync (SortGraph.the_field).row
sort_graph_sync = search (numbering_sync, sendable, crosses) depth 40 fits 4000

span_send : IsSend (Span.the_field).row
span_send = search (sendable, crosses) depth 40 fits 4000

span_sync : IsSync (Span.the_field).row
span_sync = search (sendable, crosses) depth 40 fits 4000

sort_order_send : IsSend (SortOrder.the_field).row
sort_order_send = search (sort_graph_send, span_send, sendable, crosses) depth 40 fits 4000

sort_order_sync : IsSync (SortOrder.the_field).row
sort_order_sync = search (sort_graph_sync, span_sync, sendable, crosses) depth 40 fits 4000

subsort_send : IsSend (Subsort.the_field).row
subsort_send = search (sort_send, sendable, crosses) depth 40 fits 4000

subsort_sync : IsSync (Subsort.the_field).row
subsort_sync = search (sort_sync, sendable, crosses) depth 40 fits 4000

declaration_table_send : IsSend (DeclarationTable.the_field).row
declaration_table_send = search (sort_sentence_send, symbol_sentence_send, alias_sentence_send, subsort_send, sendable, crosses) depth 40 fits 4000

declaration_table_sync : IsSync (DeclarationTable.the_field).row
declaration_table_sync = search (sort_sentence_sync, symbol_sentence_sync, alias_sentence_sync, subsort_sync, sendable, crosses) depth 40 fits 4000

declarations_send : IsSend (Declarations.the_field).row
declarations_send = search (declaration_table_send, sort_order_send, sendable, crosses) depth 40 fits 4000

declarations_sync : IsSync (Declarations.the_field).row
declarations_sync = search (declaration_table_sync, sort_order_sync, sendable, crosses) depth 40 fits 4000

kinds_send : IsSend (Kinds.the_field).row
kinds_send = search (declarations_send, sendable, crosses) depth 40 fits 4000

kinds_sync : IsSync (Kinds.the_field).row
kinds_sync = search (declarations_sync, sendable, crosses) depth 40 fits 4000

meaning_send : IsSend (Meaning.the_field).row
meaning_send = search (sendable, crosses) depth 40 fits 4000

meaning_sync : IsSync (Meaning.the_field).row
meaning_sync = search (sendable, crosses) depth 40 fits 4000

signature_send : IsSend (Signature.the_field).row
signature_send = search (kinds_send, meaning_send, sendable, crosses) depth 40 fits 4000

signature_sync : IsSync (Signature.the_field).row
signature_sync = search (kinds_sync, meaning_sync, sendable, crosses) depth 40 fits 4000

ranked_send : IsSend (Ranked.the_field).row
ranked_send = search (sendable, crosses) depth 40 fits 4000

ranked_sync : IsSync (Ranked.the_field).row
ranked_sync = search (sendable, crosses) depth 40 fits 4000

index_send : IsSend (Index.the_field).row
index_send = search (ranked_send, sendable, crosses) depth 40 fits 4000

index_sync : IsSync (Index.the_field).row
index_sync = search (ranked_sync, sendable, crosses) depth 40 fits 4000

rule_set_send : IsSend (RuleSet.the_field).row
rule_set_send = search (signature_send, signature_sync, rule_send, index_send, sendable, crosses) depth 40 fits 4000

rule_set_sync : IsSync (RuleSet.the_field).row
rule_set_sync = search (signature_send, signature_sync, rule_sync, index_sync, sendable, crosses) depth 40 fits 4000

rule_span_sync : IsSync (RuleSpan.the_field).row
rule_span_sync = search (sendable, crosses) depth 40 fits 4000

module_table_sync : IsSync (ModuleTable.the_field).row
module_table_sync = search (module_sync, rule_span_sync, rule_set_send, rule_set_sync, sendable, crosses) depth 40 fits 4000

entry_send : IsSend (Entry.the_field).row
entry_send = search (rule_set_send, rule_set_sync, sendable, crosses) depth 40 fits 4000

name_binding_send : IsSend (NameBinding.the_field).row
name_binding_send = search (sendable, crosses) depth 40 fits 4000

book_send : IsSend (Book.the_field).row
book_send = search (entry_send, name_binding_send, sendable, crosses) depth 40 fits 4000

-- ---- a pass, and the registry

pub pass_field_send : IsSend (HistoryPass.the_field Book.the_row Entry.the_row ModuleTable.the_row).row
pass_field_send = search (seat.the_send, book_send, sendable, crosses) depth 40 fits 4000

pub pass_send : IsSend (HistoryPass.the_row Book.the_row Entry.the_row ModuleTable.the_row)
pass_send = search (seat.the_send, book_send, sendable, crosses) depth 40 fits 4000

pub registry_sync : IsSync Registry.the_row
registry_sync = search (shared.the_sync, table.the_field_sync, book_send, module_table_sync, sendable, crosses) depth 40 fits 4000
