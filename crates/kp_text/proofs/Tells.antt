-- What is told of bytes that are read to their end.
use Rattle.std.proofs.Common.{◌≡◌, ℕ, List, ◌∙◌}
use Rattle.kp_kore.specs.Syntax.{KorePattern, KoreModule, KoreDefinition}
use Rattle.kp_text.specs.Tokens.{utf8_front, utf8_tail}
use Rattle.kp_text.specs.Next.{answered, pattern_answer, module_answer, modules_answer, definition_answer}
use Rattle.kp_text.specs.Reads.{run_text, failed}
use Rattle.kp_text.specs.Starts.{pattern_start, module_start, modules_start, definition_start}
use Rattle.kp_text.specs.Spelling.{SpellsPattern, SpellsModule, SpellsModules, SpellsDefinition, IsPatternText, IsModuleText, IsModulesText, IsDefinitionText}
use Rattle.kp_text.specs.Errors.{IsErrorOf, read_error_of}
use Rattle.kp_text.specs.declared.tail.Tail.{Tail}
use Rattle.kp_text.specs.declared.fault.TextFailure.{TextFailure}
use Rattle.kp_text.specs.declared.fault.TextFailure.TheVariants as failure
use Rattle.kp_text.proofs.InModules.{same_run}
use Rattle.kp_text.proofs.Spells.{read_pattern_is_spelled, read_module_is_spelled, read_modules_are_spelled, read_definition_is_spelled}
use Rattle.kp_text.proofs.FirstFaults.{pattern_fault, module_fault, modules_fault, definition_fault}

pub pattern_told : (bytes text : List ℕ) (tail : Tail) (v : KorePattern) → text ≡ utf8_front bytes → tail ≡ utf8_tail bytes → run_text tail text pattern_start ≡ answered (pattern_answer v) → SpellsPattern bytes v
pattern_told bytes text tail v is e h = read_pattern_is_spelled bytes v (same_run bytes text tail pattern_start is e ∙ h)

pub pattern_error : (bytes text : List ℕ) (tail : Tail) (f : TextFailure) → text ≡ utf8_front bytes → tail ≡ utf8_tail bytes → run_text tail text pattern_start ≡ failed f (run_text tail text pattern_start) → IsErrorOf IsPatternText bytes (read_error_of bytes f)
pattern_error bytes text tail failure.Memory is e h = tt
pattern_error bytes text tail (failure.Fault left k) is e h = pattern_fault bytes left k (same_run bytes text tail pattern_start is e ∙ h)

pub module_told : (bytes text : List ℕ) (tail : Tail) (v : KoreModule) → text ≡ utf8_front bytes → tail ≡ utf8_tail bytes → run_text tail text module_start ≡ answered (module_answer v) → SpellsModule bytes v
module_told bytes text tail v is e h = read_module_is_spelled bytes v (same_run bytes text tail module_start is e ∙ h)

pub module_error : (bytes text : List ℕ) (tail : Tail) (f : TextFailure) → text ≡ utf8_front bytes → tail ≡ utf8_tail bytes → run_text tail text module_start ≡ failed f (run_text tail text module_start) → IsErrorOf IsModuleText bytes (read_error_of bytes f)
module_error bytes text tail failure.Memory is e h = tt
module_error bytes text tail (failure.Fault left k) is e h = module_fault bytes left k (same_run bytes text tail module_start is e ∙ h)

pub modules_told : (bytes text : List ℕ) (tail : Tail) (v : List KoreModule) → text ≡ utf8_front bytes → tail ≡ utf8_tail bytes → run_text tail text modules_start ≡ answered (modules_answer v) → SpellsModules bytes v
modules_told bytes text tail v is e h = read_modules_are_spelled bytes v (same_run bytes text tail modules_start is e ∙ h)

pub modules_error : (bytes text : List ℕ) (tail : Tail) (f : TextFailure) → text ≡ utf8_front bytes → tail ≡ utf8_tail bytes → run_text tail text modules_start ≡ failed f (run_text tail text modules_start) → IsErrorOf IsModulesText bytes (read_error_of bytes f)
modules_error bytes text tail failure.Memory is e h = tt
modules_error bytes text tail (failure.Fault left k) is e h = modules_fault bytes left k (same_run bytes text tail modules_start is e ∙ h)

pub definition_told : (bytes text : List ℕ) (tail : Tail) (v : KoreDefinition) → text ≡ utf8_front bytes → tail ≡ utf8_tail bytes → run_text tail text definition_start ≡ answered (definition_answer v) → SpellsDefinition bytes v
definition_told bytes text tail v is e h = read_definition_is_spelled bytes v (same_run bytes text tail definition_start is e ∙ h)

pub definition_error : (bytes text : List ℕ) (tail : Tail) (f : TextFailure) → text ≡ utf8_front bytes → tail ≡ utf8_tail bytes → run_text tail text definition_start ≡ failed f (run_text tail text definition_start) → IsErrorOf IsDefinitionText bytes (read_error_of bytes f)
definition_error bytes text tail failure.Memory is e h = tt
definition_error bytes text tail (failure.Fault left k) is e h = definition_fault bytes left k (same_run bytes text tail definition_start is e ∙ h)
