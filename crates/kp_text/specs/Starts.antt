-- The places from which a text is read: as a pattern, a module, modules, a definition.
use Rattle.std.specs.Prelude.{◌≡◌, ℕ, List, [], ◌∷◌, Option, Some, None, true, bytes_eq, codes}
use Rattle.std.specs.Borrow.{Bor}
use Rattle.kp_kore.specs.Syntax.{Text, KoreModule}
use Rattle.kp_text.specs.Tokens.{identifier, lexeme, finished, lexed, between}
use Rattle.kp_text.specs.Grammar.{first_level}
use Rattle.kp_text.specs.Next.{Place, Answer, pattern_answer, module_answer, modules_answer, definition_answer, done, a_pattern, a_word, after_module, more_modules, an_attributes}
use Rattle.kp_text.specs.Reads.{IsBehind}
use Rattle.kp_text.specs.declared.tail.Tail.{Tail}

abbrev pub pattern_start : Place
pattern_start = a_pattern first_level (λ p. done (pattern_answer p))

abbrev pub a_module : (KoreModule → Place) → Place
a_module k = a_word (codes "module") (after_module k)

abbrev pub some_modules : (List KoreModule → Answer) → Place
some_modules answer = a_module (λ m. more_modules (m ∷ []) answer)

abbrev pub module_start : Place
module_start = a_module (λ m. done (module_answer m))

abbrev pub modules_start : Place
modules_start = some_modules modules_answer

abbrev pub definition_start : Place
definition_start = an_attributes (λ as_. some_modules (λ ms. definition_answer (record { attributes = as_; modules = ms })))

-- the word module stands next, and what comes behind it; or the end
abbrev pub IsModuleAhead : Tail → List ℕ → Option (Bor (List ℕ)) → Type 0
IsModuleAhead tail text (Some rest) = ((left : ℕ) × (x : Text) × (lexed tail text between ≡ lexeme left (identifier x) (lexed tail rest.now between)) × (bytes_eq x (codes "module") ≡ true)) × IsBehind rest.now text
IsModuleAhead tail text None = lexed tail text between ≡ finished
