-- Which bytes spell a pattern, modules or a definition, and where the first fault of other bytes stands.
-- Source: the K framework's Kore language. A pattern nests at most 256 levels, as written and as meant, a sort at most 256.
use Rattle.std.specs.Prelude.{◌≡◌, ℕ, ◌-◌, ◌≤◌, ◌⊎◌, List, [], ◌∷◌, ◌++◌, map, length, take, Option, Some, None, option_map}
use Rattle.std.specs.List.{AllByRecursion}
use Rattle.kp_kore.specs.Syntax.{KorePattern, KoreModule, KoreDefinition}
use Rattle.kp_text.specs.Tokens.{KoreToken, string_token, Lexemes, finished, lexeme, broken, broken_string, utf8_front, lexemes}
use Rattle.kp_text.specs.Grammar.{Leveled, first_level, Writing, meaning, pattern_tokens, WrittenModule, module_meaning, module_tokens, WrittenModules, modules_meaning, modules_tokens, WrittenDefinition, definition_meaning, definition_tokens}
use Rattle.kp_text.specs.declared.fault.FaultKind.{FaultKind}
use Rattle.kp_text.specs.declared.fault.FaultKind.TheVariants as kind
use Rattle.kp_text.specs.declared.fault.TextFault.{TextFault}

-- the tokens of a text in which nothing is broken
abbrev pub token_list : Lexemes → Option (List KoreToken)
token_list finished = Some []
token_list (lexeme at t rest) = option_map (λ ts. t ∷ ts) (token_list rest)
token_list (broken at k) = None
token_list (broken_string quote at k) = None

abbrev pub tokens_of : List Leveled → List KoreToken
tokens_of ls = map (λ l. l.token) ls

-- no token reaches a level beyond 256
abbrev pub IsShallow : List Leveled → Type 0
IsShallow ls = AllByRecursion (λ l. l.level ≤ 256) ls

-- the bytes have these tokens, and nothing nests too deep
pub record HasTokens (bytes : List ℕ) (ls : List Leveled) : Type 0 where
  pub tokens : token_list (lexemes bytes) ≡ Some (tokens_of ls)
  pub shallow : IsShallow ls

-- the bytes spell this value: some writing of it has their tokens
abbrev pub SpellsPattern : List ℕ → KorePattern → Type 0
SpellsPattern bytes p = (w : Writing) × HasTokens bytes (pattern_tokens first_level w []) × (meaning w ≡ p)

abbrev pub SpellsModule : List ℕ → KoreModule → Type 0
SpellsModule bytes m = (w : WrittenModule) × HasTokens bytes (module_tokens w []) × (module_meaning w ≡ m)

abbrev pub SpellsModules : List ℕ → List KoreModule → Type 0
SpellsModules bytes ms = (w : WrittenModules) × HasTokens bytes (modules_tokens w []) × (modules_meaning w ≡ ms)

abbrev pub SpellsDefinition : List ℕ → KoreDefinition → Type 0
SpellsDefinition bytes d = (w : WrittenDefinition) × HasTokens bytes (definition_tokens w []) × (definition_meaning w ≡ d)

-- what may be written: the tokens of patterns, of a module, of modules, of definitions
abbrev pub IsPatternText : List Leveled → Type 0
IsPatternText ls = (w : Writing) × (pattern_tokens first_level w [] ≡ ls)

abbrev pub IsModuleText : List Leveled → Type 0
IsModuleText ls = (w : WrittenModule) × (module_tokens w [] ≡ ls)

abbrev pub IsModulesText : List Leveled → Type 0
IsModulesText ls = (w : WrittenModules) × (modules_tokens w [] ≡ ls)

abbrev pub IsDefinitionText : List Leveled → Type 0
IsDefinitionText ls = (w : WrittenDefinition) × (definition_tokens w [] ≡ ls)

-- the tokens are a front of something that may be written
pub record Begins (Texts : List Leveled → Type 0) (ts : List KoreToken) : Type 0 where
  pub whole : List Leveled
  pub more : List KoreToken
  pub is_text : Texts whole
  pub front : tokens_of whole ≡ ts ++ more

-- the same, with none of these tokens beyond the levels that are allowed
pub record BeginsShallow (Texts : List Leveled → Type 0) (ts : List KoreToken) : Type 0 where
  pub begins : Begins Texts ts
  pub shallow : IsShallow (take (length ts) begins.whole)

-- a token where another is needed, or one that begins a pattern or a sort one level too many
abbrev pub TokenFault : (List Leveled → Type 0) → List KoreToken → KoreToken → FaultKind → Type 0
TokenFault Texts ts t k = (¬ (Begins Texts (ts ++ t ∷ [])) × (k ≡ kind.Token)) ⊎ (Begins Texts (ts ++ t ∷ []) × ¬ (BeginsShallow Texts (ts ++ t ∷ [])) × (k ≡ kind.Deep))

-- The first fault after tokens that go on: a token goes on too, or is the fault; at a broken string the fault is the
-- string's own where a string may stand; at the end it is the end.
abbrev pub FirstFault : (List Leveled → Type 0) → List KoreToken → Lexemes → ℕ → FaultKind → Type 0
FirstFault Texts ts finished left k = ¬ ((ls : List Leveled) × Texts ls × (tokens_of ls ≡ ts)) × (left ≡ 0) × (k ≡ kind.End)
FirstFault Texts ts (broken at found) left k = (left ≡ at) × (k ≡ found)
FirstFault Texts ts (broken_string quote at found) left k =
    ((t : List ℕ) × BeginsShallow Texts (ts ++ string_token t ∷ []) × (left ≡ at) × (k ≡ found))
    ⊎ ((t : List ℕ) × TokenFault Texts ts (string_token t) k × (left ≡ quote))
FirstFault Texts ts (lexeme at t rest) left k =
    (BeginsShallow Texts (ts ++ t ∷ []) × FirstFault Texts (ts ++ t ∷ []) rest left k)
    ⊎ (TokenFault Texts ts t k × (left ≡ at))

-- a place by its offset: bytes that are left in the longest front that is UTF-8; the end is the input's
abbrev pub offset : List ℕ → ℕ → FaultKind → ℕ
offset bytes left kind.Byte = length (utf8_front bytes) - left
offset bytes left kind.Token = length (utf8_front bytes) - left
offset bytes left kind.String = length (utf8_front bytes) - left
offset bytes left kind.Deep = length (utf8_front bytes) - left
offset bytes left kind.End = length bytes

-- the first fault of the bytes, read as something that may be written
abbrev pub IsFaultOf : (List Leveled → Type 0) → List ℕ → TextFault → Type 0
IsFaultOf Texts bytes f = (left : ℕ) × FirstFault Texts [] (lexemes bytes) left f.kind × (f.at ≡ offset bytes left f.kind)
