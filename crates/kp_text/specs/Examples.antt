-- What a few texts spell, and where the first fault of others stands.
use Rattle.std.specs.Prelude.{ℕ, List, [], ◌∷◌, codes}
use Rattle.kp_kore.specs.Syntax.{KoreSort, sort_of, no_sorts, next_sort, variable, application, string_literal, top, no_patterns, next_pattern}
use Rattle.kp_text.specs.Spelling.{SpellsPattern, IsPatternText, IsFaultOf}
use Rattle.kp_text.specs.declared.fault.FaultKind.TheVariants as kind

-- S{}
abbrev pub sort_s : KoreSort
sort_s = sort_of (codes "S") no_sorts

abbrev pub SpellsTop : List ℕ → Type 0
SpellsTop bytes = SpellsPattern bytes (top sort_s)

-- X:S{}
abbrev pub SpellsVariable : List ℕ → Type 0
SpellsVariable bytes = SpellsPattern bytes (variable (codes "X") sort_s)

-- f{S{}}(X:S{}, "a" and a line feed)
abbrev pub SpellsApplication : List ℕ → Type 0
SpellsApplication bytes = SpellsPattern bytes (application (codes "f") (next_sort sort_s no_sorts) (next_pattern (variable (codes "X") sort_s) (next_pattern (string_literal (97 ∷ (10 ∷ []))) no_patterns)))

-- a string's fault at byte 9
abbrev pub BreaksInItsEscape : List ℕ → Type 0
BreaksInItsEscape bytes = IsFaultOf IsPatternText bytes (record { at = 9; kind = kind.String })

-- the end at byte 4
abbrev pub EndsInItsComment : List ℕ → Type 0
EndsInItsComment bytes = IsFaultOf IsPatternText bytes (record { at = 4; kind = kind.End })

-- the end at byte 10
abbrev pub EndsInItsParenthesis : List ℕ → Type 0
EndsInItsParenthesis bytes = IsFaultOf IsPatternText bytes (record { at = 10; kind = kind.End })
