-- The sentences of a claims file, and a claim's sides and label.
-- Source: claims of the K framework as kompile writes them (weakAlwaysFinally over all paths, weakExistsFinally over one
-- path, the attribute label); All-Path Reachability Logic (Stefanescu, Ciobaca, Mereuta, Moore, Serbanuta, Rosu).
use Rattle.std.specs.Prelude.{ℕ, Bool, true, false, not, ◌&&◌, ◌||◌, List, [], ◌∷◌, ◌++◌, Option, Some, None, if◌then◌else◌, ◌==◌, nat_le, nat_lt, length, codes}
use Rattle.std.specs.Option.{option_map}
use Rattle.std.specs.List.{list_all, filter}
use Rattle.std.specs.Str.{bytes_eq}
use Rattle.kp_kore.specs.Syntax.{Text, KoreSort, no_sorts, next_sort, KorePattern, application, implication, KorePatterns, no_patterns, next_pattern, KoreSentence, import_sentence, sort_sentence, symbol_sentence, alias_sentence, axiom_sentence, claim_sentence, KoreModule}
use Rattle.kp_kore.specs.Attributes.{sorts_equal, text_of}
use Rattle.kp_kore.specs.Rules.{is_rewriting}

-- ---- sentences

-- imports, aliases and axioms that aren't rewrites say nothing in a claims file
abbrev pub counts : KoreSentence → Bool
counts (import_sentence n as_) = false
counts (sort_sentence d) = true
counts (symbol_sentence d) = true
counts (alias_sentence d) = false
counts (axiom_sentence s) = is_rewriting s.pattern
counts (claim_sentence s) = true

-- the others, module by module
abbrev pub counted : List KoreModule → List KoreSentence
counted [] = []
counted (m ∷ ms) = filter counts m.sentences ++ counted ms

-- ---- what a claim says

-- an application of this name, whatever it has
abbrev pub is_applied : Text → KorePattern → Bool
is_applied name (application f ss ps) = bytes_eq f name
is_applied name _ = false

-- the right side is reached on some path
abbrev pub is_one_path : KorePattern → Bool
is_one_path (implication s p q) = is_applied (codes "weakExistsFinally") q
is_one_path _ = false

-- a claim's sort and its sides
pub record ClaimSides : Type 0 where
  pub sort : KoreSort
  pub left : KorePattern
  pub right : KorePattern

-- p of weakAlwaysFinally{S}(p): the right side is reached on all paths
abbrev pub reached_on_all : KoreSort → KorePattern → Option KorePattern
reached_on_all s (application f (next_sort t no_sorts) (next_pattern p no_patterns)) = if bytes_eq f (codes "weakAlwaysFinally") && sorts_equal s t then Some p else None
reached_on_all s _ = None

-- the sides of \implies{S}(left, weakAlwaysFinally{S}(right))
abbrev pub sides_of : KorePattern → Option ClaimSides
sides_of (implication s p q) = option_map (λ r. record { sort = s; left = p; right = r }) (reached_on_all s q)
sides_of _ = None

-- ---- what a claim has besides

-- whether an attribute of this name is among them, whatever it has
abbrev pub has_attribute : Text → KorePatterns → Bool
has_attribute name no_patterns = false
has_attribute name (next_pattern p ps) = is_applied name p || has_attribute name ps

abbrev pub is_without_parameters : List Text → Bool
is_without_parameters [] = true
is_without_parameters (n ∷ ns) = false

-- ---- labels

-- a character from 33 to 126 that is no comma
abbrev pub is_label_character : ℕ → Bool
is_label_character c = nat_le 33 c && nat_le c 126 && not (c == 44)

abbrev pub is_label : Text → Bool
is_label text = nat_lt 0 (length text) && list_all is_label_character text

abbrev pub if_label : Option Text → Option Text
if_label None = None
if_label (Some t) = if is_label t then Some t else None

-- the text of label{}(".."), where it is a label
abbrev pub label_of : KorePatterns → Option Text
label_of attributes = if_label (text_of (codes "label") attributes)
