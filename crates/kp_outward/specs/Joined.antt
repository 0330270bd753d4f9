-- Patterns joined by \and.
-- Source: the K framework's Kore language; this project.
use Rattle.std.specs.Prelude.{List, [], ◌∷◌, Option, Some, None}
use Rattle.kp_kore.specs.Syntax.{KoreSort, KorePattern, conjunction, next_pattern}
use Rattle.kp_kore.specs.View.{patterns_of}

-- \and of several, one alone, none of none
abbrev pub joined_all : KoreSort → List KorePattern → Option KorePattern
joined_all sort [] = None
joined_all sort (p ∷ []) = Some p
joined_all sort ps = Some (conjunction sort (patterns_of ps))

-- the term alone, or \and of the term and the predicates
abbrev pub beside_term : KoreSort → KorePattern → List KorePattern → KorePattern
beside_term sort t [] = t
beside_term sort t ps = conjunction sort (next_pattern t (patterns_of ps))
