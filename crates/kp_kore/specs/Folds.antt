-- What \left-assoc and \right-assoc mean: an application of many members is the nested one of two.
-- Source: the K framework's Kore language, "associative applications".
use Rattle.kp_kore.specs.Syntax.{Text, KoreSort, KoreSorts, KorePattern, KorePatterns, application, top, bottom, conjunction, disjunction, no_patterns, next_pattern}

-- an application of two
abbrev pub applied_to_two : Text → KoreSorts → KorePattern → KorePattern → KorePattern
applied_to_two name sorts p q = application name sorts (next_pattern p (next_pattern q no_patterns))

-- f(f(p, q), r) of p and then q, r
abbrev pub left_nested : Text → KoreSorts → KorePattern → KorePatterns → KorePattern
left_nested name sorts p no_patterns = p
left_nested name sorts p (next_pattern q rest) = left_nested name sorts (applied_to_two name sorts p q) rest

-- f(p, f(q, r)) of p and then q, r
abbrev pub right_nested : Text → KoreSorts → KorePattern → KorePatterns → KorePattern
right_nested name sorts p no_patterns = p
right_nested name sorts p (next_pattern q rest) = applied_to_two name sorts p (right_nested name sorts q rest)

-- \and and \or of any number of members: of none top and bottom, of one that member
abbrev pub conjunction_of : KoreSort → KorePatterns → KorePattern
conjunction_of s no_patterns = top s
conjunction_of s (next_pattern p no_patterns) = p
conjunction_of s (next_pattern p (next_pattern q ps)) = conjunction s (next_pattern p (next_pattern q ps))

abbrev pub disjunction_of : KoreSort → KorePatterns → KorePattern
disjunction_of s no_patterns = bottom s
disjunction_of s (next_pattern p no_patterns) = p
disjunction_of s (next_pattern p (next_pattern q ps)) = disjunction s (next_pattern p (next_pattern q ps))
