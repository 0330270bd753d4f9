-- What is tested of the parts of a run's end, and of a rule set.
-- Source: this project.
use Rattle.std.specs.Prelude.{◌≡◌, ℤ, Bool, true, not, ◌&&◌, List, [], ◌∷◌, ◌++◌, map, string_bytes, IsTrue}
use Rattle.std.specs.List.{AllByRecursion, list_any}
use Rattle.std.specs.Str.{bytes_eq}
use Rattle.kp_kore.specs.Syntax.{Text, KorePattern, KorePatterns, no_patterns, next_pattern}
use Rattle.kp_kore.specs.Signature.{KoreSignature, meaning_of}
use Rattle.kp_kore.specs.Value.{whole}
use Rattle.kp_kore.specs.Instance.{Valuation, applied, instance, instances}
use Rattle.kp_kore.specs.Replies.{is_open_call, is_wide_value}
use Rattle.kp_symbolic.specs.States.{Literal}
use Rattle.kp_symbolic_laws.specs.Runs.{IsSoundAtom}
use Rattle.kp_rules.specs.declared.rule.Rule.{Rule}

-- ---- ids

-- the ids of the rules, in order
abbrev pub rule_ids : List Rule → List Text
rule_ids rs = map (λ r. string_bytes r.id.value) rs

-- none of these texts is one of the first, or one before it
abbrev pub are_new : List Text → List Text → Bool
are_new before [] = true
are_new before (x ∷ xs) = not (list_any (bytes_eq x) before) && are_new (before ++ x ∷ []) xs

-- ---- calls

-- two arguments
abbrev pub both_of : KorePattern → KorePattern → KorePatterns
both_of p q = next_pattern p (next_pattern q no_patterns)

-- under every valuation, the pattern is this number
abbrev pub IsAlways : KoreSignature → KorePattern → ℤ → Type 0
IsAlways g p n = (v : Valuation) → instance g v p ≡ whole n

-- the value of the application leaves signed 128 bits
abbrev pub IsWideCall : KoreSignature → Text → KorePatterns → Type 0
IsWideCall g f ps = (v : Valuation) → IsTrue (is_wide_value (applied (meaning_of g f) f (instances g v ps)))

-- where it is an interpreted call with literals alone for arguments, its value leaves signed 128 bits
abbrev pub IsSettled : KoreSignature → KorePattern → Type 0
IsSettled g p = is_open_call g p ≡ true → (v : Valuation) → IsTrue (is_wide_value (instance g v p))

-- ---- literals

-- each of these literals is written right
abbrev pub AreSound : KoreSignature → List Literal → Type 0
AreSound g = AllByRecursion (λ l. IsSoundAtom g l.atom)
