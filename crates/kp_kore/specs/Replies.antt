-- What a reply to an execute request tells of its state: it is so many steps after the request's, its new variables have new names,
-- and what has a value is computed.
-- Source: the K Haskell backend's JSON-RPC documentation (execute); All-Path Reachability Logic.
use Rattle.std.specs.Prelude.{◌≡◌, ℕ, ◌<◌, ◌≤◌, Bool, true, false, not, ◌&&◌, List, ◌++◌, IsTrue, codes}
use Rattle.std.specs.List.{AllByRecursion, filter, list_any}
use Rattle.std.specs.Fmt.{decimal}
use Rattle.std.specs.Str.{bytes_eq}
use Rattle.kp_kore.specs.Syntax.{Text, KorePattern, KorePatterns, application, literal, no_patterns, next_pattern}
use Rattle.kp_kore.specs.Parts.{SortedName, subpatterns, free_variables, variable_names}
use Rattle.kp_kore.specs.Signature.{KoreSignature, meaning_of}
use Rattle.kp_kore.specs.Value.{Value, whole}
use Rattle.kp_kore.specs.Instance.{Valuation, instance, GivesSorts, AgreesOff, IsInstance, is_named}
use Rattle.kp_kore.specs.Rules.{RewriteRule}
use Rattle.kp_kore.specs.Limits.{fits_number}
use Rattle.kp_kore.specs.Foreign.{is_interpretation}
use Rattle.kp_kore.specs.Theory.{Theory}
use Rattle.kp_kore.specs.Steps.{HasTurn, StepsIn, IsFinal}

-- ---- new variables

-- Fresh and a number from 1
abbrev pub IsFreshName : Text → Type 0
IsFreshName x = (n : ℕ) × (1 ≤ n) × (x ≡ codes "Fresh" ++ decimal n)

-- the name doesn't stand in the pattern
abbrev pub IsAbsent : Text → KorePattern → Type 0
IsAbsent x p = list_any (bytes_eq x) (variable_names p) ≡ false

-- the variables of t that s hasn't
abbrev pub variables_beyond : KorePattern → KorePattern → List SortedName
variables_beyond s t = filter (λ x. not (is_named x.name (free_variables s))) (free_variables t)

-- ---- so many steps after a state

-- the configuration is so many steps after the instance of s under v
abbrev pub IsAfter : Theory → KorePattern → Valuation → ℕ → Value → Type 0
IsAfter t s v n later = (c : Value) × IsInstance t.signature v s c × StepsIn t n c later

-- whether a rule's id is listed
abbrev pub is_listed : List Text → RewriteRule → Bool
is_listed ids r = list_any (bytes_eq r.id) ids

-- no rule of the list has its turn
abbrev pub NoneListed : Theory → List Text → Value → Type 0
NoneListed t ids c = AllByRecursion (λ r. is_listed ids r ≡ true → ¬ HasTurn t r c) t.rules

-- for every valuation, the configurations d steps after the instance of s are exactly the instances of s'
-- under the valuations that agree with it off the new variables; before the d-th step none is final, and no
-- listed rule has its turn
pub record After (t : Theory) (listed : List Text) (s s' : KorePattern) (d : ℕ) : Type 0 where
  pub found : (v : Valuation) (later : Value) → GivesSorts t.signature v (free_variables s) → IsAfter t s v d later →
      (w : Valuation) × AgreesOff (variables_beyond s s') v w × GivesSorts t.signature w (free_variables s') × IsInstance t.signature w s' later
  pub only : (v w : Valuation) (later : Value) → GivesSorts t.signature v (free_variables s) → AgreesOff (variables_beyond s s') v w → GivesSorts t.signature w (free_variables s') → IsInstance t.signature w s' later →
      IsAfter t s v d later
  pub not_final : (v : Valuation) (n : ℕ) (c : Value) → GivesSorts t.signature v (free_variables s) → n < d → IsAfter t s v n c → ¬ IsFinal t c
  pub none_listed : (v : Valuation) (n : ℕ) (c : Value) → GivesSorts t.signature v (free_variables s) → n < d → IsAfter t s v n c → NoneListed t listed c
  pub names : AllByRecursion (λ x. IsFreshName x.name × IsAbsent x.name s) (variables_beyond s s')

-- ---- what is computed

-- an interpreted call with literals alone for arguments
abbrev pub are_literals : KorePatterns → Bool
are_literals no_patterns = true
are_literals (next_pattern (literal s text) ps) = are_literals ps
are_literals (next_pattern _ ps) = false

abbrev pub is_open_call : KoreSignature → KorePattern → Bool
is_open_call g (application f ss ps) = is_interpretation (meaning_of g f) && are_literals ps
is_open_call g _ = false

abbrev pub is_wide_value : Value → Bool
is_wide_value (whole n) = not (fits_number n)
is_wide_value _ = false

-- such a call stands only where its value leaves signed 128 bits
abbrev pub IsComputed : KoreSignature → KorePattern → Type 0
IsComputed g p = AllByRecursion (λ q. is_open_call g q ≡ true → (v : Valuation) → IsTrue (is_wide_value (instance g v q))) (subpatterns p)
