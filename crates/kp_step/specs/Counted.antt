-- How many whole-number variables what is shown may compare.
-- Source: difference constraints over the whole numbers; the bound is this project's.
use Rattle.std.specs.Prelude.{◌≡◌, ◌≤◌, ℕ, Bool, List, ◌∷◌, ◌++◌, Option, Some, None, ⊤, if◌then◌else◌}
use Rattle.std.specs.List.{AllZip, list_any}
use Rattle.kp_kore.specs.Signature.{KoreSignature, has_only_numbers}
use Rattle.kp_kore.specs.Rules.{RewriteRule}
use Rattle.kp_symbolic.specs.States.{SymbolicState}
use Rattle.kp_symbolic.specs.Verdicts.{Weighed}
use Rattle.kp_limits.specs.declared.weight.Weighed as code
use Rattle.kp_satisfiability.specs.Answers.{IsWeighedAs}
use Rattle.kp_rules.specs.Skeletons.{Form}
use Rattle.kp_limits.specs.Compared.{compared_count, most_compared}
use Rattle.kp_step.specs.Comes.{IsFormOf}

-- the rule that is asked for, if there is one, and those that take from it
abbrev pub these_rules : Option RewriteRule → List RewriteRule → List RewriteRule
these_rules (Some r) turns = r ∷ turns
these_rules None turns = turns

-- the left sides of these rules, as forms
abbrev pub AreLeftsOf : KoreSignature → List RewriteRule → List Form → Type 0
AreLeftsOf g = AllZip (λ r l. IsFormOf g r.body l)

-- some sort with sorts below it has only numbers: then a place may get a variable of either
abbrev pub has_numbers_above : KoreSignature → Bool
has_numbers_above g = list_any (λ p. has_only_numbers g p.1) g.subsorts

abbrev pub counted_lefts : KoreSignature → List Form → List Form
counted_lefts g lefts = if has_numbers_above g then lefts ++ lefts else lefts

-- the whole-number variables of the state, and the places in the left sides at which one stands, or a number; each twice, where such sorts
-- are
abbrev pub most_for : KoreSignature → SymbolicState → List Form → ℕ
most_for g s lefts = most_compared g s (counted_lefts g lefts)

-- the number is that of the state and of the left sides of these rules
abbrev pub IsMost : KoreSignature → SymbolicState → List RewriteRule → ℕ → Type 0
IsMost g s rules n = (lefts : List Form) × AreLeftsOf g rules lefts × (n ≡ most_for g s lefts)

-- where a weight is told, the part compares no more whole-number variables than that
abbrev pub ComparesWithin : KoreSignature → SymbolicState → SymbolicState → List RewriteRule → Option Weighed → Type 0
ComparesWithin g s p rules None = ⊤
ComparesWithin g s p rules (Some h) = (n : ℕ) × IsMost g s rules n × (compared_count g p ≤ n)

-- the same of whatever weight the code tells
abbrev pub IsComparedWithin : KoreSignature → SymbolicState → SymbolicState → List RewriteRule → Option code.Weighed → Type 0
IsComparedWithin g s p rules w = (h : Option Weighed) → IsWeighedAs h w → ComparesWithin g s p rules h

-- with a number that was counted
abbrev pub IsCounted : KoreSignature → SymbolicState → ℕ → Option code.Weighed → Type 0
IsCounted g p most None = ⊤
IsCounted g p most (Some w) = compared_count g p ≤ most
