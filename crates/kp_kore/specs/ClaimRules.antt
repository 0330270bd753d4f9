-- Claims used as rules: which rule a claim is, where it stands among a theory's rules, and which steps are progress.
-- Source: All-Path Reachability Logic (circularities); pyk's APRProof (dependencies, circularities).
use Rattle.std.specs.Prelude.{◌≡◌, ◌⊎◌, ℕ, zero, suc, ◌==◌, nat_lt, nat_le, Bool, true, false, not, ◌&&◌, ◌||◌, List, [], ◌∷◌, ◌++◌, length, Option, Some, None}
use Rattle.std.specs.List.{AllByRecursion, AllZip, Contains, list_all}
use Rattle.std.specs.Char.{is_ascii_digit}
use Rattle.kp_kore.specs.Syntax.{Text, KoreSort, rewriting}
use Rattle.kp_kore.specs.Parts.{free_variables}
use Rattle.kp_kore.specs.Rules.{Rewrite, rewrite, RewriteRule, rewrite_of}
use Rattle.kp_kore.specs.Theory.{Theory}
use Rattle.kp_kore.specs.Claims.{ReachabilityClaim}

-- ---- ids

abbrev pub is_lower_hexadecimal : ℕ → Bool
is_lower_hexadecimal c = is_ascii_digit c || (nat_le 97 c && nat_le c 102)

-- so many such digits, # and a number
abbrev pub is_digest_and_number : ℕ → Text → Bool
is_digest_and_number (suc k) (c ∷ cs) = is_lower_hexadecimal c && is_digest_and_number k cs
is_digest_and_number zero (c ∷ cs) = (c == 35) && nat_lt 0 (length cs) && list_all is_ascii_digit cs
is_digest_and_number _ [] = false

-- m, 64 digits, # and a number: the id of a rule without a label in an added module, as each claim's is
abbrev pub is_claim_rule_id : Text → Bool
is_claim_rule_id [] = false
is_claim_rule_id (c ∷ cs) = (c == 109) && is_digest_and_number 64 cs

-- a step by a rule of the definition is progress, by a claim's it isn't
abbrev pub is_progress : Option Text → Bool
is_progress (Some id) = not (is_claim_rule_id id)
is_progress None = false

-- ---- rules

abbrev pub claim_priority : ℕ
claim_priority = 20

-- the rule is the claim's: \rewrites of its sides; each variable of the left side stands in its term, with its sort
pub record IsClaimRule (claim : ReachabilityClaim) (r : RewriteRule) : Type 0 where
  pub id : is_claim_rule_id r.id ≡ true
  pub priority : r.priority ≡ claim_priority
  pub sort : KoreSort
  pub rule : Rewrite
  pub body : r.body ≡ rewrite rule
  pub reads : rewrite_of (rewriting sort claim.left claim.right) ≡ Some rule
  pub variables : AllByRecursion (Contains (free_variables rule.left)) (free_variables claim.left)

-- the theory's rules, and behind them these
abbrev pub with_rules : Theory → List RewriteRule → Theory
with_rules t rs = record { signature = t.signature; rules = t.rules ++ rs }

-- the claim rules of a question at a node: none; the dependencies'; or, where the node has progress, these and the
-- circularities'
abbrev pub MayUse : List ReachabilityClaim → List ReachabilityClaim → Bool → List RewriteRule → Type 0
MayUse dependencies circularities progress rs =
    (rs ≡ []) ⊎ AllZip IsClaimRule dependencies rs ⊎ ((progress ≡ true) × AllZip IsClaimRule (dependencies ++ circularities) rs)
