-- Numbers by which rules are in turn.
use Rattle.std.specs.Prelude.{ℕ, suc, ◌+◌, ◌*◌, ◌^◌, List, [], ◌∷◌}
use Rattle.kp_rules.specs.declared.rule.Rule.{Rule}

-- the priority number, and behind it the place
abbrev pub key : ℕ → ℕ → ℕ
key priority place = priority * 2 ^ 64 + place

-- of these rules, of which the first stands at this place
abbrev pub keys_from : ℕ → List Rule → List ℕ
keys_from n [] = []
keys_from n (r ∷ rules) = key r.priority n ∷ keys_from (suc n) rules
