-- The order of next states: by the priority numbers of their rules, then as the rules stand; behind them the parts where no rule fires.
-- Source: the K framework (priorities); the K Haskell backend's JSON-RPC documentation (execute: next-states, rule-id).
use Rattle.std.specs.Prelude.{◌≡◌, ◌⊎◌, ◌<◌, ◌≤◌, ℕ, List, [], ◌∷◌, Option, Some, None, ⊤}
use Rattle.kp_kore.specs.Syntax.{Text}
use Rattle.kp_kore.specs.Rules.{RewriteRule}
use Rattle.kp_kore.specs.Theory.{Theory}
use Rattle.kp_results.specs.Results.{NextParts}
use Rattle.kp_step.specs.Places.{IsAt}
use Rattle.kp_step.specs.declared.outcome.Next.{Next}
use Rattle.kp_execute.specs.declared.ending.Ending.{Ending}
use Rattle.kp_execute.specs.declared.ending.Ending.TheVariants.{Branching}

-- ---- as they are told

-- the rule of the second place doesn't go before that of the first: by priority number, and of one number by place
abbrev pub GoInTurn : ℕ → RewriteRule → ℕ → RewriteRule → Type 0
GoInTurn i q j r = (q.priority < r.priority) ⊎ ((q.priority ≡ r.priority) × (i ≤ j))

-- rules of the theory with these ids, in their turn
pub record AreIdsInTurn (t : Theory) (one other : Text) : Type 0 where
  pub i : ℕ
  pub j : ℕ
  pub q : RewriteRule
  pub r : RewriteRule
  pub at_i : IsAt t i q
  pub at_j : IsAt t j r
  pub id_i : one ≡ q.id
  pub id_j : other ≡ r.id
  pub turn : GoInTurn i q j r

-- behind the id of a rule stands that of one whose turn isn't earlier; behind all may stand no id, and behind none no id of a rule
abbrev pub AreRulesInTurn : Theory → Option Text → Option Text → Type 0
AreRulesInTurn t one None = ⊤
AreRulesInTurn t (Some one) (Some other) = AreIdsInTurn t one other
AreRulesInTurn t None (Some other) = ⊥

-- of two neighbours
abbrev pub IsInTurn : Theory → NextParts → NextParts → Type 0
IsInTurn t x y = AreRulesInTurn t x.rule y.rule

-- each next state and the one behind it
abbrev pub AreInOrder : Theory → List NextParts → Type 0
AreInOrder t (x ∷ y ∷ xs) = IsInTurn t x y × AreInOrder t (y ∷ xs)
AreInOrder t xs = ⊤

-- ---- as a step finds them

-- the number is the priority number of the rule of this place
abbrev pub HasNumber : Theory → ℕ → ℕ → Type 0
HasNumber t place n = (r : RewriteRule) × IsAt t place r × (r.priority ≡ n)

-- rules stand at these places, in their turn
abbrev pub ArePlacesInTurn : Theory → ℕ → ℕ → Type 0
ArePlacesInTurn t i j = (q : RewriteRule) × (r : RewriteRule) × IsAt t i q × IsAt t j r × GoInTurn i q j r

-- behind the rule of the place before, if there is one
abbrev pub IsBehind : Theory → Option ℕ → ℕ → Type 0
IsBehind t None place = ⊤
IsBehind t (Some before) place = ArePlacesInTurn t before place

-- each behind the one before it, the first behind the place
abbrev pub AreBehind : Theory → Option ℕ → List Next → Type 0
AreBehind t before [] = ⊤
AreBehind t before (n ∷ nexts) = IsBehind t before n.rule × AreBehind t (Some n.rule) nexts

-- of the next states of a run's end; one alone is in order
abbrev pub IsEndInTurn : Theory → Ending → Type 0
IsEndInTurn t (Branching nexts remainder) = AreBehind t None nexts.items
IsEndInTurn t ending = ⊤
