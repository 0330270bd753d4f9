-- The next states of a symbolic state, and the patterns that a reply has for them.
-- Source: the K Haskell backend's JSON-RPC documentation (execute: next-states, rule-id, rule-predicate).
use Rattle.std.specs.Prelude.{◌≡◌, ◌↔◌, true, false, List, [], ◌∷◌, ◌++◌, map, Option, Some, None, ⊤, MatchOption}
use Rattle.std.specs.List.{AllByRecursion, flat_map}
use Rattle.std.specs.Option.{option_map}
use Rattle.kp_kore.specs.Syntax.{KorePattern}
use Rattle.kp_kore.specs.Parts.{SortedName, free_variables}
use Rattle.kp_kore.specs.Signature.{KoreSignature}
use Rattle.kp_kore.specs.Value.{Value}
use Rattle.kp_kore.specs.Instance.{Valuation, GivesSorts, IsInstance, IsTrueUnder, is_named, is_predicate}
use Rattle.kp_kore.specs.Rules.{RewriteRule, RuleBody}
use Rattle.kp_kore.specs.Theory.{Theory}
use Rattle.kp_kore.specs.Steps.{Rewrites, IsUnknown}
use Rattle.kp_kore.specs.Replies.{variables_beyond}
use Rattle.kp_kore.specs.AtHand.{HasNewNames}
use Rattle.kp_kore.specs.Cases.{NextState, HaveOneSort}
use Rattle.kp_kore.specs.Scopes.{Extends}
use Rattle.kp_symbolic.specs.States.{AreTrue, SymbolicState, IsStateInstance}
use Rattle.kp_symbolic.specs.WellFormed.{AreAtHand}
use Rattle.kp_case_laws.specs.Parts.{StatePart, whole, OfEachInstance}
use Rattle.kp_case_laws.specs.Turns.{AreTurns, Turn, rules_of}

-- ---- what follows a part

-- the state's instances are exactly what the rule rewrites those of the part to
pub record FollowsBy (g : KoreSignature) (body : RuleBody) (p : StatePart) (next : SymbolicState) : Type 0 where
  pub found : OfEachInstance g p (λ w c. (later : Value) → Rewrites g body c later →
      (x : Valuation) × Extends g p.state.variables next.variables w x × IsStateInstance g x next later)
  pub only : (x : Valuation) (later : Value) → GivesSorts g x next.variables → IsStateInstance g x next later →
      (c : Value) × IsStateInstance g x p.state c × Rewrites g body c later

-- a part where a rule has its turn, or with no rule none fires, and the state that follows
pub record StepCase : Type 0 where
  pub rule : Option RewriteRule
  pub part : StatePart
  pub next : SymbolicState

-- where no rule fires, the part's own state
abbrev pub IsNext : KoreSignature → StepCase → Type 0
IsNext g k = MatchOption k.rule (k.next ≡ k.part.state) (λ r. FollowsBy g r.body k.part k.next)

-- ---- a step

-- a rule, or none, with a part
abbrev pub Placed : Type 0
Placed = Option RewriteRule × StatePart

abbrev pub placed : StepCase → Placed
placed k = (k.rule, k.part)

abbrev pub cases_of_turns : List Turn → List StatePart → List Placed
cases_of_turns turns remainder = flat_map (λ x. map (λ p. (Some x.rule, p)) x.parts) turns ++ map (λ p. (None, p)) remainder

-- no two rules have one id
abbrev pub HaveOwnIds : List RewriteRule → Type 0
HaveOwnIds [] = ⊤
HaveOwnIds (r ∷ rs) = AllByRecursion (λ q. ¬ (q.id ≡ r.id)) rs × HaveOwnIds rs

-- the cases of a step are the parts of the rules that have their turn and the remainder, each with what follows; no foreign
-- rule might rewrite an instance
pub record AreStepCases (t : Theory) (s : SymbolicState) (cases : List StepCase) : Type 0 where
  pub turns : List Turn
  pub remainder : List StatePart
  pub are_turns : AreTurns t (whole s) turns remainder
  pub own_ids : HaveOwnIds (rules_of turns)
  pub of_turns : map placed cases ≡ cases_of_turns turns remainder
  pub nexts : AllByRecursion (IsNext t.signature) cases
  pub known : OfEachInstance t.signature (whole s) (λ w c. ¬ IsUnknown t c)

-- ---- as patterns

-- some values of their sorts for these variables
abbrev pub HaveValues : KoreSignature → List SortedName → Type 0
HaveValues g xs = (w : Valuation) × GivesSorts g w xs

-- under values of these variables, which are the pattern's and more, the pattern's instances are the state's
pub record IsPatternOf (g : KoreSignature) (p : KorePattern) (s : SymbolicState) : Type 0 where
  pub at_hand : AreAtHand (free_variables p) s.variables
  pub instances : (w : Valuation) (c : Value) → GivesSorts g w s.variables → IsInstance g w p c ↔ IsStateInstance g w s c

-- the predicate says what was added to the part
pub record IsPredicateOf (g : KoreSignature) (q : KorePattern) (p : StatePart) : Type 0 where
  pub at_hand : AreAtHand (free_variables q) p.state.variables
  pub says : (w : Valuation) → GivesSorts g w p.state.variables → IsTrueUnder g w q ↔ AreTrue g w p.added

-- each variable of the pattern stands in the state's pattern or is new: none is one that the state has lost
abbrev pub HasNoLost : List SortedName → KorePattern → KorePattern → Type 0
HasNoLost hand s p = AllByRecursion (λ x. is_named x.name hand ≡ false) (variables_beyond s p)

-- the variables at hand are those of the request, of the state's pattern, and those that came in since; each name has one
-- sort, and the sorts have values
pub record IsAtHand (g : KoreSignature) (request p : KorePattern) (s : SymbolicState) : Type 0 where
  pub pattern : IsPatternOf g p s
  pub request_at_hand : AreAtHand (free_variables request) s.variables
  pub one_sort : HaveOneSort s.variables
  pub values : HaveValues g s.variables

-- what the reply has for a case of a step from the state s, whose pattern is p
pub record IsWritten (g : KoreSignature) (request p : KorePattern) (s : SymbolicState) (k : StepCase) (n : NextState) : Type 0 where
  pub id : n.rule ≡ option_map (λ r. r.id) k.rule
  pub predicate : IsPredicateOf g n.predicate k.part
  pub state : IsPatternOf g n.state k.next
  pub none_lost : HasNoLost s.variables p n.state × HasNoLost s.variables p n.predicate
  pub new_names : HasNewNames request p n.state × HasNewNames request p n.predicate
  pub is_predicate : is_predicate n.predicate ≡ true

-- the part and what follows have the variables of what they come from, and more; each name has one sort; the sorts have
-- values, and the part has an instance
pub record IsWithinHand (g : KoreSignature) (s : SymbolicState) (k : StepCase) : Type 0 where
  pub part : AreAtHand s.variables k.part.state.variables
  pub next : AreAtHand k.part.state.variables k.next.variables
  pub one_sort : HaveOneSort k.next.variables
  pub values : HaveValues g k.next.variables
  pub instance : (w : Valuation) × (c : Value) × GivesSorts g w k.part.state.variables × IsStateInstance g w k.part.state c
