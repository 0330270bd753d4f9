-- What is written for a state, for what was added to a part of it, and for the end of a run.
-- Source: the K Haskell backend's JSON-RPC documentation (execute: reason, state, next-states, rule-id, rule-predicate); the order
-- of clauses is this project's.
use Rattle.std.specs.Prelude.{◌≡◌, ℕ, List, [], ◌∷◌, ◌++◌, Option, Some, None, unwrap_or, ⊤}
use Rattle.std.specs.List.{AllByRecursion, AllZip}
use Rattle.kp_kore.specs.Syntax.{Text, KoreSort, KorePattern, conjunction, top, no_patterns, next_pattern}
use Rattle.kp_kore.specs.Parts.{SortedName}
use Rattle.kp_kore.specs.Signature.{KoreSignature}
use Rattle.kp_kore.specs.Instance.{conjuncts}
use Rattle.kp_kore.specs.Rules.{RewriteRule}
use Rattle.kp_kore.specs.Theory.{Theory}
use Rattle.kp_symbolic.specs.States.{Literal, SymbolicState}
use Rattle.kp_symbolic.specs.Writing.{InjectsWhereItStands, written_term, written_predicate}
use Rattle.kp_symbolic_laws.specs.Runs.{HasRoomClause}
use Rattle.kp_symbolic.specs.View.{state_view}
use Rattle.kp_case_laws.specs.NextStates.{HasNoLost}
use Rattle.kp_outward.specs.Arranged.{AreArranged}
use Rattle.kp_outward.specs.Errors.{InjectsIfThere}
use Rattle.kp_unify.specs.Views.{part_view}
use Rattle.kp_unify.specs.declared.part.Part.{Part}
use Rattle.kp_step.specs.Places.{IsAt}
use Rattle.kp_step.specs.declared.outcome.Next.{Next}
use Rattle.kp_execute.specs.declared.ending.Ending as runs
use Rattle.kp_execute.specs.declared.ending.Ending.TheVariants.{Vacuous, DepthBound, Stuck, Branching, CutPoint, Terminal, Aborted}
use Rattle.kp_execute.specs.declared.ending.Run.{Run}
use Rattle.kp_results.specs.Results.{StateParts, NextParts, Ending, vacuous, depth_bound, stuck, branching, cut_point, terminal, ExecutedParts}

-- ---- states and predicates

-- \and of the clauses, each once, in order; one alone, and none of none
pub record AreWritten (g : KoreSignature) (sort : KoreSort) (cs : List (List Literal)) (o : Option KorePattern) : Type 0 where
  pub arranged : List (List Literal)
  pub are_arranged : AreArranged g sort cs arranged
  pub is : o ≡ written_predicate g sort arranged
  pub injects : InjectsIfThere g o
  pub room : AllByRecursion (HasRoomClause g) cs

-- the state's term, and its clauses
pub record IsStateWritten (g : KoreSignature) (s : SymbolicState) (x : StateParts) : Type 0 where
  pub term : x.term ≡ written_term g s.sort s.term
  pub injects : InjectsWhereItStands g x.term
  pub predicate : AreWritten g s.sort s.clauses x.predicate

-- the clauses that were added; \top where there are none
pub record IsAddedWritten (g : KoreSignature) (sort : KoreSort) (cs : List (List Literal)) (q : KorePattern) : Type 0 where
  pub predicate : Option KorePattern
  pub written : AreWritten g sort cs predicate
  pub is : q ≡ unwrap_or predicate (top sort)

-- the term alone, or \and of the term and the predicate
abbrev pub joined : KoreSort → KorePattern → Option KorePattern → KorePattern
joined sort p None = p
joined sort p (Some q) = conjunction sort (next_pattern p (next_pattern q no_patterns))

abbrev pub pattern_of : KoreSort → StateParts → KorePattern
pattern_of sort x = joined sort x.term x.predicate

-- ---- cases

-- the text is the id of the rule of this place
abbrev pub IsIdAt : Theory → ℕ → Text → Type 0
IsIdAt t place id = (r : RewriteRule) × IsAt t place r × (id ≡ r.id)

-- a next state, with the id of its rule
pub record IsNextWritten (t : Theory) (n : Next) (x : NextParts) : Type 0 where
  pub rule : RewriteRule
  pub at : IsAt t n.rule rule
  pub id : x.rule ≡ Some rule.id
  pub predicate : IsAddedWritten t.signature (part_view n.part).state.sort (part_view n.part).added x.predicate
  pub state : IsStateWritten t.signature (state_view n.state) x.state

-- a part that remains, with no rule
pub record IsRemainderWritten (t : Theory) (p : Part) (x : NextParts) : Type 0 where
  pub id : x.rule ≡ None
  pub predicate : IsAddedWritten t.signature (part_view p).state.sort (part_view p).added x.predicate
  pub state : IsStateWritten t.signature (part_view p).state x.state

-- the next states, and the parts that remain behind them
pub record AreCasesWritten (t : Theory) (nexts : List Next) (remainder : List Part) (xs : List NextParts) : Type 0 where
  pub by_rules : List NextParts
  pub others : List NextParts
  pub each_next : AllZip (IsNextWritten t) nexts by_rules
  pub each_part : AllZip (IsRemainderWritten t) remainder others
  pub are : xs ≡ by_rules ++ others

-- no variable at hand that the state's pattern has lost is mentioned
pub record MentionsNoLost (hand : List SortedName) (p : KorePattern) (sort : KoreSort) (x : NextParts) : Type 0 where
  pub state : HasNoLost hand p (pattern_of sort x.state)
  pub predicate : HasNoLost hand p x.predicate

-- ---- the end of a run

-- the end, with its next states
abbrev pub IsEndWritten : Theory → runs.Ending → Ending → List NextParts → Type 0
IsEndWritten t Vacuous e xs = (e ≡ vacuous) × (xs ≡ [])
IsEndWritten t DepthBound e xs = (e ≡ depth_bound) × (xs ≡ [])
IsEndWritten t (Stuck remainder) e xs = (e ≡ stuck) × (xs ≡ [])
IsEndWritten t (Branching nexts remainder) e xs = (e ≡ branching) × AreCasesWritten t nexts.items remainder.items xs
IsEndWritten t (CutPoint next) e xs = (x : NextParts) × (xs ≡ x ∷ []) × (w : IsNextWritten t next x) × (e ≡ cut_point w.rule.id)
IsEndWritten t (Terminal place) e xs = (r : RewriteRule) × IsAt t place r × (e ≡ terminal r.id) × (xs ≡ [])
IsEndWritten t (Aborted why) e xs = ⊥

-- the predicate that is written isn't empty
abbrev pub IsShown : Option KorePattern → Type 0
IsShown None = ⊤
IsShown (Some q) = ¬ (conjuncts q ≡ [])

-- the last state, the depth, and the end
pub record IsRunWritten (t : Theory) (r : Run) (x : ExecutedParts) : Type 0 where
  pub depth : x.depth ≡ r.depth
  pub state : IsStateWritten t.signature (state_view r.state) x.state
  pub shown : IsShown x.state.predicate
  pub end : IsEndWritten t r.ending x.ending x.nexts
  pub none_lost : AllByRecursion (MentionsNoLost (state_view r.state).variables (pattern_of (state_view r.state).sort x.state) (state_view r.state).sort) x.nexts
