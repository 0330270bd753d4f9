-- What a consequent asks of a part of the antecedent that its term meets, clause by clause.
-- Source: the K Haskell backend's JSON-RPC documentation (implies); this project.
use Rattle.std.specs.Prelude.{◌≡◌, Bool, List, [], ◌∷◌, ◌++◌, Some, None, if◌then◌else◌}
use Rattle.std.specs.List.{AllByRecursion, Contains, flat_map, list_any}
use Rattle.kp_kore.specs.Parts.{SortedName}
use Rattle.kp_kore.specs.Signature.{KoreSignature}
use Rattle.kp_kore.specs.Instance.{is_named}
use Rattle.kp_symbolic.specs.Terms.{Replaced}
use Rattle.kp_symbolic.specs.States.{Literal, clause_variables, SymbolicState}
use Rattle.kp_symbolic.specs.Clauses.{distributed, is_too_large, without_repeats}
use Rattle.kp_symbolic.specs.Solving.{Equation, negated, Solving}
use Rattle.kp_case_laws.specs.Parts.{StatePart, with_clauses}
use Rattle.kp_step.specs.Conditions.{condition_clauses}
use Rattle.kp_clause_substitution.specs.Replacing.{clause_under}
use Rattle.kp_goals.specs.Consequents.{Consequent}
use Rattle.kp_goals.specs.Gives.{Given, given_by, given_in, match_clauses, put_for, if_new, solved_in}

-- the clause with the terms in its variables' places; as it stands, where that makes too many literals
abbrev pub put_in_clause : KoreSignature → List Replaced → List Literal → List (List Literal)
put_in_clause g put c = if is_too_large 0 (clause_under g put c) then c ∷ [] else distributed (clause_under g put c)

-- what bound variables stand for, and what the part's own variables do by its solved equations
abbrev pub all_put : KoreSignature → StatePart → Given → List Replaced
all_put g p o = o.put ++ solved_in g p.state

-- the clauses of the match that gave nothing, and those of the condition
abbrev pub goals_of : KoreSignature → Consequent → StatePart → Given → List (List Literal)
goals_of g k p o = without_repeats (flat_map (put_in_clause g (all_put g p o)) o.rest ++ condition_clauses g (all_put g p o) k.predicates)

-- Step by step: a clause of the match gives a bound variable, one of those that are to be told, and is used up; or a goal gives one.
pub data IsGiven (g : KoreSignature) (k : Consequent) (told : List SortedName) (p : StatePart) : Given → Type 0 where
  nothing : IsGiven g k told p (record { rest = match_clauses g k p; put = [] })
  by_match : (before after : List (List Literal)) (c : List Literal) (put : List Replaced) (e : Equation) → IsGiven g k told p (record { rest = before ++ c ∷ after; put = put }) →
      if_new told put (given_by g k.bound c) ≡ Some e → IsGiven g k told p (record { rest = before ++ after; put = put ++ put_for e })
  by_goal : (o : Given) (c : List Literal) (e : Equation) → IsGiven g k told p o → Contains (goals_of g k p o) c → if_new told o.put (given_in g k.bound c) ≡ Some e →
      IsGiven g k told p (record { rest = o.rest; put = o.put ++ put_for e })

-- the part that the consequent's term meets, with what it gives and what is asked there; no goal gives more
pub record IsAskedIn (g : KoreSignature) (k : Consequent) (told : List SortedName) (p : StatePart) (goals : List (List Literal)) : Type 0 where
  pub given : Given
  pub is_given : IsGiven g k told p given
  pub are : goals ≡ goals_of g k p given
  pub no_more : AllByRecursion (λ c. if_new told given.put (given_in g k.bound c) ≡ None) goals

-- a bound variable stands in the clause
abbrev pub is_unbound : List SortedName → List Literal → Bool
is_unbound bound c = list_any (λ x. is_named x.name bound) (clause_variables c)

-- the part where the goal isn't true; and with its equations solved
abbrev pub without_goal : KoreSignature → StatePart → List Literal → StatePart
without_goal g p c = with_clauses p (negated g p.state.sort (c ∷ []))

pub data IsAskedAs (g : KoreSignature) (p : StatePart) (c : List Literal) : SymbolicState → Type 0 where
  as_it_stands : IsAskedAs g p c (without_goal g p c).state
  solved : (s : SymbolicState) → Solving g (without_goal g p c).state s → IsAskedAs g p c s
