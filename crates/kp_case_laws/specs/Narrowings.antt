-- How a part is split in two: a variable is narrowed by a constructor or by a sort, or its head is asked for.
-- Source: narrowing in rewriting logic; matching logic's models, as K reads constructors (no confusion, no junk) and inj.
use Rattle.std.specs.Prelude.{◌≡◌, ◌⊎◌, Bool, true, false, not, List, [], ◌∷◌, ◌++◌, map, Option, Some, None, if◌then◌else◌}
use Rattle.std.specs.List.{filter, flat_map}
use Rattle.kp_kore.specs.Syntax.{Text, KoreSort, sort_variable, KoreSorts, no_sorts, next_sort}
use Rattle.kp_kore.specs.Parts.{SortedName}
use Rattle.kp_kore.specs.Signature.{KoreSignature, construction, meaning_of, integer_sort, boolean_sort, Head, integers, booleans, tokens, constructor_of, is_head, heads_of}
use Rattle.kp_kore.specs.Value.{constructed, no_values}
use Rattle.kp_kore.specs.Instance.{Valuation, GivesSorts, AgreesOn, is_named}
use Rattle.kp_kore.specs.Scopes.{IsWithin, Extends}
use Rattle.kp_compile.specs.Spelled.{places_of}
use Rattle.kp_symbolic.specs.Terms.{SymbolicTerm, unknown, known, SymbolicTerms, no_terms, next_term}
use Rattle.kp_symbolic.specs.States.{HeadTest, one_head, head_of_sort, same, has_head, Literal, AreTrue, clause_variables}
use Rattle.kp_symbolic.specs.Opening.{literal_fact, opened_test}
use Rattle.kp_symbolic.specs.Heads.{passes_head}
use Rattle.kp_symbolic.specs.Clauses.{distributed, without_repeats, is_too_large}
use Rattle.kp_symbolic.specs.Folding.{applied_term, replaced}
use Rattle.kp_symbolic.specs.Solving.{Equation, replacement, opened_clause}
use Rattle.kp_case_laws.specs.Parts.{StatePart, AreNew}

-- for some values of the new variables the clauses are true
pub record IsMade (g : KoreSignature) (scope new : List SortedName) (clauses : List (List Literal)) (v : Valuation) : Type 0 where
  pub chosen : Valuation
  pub extends : Extends g scope (scope ++ new) v chosen
  pub are_true : AreTrue g chosen clauses

-- Whatever the scope's variables stand for, either some values of the new ones make the clauses true, or the others are
-- true, and not both; the values are determined.
pub record IsNarrowing (g : KoreSignature) (scope new : List SortedName) (clauses others : List (List Literal)) : Type 0 where
  pub either : (v : Valuation) → GivesSorts g v scope → IsMade g scope new clauses v ⊎ AreTrue g v others
  pub determined : (w x : Valuation) → GivesSorts g w (scope ++ new) → GivesSorts g x (scope ++ new) → AgreesOn scope w x →
      AreTrue g w clauses → AreTrue g x clauses → AgreesOn new w x
  pub not_both : (w x : Valuation) → GivesSorts g w (scope ++ new) → GivesSorts g x scope → AgreesOn scope w x → AreTrue g w clauses → ¬ AreTrue g x others

-- ---- the clauses

-- the variable is the term
abbrev pub equates : SortedName → SymbolicTerm → List (List Literal)
equates x t = (record { holds = true; atom = same x.sort (unknown x) t } ∷ []) ∷ []

-- the variable's head passes the test, or doesn't
abbrev pub head_clauses : KoreSignature → Bool → SortedName → HeadTest → List (List Literal)
head_clauses g b x test = distributed (opened_test g b test (literal_fact b (has_head x test)) (unknown x))

abbrev pub all_unknown : List SortedName → SymbolicTerms
all_unknown [] = no_terms
all_unknown (y ∷ ys) = next_term (unknown y) (all_unknown ys)

-- the constructor of these variables
abbrev pub constructor_term : KoreSignature → Text → List SortedName → SymbolicTerm
constructor_term g c ys = applied_term g c (all_unknown ys)

-- one of the clauses has no literal, so that they are never true
abbrev pub are_never : List (List Literal) → Bool
are_never [] = false
are_never ([] ∷ cs) = true
are_never ((l ∷ c) ∷ cs) = are_never cs

-- the variable has another head; of a constructor without arguments it is another value, where its sort has other heads
abbrev pub has_other_head : KoreSignature → SortedName → Text → List SortedName → List (List Literal)
has_other_head g x c [] =
    if are_never (head_clauses g false x (one_head c)) then head_clauses g false x (one_head c)
    else (record { holds = false; atom = same x.sort (unknown x) (known (constructed c no_values)) } ∷ []) ∷ []
has_other_head g x c (y ∷ ys) = head_clauses g false x (one_head c)

abbrev pub sorts_of_names : List SortedName → KoreSorts
sorts_of_names [] = no_sorts
sorts_of_names (y ∷ ys) = next_sort y.sort (sorts_of_names ys)

-- new variables for the arguments of a constructor, for a variable of the scope
pub record IsForConstructor (g : KoreSignature) (scope : List SortedName) (x : SortedName) (c : Text) (new : List SortedName) : Type 0 where
  pub at_hand : IsWithin g (x ∷ []) scope
  pub constructs : meaning_of g c ≡ construction
  pub sorts : sorts_of_names new ≡ places_of g c
  pub are_new : AreNew scope new

-- ---- the part where a variable is a term

-- A clause with the term in the variable's place, opened again; as it stands, where that makes too many literals: the variable
-- stays at hand, and says the same.
abbrev pub put_clause : KoreSignature → Equation → List Literal → List (List Literal)
put_clause g e c = if is_named e.variable.name (clause_variables c) then (if is_too_large 0 (opened_clause g e c) then c ∷ [] else distributed (opened_clause g e c)) else c ∷ []

-- the equation's clause stands behind the others, the term in the variable's place in all else, and the new variables are at hand
abbrev pub part_with_term : KoreSignature → Equation → List SortedName → StatePart → StatePart
part_with_term g e new p = record {
  state = record {
    term = replaced g (replacement e) p.state.term;
    sort = p.state.sort;
    clauses = without_repeats (flat_map (put_clause g e) p.state.clauses ++ equates e.variable e.term);
    variables = p.state.variables ++ new;
  };
  added = p.added ++ equates e.variable e.term;
}

-- ---- where no sort has exactly the heads that two sorts share

abbrev pub sort_or_none : Option KoreSort → KoreSort
sort_or_none (Some s) = s
sort_or_none None = sort_variable []

-- the test by which a head is told: its constructor, or the sort of its numbers, truth values, or tokens
abbrev pub test_of : KoreSignature → Head → HeadTest
test_of g integers = head_of_sort (sort_or_none (integer_sort g))
test_of g booleans = head_of_sort (sort_or_none (boolean_sort g))
test_of g (tokens s) = head_of_sort s
test_of g (constructor_of c) = one_head c

abbrev pub tested : KoreSignature → Bool → SortedName → Head → Literal
tested g b x h = record { holds = b; atom = has_head x (test_of g h) }

-- the heads of the variable's sort that this sort has, and those that it hasn't
abbrev pub shared_heads : KoreSignature → SortedName → KoreSort → List Head
shared_heads g x s = filter (is_head g s) (heads_of g x.sort)

abbrev pub other_heads : KoreSignature → SortedName → KoreSort → List Head
other_heads g x s = filter (λ h. not (is_head g s h)) (heads_of g x.sort)

-- the variable has none of the heads of this sort: each in a clause of its own
abbrev pub heads_outside : KoreSignature → SortedName → KoreSort → List (List Literal)
heads_outside g x s = without_repeats (map (λ h. tested g false x h ∷ []) (shared_heads g x s))

-- It has one of them: each other one in a clause of its own, with the shared ones that the other's test passes too.
abbrev pub heads_inside : KoreSignature → SortedName → KoreSort → List (List Literal)
heads_inside g x s = without_repeats (map (λ h. tested g false x h ∷ map (tested g true x) (filter (passes_head g (test_of g h)) (shared_heads g x s))) (other_heads g x s))
