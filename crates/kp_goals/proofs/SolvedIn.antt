-- What a state's solved equations put for its variables: good terms, which the variables are where the clauses are true.
use Rattle.std.specs.Prelude.{◌≡◌, Bool, true, false, not, ◌||◌, List, [], ◌∷◌, ◌++◌, Option, Some, None, if◌then◌else◌}
use Rattle.std.specs.List.{AllByRecursion, flat_map}
use Rattle.std.proofs.Common.{refl, ◌∙◌, ap, subst}
use Rattle.std.proofs.lemmas.List.Elements.{Contains-append_left}
use Rattle.kp_kore.specs.Parts.{SortedName}
use Rattle.kp_kore.specs.Signature.{KoreSignature, has_only_numbers}
use Rattle.kp_kore.specs.Instance.{Valuation, GivesSorts}
use Rattle.kp_symbolic.specs.Terms.{Replaced, term_instance}
use Rattle.kp_symbolic.specs.States.{atom_variables, Literal, IsClauseTrue, AreTrue, SymbolicState}
use Rattle.kp_symbolic.specs.WellFormed.{IsWellSortedAtom, AreAtHand}
use Rattle.kp_symbolic.specs.Solving.{Equation, equation_of}
use Rattle.kp_symbolic.specs.Plain.{Form, gives, form_of, head_form, solved_form, first_form, own_form, read_clause, read_from, stands_in_none}
use Rattle.kp_symbolic.proofs.Distribution.{all_both}
use Rattle.kp_symbolic.proofs.Equations.{met_clause}
use Rattle.kp_symbolic_laws.specs.Runs.{IsSortedLiteral}
use Rattle.kp_symbolic_laws.specs.Safe.{Formed, IsSoundQuote, IsSafe}
use Rattle.kp_symbolic_laws.proofs.Step.{at_hand_given}
use Rattle.kp_clause_demands.proofs.FormLemmas.{head_asks}
use Rattle.kp_satisfiability.proofs.Ready.{form_basic}
use Rattle.kp_goals.specs.Exact.{ArePut, IsRightClause}
use Rattle.kp_goals.specs.Gives.{solved_by, solved_in}
use Rattle.kp_goals.proofs.PutTerms.{IsPutBy, put_good}
use Rattle.kp_goals.proofs.GoodGivens.{equation_good}

-- ---- a literal that gives a variable is its equation

none_is_some : {A : Type 0} {a : A} → None ≡ Some a → ⊥
none_is_some e = cc

abbrev given_of : Equation → Option Form → Equation
given_of d (Some (gives e)) = e
given_of d o = d

solved_gives : (g : KoreSignature) (s : SymbolicState) (others : List (List Literal)) (o : Option Equation) (e : Equation) → solved_form g s others o ≡ Some (gives e) → o ≡ Some e
solved_gives g s others (Some q) e h = by (has_only_numbers g q.variable.sort || not (stands_in_none others q.variable.name)) h
  where
    by : (b : Bool) → (if b then None else Some (gives q)) ≡ Some (gives e) → Some q ≡ Some e
    by true h = absurd (none_is_some h)
    by false h = ap (λ o. Some (given_of q o)) h
solved_gives g s others None e h = absurd (none_is_some h)

own_gives : (g : KoreSignature) (s : SymbolicState) (others : List (List Literal)) (l : Literal) (e : Equation) → own_form g s others l ≡ Some (gives e) → equation_of g (l ∷ []) ≡ Some e
own_gives g s others l e h = by (form_of g l) refl (head_form g l) refl h
  where
    by : (o : Option Form) → form_of g l ≡ o → (p : Option Form) → head_form g l ≡ p → first_form o (first_form p (solved_form g s others (equation_of g (l ∷ [])))) ≡ Some (gives e) → equation_of g (l ∷ []) ≡ Some e
    by (Some f) i p j h = absurd (form_basic g l (gives e) (i ∙ h))
    by None i (Some f) j h = absurd (head_asks g l (gives e) (j ∙ h))
    by None i None j h = solved_gives g s others (equation_of g (l ∷ [])) e h

-- ---- all of a state's clauses

abbrev PutFor : (Replaced → Type 0) → Equation → Type 0
PutFor P e = P (record { name = e.variable.name; term = e.term })

clause_put : (g : KoreSignature) (P : Replaced → Type 0) (s : SymbolicState) (others : List (List Literal)) (c : List Literal) → ((e : Equation) → equation_of g c ≡ Some e → PutFor P e) → AllByRecursion P (solved_by (read_clause g s others c))
clause_put g P s others [] k = tt
clause_put g P s others (l ∷ []) k = by (own_form g s others l) refl
  where
    by : (o : Option Form) → own_form g s others l ≡ o → AllByRecursion P (solved_by (record { literal = l; form = o } ∷ []))
    by (Some (gives e)) i = (k e (own_gives g s others l e i), tt)
    by o i = tt
clause_put g P s others (l ∷ m ∷ c) k = tt

read_put : (g : KoreSignature) (P : Replaced → Type 0) (s : SymbolicState) (before cs : List (List Literal)) → AllByRecursion (λ c. (e : Equation) → equation_of g c ≡ Some e → PutFor P e) cs → AllByRecursion P (flat_map solved_by (read_from g s before cs))
read_put g P s before [] h = tt
read_put g P s before (c ∷ after) h =
    all_both P (solved_by (read_clause g s (before ++ after) c)) (flat_map solved_by (read_from g s (before ++ c ∷ []) after)) (clause_put g P s (before ++ after) c h.0) (read_put g P s (before ++ c ∷ []) after h.1)

all_good : (g : KoreSignature) (hand : List SortedName) (cs : List (List Literal)) → AllByRecursion (IsRightClause g hand) cs → AllByRecursion (λ c. (e : Equation) → equation_of g c ≡ Some e → PutFor (IsPutBy g hand) e) cs
all_good g hand [] h = tt
all_good g hand (c ∷ cs) h = (λ e q. put_good g hand e (equation_good g hand c e h.0 q), all_good g hand cs h.1)

pub solved_good : (g : KoreSignature) (hand : List SortedName) (s : SymbolicState) → AllByRecursion (IsRightClause g hand) s.clauses → AllByRecursion (IsPutBy g hand) (solved_in g s)
solved_good g hand s h = read_put g (IsPutBy g hand) s [] s.clauses (all_good g hand s.clauses h)

abbrev IsValue : KoreSignature → Valuation → Replaced → Type 0
IsValue g x r = x r.name ≡ term_instance g x r.term

-- what the equation of a clause says, where the clause is true
pub equation_met : (g : KoreSignature) (hand : List SortedName) (x : Valuation) (c : List Literal) (e : Equation) → GivesSorts g x hand → IsRightClause g hand c → IsClauseTrue g x c → equation_of g c ≡ Some e → x e.variable.name ≡ term_instance g x e.term
equation_met g hand x c e sorts h t q = met_clause g x c e (λ l i. sides l (subst (IsRightClause g hand) i h)) t q
  where
    sides : (l : Literal) → IsRightClause g hand (l ∷ []) → IsWellSortedAtom g l.atom × GivesSorts g x (atom_variables l.atom)
    sides l k = (k.0.0.0, at_hand_given g x hand (atom_variables l.atom) sorts k.0.0.1)

all_met : (g : KoreSignature) (hand : List SortedName) (x : Valuation) → GivesSorts g x hand → (cs : List (List Literal)) → AllByRecursion (IsRightClause g hand) cs → AreTrue g x cs → AllByRecursion (λ c. (e : Equation) → equation_of g c ≡ Some e → PutFor (IsValue g x) e) cs
all_met g hand x sorts [] h t = tt
all_met g hand x sorts (c ∷ cs) h t = (λ e q. equation_met g hand x c e sorts h.0 t.0 q, all_met g hand x sorts cs h.1 t.1)

pub solved_put : (g : KoreSignature) (hand : List SortedName) (s : SymbolicState) (x : Valuation) → GivesSorts g x hand → AllByRecursion (IsRightClause g hand) s.clauses → AreTrue g x s.clauses → ArePut g x (solved_in g s)
solved_put g hand s x sorts h t = read_put g (IsValue g x) s [] s.clauses (all_met g hand x sorts s.clauses h t)

-- ---- a state's clauses, of more variables

more_at_hand : (hand more xs : List SortedName) → AreAtHand xs hand → AreAtHand xs (hand ++ more)
more_at_hand hand more [] h = tt
more_at_hand hand more (x ∷ xs) h = (Contains-append_left hand more x h.0, more_at_hand hand more xs h.1)

right_literals : (g : KoreSignature) (hand more : List SortedName) (c : List Literal) → AllByRecursion (IsSortedLiteral g hand) c → AllByRecursion (Formed g (IsSoundQuote g)) c → IsRightClause g (hand ++ more) c
right_literals g hand more [] h k = tt
right_literals g hand more (l ∷ c) h k = (((h.0.0, more_at_hand hand more (atom_variables l.atom) h.0.1), k.0), right_literals g hand more c h.1 k.1)

right_clauses : (g : KoreSignature) (hand more : List SortedName) (cs : List (List Literal)) → AllByRecursion (AllByRecursion (IsSortedLiteral g hand)) cs → AllByRecursion (AllByRecursion (Formed g (IsSoundQuote g))) cs → AllByRecursion (IsRightClause g (hand ++ more)) cs
right_clauses g hand more [] h k = tt
right_clauses g hand more (c ∷ cs) h k = (right_literals g hand more c h.0 k.0, right_clauses g hand more cs h.1 k.1)

pub safe_clauses : (g : KoreSignature) (s : SymbolicState) (more : List SortedName) → IsSafe g s → AllByRecursion (IsRightClause g (s.variables ++ more)) s.clauses
safe_clauses g s more h = right_clauses g s.variables more s.clauses h.sorted.literals h.formed.literals

pub term_at_hand : (g : KoreSignature) (s : SymbolicState) (more xs : List SortedName) → AreAtHand xs s.variables → AreAtHand xs (s.variables ++ more)
term_at_hand g s more xs h = more_at_hand s.variables more xs h
