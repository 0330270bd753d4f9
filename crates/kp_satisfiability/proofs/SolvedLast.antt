-- Where each clause is true by a plain literal or is a solved equation, the variables that are solved for can be given the
-- instances of their terms, and nothing else changes.
use Rattle.std.proofs.Common.{◌≡◌, refl, sym, ◌∙◌, subst, inl, inr, Bool, true, false, List, [], ◌∷◌, ◌++◌, Some}
use Rattle.std.specs.Prelude.{if◌then◌else◌, ⊤}
use Rattle.std.specs.List.{AllByRecursion, Contains, filter}
use Rattle.std.proofs.lemmas.List.Elements.{Contains-append_right, Contains-push}
use Rattle.kp_kore.specs.Parts.{SortedName}
use Rattle.kp_kore.specs.Signature.{KoreSignature}
use Rattle.kp_kore.specs.Value.{HasSort}
use Rattle.kp_kore.specs.Instance.{Valuation, GivesSorts, AgreesOn, assigned}
use Rattle.kp_symbolic.specs.Terms.{term_instance, term_variables}
use Rattle.kp_symbolic.specs.States.{Literal, IsLiteralTrue, IsClauseTrue, atom_variables, clause_variables, SymbolicState}
use Rattle.kp_symbolic.specs.WellFormed.{IsWellSortedAtom, AreAtHand}
use Rattle.kp_symbolic.specs.Plain.{Form, own_form, ReadLiteral, read_clause, has_form, literals_of, plain_part}
use Rattle.kp_symbolic.proofs.Distribution.{all_first, all_second}
use Rattle.kp_symbolic.proofs.Equations.{IsMet}
use Rattle.kp_symbolic.proofs.WellSorted.{term_sorted}
use Rattle.kp_symbolic.proofs.Exact.{read_keeps}
use Rattle.kp_symbolic.proofs.Agreeing.{term_agrees, literal_agrees, not_there, itself_there}
use Rattle.kp_symbolic_laws.proofs.RightEquations.{IsRightEquation, right_clause}
use Rattle.kp_satisfiability.proofs.Alone.{free_literal, alone_in, LeaveAll, others_leave}
use Rattle.kp_satisfiability.proofs.GivenLemmas.{gives_at_hand}
use Rattle.kp_satisfiability.proofs.Ready.{IsSolved, IsReady}
use Rattle.kp_satisfiability.proofs.Solutions.{told_literal}
use Rattle.kp_satisfiability.proofs.Untouched.{clause_agrees, still_gives}
use Rattle.kp_satisfiability.proofs.HeadLemmas.{each_self}

abbrev SameAt : Valuation → Valuation → SortedName → Type 0
SameAt v w x = w x.name ≡ v x.name

-- ---- the plain part of a clause has no other variables

part_variables : (Q : SortedName → Type 0) (c : List ReadLiteral) → AllByRecursion Q (clause_variables (literals_of c)) → AllByRecursion Q (clause_variables (plain_part c))
part_variables Q [] h = tt
part_variables Q (l ∷ c) h = by (has_form l) (part_variables Q c (all_second Q (atom_variables l.literal.atom) (clause_variables (literals_of c)) h))
  where
    by : (b : Bool) → AllByRecursion Q (clause_variables (plain_part c)) → AllByRecursion Q (clause_variables (literals_of (if b then l ∷ filter has_form c else filter has_form c)))
    by true rest = both (atom_variables l.literal.atom) (clause_variables (plain_part c)) (all_first Q (atom_variables l.literal.atom) (clause_variables (literals_of c)) h) rest
      where
        both : (xs ys : List SortedName) → AllByRecursion Q xs → AllByRecursion Q ys → AllByRecursion Q (xs ++ ys)
        both [] ys k m = m
        both (x ∷ xs) ys k m = (k.0, both xs ys k.1 m)
    by false rest = rest

part_agrees : (g : KoreSignature) (s : SymbolicState) (others : List (List Literal)) (c : List Literal) (v w : Valuation) → AgreesOn (clause_variables c) v w → IsClauseTrue g v (plain_part (read_clause g s others c)) → IsClauseTrue g w (plain_part (read_clause g s others c))
part_agrees g s others c v w h t = clause_agrees g v w (plain_part (read_clause g s others c)) (part_variables (SameAt v w) (read_clause g s others c) (subst (λ d. AgreesOn (clause_variables d) v w) (sym (read_keeps g s others c)) h)) t

-- ---- clauses at their places

-- a clause that is asked for is true by a plain literal, or is a solved equation
abbrev pub ReadyAll : KoreSignature → Valuation → SymbolicState → (List ReadLiteral → Bool) → List (List Literal) → List (List Literal) → Type 0
ReadyAll g v s test before [] = ⊤
ReadyAll g v s test before (c ∷ after) = (test (read_clause g s (before ++ after) c) ≡ true → IsReady g v s (before ++ after) c) × ReadyAll g v s test (before ++ c ∷ []) after

abbrev pub TrueAll : KoreSignature → Valuation → SymbolicState → (List ReadLiteral → Bool) → List (List Literal) → List (List Literal) → Type 0
TrueAll g v s test before [] = ⊤
TrueAll g v s test before (c ∷ after) = (test (read_clause g s (before ++ after) c) ≡ true → IsClauseTrue g v (plain_part (read_clause g s (before ++ after) c))) × TrueAll g v s test (before ++ c ∷ []) after

own_still : (g : KoreSignature) (s : SymbolicState) (others : List (List Literal)) (l : Literal) (v w : Valuation) → AgreesOn (clause_variables (l ∷ [])) v w → IsReady g v s others (l ∷ []) → IsReady g w s others (l ∷ [])
own_still g s others l v w h (inl t) = inl (part_agrees g s others (l ∷ []) v w h t)
own_still g s others l v w h (inr k) = inr k

ready_still : (g : KoreSignature) (s : SymbolicState) (others : List (List Literal)) (c : List Literal) (v w : Valuation) → AgreesOn (clause_variables c) v w → IsReady g v s others c → IsReady g w s others c
ready_still g s others [] v w h r = r
ready_still g s others (l ∷ []) v w h r = own_still g s others l v w h r
ready_still g s others (l ∷ m ∷ c) v w h r = part_agrees g s others (l ∷ m ∷ c) v w h r

all_ready_still : (g : KoreSignature) (s : SymbolicState) (test : List ReadLiteral → Bool) (before after : List (List Literal)) (v w : Valuation) → AllByRecursion (λ c. AgreesOn (clause_variables c) v w) after → ReadyAll g v s test before after → ReadyAll g w s test before after
all_ready_still g s test before [] v w h r = tt
all_ready_still g s test before (c ∷ after) v w h r = ((λ t. ready_still g s (before ++ after) c v w h.0 (r.0 t)), all_ready_still g s test (before ++ c ∷ []) after v w h.1 r.1)

-- ---- one clause after the other

pub record SolvedLast (g : KoreSignature) (v : Valuation) (s : SymbolicState) (test : List ReadLiteral → Bool) (before after : List (List Literal)) : Type 0 where
  pub valuation : Valuation
  pub sorts : GivesSorts g valuation s.variables
  pub are_true : TrueAll g valuation s test before after
  pub kept : (xs : List SortedName) → LeaveAll g s xs before after → AgreesOn xs v valuation

agrees_itself : (v : Valuation) (xs : List SortedName) → AgreesOn xs v v
agrees_itself v [] = tt
agrees_itself v (x ∷ xs) = (refl, agrees_itself v xs)

agrees_on : (u v w : Valuation) (xs : List SortedName) → AgreesOn xs u v → AgreesOn xs v w → AgreesOn xs u w
agrees_on u v w [] h k = tt
agrees_on u v w (x ∷ xs) h k = (k.0 ∙ h.0, agrees_on u v w xs h.1 k.1)

-- a clause that is true, or isn't asked for
as_it_is : (g : KoreSignature) (v : Valuation) (s : SymbolicState) (test : List ReadLiteral → Bool) (before after : List (List Literal)) (c : List Literal)
    → (test (read_clause g s (before ++ after) c) ≡ true → IsClauseTrue g v (plain_part (read_clause g s (before ++ after) c))) → SolvedLast g v s test (before ++ c ∷ []) after → SolvedLast g v s test before (c ∷ after)
as_it_is g v s test before after c t rest = record {
  valuation = rest.valuation;
  sorts = rest.sorts;
  are_true = ((λ a. part_agrees g s (before ++ after) c v rest.valuation (rest.kept (clause_variables c) (others_leave g s c (before ++ c ∷ []) after (Contains-push before c))) (t a)), rest.are_true);
  kept = λ xs leave. rest.kept xs leave.1;
}

-- ---- a solved equation

-- what is known of a literal of the state
pub record IsKnown (g : KoreSignature) (s : SymbolicState) (c : List Literal) : Type 0 where
  pub sorted : AllByRecursion (λ l. IsWellSortedAtom g l.atom) c
  pub at_hand : AreAtHand (clause_variables c) s.variables

abbrev pub HaveOneSort : SymbolicState → Type 0
HaveOneSort s = (x y : SortedName) → Contains s.variables x → Contains s.variables y → x.name ≡ y.name → x.sort ≡ y.sort

true_false : true ≡ false → ⊥
true_false e = cc

all_map : {X : Type 0} (P Q : X → Type 0) (xs : List X) → ((x : X) → P x → Q x) → AllByRecursion P xs → AllByRecursion Q xs
all_map P Q [] f h = tt
all_map P Q (x ∷ xs) f h = (f x h.0, all_map P Q xs f h.1)

each_one : (x : SortedName) (hand ys : List SortedName) → ((y : SortedName) → Contains hand y → x.name ≡ y.name → x.sort ≡ y.sort) → AllByRecursion (Contains hand) ys → AllByRecursion (λ y. x.name ≡ y.name → x.sort ≡ y.sort) ys
each_one x hand ys one h = all_map (Contains hand) (λ y. x.name ≡ y.name → x.sort ≡ y.sort) ys one h

-- the variable is given the instance of its term
solved_next : (g : KoreSignature) (v : Valuation) (s : SymbolicState) (test : List ReadLiteral → Bool) (before after : List (List Literal)) (l : Literal) (k : IsSolved g s (before ++ after) l) (f : Form) → own_form g s (before ++ after) l ≡ Some f → HaveOneSort s → IsKnown g s (l ∷ []) → GivesSorts g v s.variables
    → ReadyAll g v s test (before ++ (l ∷ []) ∷ []) after → ((w : Valuation) → GivesSorts g w s.variables → ReadyAll g w s test (before ++ (l ∷ []) ∷ []) after → SolvedLast g w s test (before ++ (l ∷ []) ∷ []) after) → SolvedLast g v s test before ((l ∷ []) ∷ after)
solved_next g v s test before after l k f plain one known sorts ready next =
    let e = k.equation in
    let x = e.variable.name in
    let u = term_instance g v e.term in
    let w : Valuation = assigned v x u in
    let at_hand = all_first (Contains s.variables) (atom_variables l.atom) [] known.at_hand in
    let right : IsRightEquation g s.variables e = right_clause g s.variables (l ∷ []) e ((known.sorted.0, at_hand), tt) k.is in
    let has : HasSort g e.variable.sort u = term_sorted g v e.variable.sort e.term right.sorted (gives_at_hand g v s.variables (term_variables e.term) right.at_hand sorts) in
    let gives : GivesSorts g w s.variables = still_gives g v e.variable u s.variables has (each_one e.variable s.variables s.variables (λ y at. one e.variable y right.variable at) (each_self s.variables)) sorts in
    let met : IsMet g w e = itself_there v x u ∙ sym (term_agrees g v w e.term (not_there v x u (term_variables e.term) (free_literal g l e k.is))) in
    let holds : IsLiteralTrue g w l = told_literal g w l e (known.sorted.0, gives_at_hand g w s.variables (atom_variables l.atom) at_hand gives) k.is met in
    let others : AllByRecursion (λ c. AgreesOn (clause_variables c) v w) after = all_map (Contains after) (λ c. AgreesOn (clause_variables c) v w) after (λ c at. not_there v x u (clause_variables c) (alone_in s (before ++ after) e.variable c k.alone (Contains-append_right before after c at))) (each_self after) in
    let rest = next w gives (all_ready_still g s test (before ++ (l ∷ []) ∷ []) after v w others ready) in
    let same = rest.kept (clause_variables (l ∷ [])) (others_leave g s (l ∷ []) (before ++ (l ∷ []) ∷ []) after (Contains-push before (l ∷ []))) in
    let still : IsLiteralTrue g rest.valuation l = literal_agrees g w rest.valuation l (all_first (SameAt w rest.valuation) (atom_variables l.atom) [] same) holds in
    record {
      valuation = rest.valuation;
      sorts = rest.sorts;
      are_true = ((λ a. subst (λ o. IsClauseTrue g rest.valuation (plain_part (record { literal = l; form = o } ∷ []))) (sym plain) (λ none. none.0 still)), rest.are_true);
      kept = λ xs leave. agrees_on v w rest.valuation xs (not_there v x u xs (leave.0 l refl k)) (rest.kept xs leave.1);
    }

-- a clause of one literal
own_next : (g : KoreSignature) (v : Valuation) (s : SymbolicState) (test : List ReadLiteral → Bool) (before after : List (List Literal)) (l : Literal) → HaveOneSort s → IsKnown g s (l ∷ []) → GivesSorts g v s.variables → (b : Bool) → test (read_clause g s (before ++ after) (l ∷ [])) ≡ b → (b ≡ true → IsReady g v s (before ++ after) (l ∷ []))
    → ReadyAll g v s test (before ++ (l ∷ []) ∷ []) after → ((w : Valuation) → GivesSorts g w s.variables → ReadyAll g w s test (before ++ (l ∷ []) ∷ []) after → SolvedLast g w s test (before ++ (l ∷ []) ∷ []) after) → SolvedLast g v s test before ((l ∷ []) ∷ after)
own_next g v s test before after l one known sorts false e r ready next = as_it_is g v s test before after (l ∷ []) (λ a. absurd (true_false (sym a ∙ e))) (next v sorts ready)
own_next g v s test before after l one known sorts true e r ready next = by (r refl)
  where
    by : IsReady g v s (before ++ after) (l ∷ []) → SolvedLast g v s test before ((l ∷ []) ∷ after)
    by (inl t) = as_it_is g v s test before after (l ∷ []) (λ a. t) (next v sorts ready)
    by (inr k) = solved_next g v s test before after l k.0 k.1.0 k.1.1 one known sorts ready next

pub solve_last : (g : KoreSignature) (s : SymbolicState) → HaveOneSort s → (test : List ReadLiteral → Bool) (before after : List (List Literal)) (v : Valuation) → AllByRecursion (IsKnown g s) after → GivesSorts g v s.variables → ReadyAll g v s test before after → SolvedLast g v s test before after
solve_last g s one test before [] v known sorts ready = record { valuation = v; sorts = sorts; are_true = tt; kept = λ xs leave. agrees_itself v xs }
solve_last g s one test before ([] ∷ after) v known sorts ready = as_it_is g v s test before after [] (λ a. absurd (ready.0 a)) (solve_last g s one test (before ++ [] ∷ []) after v known.1 sorts ready.1)
solve_last g s one test before ((l ∷ m ∷ c) ∷ after) v known sorts ready = as_it_is g v s test before after (l ∷ m ∷ c) ready.0 (solve_last g s one test (before ++ (l ∷ m ∷ c) ∷ []) after v known.1 sorts ready.1)
solve_last g s one test before ((l ∷ []) ∷ after) v known sorts ready =
    own_next g v s test before after l one known.0 sorts (test (read_clause g s (before ++ after) (l ∷ []))) refl ready.0 ready.1 (λ w gives still. solve_last g s one test (before ++ (l ∷ []) ∷ []) after w known.1 gives still)
