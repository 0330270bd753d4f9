-- Where the clauses of a state are true, heads are as they ask; of which variables they ask, and where.
use Rattle.std.proofs.Common.{◌≡◌, refl, sym, subst, Bool, true, false, not, List, [], ◌∷◌, ◌++◌, map, Option, Some, None}
use Rattle.std.specs.Prelude.{if◌then◌else◌, MatchBool, ⊤}
use Rattle.std.specs.Bool.{beq}
use Rattle.std.specs.List.{AllByRecursion, Contains, flat_map, filter}
use Rattle.kp_kore.specs.Hooks.{values_equal, values_different}
use Rattle.kp_kore.specs.Parts.{SortedName}
use Rattle.kp_kore.specs.Signature.{KoreSignature, SymbolMeaning, interpretation, meaning_of}
use Rattle.kp_kore.specs.Value.{truth, constructed, no_values, head_of, HasSort}
use Rattle.kp_kore.specs.Instance.{Valuation}
use Rattle.kp_kore.proofs.ListLemmas.{all_append, all_left, all_right, all_filter}
use Rattle.kp_symbolic.specs.Terms.{SymbolicTerm, unknown, known, headed, no_terms, next_term, term_variables}
use Rattle.kp_symbolic.specs.States.{PassesHead, Atom, same, has_head, quoted, atom_variables, Literal, IsLiteralTrue, AreTrue, clause_variables, SymbolicState, CanBeTrue}
use Rattle.kp_symbolic.specs.WellFormed.{IsGivenAtom, AreGivenLiterals, AreAtHand}
use Rattle.kp_symbolic.specs.Solving.{Equation, equation_of}
use Rattle.kp_symbolic.specs.Plain.{Form, compares, is_truth, equates, asks, gives, first_form, form_of, constant_form, head_by_call, head_by_truth, head_by_sides, head_form, solved_form, own_form, ReadLiteral, read_clause, read_from, read_clauses}
use Rattle.kp_satisfiability.specs.Read.{HasSortedClauses}
use Rattle.kp_clause_demands.specs.Saying.{Says}
use Rattle.kp_clause_demands.proofs.FormLemmas.{head_says, IsHeadForm, head_asks}
use Rattle.kp_satisfiability.proofs.Asked.{asked_of, asked_in, IsHeadAsked, AreHeadsAsked, CanHaveHeads}
use Rattle.kp_satisfiability.proofs.GivenLemmas.{literals_given}
use Rattle.kp_satisfiability.proofs.HeadLemmas.{AsksAlone}
use Rattle.kp_satisfiability.proofs.Ready.{IsBasic, form_basic}

none_some : {A P : Type 0} {m : A} → None ≡ Some m → P
none_some {A} {P} {m} e = absurd (never m e)
  where
    never : (m : A) → None ≡ Some m → ⊥
    never m h = cc

-- ---- what is said in any clause asks for no head

basic_head : (g : KoreSignature) (v : Valuation) (f : Form) → IsBasic f → IsHeadAsked g v (Some f)
basic_head g v (compares c m n) i = tt
basic_head g v (is_truth x b) i = tt
basic_head g v (equates b p q) i = tt
basic_head g v (asks x test b) i = absurd i
basic_head g v (gives e) i = absurd i

basic_asked : (f : Form) → IsBasic f → asked_of (Some f) ≡ []
basic_asked (compares c m n) i = refl
basic_asked (is_truth x b) i = refl
basic_asked (equates b p q) i = refl
basic_asked (asks x test b) i = absurd i
basic_asked (gives e) i = absurd i

form_head : (g : KoreSignature) (v : Valuation) (l : Literal) (o : Option Form) → form_of g l ≡ o → IsHeadAsked g v o
form_head g v l (Some f) e = basic_head g v f (form_basic g l f e)
form_head g v l None e = tt

form_asked : (g : KoreSignature) (l : Literal) (o : Option Form) → form_of g l ≡ o → asked_of o ≡ []
form_asked g l (Some f) e = basic_asked f (form_basic g l f e)
form_asked g l None e = refl

-- ---- a clause of one literal

not_twice : (b : Bool) (P : Type 0) → ¬ (¬ MatchBool b (¬ ¬ P) (¬ ¬ ¬ P) × ⊤) → MatchBool b (¬ ¬ P) (¬ ¬ ¬ P)
not_twice true P h = λ n. h ((λ k. k n), tt)
not_twice false P h = λ n. h ((λ k. k n), tt)

asked_twice : (g : KoreSignature) (v : Valuation) (f : Form) → IsHeadForm f → ¬ (¬ Says g v f × ⊤) → IsHeadAsked g v (Some f)
asked_twice g v (asks x test b) i h = not_twice b (PassesHead g test (head_of (v x.name))) h
asked_twice g v (compares c m n) i h = absurd i
asked_twice g v (is_truth x b) i h = absurd i
asked_twice g v (equates b p q) i h = absurd i
asked_twice g v (gives e) i h = absurd i

head_head : (g : KoreSignature) (v : Valuation) (l : Literal) (f : Form) → IsGivenAtom g v l.atom → head_form g l ≡ Some f → ¬ (¬ IsLiteralTrue g v l × ⊤) → IsHeadAsked g v (Some f)
head_head g v l f given e h = asked_twice g v f (head_asks g l f e) (λ n. h ((λ t. n.0 ((head_says g v l f given e).0 t)), tt))

solved_head : (g : KoreSignature) (v : Valuation) (s : SymbolicState) (others : List (List Literal)) (o : Option Equation) → IsHeadAsked g v (solved_form g s others o)
solved_head g v s others None = tt
solved_head g v s others (Some q) = by _
  where
    by : (b : Bool) → IsHeadAsked g v (if b then None else Some (gives q))
    by true = tt
    by false = tt

own_head : (g : KoreSignature) (v : Valuation) (s : SymbolicState) (others : List (List Literal)) (l : Literal) → IsGivenAtom g v l.atom → ¬ (¬ IsLiteralTrue g v l × ⊤) → IsHeadAsked g v (own_form g s others l)
own_head g v s others l given h = by_form (form_of g l) refl
  where
    by_head : (o : Option Form) → head_form g l ≡ o → IsHeadAsked g v (first_form o (solved_form g s others (equation_of g (l ∷ []))))
    by_head (Some f) e = head_head g v l f given e h
    by_head None e = solved_head g v s others (equation_of g (l ∷ []))

    by_form : (o : Option Form) → form_of g l ≡ o → IsHeadAsked g v (first_form o (first_form (head_form g l) (solved_form g s others (equation_of g (l ∷ [])))))
    by_form (Some f) e = form_head g v l (Some f) e
    by_form None e = by_head (head_form g l) refl

-- ---- clauses

each_head : (g : KoreSignature) (v : Valuation) (c : List Literal) → AllByRecursion (λ (r : ReadLiteral). IsHeadAsked g v r.form) (map (λ l. record { literal = l; form = form_of g l }) c)
each_head g v [] = tt
each_head g v (l ∷ c) = (form_head g v l (form_of g l) refl, each_head g v c)

clause_heads : (g : KoreSignature) (v : Valuation) (s : SymbolicState) (others : List (List Literal)) (c : List Literal) → AllByRecursion (λ l. IsGivenAtom g v l.atom) c → ¬ AllByRecursion (λ l. ¬ IsLiteralTrue g v l) c → AllByRecursion (λ (r : ReadLiteral). IsHeadAsked g v r.form) (read_clause g s others c)
clause_heads g v s others [] given h = tt
clause_heads g v s others (l ∷ []) given h = (own_head g v s others l given.0 h, tt)
clause_heads g v s others (l ∷ m ∷ c) given h = each_head g v (l ∷ m ∷ c)

all_heads : (g : KoreSignature) (v : Valuation) (s : SymbolicState) (before cs : List (List Literal)) → AreGivenLiterals g v cs → AreTrue g v cs → AreHeadsAsked g v (read_from g s before cs)
all_heads g v s before [] given h = tt
all_heads g v s before (c ∷ cs) given h = (clause_heads g v s (before ++ cs) c given.0 h.0, all_heads g v s (before ++ c ∷ []) cs given.1 h.1)

pub heads_where_true : (g : KoreSignature) (s : SymbolicState) → HasSortedClauses g s → (h : CanBeTrue g s.variables s.clauses) → AreHeadsAsked g h.valuation (read_clauses g s)
heads_where_true g s well h = all_heads g h.valuation s [] s.clauses (literals_given g s h.valuation well h.sorts) h.are_true

-- ---- of which variables heads are asked

constant_at : (hand : List SortedName) (b : Bool) (t u : SymbolicTerm) → AllByRecursion (Contains hand) (term_variables t ++ term_variables u) → AllByRecursion (Contains hand) (asked_of (constant_form b t u))
constant_at hand b (unknown x) (known (constructed c no_values)) h = h
constant_at hand b (known (constructed c no_values)) (unknown x) h = h
constant_at hand b t u h = tt

call_at : (hand : List SortedName) (b : Bool) (m : SymbolMeaning) (t u : SymbolicTerm) → AllByRecursion (Contains hand) (term_variables t ++ term_variables u) → AllByRecursion (Contains hand) (asked_of (head_by_call b m t u))
call_at hand b (interpretation values_equal) t u h = constant_at hand b t u h
call_at hand b (interpretation values_different) t u h = constant_at hand (not b) t u h
call_at hand b m t u h = tt

truth_at : (g : KoreSignature) (hand : List SortedName) (b : Bool) (t : SymbolicTerm) → AllByRecursion (Contains hand) (term_variables t) → AllByRecursion (Contains hand) (asked_of (head_by_truth g b t))
truth_at g hand b (headed f (next_term t (next_term u no_terms))) h =
    let behind = term_variables u ++ [] in
    call_at hand b (meaning_of g f) t u (all_append (Contains hand) (term_variables t) (term_variables u) (all_left (Contains hand) (term_variables t) behind h) (all_left (Contains hand) (term_variables u) [] (all_right (Contains hand) (term_variables t) behind h)))
truth_at g hand b t h = tt

sides_at : (g : KoreSignature) (hand : List SortedName) (b : Bool) (t u : SymbolicTerm) → AllByRecursion (Contains hand) (term_variables t ++ term_variables u) → AllByRecursion (Contains hand) (asked_of (head_by_sides g b t u))
sides_at g hand b t (known (truth c)) h = truth_at g hand (beq b c) t (all_left (Contains hand) (term_variables t) [] h)
sides_at g hand b (known (truth c)) u h = truth_at g hand (beq b c) u h
sides_at g hand b t u h = constant_at hand b t u h

head_at : (g : KoreSignature) (hand : List SortedName) (b : Bool) (a : Atom) → AllByRecursion (Contains hand) (atom_variables a) → AllByRecursion (Contains hand) (asked_of (head_form g (record { holds = b; atom = a })))
head_at g hand b (has_head x test) h = h
head_at g hand b (same s t u) h = sides_at g hand b t u h
head_at g hand b (quoted p rs) h = tt

solved_at : (g : KoreSignature) (s : SymbolicState) (others : List (List Literal)) (hand : List SortedName) (o : Option Equation) → AllByRecursion (Contains hand) (asked_of (solved_form g s others o))
solved_at g s others hand None = tt
solved_at g s others hand (Some q) = by _
  where
    by : (b : Bool) → AllByRecursion (Contains hand) (asked_of (if b then None else Some (gives q)))
    by true = tt
    by false = tt

own_at : (g : KoreSignature) (s : SymbolicState) (others : List (List Literal)) (hand : List SortedName) (l : Literal) → AllByRecursion (Contains hand) (atom_variables l.atom) → AllByRecursion (Contains hand) (asked_of (own_form g s others l))
own_at g s others hand l h = by_form (form_of g l) refl
  where
    by_head : (o : Option Form) → head_form g l ≡ o → AllByRecursion (Contains hand) (asked_of (first_form o (solved_form g s others (equation_of g (l ∷ [])))))
    by_head (Some f) e = subst (λ o. AllByRecursion (Contains hand) (asked_of o)) e (head_at g hand l.holds l.atom h)
    by_head None e = solved_at g s others hand (equation_of g (l ∷ []))

    by_form : (o : Option Form) → form_of g l ≡ o → AllByRecursion (Contains hand) (asked_of (first_form o (first_form (head_form g l) (solved_form g s others (equation_of g (l ∷ []))))))
    by_form (Some f) e = subst (AllByRecursion (Contains hand)) (sym (basic_asked f (form_basic g l f e))) tt
    by_form None e = by_head (head_form g l) refl

none_of_each : (g : KoreSignature) (c : List Literal) → AllByRecursion (λ (r : ReadLiteral). asked_of r.form ≡ []) (map (λ l. record { literal = l; form = form_of g l }) c)
none_of_each g [] = tt
none_of_each g (l ∷ c) = (form_asked g l (form_of g l) refl, none_of_each g c)

none_at : (hand : List SortedName) (c : List ReadLiteral) → AllByRecursion (λ (r : ReadLiteral). asked_of r.form ≡ []) c → AllByRecursion (Contains hand) (flat_map (λ l. asked_of l.form) c)
none_at hand [] h = tt
none_at hand (l ∷ c) h = all_append (Contains hand) (asked_of l.form) (flat_map (λ l. asked_of l.form) c) (subst (AllByRecursion (Contains hand)) (sym h.0) tt) (none_at hand c h.1)

clause_at : (g : KoreSignature) (s : SymbolicState) (others : List (List Literal)) (hand : List SortedName) (c : List Literal) → AreAtHand (clause_variables c) hand → AllByRecursion (Contains hand) (flat_map (λ l. asked_of l.form) (read_clause g s others c))
clause_at g s others hand [] h = tt
clause_at g s others hand (l ∷ []) h = all_append (Contains hand) (asked_of (own_form g s others l)) [] (own_at g s others hand l (all_left (Contains hand) (atom_variables l.atom) [] h)) tt
clause_at g s others hand (l ∷ m ∷ c) h = none_at hand (read_clause g s others (l ∷ m ∷ c)) (none_of_each g (l ∷ m ∷ c))

all_at : (g : KoreSignature) (s : SymbolicState) (hand : List SortedName) (before cs : List (List Literal)) → AllByRecursion (λ c. AreAtHand (clause_variables c) hand) cs → AllByRecursion (Contains hand) (asked_in (read_from g s before cs))
all_at g s hand before [] h = tt
all_at g s hand before (c ∷ cs) h =
    all_append (Contains hand) (flat_map (λ l. asked_of l.form) (read_clause g s (before ++ cs) c)) (asked_in (read_from g s (before ++ c ∷ []) cs))
    (clause_at g s (before ++ cs) hand c h.0) (all_at g s hand (before ++ c ∷ []) cs h.1)

pub asked_at_hand : (g : KoreSignature) (s : SymbolicState) → HasSortedClauses g s → AllByRecursion (Contains s.variables) (asked_in (read_clauses g s))
asked_at_hand g s well = all_at g s s.variables [] s.clauses well.clauses_at_hand

clause_alone : (g : KoreSignature) (s : SymbolicState) (others : List (List Literal)) (c : List Literal) → AsksAlone (read_clause g s others c)
clause_alone g s others [] = tt
clause_alone g s others (l ∷ []) = tt
clause_alone g s others (l ∷ m ∷ c) = none_of_each g (l ∷ m ∷ c)

all_alone : (g : KoreSignature) (s : SymbolicState) (before cs : List (List Literal)) → AllByRecursion AsksAlone (read_from g s before cs)
all_alone g s before [] = tt
all_alone g s before (c ∷ cs) = (clause_alone g s (before ++ cs) c, all_alone g s (before ++ c ∷ []) cs)

pub asked_alone : (g : KoreSignature) (s : SymbolicState) → AllByRecursion AsksAlone (read_clauses g s)
asked_alone g s = all_alone g s [] s.clauses

-- ---- some of the clauses

pub some_asked : (P : SortedName → Type 0) (test : List ReadLiteral → Bool) (cs : List (List ReadLiteral)) → AllByRecursion P (asked_in cs) → AllByRecursion P (asked_in (filter test cs))
some_asked P test [] h = tt
some_asked P test (c ∷ cs) h = by (test c) (some_asked P test cs (all_right P own (asked_in cs) h))
  where
    own : List SortedName
    own = flat_map (λ l. asked_of l.form) c

    by : (b : Bool) → AllByRecursion P (asked_in (filter test cs)) → AllByRecursion P (asked_in (if b then c ∷ filter test cs else filter test cs))
    by true rest = all_append P own (asked_in (filter test cs)) (all_left P own (asked_in cs) h) rest
    by false rest = rest

pub some_heads : (g : KoreSignature) (test : List ReadLiteral → Bool) (cs : List (List ReadLiteral)) → CanHaveHeads g cs → CanHaveHeads g (filter test cs)
some_heads g test cs h = record {
  valuation = h.valuation;
  sorts = some_asked (λ x. HasSort g x.sort (h.valuation x.name)) test cs h.sorts;
  are_true = all_filter (AllByRecursion (λ (l : ReadLiteral). IsHeadAsked g h.valuation l.form)) test cs h.are_true;
}
