-- Where what a clause asks of numbers, truth values, tokens and heads holds, it is true by a plain literal, or it is an
-- equation that gives its variable.
use Rattle.std.proofs.Common.{◌≡◌, refl, sym, subst, ◌⊎◌, inl, inr, Bool, true, false, not, List, [], ◌∷◌, map, Option, Some, None}
use Rattle.std.specs.Prelude.{if◌then◌else◌, ◌||◌, ⊤}
use Rattle.std.specs.Bool.{beq}
use Rattle.std.specs.List.{AllByRecursion}
use Rattle.kp_kore.specs.Hooks.{Comparison, equal, whole_comparison, values_equal, values_different}
use Rattle.kp_kore.specs.Signature.{KoreSignature, SymbolMeaning, interpretation, meaning_of, is_truth_sort, has_only_numbers, has_only_truths}
use Rattle.kp_kore.specs.Value.{truth}
use Rattle.kp_kore.specs.Instance.{Valuation}
use Rattle.kp_symbolic.specs.Formulas.{NotAllFalse}
use Rattle.kp_symbolic.specs.Terms.{SymbolicTerm, unknown, known, headed, no_terms, next_term}
use Rattle.kp_symbolic.specs.States.{Atom, same, has_head, quoted, Literal, IsLiteralTrue, IsClauseTrue, SymbolicState}
use Rattle.kp_symbolic.specs.WellFormed.{IsGivenAtom}
use Rattle.kp_symbolic.specs.Solving.{Equation, equation_of}
use Rattle.kp_symbolic.specs.Plain.{WholePart, TokenPart, whole_part, token_part, Form, compares, is_truth, equates, asks, gives, comparing, equating, first_form, equality_form, call_form, truth_form, same_form, form_of, head_form, stands_in_none, solved_form, own_form, ReadLiteral, read_clause, plain_part}
use Rattle.kp_clause_demands.specs.Saying.{Says}
use Rattle.kp_clause_demands.proofs.FormLemmas.{form_says, head_says, IsHeadForm, head_asks}
use Rattle.kp_clause_demands.specs.Asking.{AsksTruly, IsAskedTruly}
use Rattle.kp_satisfiability.proofs.Asked.{IsHeadAsked}

none_some : {A P : Type 0} {m : A} → None ≡ Some m → P
none_some {A} {P} {m} e = absurd (never m e)
  where
    never : (m : A) → None ≡ Some m → ⊥
    never m h = cc

some_is : {A : Type 0} {r m : A} → Some r ≡ Some m → r ≡ m
some_is e = cc

-- ---- what a literal says in any clause is of numbers, truth values or tokens

abbrev pub IsBasic : Form → Type 0
IsBasic (asks x test b) = ⊥
IsBasic (gives e) = ⊥
IsBasic f = ⊤

abbrev AreBasic : Option Form → Type 0
AreBasic (Some f) = IsBasic f
AreBasic None = ⊤

comparing_basic : (b : Bool) (c : Comparison) (o p : Option WholePart) → AreBasic (comparing b c o p)
comparing_basic b c (Some m) (Some n) = tt
comparing_basic b c (Some m) None = tt
comparing_basic b c None p = tt

equating_basic : (b : Bool) (o p : Option TokenPart) → AreBasic (equating b o p)
equating_basic b (Some m) (Some n) = tt
equating_basic b (Some m) None = tt
equating_basic b None p = tt

first_basic : (o p : Option Form) → AreBasic o → AreBasic p → AreBasic (first_form o p)
first_basic (Some f) p h k = h
first_basic None p h k = k

equality_basic : (g : KoreSignature) (b : Bool) (t u : SymbolicTerm) → AreBasic (equality_form g b t u)
equality_basic g b t u = first_basic (comparing b equal (whole_part g t) (whole_part g u)) (equating b (token_part g t) (token_part g u)) (comparing_basic b equal (whole_part g t) (whole_part g u)) (equating_basic b (token_part g t) (token_part g u))

call_basic : (g : KoreSignature) (b : Bool) (m : SymbolMeaning) (t u : SymbolicTerm) → AreBasic (call_form g b m t u)
call_basic g b (interpretation (whole_comparison c)) t u = comparing_basic b c (whole_part g t) (whole_part g u)
call_basic g b (interpretation values_equal) t u = equality_basic g b t u
call_basic g b (interpretation values_different) t u = equality_basic g (not b) t u
call_basic g b _ t u = tt

truth_basic : (g : KoreSignature) (b : Bool) (t : SymbolicTerm) → AreBasic (truth_form g b t)
truth_basic g b (unknown x) = by (has_only_truths g x.sort)
  where
    by : (c : Bool) → AreBasic (if c then Some (is_truth x.name b) else None)
    by true = tt
    by false = tt
truth_basic g b (headed f (next_term t (next_term u no_terms))) = call_basic g b (meaning_of g f) t u
truth_basic g b _ = tt

same_basic : (g : KoreSignature) (a b : Bool) (t u : SymbolicTerm) → AreBasic (same_form g a b t u)
same_basic g true b t (known (truth c)) = truth_basic g (beq b c) t
same_basic g true b (known (truth c)) u = truth_basic g (beq b c) u
same_basic g true b t u = tt
same_basic g false b t u = equality_basic g b t u

atom_basic : (g : KoreSignature) (b : Bool) (a : Atom) → AreBasic (form_of g (record { holds = b; atom = a }))
atom_basic g b (same s t u) = same_basic g (is_truth_sort g s) b t u
atom_basic g b (has_head x test) = tt
atom_basic g b (quoted p rs) = tt

pub form_basic : (g : KoreSignature) (l : Literal) (f : Form) → form_of g l ≡ Some f → IsBasic f
form_basic g l f e = subst AreBasic e (atom_basic g l.holds l.atom)

-- and where it asks truly, it says so
says_truly : (g : KoreSignature) (v : Valuation) (f : Form) → IsBasic f → AsksTruly g v f → Says g v f
says_truly g v (compares c m n) i h = h
says_truly g v (is_truth x b) i h = h
says_truly g v (equates b p q) i h = h
says_truly g v (asks x test b) i h = absurd i
says_truly g v (gives e) i h = absurd i

basic_true : (g : KoreSignature) (v : Valuation) (l : Literal) (f : Form) → IsGivenAtom g v l.atom → form_of g l ≡ Some f → AsksTruly g v f → IsLiteralTrue g v l
basic_true g v l f given e h = (form_says g v l f given e).1 (says_truly g v f (form_basic g l f e) h)

-- ---- heads

said_of_head : (g : KoreSignature) (v : Valuation) (f : Form) → IsHeadForm f → IsHeadAsked g v (Some f) → Says g v f
said_of_head g v (asks x test b) i h = h
said_of_head g v (compares c m n) i h = absurd i
said_of_head g v (is_truth x b) i h = absurd i
said_of_head g v (equates b p q) i h = absurd i
said_of_head g v (gives e) i h = absurd i

head_true : (g : KoreSignature) (v : Valuation) (l : Literal) (f : Form) → IsGivenAtom g v l.atom → head_form g l ≡ Some f → IsHeadAsked g v (Some f) → IsLiteralTrue g v l
head_true g v l f given e h = (head_says g v l f given e).1 (said_of_head g v f (head_asks g l f e) h)

-- ---- solved equations

-- the literal is an equation whose variable stands in no other clause
pub record IsSolved (g : KoreSignature) (s : SymbolicState) (others : List (List Literal)) (l : Literal) : Type 0 where
  pub equation : Equation
  pub is : equation_of g (l ∷ []) ≡ Some equation
  pub alone : stands_in_none others equation.variable.name ≡ true

solved_is : (g : KoreSignature) (s : SymbolicState) (others : List (List Literal)) (l : Literal) (o : Option Equation) (f : Form) → equation_of g (l ∷ []) ≡ o → solved_form g s others o ≡ Some f → IsSolved g s others l
solved_is g s others l None f i e = none_some e
solved_is g s others l (Some q) f i e = by (has_only_numbers g q.variable.sort) (stands_in_none others q.variable.name) refl e
  where
    by : (a b : Bool) → stands_in_none others q.variable.name ≡ b → (if a || not b then None else Some (gives q)) ≡ Some f → IsSolved g s others l
    by true b j k = none_some k
    by false false j k = none_some k
    by false true j k = record { equation = q; is = i; alone = j }

-- ---- a clause of one literal

twice_not : {A B : Type 0} → (A → B) → ¬ (¬ A × ⊤) → ¬ (¬ B × ⊤)
twice_not f h n = h ((λ a. n.0 (f a)), tt)

never_none : {A : Type 0} → ¬ (¬ ⊥ × ⊤) → A
never_none h = absurd (h ((λ x. x), tt))

-- true by its own literal, where it is plain, or solved
abbrev pub IsOwnReady : KoreSignature → Valuation → SymbolicState → List (List Literal) → Literal → Option Form → Type 0
IsOwnReady g v s others l o = IsClauseTrue g v (plain_part (record { literal = l; form = o } ∷ [])) ⊎ (IsSolved g s others l × ((f : Form) × (o ≡ Some f)))

own_ready : (g : KoreSignature) (v : Valuation) (s : SymbolicState) (others : List (List Literal)) (l : Literal) → IsGivenAtom g v l.atom → IsHeadAsked g v (own_form g s others l) → ¬ (¬ IsAskedTruly g v (own_form g s others l) × ⊤) → IsOwnReady g v s others l (own_form g s others l)
own_ready g v s others l given heads asked = by_form (form_of g l) refl heads asked
  where
    by_solved : (o : Option Form) → solved_form g s others (equation_of g (l ∷ [])) ≡ o → ¬ (¬ IsAskedTruly g v o × ⊤) → IsOwnReady g v s others l o
    by_solved (Some f) e h = inr (solved_is g s others l (equation_of g (l ∷ [])) f refl e, (f, refl))
    by_solved None e h = never_none h

    by_head : (o : Option Form) → head_form g l ≡ o → IsHeadAsked g v (first_form o (solved_form g s others (equation_of g (l ∷ [])))) → ¬ (¬ IsAskedTruly g v (first_form o (solved_form g s others (equation_of g (l ∷ [])))) × ⊤) → IsOwnReady g v s others l (first_form o (solved_form g s others (equation_of g (l ∷ []))))
    by_head (Some f) e k h = inl (λ n. n.0 (head_true g v l f given e k))
    by_head None e k h = by_solved (solved_form g s others (equation_of g (l ∷ []))) refl h

    by_form : (o : Option Form) → form_of g l ≡ o → IsHeadAsked g v (first_form o (first_form (head_form g l) (solved_form g s others (equation_of g (l ∷ []))))) → ¬ (¬ IsAskedTruly g v (first_form o (first_form (head_form g l) (solved_form g s others (equation_of g (l ∷ []))))) × ⊤) → IsOwnReady g v s others l (first_form o (first_form (head_form g l) (solved_form g s others (equation_of g (l ∷ [])))))
    by_form (Some f) e k h = inl (twice_not (basic_true g v l f given e) h)
    by_form None e k h = by_head (head_form g l) refl k h

-- ---- a clause of several

none_asked : (g : KoreSignature) (v : Valuation) (c : List Literal) → AllByRecursion (λ l. IsGivenAtom g v l.atom) c → AllByRecursion (λ l. ¬ IsLiteralTrue g v l) (plain_part (map (λ l. record { literal = l; form = form_of g l }) c)) → AllByRecursion (λ (r : ReadLiteral). ¬ IsAskedTruly g v r.form) (map (λ l. record { literal = l; form = form_of g l }) c)
none_asked g v [] given none = tt
none_asked g v (l ∷ c) given none = by (form_of g l) refl none (none_asked g v c given.1)
  where
    by : (o : Option Form) → form_of g l ≡ o → AllByRecursion (λ m. ¬ IsLiteralTrue g v m) (plain_part (record { literal = l; form = o } ∷ map (λ l. record { literal = l; form = form_of g l }) c)) → (AllByRecursion (λ m. ¬ IsLiteralTrue g v m) (plain_part (map (λ l. record { literal = l; form = form_of g l }) c)) → AllByRecursion (λ (r : ReadLiteral). ¬ IsAskedTruly g v r.form) (map (λ l. record { literal = l; form = form_of g l }) c)) → AllByRecursion (λ (r : ReadLiteral). ¬ IsAskedTruly g v r.form) (record { literal = l; form = o } ∷ map (λ l. record { literal = l; form = form_of g l }) c)
    by (Some f) e n on = ((λ h. n.0 (basic_true g v l f given.0 e h)), on n.1)
    by None e n on = ((λ h. h), on n)

-- ---- clauses

-- the clause is true by a plain literal, or it is a solved equation
abbrev pub IsReady : KoreSignature → Valuation → SymbolicState → List (List Literal) → List Literal → Type 0
IsReady g v s others [] = ⊥
IsReady g v s others (l ∷ []) = IsOwnReady g v s others l (own_form g s others l)
IsReady g v s others (l ∷ m ∷ c) = IsClauseTrue g v (plain_part (read_clause g s others (l ∷ m ∷ c)))

pub clause_ready : (g : KoreSignature) (v : Valuation) (s : SymbolicState) (others : List (List Literal)) (c : List Literal) → AllByRecursion (λ l. IsGivenAtom g v l.atom) c → AllByRecursion (λ (r : ReadLiteral). IsHeadAsked g v r.form) (read_clause g s others c) → NotAllFalse (λ (r : ReadLiteral). IsAskedTruly g v r.form) (read_clause g s others c) → IsReady g v s others c
clause_ready g v s others [] given heads asked = asked tt
clause_ready g v s others (l ∷ []) given heads asked = own_ready g v s others l given.0 heads.0 asked
clause_ready g v s others (l ∷ m ∷ c) given heads asked = λ none. asked (none_asked g v (l ∷ m ∷ c) given none)
