-- Where the plain parts of clauses are true, what the clauses ask holds: so what can't be asked refutes them.
use Rattle.std.proofs.Common.{◌≡◌, refl, sym, ◌∙◌, subst, Bool, true, false, List, [], ◌∷◌, ◌++◌, map, Option, Some, None}
use Rattle.std.specs.Prelude.{if◌then◌else◌}
use Rattle.std.specs.List.{AllByRecursion}
use Rattle.kp_kore.specs.Signature.{KoreSignature}
use Rattle.kp_kore.specs.Instance.{Valuation}
use Rattle.kp_symbolic.specs.States.{Literal, IsLiteralTrue, AreTrue, SymbolicState}
use Rattle.kp_symbolic.specs.WellFormed.{IsGivenAtom, AreGivenLiterals}
use Rattle.kp_symbolic.specs.Solving.{Equation, equation_of}
use Rattle.kp_symbolic.specs.Plain.{Form, compares, is_truth, equates, asks, gives, first_form, form_of, head_form, solved_form, own_form, ReadLiteral, read_clause, read_from, read_clauses, plain_part}
use Rattle.kp_clause_demands.specs.Saying.{Says}
use Rattle.kp_clause_demands.proofs.FormLemmas.{form_says, IsHeadForm, head_asks}
use Rattle.kp_clause_demands.specs.Asking.{AsksTruly, IsAskedTruly, AreAskedTruly}

none_some : {A P : Type 0} {m : A} → None ≡ Some m → P
none_some {A} {P} {m} e = absurd (never m e)
  where
    never : (m : A) → None ≡ Some m → ⊥
    never m h = cc

some_is : {A : Type 0} {r m : A} → Some r ≡ Some m → r ≡ m
some_is e = cc

-- ---- one literal

truly : (g : KoreSignature) (v : Valuation) (f : Form) → Says g v f → AsksTruly g v f
truly g v (compares c m n) s = s
truly g v (is_truth x b) s = s
truly g v (equates b p q) s = s
truly g v (asks x test b) s = tt
truly g v (gives e) s = tt

asks_truly : (g : KoreSignature) (v : Valuation) (f : Form) → IsHeadForm f → AsksTruly g v f
asks_truly g v (asks x test b) i = tt
asks_truly g v (compares c m n) i = absurd i
asks_truly g v (is_truth x b) i = absurd i
asks_truly g v (equates b p q) i = absurd i
asks_truly g v (gives e) i = absurd i

solved_asks : (g : KoreSignature) (v : Valuation) (s : SymbolicState) (others : List (List Literal)) (o : Option Equation) (f : Form) → solved_form g s others o ≡ Some f → AsksTruly g v f
solved_asks g v s others None f e = none_some e
solved_asks g v s others (Some q) f e = by _ e
  where
    by : (b : Bool) → (if b then None else Some (gives q)) ≡ Some f → AsksTruly g v f
    by true h = none_some h
    by false h = subst (AsksTruly g v) (some_is h) tt

-- a true literal asks truly
abbrev pub AsksWell : KoreSignature → Valuation → ReadLiteral → Type 0
AsksWell g v l = (f : Form) → l.form ≡ Some f → IsLiteralTrue g v l.literal → AsksTruly g v f

form_asks : (g : KoreSignature) (v : Valuation) (l : Literal) → IsGivenAtom g v l.atom → AsksWell g v (record { literal = l; form = form_of g l })
form_asks g v l given f e h = truly g v f ((form_says g v l f given e).0 h)

own_asks : (g : KoreSignature) (v : Valuation) (s : SymbolicState) (others : List (List Literal)) (l : Literal) → IsGivenAtom g v l.atom → AsksWell g v (record { literal = l; form = own_form g s others l })
own_asks g v s others l given f e h = by_form (form_of g l) refl e
  where
    by_head : (o : Option Form) → head_form g l ≡ o → first_form o (solved_form g s others (equation_of g (l ∷ []))) ≡ Some f → AsksTruly g v f
    by_head (Some k) is q = asks_truly g v f (head_asks g l f (is ∙ q))
    by_head None is q = solved_asks g v s others (equation_of g (l ∷ [])) f q

    by_form : (o : Option Form) → form_of g l ≡ o → first_form o (first_form (head_form g l) (solved_form g s others (equation_of g (l ∷ [])))) ≡ Some f → AsksTruly g v f
    by_form (Some k) is q = form_asks g v l given f (subst (λ o. o ≡ Some f) (sym is) q) h
    by_form None is q = by_head (head_form g l) refl q

-- ---- clauses

clause_asks_each : (g : KoreSignature) (v : Valuation) (c : List Literal) → AllByRecursion (λ l. IsGivenAtom g v l.atom) c → AllByRecursion (AsksWell g v) (map (λ l. record { literal = l; form = form_of g l }) c)
clause_asks_each g v [] given = tt
clause_asks_each g v (l ∷ c) given = (form_asks g v l given.0, clause_asks_each g v c given.1)

clause_asks : (g : KoreSignature) (v : Valuation) (s : SymbolicState) (others : List (List Literal)) (c : List Literal) → AllByRecursion (λ l. IsGivenAtom g v l.atom) c → AllByRecursion (AsksWell g v) (read_clause g s others c)
clause_asks g v s others [] given = tt
clause_asks g v s others (l ∷ []) given = (own_asks g v s others l given.0, tt)
clause_asks g v s others (l ∷ m ∷ c) given = clause_asks_each g v (l ∷ m ∷ c) given

pub clauses_ask : (g : KoreSignature) (v : Valuation) (s : SymbolicState) (before cs : List (List Literal)) → AreGivenLiterals g v cs → AllByRecursion (AllByRecursion (AsksWell g v)) (read_from g s before cs)
clauses_ask g v s before [] given = tt
clauses_ask g v s before (c ∷ cs) given = (clause_asks g v s (before ++ cs) c given.0, clauses_ask g v s (before ++ c ∷ []) cs given.1)

-- where none of the literals asks truly, none of the plain part is true
none_true : (g : KoreSignature) (v : Valuation) (c : List ReadLiteral) → AllByRecursion (AsksWell g v) c → AllByRecursion (λ l. ¬ IsAskedTruly g v l.form) c → AllByRecursion (λ l. ¬ IsLiteralTrue g v l) (plain_part c)
none_true g v [] well none = tt
none_true g v (l ∷ c) well none = by l.form refl (none_true g v c well.1 none.1)
  where
    by : (o : Option Form) → l.form ≡ o → AllByRecursion (λ m. ¬ IsLiteralTrue g v m) (plain_part c) → AllByRecursion (λ m. ¬ IsLiteralTrue g v m) (plain_part (l ∷ c))
    by (Some f) e rest = rw e ((λ h. none.0 (subst (IsAskedTruly g v) (sym e) (well.0 f e h))), rest)
    by None e rest = rw e rest

pub asked_in_parts : (g : KoreSignature) (v : Valuation) (cs : List (List ReadLiteral)) → AllByRecursion (AllByRecursion (AsksWell g v)) cs → AreTrue g v (map plain_part cs) → AreAskedTruly g v cs
asked_in_parts g v [] well h = tt
asked_in_parts g v (c ∷ cs) well h = ((λ none. h.0 (none_true g v c well.0 none)), asked_in_parts g v cs well.1 h.1)

-- where a plain literal of each clause may be true, what the clauses ask may hold
pub asked_where_true : (g : KoreSignature) (s : SymbolicState) (v : Valuation) → AreGivenLiterals g v s.clauses → AreTrue g v (map plain_part (read_clauses g s)) → AreAskedTruly g v (read_clauses g s)
asked_where_true g s v given h = asked_in_parts g v (read_clauses g s) (clauses_ask g v s [] s.clauses given) h
