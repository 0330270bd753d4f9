-- A constructor that stands neither in the state nor in the rules stands in no sourced term and atom.
use Rattle.std.proofs.Common.{◌≡◌, subst, inl, inr, ◌⊎◌, Bool, true, false, not, ◌&&◌, List, [], ◌∷◌, ◌++◌, map, Some, None}
use Rattle.std.specs.Prelude.{if◌then◌else◌, is_some}
use Rattle.std.specs.List.{AllByRecursion, filter}
use Rattle.kp_kore.specs.Syntax.{Text, KoreSort}
use Rattle.kp_kore.specs.Parts.{SortedName, free_variables}
use Rattle.kp_kore.specs.Signature.{KoreSignature, construction, meaning_of, Head}
use Rattle.kp_kore.specs.Instance.{is_named}
use Rattle.kp_kore.specs.Rules.{RuleBody, rewrite}
use Rattle.kp_kore.specs.Steps.{AnyByRecursion}
use Rattle.kp_kore.specs.Value.{constructed, Values, no_values, next_value}
use Rattle.kp_kore.proofs.TurnLemmas.{of_member}
use Rattle.kp_symbolic.specs.Terms.{SymbolicTerm, unknown, offset, known, headed, SymbolicTerms, no_terms, next_term, Replaced, replacement_for}
use Rattle.kp_symbolic.specs.Formulas.{Formula, fact, all_of, one_of, Formulas, no_formulas, next_formula}
use Rattle.kp_symbolic.specs.States.{HeadTest, one_head, head_of_sort, Atom, same, has_head, quoted, Literal, SymbolicState}
use Rattle.kp_symbolic.specs.Alike.{literals_same}
use Rattle.kp_symbolic.specs.Folding.{replaced}
use Rattle.kp_symbolic.specs.Heads.{passes_head}
use Rattle.kp_symbolic.specs.Opening.{literal_fact, opened_test}
use Rattle.kp_symbolic.specs.Clauses.{opened_atom}
use Rattle.kp_symbolic.specs.Solving.{Equation, equation_of_atom, replacement, opened_with}
use Rattle.kp_symbolic.specs.Sources.{facts_of, all_facts_of}
use Rattle.kp_symbolic.proofs.Distribution.{kept_are}
use Rattle.kp_symbolic.proofs.Facts.{AllFacts, AllIn, clauses_have}
use Rattle.kp_symbolic_laws.proofs.Keeping.{put_into as put_in_all}
use Rattle.kp_rules.specs.Skeletons.{Form, one_of as variable_form, fixed, built, Forms}
use Rattle.kp_case_laws.specs.Narrowings.{head_clauses, are_never, has_other_head, all_unknown, test_of, tested, shared_heads, other_heads, heads_outside, heads_inside}
use Rattle.kp_case_laws.specs.Courses.{Equality, all_fixed}
use Rattle.kp_case_laws.specs.Rows.{HasMembers}
use Rattle.kp_unify.specs.Matched.{HaveOnePlace, first, later, LiesOn, itself, inside, IsBindingAt, IsEqualityAt, of_variable, of_value}
use Rattle.kp_unify.specs.Comes.{IsAskedTerm, of_sort, of_members, TellsHead, beyond, another, inside as inside_sort, outside}
use Rattle.kp_step.specs.Conditions.{condition_clauses}
use Rattle.kp_step.specs.Remainders.{IsOneOf}
use Rattle.kp_source_laws.specs.Sourced.{TellsEquation, by_form, as_it_is, HasFact, IsSourcedTerm, of_state, put_into, IsSourcedAtom, stands, of_condition, equated, becomes, has_told_head, opened_from, opened_by, written_for, written_for_all}
use Rattle.kp_source_laws.specs.Symbols.{AvoidValues, AvoidsTerm, AvoidTerms, AvoidsForm, AvoidForms, PutAvoids, AvoidsAtom, ClausesAvoid}
use Rattle.kp_source_laws.specs.Laws.{StandsNowhere, NowhereIsNoneSourced}
use Rattle.kp_source_laws.proofs.Facts.{in_clauses}
use Rattle.kp_source_laws.proofs.Equations.{InCall, of_same}
use Rattle.kp_source_laws.proofs.AvoidTerms.{applied_avoids, arguments_avoid, put_avoids}
use Rattle.kp_source_laws.proofs.AvoidConditions.{found_avoids, condition_avoids}
use Rattle.kp_source_laws.proofs.AvoidFacts.{Avoids, same_avoids, test_avoids}

-- ---- facts

abbrev HasAtom : List Literal → Atom → Type 0
HasAtom c a = AnyByRecursion (λ (l : Literal). l.atom ≡ a) c

either_part : (c d : List Literal) (a : Atom) → HasAtom (c ++ d) a → HasAtom c a ⊎ HasAtom d a
either_part [] d a k = inr k
either_part (l ∷ c) d a (inl e) = inl (inl e)
either_part (l ∷ c) d a (inr k) = further (either_part c d a k)
  where
    further : HasAtom c a ⊎ HasAtom d a → HasAtom (l ∷ c) a ⊎ HasAtom d a
    further (inl i) = inl (inr i)
    further (inr i) = inr i

mutual
  fact_of : (P : Atom → Type 0) (f : Formula Literal) (a : Atom) → AllFacts (λ l. P l.atom) f → HasFact f a → P a
  fact_of P (fact l) a h (inl e) = subst P e h
  fact_of P (fact l) a h (inr k) = absurd k
  fact_of P (all_of fs) a h k = fact_among P fs a h k
  fact_of P (one_of fs) a h k = fact_among P fs a h k

  fact_among : (P : Atom → Type 0) (fs : Formulas Literal) (a : Atom) → AllIn (λ l. P l.atom) fs → HasAtom (all_facts_of fs) a → P a
  fact_among P no_formulas a h k = absurd k
  fact_among P (next_formula f fs) a h k = by (either_part (facts_of f) (all_facts_of fs) a k) (λ i. fact_of P f a h.0 i) (λ i. fact_among P fs a h.1 i)
    where
      by : HasAtom (facts_of f) a ⊎ HasAtom (all_facts_of fs) a → (HasFact f a → P a) → (HasAtom (all_facts_of fs) a → P a) → P a
      by (inl i) x y = x i
      by (inr i) x y = y i

-- ---- what an atom opens to

opened_avoids : (g : KoreSignature) (f : Text) (alone b : Bool) (a : Atom) → AvoidsAtom f a → AllFacts (Avoids f) (opened_atom g alone b a)
opened_avoids g f alone b (same s t u) k = same_avoids g f alone b s t u k.0 k.1
opened_avoids g f alone b (has_head x test) k = test_avoids g f b test (literal_fact b (has_head x test)) (unknown x) tt
opened_avoids g f alone b (quoted p rs) k = k

all_put : (g : KoreSignature) (f : Text) (e : Equation) (rs tail : List Replaced) → meaning_of g f ≡ construction → AvoidsTerm f e.term → PutAvoids f rs → PutAvoids f tail → PutAvoids f (put_in_all g e rs ++ tail)
all_put g f e [] tail m k a b = b
all_put g f e (r ∷ rs) tail m k a b = (put_avoids g f e r.term m k a.0, all_put g f e rs tail m k a.1 b)

put_if : (f : Text) (e : Equation) (b : Bool) → AvoidsTerm f e.term → PutAvoids f (if b then replacement e else [])
put_if f e true k = (k, tt)
put_if f e false k = tt

with_avoids : (g : KoreSignature) (f : Text) (e : Equation) (alone b : Bool) (a : Atom) → meaning_of g f ≡ construction → AvoidsTerm f e.term → AvoidsAtom f a → AllFacts (Avoids f) (opened_with g e alone b a)
with_avoids g f e alone b (same s t u) m k a = same_avoids g f alone b s (replaced g (replacement e) t) (replaced g (replacement e) u) (put_avoids g f e t m k a.0) (put_avoids g f e u m k a.1)
with_avoids g f e alone b (has_head x test) m k a = test_avoids g f b test (literal_fact b (has_head x test)) (replaced g (replacement e) (unknown x)) tt
with_avoids g f e alone b (quoted p rs) m k a =
    let wanted = is_named e.variable.name (free_variables p) && not (is_some (replacement_for rs e.variable.name)) in
    all_put g f e rs (if wanted then replacement e else []) m k a (put_if f e wanted k)

-- ---- equations

in_call : (f : Text) (t : SymbolicTerm) → AvoidsTerm f t → InCall (AvoidsTerm f) t
in_call f (headed h (next_term t (next_term u no_terms))) a = (a.1.0, a.1.1.0)
in_call f (headed h no_terms) a = tt
in_call f (headed h (next_term t no_terms)) a = tt
in_call f (headed h (next_term t (next_term u (next_term v ts)))) a = tt
in_call f (unknown x) a = tt
in_call f (offset x c) a = tt
in_call f (known u) a = tt

none_is_some : {A : Type 0} {a : A} → None ≡ Some a → ⊥
none_is_some e = cc

equation_avoids : (g : KoreSignature) (f : Text) (b : Bool) (a : Atom) (e : Equation) → AvoidsAtom f a → equation_of_atom g b a ≡ Some e → AvoidsTerm f e.term
equation_avoids g f b (same s t u) e a q = (of_same g (AvoidsTerm f) b s t u a.0 a.1 (in_call f t a.0) (in_call f u a.1) e q).1
equation_avoids g f b (has_head x test) e a q = absurd (none_is_some q)
equation_avoids g f b (quoted p rs) e a q = absurd (none_is_some q)

told_avoids : (g : KoreSignature) (f : Text) (a : Atom) (e : Equation) → AvoidsAtom f a → TellsEquation g a e → AvoidsTerm f e.term
told_avoids g f a e k (by_form b _ _ q) = equation_avoids g f b a e k q
told_avoids g f _ e k (as_it_is _) = k.1

-- ---- left sides

fixed_avoid : (f : Text) (us : Values) → AvoidValues f us → AvoidForms f (all_fixed us)
fixed_avoid f no_values a = tt
fixed_avoid f (next_value u us) a = (a.0, fixed_avoid f us a.1)

-- what a form asks has another name, and so have its members
members_of : (f : Text) (form : Form) (c : Text) (forms : Forms) → AvoidsForm f form → HasMembers form c forms → (¬ (c ≡ f)) × AvoidForms f forms
members_of f (built d ks) c forms a h = (subst (λ x. ¬ (x ≡ f)) h.0 a.0, subst (AvoidForms f) h.1 a.1)
members_of f (fixed (constructed d us)) c forms a h = (subst (λ x. ¬ (x ≡ f)) h.0 a.0, subst (AvoidForms f) h.1 (fixed_avoid f us a.1))
members_of f _ c forms a h = absurd h

term_at : (f : Text) (forms : Forms) (ts : SymbolicTerms) (form : Form) (t : SymbolicTerm) → HaveOnePlace forms ts form t → AvoidForms f forms → AvoidTerms f ts → AvoidsForm f form × AvoidsTerm f t
term_at f _ _ form t (first _ forms _ ts) a b = (a.0, b.0)
term_at f _ _ form t (later other forms u ts _ _ p) a b = term_at f forms ts form t p a.1 b.1

lies_avoids : (g : KoreSignature) (f : Text) (left : Form) (all : SymbolicTerm) (form : Form) (t : SymbolicTerm) → LiesOn g left all form t → AvoidsForm f left → AvoidsTerm f all → AvoidsForm f form × AvoidsTerm f t
lies_avoids g f left all _ _ (itself _ _) a b = (a, b)
lies_avoids g f left all form t (inside _ _ forms ts member u _ _ m p k) a b =
    let at = term_at f forms ts member u p (members_of f left m.constructor forms a m.asks).1 (arguments_avoid g f m.constructor ts m.constructs (subst (AvoidsTerm f) m.is b)) in
    lies_avoids g f member u form t k at.0 at.1

new_avoid : (f : Text) (ys : List SortedName) → AvoidTerms f (all_unknown ys)
new_avoid f [] = tt
new_avoid f (y ∷ ys) = (tt, new_avoid f ys)

asked_avoids : (g : KoreSignature) (f : Text) (form : Form) (x : SortedName) (ys : List SortedName) (u : SymbolicTerm) → AvoidsForm f form → IsAskedTerm g form x ys u → AvoidsTerm f u
asked_avoids g f form x _ _ a (of_sort s y i k) = tt
asked_avoids g f form x ys _ a (of_members c forms _ h) = applied_avoids g f c (all_unknown ys) (members_of f form c forms a h).0 (new_avoid f ys)

head_avoids : (g : KoreSignature) (f : Text) (b : Bool) (x : SortedName) (test : HeadTest) → ClausesAvoid f (head_clauses g b x test)
head_avoids g f b x test = clauses_have (Avoids f) (opened_test g b test (literal_fact b (has_head x test)) (unknown x)) (test_avoids g f b test (literal_fact b (has_head x test)) (unknown x) tt)

other_avoids : (g : KoreSignature) (f : Text) (x : SortedName) (c : Text) (ys : List SortedName) → ¬ (c ≡ f) → ClausesAvoid f (has_other_head g x c ys)
other_avoids g f x c [] n = by (are_never (head_clauses g false x (one_head c)))
  where
    by : (b : Bool) → ClausesAvoid f (if b then head_clauses g false x (one_head c) else (record { holds = false; atom = same x.sort (unknown x) (known (constructed c no_values)) } ∷ []) ∷ [])
    by true = head_avoids g f false x (one_head c)
    by false = (((tt, (n, tt)), tt), tt)
other_avoids g f x c (y ∷ ys) n = head_avoids g f false x (one_head c)

tests_avoid : (g : KoreSignature) (f : Text) (b : Bool) (x : SortedName) (hs : List Head) → AllByRecursion (Avoids f) (map (tested g b x) hs)
tests_avoid g f b x [] = tt
tests_avoid g f b x (h ∷ hs) = (tt, tests_avoid g f b x hs)

outside_avoids : (g : KoreSignature) (f : Text) (x : SortedName) (s : KoreSort) → ClausesAvoid f (heads_outside g x s)
outside_avoids g f x s = kept_are literals_same (AllByRecursion (Avoids f)) [] 0 (map (λ h. tested g false x h ∷ []) (shared_heads g x s)) (units (shared_heads g x s))
  where
    units : (hs : List Head) → ClausesAvoid f (map (λ h. tested g false x h ∷ []) hs)
    units [] = tt
    units (h ∷ hs) = ((tt, tt), units hs)

inside_avoids : (g : KoreSignature) (f : Text) (x : SortedName) (s : KoreSort) → ClausesAvoid f (heads_inside g x s)
inside_avoids g f x s = kept_are literals_same (AllByRecursion (Avoids f)) [] 0 (map (λ h. tested g false x h ∷ map (tested g true x) (filter (passes_head g (test_of g h)) (shared_heads g x s))) (other_heads g x s)) (each (other_heads g x s))
  where
    each : (hs : List Head) → ClausesAvoid f (map (λ h. tested g false x h ∷ map (tested g true x) (filter (passes_head g (test_of g h)) (shared_heads g x s))) hs)
    each [] = tt
    each (h ∷ hs) = ((tt, tests_avoid g f true x (filter (passes_head g (test_of g h)) (shared_heads g x s))), each hs)

tells_avoids : (g : KoreSignature) (f : Text) (form : Form) (x : SortedName) (cs : List (List Literal)) → AvoidsForm f form → TellsHead g form x cs → ClausesAvoid f cs
tells_avoids g f form x _ a (beyond s m i k) = head_avoids g f false x (head_of_sort m)
tells_avoids g f form x _ a (another c forms ys h) = other_avoids g f x c ys (members_of f form c forms a h).0
tells_avoids g f form x _ a (inside_sort s i) = inside_avoids g f x s
tells_avoids g f form x _ a (outside s i) = outside_avoids g f x s

-- ---- matches

bound_avoid : (g : KoreSignature) (f : Text) (left : Form) (t : SymbolicTerm) (rs : List Replaced) → AvoidsForm f left → AvoidsTerm f t → AllByRecursion (IsBindingAt g left t) rs → PutAvoids f rs
bound_avoid g f left t [] a b h = tt
bound_avoid g f left t (r ∷ rs) a b h = ((lies_avoids g f left t (variable_form r.name h.0.0) r.term h.0.1 a b).1, bound_avoid g f left t rs a b h.1)

equal_avoids : (g : KoreSignature) (f : Text) (left : Form) (t : SymbolicTerm) (rs : List Replaced) (e : Equality) → AvoidsForm f left → AvoidsTerm f t → PutAvoids f rs → IsEqualityAt g left t rs e → AvoidsAtom f (same e.sort e.left e.right)
equal_avoids g f left t rs _ a b k (of_variable x s c u l q) = (found_avoids f rs x c k q, (lies_avoids g f left t (variable_form x s) u l a b).1)
equal_avoids g f left t rs _ a b k (of_value v s u l q) = let h = lies_avoids g f left t (fixed v) u l a b in (h.1, h.0)

-- ---- the whole

mutual
  term_avoids : (g : KoreSignature) (R : RuleBody → Type 0) (new : List SortedName) (s : SymbolicState) (f : Text) (t : SymbolicTerm) → StandsNowhere g R s f → IsSourcedTerm g R new s t → AvoidsTerm f t
  term_avoids g R new s f _ k of_state = k.term
  term_avoids g R new s f _ k (put_into t by e h i j) = put_avoids g f e t k.constructs (told_avoids g f by e (atom_avoids g R new s f by k i) j) (term_avoids g R new s f t k h)

  atom_avoids : (g : KoreSignature) (R : RuleBody → Type 0) (new : List SortedName) (s : SymbolicState) (f : Text) (a : Atom) → StandsNowhere g R s f → IsSourcedAtom g R new s a → AvoidsAtom f a
  atom_avoids g R new s f a k (stands _ h) = in_clauses (AvoidsAtom f) s.clauses a k.clauses h
  atom_avoids g R new s f a k (of_condition m left t rs es _ i j h l c) = in_clauses (AvoidsAtom f) (condition_clauses g rs m.condition) a (condition_avoids g f rs m.condition (bound_avoid g f left t rs (k.lefts left (rewrite m, i, j)) (term_avoids g R new s f t k h) l.bound) (k.conditions m i)) c
  atom_avoids g R new s f _ k (equated left t rs es e i h l c) =
      let on = k.lefts left i in
      let at = term_avoids g R new s f t k h in
      equal_avoids g f left t rs e on at (bound_avoid g f left t rs on at l.bound) (of_member (IsEqualityAt g left t rs) es e l.equal c)
  atom_avoids g R new s f _ k (becomes left form t x ys u i h l c d) = (tt, asked_avoids g f form x ys u (lies_avoids g f left t form (unknown x) l (k.lefts left i) (term_avoids g R new s f t k h)).0 c)
  atom_avoids g R new s f a k (has_told_head left form t x cs _ i h l c d) =
      in_clauses (AvoidsAtom f) cs a (tells_avoids g f form x cs (lies_avoids g f left t form (unknown x) l (k.lefts left i) (term_avoids g R new s f t k h)).0 c) d
  atom_avoids g R new s f a k (opened_from from _ alone b h i) = fact_of (AvoidsAtom f) (opened_atom g alone b from) a (opened_avoids g f alone b from (atom_avoids g R new s f from k h)) i
  atom_avoids g R new s f a k (opened_by from by _ e alone b h i j l) =
      fact_of (AvoidsAtom f) (opened_with g e alone b from) a (with_avoids g f e alone b from k.constructs (told_avoids g f by e (atom_avoids g R new s f by k i) j) (atom_avoids g R new s f from k h)) l
  atom_avoids g R new s f _ k (written_for sort c by e n i j h l q) = (told_avoids g f by e (atom_avoids g R new s f by k l) q, tt)
  atom_avoids g R new s f _ k (written_for_all sort cs i h) = tt

pub nowhere_none : (g : KoreSignature) → NowhereIsNoneSourced g
nowhere_none g rule turns new s f k = (λ a h. atom_avoids g (IsOneOf rule turns) new s f a k h, λ t h. term_avoids g (IsOneOf rule turns) new s f t k h)
