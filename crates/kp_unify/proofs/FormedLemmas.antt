-- Terms stay in normal form where a variable becomes a term, where clauses are added, and where a pair gives its members.
use Rattle.std.proofs.Common.{◌≡◌, refl, subst, cond, Bool, true, false, not, List, [], ◌∷◌, ◌++◌, map, Option, Some, None}
use Rattle.std.specs.Prelude.{if◌then◌else◌}
use Rattle.std.specs.List.{AllByRecursion, filter, flat_map}
use Rattle.std.specs.Option.{option_map}
use Rattle.std.specs.Str.{bytes_eq}
use Rattle.kp_kore.specs.Syntax.{Text, KoreSort}
use Rattle.kp_kore.specs.Parts.{SortedName}
use Rattle.kp_kore.specs.Signature.{KoreSignature, construction, meaning_of, Head, integers, booleans, tokens, constructor_of, is_head, possible_heads, heads_of, IsHeadOf}
use Rattle.kp_kore.specs.Value.{constructed, Values, no_values, next_value}
use Rattle.kp_kore.specs.Instance.{is_named}
use Rattle.kp_signature.proofs.HeadLemmas.{is_head-Decides}
use Rattle.kp_symbolic.specs.Terms.{SymbolicTerm, unknown, known, SymbolicTerms, no_terms, next_term, Replaced, replacement_for}
use Rattle.kp_symbolic.specs.States.{HeadTest, one_head, same, has_head, Literal, clause_variables}
use Rattle.kp_symbolic.specs.Heads.{passes_head}
use Rattle.kp_symbolic.specs.Opening.{literal_fact, opened_test}
use Rattle.kp_symbolic.specs.Alike.{literals_same}
use Rattle.kp_symbolic.specs.Clauses.{distributed, is_too_large}
use Rattle.kp_symbolic.specs.Solving.{Equation, replacement, is_single, opened_clause}
use Rattle.kp_symbolic.proofs.Distribution.{all_both, all_first, all_second, kept_are}
use Rattle.kp_symbolic.proofs.Facts.{clauses_have}
use Rattle.kp_symbolic_laws.specs.Runs.{IsMeantTest}
use Rattle.kp_symbolic_laws.specs.Safe.{AreNormal, IsNormal, PutNormal, Formed, IsFormedState, IsSoundQuote}
use Rattle.kp_symbolic_laws.proofs.NormalTerms.{applied_normal, replaced_normal}
use Rattle.kp_symbolic_laws.proofs.FormedFacts.{test_formed}
use Rattle.kp_symbolic_laws.proofs.FormedSteps.{literals_formed}
use Rattle.kp_rules.specs.Skeletons.{Forms, no_forms, next_form}
use Rattle.kp_case_laws.specs.Parts.{StatePart, with_clauses}
use Rattle.kp_case_laws.specs.Narrowings.{head_clauses, are_never, has_other_head, test_of, tested, shared_heads, other_heads, heads_outside, heads_inside, all_unknown, constructor_term, equates, put_clause, part_with_term}
use Rattle.kp_case_laws.specs.Courses.{FormPair, Equality, Course, with_pair, with_binding, with_equality, with_pairs, replaced_course, course_in, put_in, paired, all_known}
use Rattle.kp_unify.specs.Way.{IsNormalEquality, IsFormedCourse}

-- each literal has normal terms, or asks for a head that is meant, or quotes what is written right
abbrev pub IsFormedLiteral : KoreSignature → Literal → Type 0
IsFormedLiteral g = Formed g (IsSoundQuote g)

abbrev pub AreFormed : KoreSignature → List (List Literal) → Type 0
AreFormed g = AllByRecursion (AllByRecursion (IsFormedLiteral g))

-- ---- further clauses

pub formed_with : (g : KoreSignature) (p : StatePart) (clauses : List (List Literal)) → IsFormedState g (IsSoundQuote g) p.state → AreFormed g clauses → IsFormedState g (IsSoundQuote g) (with_clauses p clauses).state
formed_with g p clauses k h =
    let Each = AllByRecursion (IsFormedLiteral g) in
    record { term = k.term; literals = kept_are literals_same Each [] 0 (p.state.clauses ++ clauses) (all_both Each p.state.clauses clauses k.literals h) }

pub head_clauses_formed : (g : KoreSignature) (b : Bool) (x : SortedName) (test : HeadTest) → IsMeantTest g test → AreFormed g (head_clauses g b x test)
head_clauses_formed g b x test m =
    clauses_have (IsFormedLiteral g) (opened_test g b test (literal_fact b (has_head x test)) (unknown x)) (test_formed g (IsSoundQuote g) b test (literal_fact b (has_head x test)) (unknown x) m m)

pub other_head_formed : (g : KoreSignature) (x : SortedName) (c : Text) (new : List SortedName) → meaning_of g c ≡ construction → AreFormed g (has_other_head g x c new)
other_head_formed g x c [] m = by (are_never (head_clauses g false x (one_head c)))
  where
    by : (b : Bool) → AreFormed g (if b then head_clauses g false x (one_head c) else (record { holds = false; atom = same x.sort (unknown x) (known (constructed c no_values)) } ∷ []) ∷ [])
    by true = head_clauses_formed g false x (one_head c) m
    by false = (((refl, refl), tt), tt)
other_head_formed g x c (y ∷ new) m = head_clauses_formed g false x (one_head c) m

-- ---- the tests by which heads of a sort are told

pub head_constructs : (g : KoreSignature) (s : KoreSort) (c : Text) → IsHeadOf g s (constructor_of c) → meaning_of g c ≡ construction
head_constructs g s c h = rw h.1.1 h.1.2

abbrev AreMeant : KoreSignature → List Head → Type 0
AreMeant g = AllByRecursion (λ h. IsMeantTest g (test_of g h))

test_meant : (g : KoreSignature) (s : KoreSort) (h : Head) → IsHeadOf g s h → IsMeantTest g (test_of g h)
test_meant g s integers i = tt
test_meant g s booleans i = tt
test_meant g s (tokens t) i = tt
test_meant g s (constructor_of c) i = head_constructs g s c i

of_sort_meant : (g : KoreSignature) (s : KoreSort) (hs : List Head) → AreMeant g (filter (is_head g s) hs)
of_sort_meant g s [] = tt
of_sort_meant g s (h ∷ hs) = by (is_head g s h) refl (of_sort_meant g s hs)
  where
    rest : List Head
    rest = filter (is_head g s) hs

    by : (b : Bool) → is_head g s h ≡ b → AreMeant g rest → AreMeant g (cond b (h ∷ rest) rest)
    by true e a = (test_meant g s h ((is_head-Decides g s h).0 e), a)
    by false e a = a

some_meant : (g : KoreSignature) (keep : Head → Bool) (hs : List Head) → AreMeant g hs → AreMeant g (filter keep hs)
some_meant g keep [] a = tt
some_meant g keep (h ∷ hs) a = by (keep h) (some_meant g keep hs a.1)
  where
    rest : List Head
    rest = filter keep hs

    by : (b : Bool) → AreMeant g rest → AreMeant g (cond b (h ∷ rest) rest)
    by true k = (a.0, k)
    by false k = k

tested_formed : (g : KoreSignature) (b : Bool) (x : SortedName) (hs : List Head) → AreMeant g hs → AllByRecursion (IsFormedLiteral g) (map (tested g b x) hs)
tested_formed g b x [] a = tt
tested_formed g b x (h ∷ hs) a = (a.0, tested_formed g b x hs a.1)

heads_meant : (g : KoreSignature) (x : SortedName) → AreMeant g (heads_of g x.sort)
heads_meant g x = of_sort_meant g x.sort (possible_heads g x.sort)

shared_meant : (g : KoreSignature) (x : SortedName) (s : KoreSort) → AreMeant g (shared_heads g x s)
shared_meant g x s = some_meant g (is_head g s) (heads_of g x.sort) (heads_meant g x)

pub outside_formed : (g : KoreSignature) (x : SortedName) (s : KoreSort) → AreFormed g (heads_outside g x s)
outside_formed g x s = kept_are literals_same (AllByRecursion (IsFormedLiteral g)) [] 0 (map (λ h. tested g false x h ∷ []) (shared_heads g x s)) (units (shared_heads g x s) (shared_meant g x s))
  where
    units : (hs : List Head) → AreMeant g hs → AreFormed g (map (λ h. tested g false x h ∷ []) hs)
    units [] a = tt
    units (h ∷ hs) a = ((a.0, tt), units hs a.1)

pub inside_formed : (g : KoreSignature) (x : SortedName) (s : KoreSort) → AreFormed g (heads_inside g x s)
inside_formed g x s =
    kept_are literals_same (AllByRecursion (IsFormedLiteral g)) [] 0 (map (λ h. tested g false x h ∷ map (tested g true x) (passed h)) (other_heads g x s)) (each (other_heads g x s) (some_meant g (λ h. not (is_head g s h)) (heads_of g x.sort) (heads_meant g x)))
  where
    passed : Head → List Head
    passed h = filter (passes_head g (test_of g h)) (shared_heads g x s)

    each : (hs : List Head) → AreMeant g hs → AreFormed g (map (λ h. tested g false x h ∷ map (tested g true x) (passed h)) hs)
    each [] a = tt
    each (h ∷ hs) a = ((a.0, tested_formed g true x (passed h) (some_meant g (passes_head g (test_of g h)) (shared_heads g x s) (shared_meant g x s))), each hs a.1)

-- ---- terms

pub all_unknown_normal : (g : KoreSignature) (ys : List SortedName) → AreNormal g (all_unknown ys)
all_unknown_normal g [] = tt
all_unknown_normal g (y ∷ ys) = (refl, all_unknown_normal g ys)

pub constructor_normal : (g : KoreSignature) (c : Text) (ys : List SortedName) → IsNormal g (constructor_term g c ys)
constructor_normal g c ys = applied_normal g c (all_unknown ys) (all_unknown_normal g ys)

pub all_known_normal : (g : KoreSignature) (us : Values) → AreNormal g (all_known us)
all_known_normal g no_values = tt
all_known_normal g (next_value u us) = (refl, all_known_normal g us)

-- ---- a part with a term in a variable's place

put_clause_formed : (g : KoreSignature) (e : Equation) (c : List Literal) → IsNormal g e.term → AllByRecursion (IsFormedLiteral g) c → AreFormed g (put_clause g e c)
put_clause_formed g e c n h = by (is_named e.variable.name (clause_variables c)) (is_too_large 0 (opened_clause g e c))
  where
    by : (a b : Bool) → AreFormed g (if a then (if b then c ∷ [] else distributed (opened_clause g e c)) else c ∷ [])
    by true true = (h, tt)
    by true false = clauses_have (IsFormedLiteral g) (opened_clause g e c) (literals_formed g (IsSoundQuote g) e (is_single c) c n h)
    by false b = (h, tt)

put_clauses_formed : (g : KoreSignature) (e : Equation) (cs : List (List Literal)) → IsNormal g e.term → AreFormed g cs → AreFormed g (flat_map (put_clause g e) cs)
put_clauses_formed g e [] n h = tt
put_clauses_formed g e (c ∷ cs) n h = all_both (AllByRecursion (IsFormedLiteral g)) (put_clause g e c) (flat_map (put_clause g e) cs) (put_clause_formed g e c n h.0) (put_clauses_formed g e cs n h.1)

pub part_formed : (g : KoreSignature) (e : Equation) (new : List SortedName) (p : StatePart) → IsNormal g e.term → IsFormedState g (IsSoundQuote g) p.state → IsFormedState g (IsSoundQuote g) (part_with_term g e new p).state
part_formed g e new p n k =
    let Each = AllByRecursion (IsFormedLiteral g) in
    let clauses = flat_map (put_clause g e) p.state.clauses in
    record {
      term = replaced_normal g (replacement e) p.state.term (n, tt) k.term;
      literals = kept_are literals_same Each [] 0 (clauses ++ equates e.variable e.term) (all_both Each clauses (equates e.variable e.term) (put_clauses_formed g e p.state.clauses n k.literals) (((refl, n), tt), tt));
    }

-- ---- a course with a term in a variable's place

equalities_put : (g : KoreSignature) (e : Equation) (es : List Equality) → IsNormal g e.term → AllByRecursion (IsNormalEquality g) es →
    AllByRecursion (IsNormalEquality g) (map (λ (q : Equality). record { sort = q.sort; left = put_in g e q.left; right = put_in g e q.right }) es)
equalities_put g e [] n h = tt
equalities_put g e (q ∷ es) n h = ((replaced_normal g (replacement e) q.left (n, tt) h.0.0, replaced_normal g (replacement e) q.right (n, tt) h.0.1), equalities_put g e es n h.1)

bindings_put : (g : KoreSignature) (e : Equation) (bs : List Replaced) → IsNormal g e.term → PutNormal g bs → PutNormal g (map (λ (b : Replaced). record { name = b.name; term = put_in g e b.term }) bs)
bindings_put g e [] n h = tt
bindings_put g e (b ∷ bs) n h = (replaced_normal g (replacement e) b.term (n, tt) h.0, bindings_put g e bs n h.1)

-- each pair's term
abbrev ArePairsNormal : KoreSignature → List FormPair → Type 0
ArePairsNormal g = AllByRecursion (λ q. IsNormal g q.term)

pairs_put : (g : KoreSignature) (e : Equation) (ps : List FormPair) → IsNormal g e.term → ArePairsNormal g ps → ArePairsNormal g (map (λ (q : FormPair). record { form = q.form; term = put_in g e q.term }) ps)
pairs_put g e [] n h = tt
pairs_put g e (q ∷ ps) n h = (replaced_normal g (replacement e) q.term (n, tt) h.0, pairs_put g e ps n h.1)

-- the next pair's term, and what is behind it
pub next_normal : (g : KoreSignature) (k : Course) (q : FormPair) → IsFormedCourse g (with_pair k q) → IsNormal g q.term
next_normal g k q h = (all_second (λ z. IsNormal g z.term) k.pairs (q ∷ []) h.pairs).0

pub without_pair : (g : KoreSignature) (k : Course) (q : FormPair) → IsFormedCourse g (with_pair k q) → IsFormedCourse g k
without_pair g k q h = record { equalities = h.equalities; bindings = h.bindings; pairs = all_first (λ z. IsNormal g z.term) k.pairs (q ∷ []) h.pairs }

pub course_put : (g : KoreSignature) (e : Equation) (r : StatePart) (k : Course) (q : FormPair) (t : SymbolicTerm) → IsNormal g e.term → IsNormal g t → IsFormedCourse g (with_pair k q) →
    IsFormedCourse g (with_pair (replaced_course g e r k) (record { form = q.form; term = t }))
course_put g e r k q t n m h =
    let pairs = (replaced_course g e r k).pairs in
    record {
      equalities = equalities_put g e k.equalities n h.equalities;
      bindings = bindings_put g e k.bindings n h.bindings;
      pairs = all_both (λ z. IsNormal g z.term) pairs (record { form = q.form; term = t } ∷ []) (pairs_put g e k.pairs n (without_pair g k q h).pairs) (m, tt);
    }

pub course_moved : (g : KoreSignature) (r : StatePart) (k : Course) (q : FormPair) → IsFormedCourse g (with_pair k q) → IsFormedCourse g (with_pair (course_in r k) q)
course_moved g r k q h = record { equalities = h.equalities; bindings = h.bindings; pairs = h.pairs }

-- ---- a pair in exchange for what it asks

pub course_bound : (g : KoreSignature) (k : Course) (q : FormPair) (x : Text) → IsFormedCourse g (with_pair k q) → IsFormedCourse g (with_binding k (record { name = x; term = q.term }))
course_bound g k q x h =
    let rest = without_pair g k q h in
    record { equalities = rest.equalities; bindings = all_both (λ r. IsNormal g r.term) k.bindings (record { name = x; term = q.term } ∷ []) rest.bindings (next_normal g k q h, tt); pairs = rest.pairs }

pub course_equated : (g : KoreSignature) (k : Course) (q : FormPair) (e : Equality) → IsNormalEquality g e → IsFormedCourse g (with_pair k q) → IsFormedCourse g (with_equality k e)
course_equated g k q e n h =
    let rest = without_pair g k q h in
    record { equalities = all_both (IsNormalEquality g) k.equalities (e ∷ []) rest.equalities (n, tt); bindings = rest.bindings; pairs = rest.pairs }

some_inside : {A : Type 0} {a b : A} → Some a ≡ Some b → a ≡ b
some_inside e = cc

none_is_some : {A : Type 0} {a : A} → None ≡ Some a → ⊥
none_is_some e = cc

-- what a variable of the left side stands for
pub bound_normal : (g : KoreSignature) (bs : List Replaced) (x : Text) (t : SymbolicTerm) → PutNormal g bs → replacement_for bs x ≡ Some t → IsNormal g t
bound_normal g [] x t h e = absurd (none_is_some e)
bound_normal g (b ∷ bs) x t h e = by (bytes_eq b.name x) e (bound_normal g bs x t h.1)
  where
    by : (c : Bool) → (if c then Some b.term else replacement_for bs x) ≡ Some t → (replacement_for bs x ≡ Some t → IsNormal g t) → IsNormal g t
    by true i rest = subst (IsNormal g) (some_inside i) h.0
    by false i rest = rest i

-- members
pub paired_normal : (g : KoreSignature) (fs : Forms) (ts : SymbolicTerms) (ps : List FormPair) → AreNormal g ts → paired fs ts ≡ Some ps → AllByRecursion (λ q. IsNormal g q.term) ps
paired_normal g no_forms no_terms ps a e = subst (ArePairsNormal g) (some_inside e) tt
paired_normal g (next_form f fs) (next_term t ts) ps a e = by (paired fs ts) e (λ qs i. paired_normal g fs ts qs a.1 i)
  where
    by : (o : Option (List FormPair)) → option_map (λ qs. qs ++ record { form = f; term = t } ∷ []) o ≡ Some ps → ((qs : List FormPair) → o ≡ Some qs → ArePairsNormal g qs) → ArePairsNormal g ps
    by (Some qs) i all = subst (ArePairsNormal g) (some_inside i) (all_both (λ z. IsNormal g z.term) qs (record { form = f; term = t } ∷ []) (all qs refl) (a.0, tt))
    by None i all = absurd (none_is_some i)
paired_normal g no_forms (next_term t ts) ps a e = absurd (none_is_some e)
paired_normal g (next_form f fs) no_terms ps a e = absurd (none_is_some e)

pub course_members : (g : KoreSignature) (k : Course) (q : FormPair) (fs : Forms) (ts : SymbolicTerms) (ps : List FormPair) → AreNormal g ts → paired fs ts ≡ Some ps → IsFormedCourse g (with_pair k q) → IsFormedCourse g (with_pairs k ps)
course_members g k q fs ts ps a e h =
    let rest = without_pair g k q h in
    record { equalities = rest.equalities; bindings = rest.bindings; pairs = all_both (λ z. IsNormal g z.term) k.pairs ps rest.pairs (paired_normal g fs ts ps a e) }
