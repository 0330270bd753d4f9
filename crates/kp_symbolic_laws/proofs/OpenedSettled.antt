-- Literals that a predicate is opened to, and those that they are opened to again, are of settled terms.
use Rattle.std.proofs.Common.{◌≡◌, refl, ap, ℕ, ◌+◌, Bool, true, false, cond, not, ◌&&◌, ◌||◌, List, [], ◌∷◌, ◌++◌, Option, Some, None}
use Rattle.std.specs.Prelude.{if◌then◌else◌, ⊤}
use Rattle.std.specs.Bool.{beq}
use Rattle.std.specs.List.{AllByRecursion, filter}
use Rattle.std.specs.Str.{bytes_eq}
use Rattle.kp_kore.specs.Syntax.{Text, KoreSort, KoreSorts, no_sorts, next_sort, KorePattern, KorePatterns, variable, set_variable, application, string_literal, literal, top, bottom, negation, next, conjunction, disjunction, implication, equivalence, rewriting, exists, forall, ceil, floor, equals, membership, mu, nu, no_patterns, next_pattern}
use Rattle.kp_kore.specs.Hooks.{equal, Connective, both, either, implies, same as same_truth, other, Hook, whole_arithmetic, whole_comparison, truth_connective, truth_negation, values_equal, values_different}
use Rattle.kp_kore.specs.Parts.{SortedName, is_term, free_variables}
use Rattle.kp_kore.specs.Signature.{KoreSignature, SymbolMeaning, injection, construction, interpretation, foreign, meaning_of, is_truth_sort, constructor_of, integers}
use Rattle.kp_kore.specs.Value.{Value, whole, truth, token, constructed, Values, no_values, next_value, head_of}
use Rattle.kp_kore.specs.Instance.{is_named, is_conjoined_pair}
use Rattle.kp_kore.specs.Foreign.{is_interpretation}
use Rattle.kp_compile.specs.Spelled.{places_of}
use Rattle.kp_symbolic.specs.Terms.{SymbolicTerm, unknown, offset, known, headed, SymbolicTerms, no_terms, next_term, Replaced}
use Rattle.kp_symbolic.specs.Formulas.{Formula, Formulas}
use Rattle.kp_symbolic.specs.States.{HeadTest, one_head, head_of_sort, Atom, same, has_head, quoted, Literal}
use Rattle.kp_symbolic.specs.Alike.{terms_same, literals_same}
use Rattle.kp_symbolic.specs.Heads.{passes_head, head_answer}
use Rattle.kp_symbolic.specs.Folding.{sum_of, folded}
use Rattle.kp_symbolic.specs.Opening.{fixed, all_if, pair, literal_fact, is_true, equality_fact, compared_at_once, fixed_or, is_never, unconstructed, is_kept_truth, opened, all_opened, Seen, seen, Seens, none_seen, next_seen, asked, opened_agreement, opened_truths, opened_sides, sorts_of_members, opened_seen, opened_members, common_sort, opened_call, seen_value, seen_values, seen_term, seen_terms, opened_same, are_variables, question_if, HeadQuestion, asked_constructor, asked_under_inj, asked_of, asked_variable, asked_side, asked_of_variable, under_injection, question_of_sides, first_question, head_question, denied_question, head_of_call, opened_test, quotation, opened_ceil, opened_leaf, opened_predicate}
use Rattle.kp_symbolic.specs.Clauses.{distributed, without_repeats, is_too_large, quoted_literal, clauses_of_conjunct, literals_of_conjunct, clauses_of_conjuncts}
use Rattle.kp_symbolic.proofs.Distribution.{all_both, kept_are}
use Rattle.kp_symbolic.proofs.Facts.{AllFacts, AllIn, clauses_have}
use Rattle.kp_symbolic.proofs.Leaf.{asked_formula, denied_formula}
use Rattle.kp_symbolic.proofs.KeptFacts.{opened_by}
use Rattle.kp_symbolic_laws.proofs.Settled.{IsSettledValue, AreSettledValues, IsSettled, AreSettled, ArePutSettled}
use Rattle.kp_symbolic_laws.proofs.Fit.{IsFit, AreFit, Any, folded_settled}
use Rattle.kp_symbolic_laws.proofs.OpenedGood.{by_size}

-- ---- literals of settled terms

-- a constructor that is asked for is no call
abbrev pub IsSettledTest : KoreSignature → HeadTest → Type 0
IsSettledTest g (one_head c) = is_interpretation (meaning_of g c) ≡ false
IsSettledTest g (head_of_sort s) = ⊤

abbrev pub IsSettledAtom : KoreSignature → Atom → Type 0
IsSettledAtom g (same s t u) = IsSettled g t × IsSettled g u
IsSettledAtom g (has_head x test) = IsSettledTest g test
IsSettledAtom g (quoted p rs) = IsFit g Any p × ArePutSettled g rs

abbrev pub IsSettledLiteral : KoreSignature → Literal → Type 0
IsSettledLiteral g l = IsSettledAtom g l.atom

abbrev pub AreSettledClauses : KoreSignature → List (List Literal) → Type 0
AreSettledClauses g = AllByRecursion (AllByRecursion (IsSettledLiteral g))

abbrev pub IsSettledFormula : KoreSignature → Formula Literal → Type 0
IsSettledFormula g f = AllFacts (IsSettledLiteral g) f

abbrev pub AreSettledFormulas : KoreSignature → Formulas Literal → Type 0
AreSettledFormulas g fs = AllIn (IsSettledLiteral g) fs

-- ---- formulas

fixed_settled : (g : KoreSignature) (b : Bool) → IsSettledFormula g (fixed b)
fixed_settled g true = tt
fixed_settled g false = tt

if_settled : (g : KoreSignature) (b : Bool) (fs : Formulas Literal) → AreSettledFormulas g fs → IsSettledFormula g (all_if b fs)
if_settled g true fs a = a
if_settled g false fs a = a

choose : (g : KoreSignature) (c : Bool) (f h : Formula Literal) → IsSettledFormula g f → IsSettledFormula g h → IsSettledFormula g (if c then f else h)
choose g true f h a b = a
choose g false f h a b = b

fixed_or_settled : (g : KoreSignature) (o : Option Bool) (b : Bool) (f : Formula Literal) → IsSettledFormula g f → IsSettledFormula g (fixed_or o b f)
fixed_or_settled g (Some c) b f a = fixed_settled g (beq c b)
fixed_or_settled g None b f a = a

-- ---- terms that are seen

abbrev KeepsSettled : KoreSignature → (Bool → Bool → Formula Literal → Formula Literal) → Type 0
KeepsSettled g p = (alone b : Bool) (kept : Formula Literal) → IsSettledFormula g kept → IsSettledFormula g (p alone b kept)

abbrev mutual
  IsSettledSeen : KoreSignature → Seen → Type 0
  IsSettledSeen g (seen t p c ms) = IsSettled g t × KeepsSettled g p × AreSettledSeen g ms

  AreSettledSeen : KoreSignature → Seens → Type 0
  AreSettledSeen g none_seen = ⊤
  AreSettledSeen g (next_seen m ms) = IsSettledSeen g m × AreSettledSeen g ms

asked_settled : (g : KoreSignature) (alone b : Bool) (m : Seen) → IsSettledSeen g m → IsSettledFormula g (asked g alone b m)
asked_settled g alone b (seen t p c ms) h = h.1 alone b (is_true g b t) (h.0, tt)

agreement_settled : (g : KoreSignature) (b : Bool) (m n : Seen) → IsSettledSeen g m → IsSettledSeen g n → IsSettledFormula g (opened_agreement g b m n)
agreement_settled g b m n i j = (
  (asked_settled g false false m i, (asked_settled g false b n j, tt)),
  ((asked_settled g false true m i, (asked_settled g false (not b) n j, tt)), tt),
)

truths_settled : (g : KoreSignature) (alone b : Bool) (kept : Formula Literal) (m n : Seen) → IsSettledSeen g m → IsSettledSeen g n → IsSettledFormula g kept → IsSettledFormula g (opened_truths g alone b kept m n)
truths_settled g alone b kept (seen t p c ms) (seen (known (truth a)) q d ns) i j k = i.1 alone (beq a b) kept k
truths_settled g alone b kept (seen (known (truth a)) p c ms) (seen u q d ns) i j k = j.1 alone (beq a b) kept k
truths_settled g alone b kept (seen t p c ms) (seen u q d ns) i j k =
    choose g (alone && b && is_kept_truth t u) kept (opened_agreement g b (seen t p c ms) (seen u q d ns)) k (agreement_settled g b (seen t p c ms) (seen u q d ns) i j)

unconstructed_settled : (g : KoreSignature) (b : Bool) (kept : Formula Literal) (t u : SymbolicTerm) → IsSettledFormula g kept → IsSettledFormula g (unconstructed g b kept t u)
unconstructed_settled g b kept (known u) (known w) k = fixed_settled g (not b)
unconstructed_settled g b kept t u k = fixed_or_settled g (compared_at_once equal (sum_of g t) (sum_of g u)) b kept k

sides_settled : (g : KoreSignature) (b : Bool) (kept : Formula Literal) (t u : SymbolicTerm) (c d : Option Text) (fs : Formulas Literal) → AreSettledFormulas g fs → IsSettledFormula g kept → IsSettledFormula g (opened_sides g b kept t u c d fs)
sides_settled g b kept t u (Some k) (Some l) fs a h = choose g (bytes_eq k l) (all_if b fs) (fixed (not b)) (if_settled g b fs a) (fixed_settled g (not b))
sides_settled g b kept t u (Some k) None fs a h = choose g (is_never g t u) (fixed (not b)) kept (fixed_settled g (not b)) h
sides_settled g b kept t u None (Some l) fs a h = choose g (is_never g u t) (fixed (not b)) kept (fixed_settled g (not b)) h
sides_settled g b kept t u None None fs a h = unconstructed_settled g b kept t u h

mutual
  seen_settled : (g : KoreSignature) (alone b : Bool) (s : KoreSort) (kept : Formula Literal) (m n : Seen) → IsSettledSeen g m → IsSettledSeen g n → IsSettledFormula g kept → IsSettledFormula g (opened_seen g alone b s kept m n)
  seen_settled g alone b s kept (seen t p c ms) (seen u q d ns) i j k =
      choose g (terms_same t u) (fixed b) (if is_truth_sort g s then opened_truths g alone b kept (seen t p c ms) (seen u q d ns) else opened_sides g b kept t u c d (opened_members g (alone && b) b (sorts_of_members g c) ms ns))
      (fixed_settled g b)
      (choose g (is_truth_sort g s) (opened_truths g alone b kept (seen t p c ms) (seen u q d ns)) (opened_sides g b kept t u c d (opened_members g (alone && b) b (sorts_of_members g c) ms ns))
      (truths_settled g alone b kept (seen t p c ms) (seen u q d ns) i j k)
      (sides_settled g b kept t u c d (opened_members g (alone && b) b (sorts_of_members g c) ms ns) (members_settled g (alone && b) b (sorts_of_members g c) ms ns i.2 j.2) k))

  members_settled : (g : KoreSignature) (alone b : Bool) (ss : KoreSorts) (ms ns : Seens) → AreSettledSeen g ms → AreSettledSeen g ns → AreSettledFormulas g (opened_members g alone b ss ms ns)
  members_settled g alone b (next_sort s ss) (next_seen (seen t p c ms) rest) (next_seen (seen u q d ns) others) i j = (
    seen_settled g alone b s (equality_fact b s t u) (seen t p c ms) (seen u q d ns) i.0 j.0 (i.0.0, j.0.0),
    members_settled g alone b ss rest others i.1 j.1,
  )
  members_settled g alone b no_sorts ms ns i j = tt
  members_settled g alone b (next_sort s ss) none_seen ns i j = tt
  members_settled g alone b (next_sort s ss) (next_seen (seen t p c ms) rest) none_seen i j = tt

connected_settled : (g : KoreSignature) (k : Connective) (ss : KoreSorts) (m n : Seen) (alone b : Bool) (kept : Formula Literal) → IsSettledSeen g m → IsSettledSeen g n → IsSettledFormula g (opened_call g ss (interpretation (truth_connective k)) (next_seen m (next_seen n none_seen)) alone b kept)
connected_settled g both ss m n alone b kept i j = if_settled g b (pair (asked g (alone && b) b m) (asked g (alone && b) b n)) (asked_settled g (alone && b) b m i, (asked_settled g (alone && b) b n j, tt))
connected_settled g either ss m n alone b kept i j = if_settled g (not b) (pair (asked g (alone && not b) b m) (asked g (alone && not b) b n)) (asked_settled g (alone && not b) b m i, (asked_settled g (alone && not b) b n j, tt))
connected_settled g implies ss m n alone b kept i j = if_settled g (not b) (pair (asked g (alone && not b) (not b) m) (asked g (alone && not b) b n)) (asked_settled g (alone && not b) (not b) m i, (asked_settled g (alone && not b) b n j, tt))
connected_settled g same_truth ss m n alone b kept i j = agreement_settled g b m n i j
connected_settled g other ss m n alone b kept i j = agreement_settled g (not b) m n i j

call_settled : (g : KoreSignature) (h : Hook) (ss : KoreSorts) (ms : Seens) → AreSettledSeen g ms → KeepsSettled g (opened_call g ss (interpretation h) ms)
call_settled g truth_negation ss (next_seen m none_seen) a alone b kept k = asked_settled g alone (not b) m a.0
call_settled g truth_negation ss none_seen a alone b kept k = k
call_settled g truth_negation ss (next_seen m (next_seen n ms)) a alone b kept k = k
call_settled g (truth_connective c) ss (next_seen m (next_seen n none_seen)) a alone b kept k = connected_settled g c ss m n alone b kept a.0 a.1.0
call_settled g (truth_connective c) ss none_seen a alone b kept k = k
call_settled g (truth_connective c) ss (next_seen m none_seen) a alone b kept k = k
call_settled g (truth_connective c) ss (next_seen m (next_seen n (next_seen o ms))) a alone b kept k = k
call_settled g (whole_comparison o) ss (next_seen (seen t p c ms) (next_seen (seen u q d ns) none_seen)) a alone b kept k = fixed_or_settled g (compared_at_once o (sum_of g t) (sum_of g u)) b kept k
call_settled g (whole_comparison o) ss none_seen a alone b kept k = k
call_settled g (whole_comparison o) ss (next_seen (seen t p c ns) none_seen) a alone b kept k = k
call_settled g (whole_comparison o) ss (next_seen (seen t p c ks) (next_seen (seen u q d ns) (next_seen i ms))) a alone b kept k = k
call_settled g values_equal ss (next_seen m (next_seen n none_seen)) a alone b kept k = seen_settled g alone b (common_sort ss) kept m n a.0 a.1.0 k
call_settled g values_equal ss none_seen a alone b kept k = k
call_settled g values_equal ss (next_seen m none_seen) a alone b kept k = k
call_settled g values_equal ss (next_seen m (next_seen n (next_seen o ms))) a alone b kept k = k
call_settled g values_different ss (next_seen m (next_seen n none_seen)) a alone b kept k = seen_settled g alone (not b) (common_sort ss) kept m n a.0 a.1.0 k
call_settled g values_different ss none_seen a alone b kept k = k
call_settled g values_different ss (next_seen m none_seen) a alone b kept k = k
call_settled g values_different ss (next_seen m (next_seen n (next_seen o ms))) a alone b kept k = k
call_settled g (whole_arithmetic o) ss ms a alone b kept k = k

headed_settled : (g : KoreSignature) (ss : KoreSorts) (m : SymbolMeaning) (ms : Seens) → AreSettledSeen g ms → KeepsSettled g (opened_call g ss m ms)
headed_settled g ss (interpretation h) ms a = call_settled g h ss ms a
headed_settled g ss construction ms a = λ alone b kept k. k
headed_settled g ss injection ms a = λ alone b kept k. k
headed_settled g ss foreign ms a = λ alone b kept k. k

mutual
  value_settled : (g : KoreSignature) (u : Value) → IsSettledValue g u → IsSettledSeen g (seen_value u)
  value_settled g (constructed c us) h = (h, (λ alone b kept k. k), values_settled g us h.1)
  value_settled g (truth a) h = (h, (λ alone b kept k. fixed_settled g (beq a b)), tt)
  value_settled g (whole n) h = (h, (λ alone b kept k. k), tt)
  value_settled g (token s x) h = (h, (λ alone b kept k. k), tt)

  values_settled : (g : KoreSignature) (us : Values) → AreSettledValues g us → AreSettledSeen g (seen_values us)
  values_settled g no_values h = tt
  values_settled g (next_value u us) h = (value_settled g u h.0, values_settled g us h.1)

mutual
  term_settled : (g : KoreSignature) (t : SymbolicTerm) → IsSettled g t → IsSettledSeen g (seen_term g t)
  term_settled g (unknown x) h = (h, (λ alone b kept k. k), tt)
  term_settled g (offset x c) h = (h, (λ alone b kept k. k), tt)
  term_settled g (known u) h = value_settled g u h
  term_settled g (headed f ts) h = let a = terms_settled g ts h.2 in (h, headed_settled g (places_of g f) (meaning_of g f) (seen_terms g ts) a, a)

  terms_settled : (g : KoreSignature) (ts : SymbolicTerms) → AreSettled g ts → AreSettledSeen g (seen_terms g ts)
  terms_settled g no_terms h = tt
  terms_settled g (next_term t ts) h = (term_settled g t h.0, terms_settled g ts h.1)

pub opened_same_settled : (g : KoreSignature) (alone b : Bool) (s : KoreSort) (t u : SymbolicTerm) → IsSettled g t → IsSettled g u → IsSettledFormula g (opened_same g alone b s t u)
opened_same_settled g alone b s t u i j = seen_settled g alone b s (equality_fact b s t u) (seen_term g t) (seen_term g u) (term_settled g t i) (term_settled g u j) (i, j)

-- ---- tests of heads

test_by : (g : KoreSignature) (b : Bool) (test : HeadTest) (kept : Formula Literal) (f : Text) (m : SymbolMeaning) → IsSettledFormula g kept → IsSettledFormula g (opened_by g b test kept f m)
test_by g b test kept f construction k = fixed_settled g (beq (passes_head g test (constructor_of f)) b)
test_by g b test kept f (interpretation h) k = fixed_settled g (beq (passes_head g test (head_of_call h)) b)
test_by g b test kept f injection k = k
test_by g b test kept f foreign k = k

pub opened_test_settled : (g : KoreSignature) (b : Bool) (test : HeadTest) (kept : Formula Literal) (t : SymbolicTerm) → IsSettledFormula g kept → IsSettledTest g test → IsSettledFormula g (opened_test g b test kept t)
opened_test_settled g b test kept (unknown x) k i = fixed_or_settled g (head_answer g x.sort test) b (literal_fact b (has_head x test)) i
opened_test_settled g b test kept (offset x c) k i = fixed_settled g (beq (passes_head g test integers) b)
opened_test_settled g b test kept (known u) k i = fixed_settled g (beq (passes_head g test (head_of u)) b)
opened_test_settled g b test kept (headed f ts) k i = test_by g b test kept f (meaning_of g f) k

-- a question's test, and the term that it asks of
abbrev IsSettledQuestion : KoreSignature → Option HeadQuestion → Type 0
IsSettledQuestion g (Some q) = IsFit g Any q.subject × IsSettledTest g q.test
IsSettledQuestion g None = ⊤

question_settled : (g : KoreSignature) (b : Bool) (p : KorePattern) (test : HeadTest) → IsFit g Any p → IsSettledTest g test → IsSettledQuestion g (question_if b p test)
question_settled g true p test i j = (i, j)
question_settled g false p test i j = tt

constructor_settled : (g : KoreSignature) (xs : List SortedName) (p : KorePattern) (m : SymbolMeaning) (f : Text) (ps : KorePatterns) → meaning_of g f ≡ m → IsFit g Any p → IsSettledQuestion g (asked_constructor g xs p m f ps)
constructor_settled g xs p construction f ps e i = question_settled g (are_variables xs (places_of g f) ps) p (one_head f) i (ap is_interpretation e)
constructor_settled g xs p injection f ps e i = tt
constructor_settled g xs p (interpretation h) f ps e i = tt
constructor_settled g xs p foreign f ps e i = tt

under_inj_settled : (g : KoreSignature) (xs : List SortedName) (p : KorePattern) (ss : KoreSorts) (ps : KorePatterns) → IsFit g Any p → IsSettledQuestion g (asked_under_inj g xs p ss ps)
under_inj_settled g xs p ss (next_pattern (application f ts qs) no_patterns) i = constructor_settled g xs p (meaning_of g f) f qs refl i
under_inj_settled g (x ∷ []) p (next_sort t ss) ps i = question_settled g (are_variables (x ∷ []) (next_sort t no_sorts) ps) p (head_of_sort t) i tt
under_inj_settled g xs p ss ps i = tt

of_settled : (g : KoreSignature) (xs : List SortedName) (p : KorePattern) (m : SymbolMeaning) (f : Text) (ss : KoreSorts) (ps : KorePatterns) → meaning_of g f ≡ m → IsFit g Any p → IsSettledQuestion g (asked_of g xs p m f ss ps)
of_settled g xs p injection f ss ps e i = under_inj_settled g xs p ss ps i
of_settled g xs p construction f ss ps e i = constructor_settled g xs p construction f ps e i
of_settled g xs p (interpretation h) f ss ps e i = tt
of_settled g xs p foreign f ss ps e i = tt

unbound_settled : (g : KoreSignature) (b : Bool) (o : Option HeadQuestion) → IsSettledQuestion g o → IsSettledQuestion g (if b then None else o)
unbound_settled g true o i = tt
unbound_settled g false o i = i

bound_settled : (g : KoreSignature) (xs : List SortedName) (p : KorePattern) (z : Text) (t : KoreSort) → IsFit g Any p → IsSettledQuestion g (asked_variable xs p z t)
bound_settled g (x ∷ []) p z t i = question_settled g (are_variables (x ∷ []) (next_sort t no_sorts) (next_pattern (variable z t) no_patterns)) p (head_of_sort t) i tt
bound_settled g [] p z t i = tt
bound_settled g (x ∷ y ∷ xs) p z t i = tt

side_settled : (g : KoreSignature) (xs : List SortedName) (p r : KorePattern) → IsFit g Any p → IsSettledQuestion g (asked_side g xs p r)
side_settled g xs p (application f ss ps) i = of_settled g xs p (meaning_of g f) f ss ps refl i
side_settled g xs p (variable z t) i = bound_settled g xs p z t i
side_settled g xs p r i = tt

variable_settled : (g : KoreSignature) (xs : List SortedName) (p r : KorePattern) → IsSettledQuestion g (asked_of_variable g xs p r)
variable_settled g xs (variable y t) r = unbound_settled g (is_named y xs) (asked_side g xs (variable y t) r) (side_settled g xs (variable y t) r tt)
variable_settled g xs p r = tt

injected_settled : (g : KoreSignature) (m : SymbolMeaning) (o : Option HeadQuestion) → IsSettledQuestion g o → IsSettledQuestion g (under_injection m o)
injected_settled g injection o i = i
injected_settled g construction o i = tt
injected_settled g (interpretation h) o i = tt
injected_settled g foreign o i = tt

asked_sides_settled : (g : KoreSignature) (xs : List SortedName) (p r : KorePattern) → IsSettledQuestion g (question_of_sides g xs p r)
asked_sides_settled g xs (application f ss (next_pattern p no_patterns)) r = injected_settled g (meaning_of g f) (asked_of_variable g xs p r) (variable_settled g xs p r)
asked_sides_settled g xs p r = variable_settled g xs p r

either_settled : (g : KoreSignature) (o u : Option HeadQuestion) → IsSettledQuestion g o → IsSettledQuestion g u → IsSettledQuestion g (first_question o u)
either_settled g (Some q) u i j = i
either_settled g None u i j = j

asked_question_settled : (g : KoreSignature) (xs : List SortedName) (p : KorePattern) → IsSettledQuestion g (head_question g xs p)
asked_question_settled g xs (exists s x t p) = asked_question_settled g (xs ++ record { name = x; sort = t } ∷ []) p
asked_question_settled g xs (equals a s p r) = either_settled g (question_of_sides g xs p r) (question_of_sides g xs r p) (asked_sides_settled g xs p r) (asked_sides_settled g xs r p)
asked_question_settled g xs (membership a s p r) = either_settled g (question_of_sides g xs p r) (question_of_sides g xs r p) (asked_sides_settled g xs p r) (asked_sides_settled g xs r p)
asked_question_settled g xs p = tt

denied_question_settled : (g : KoreSignature) (xs : List SortedName) (p : KorePattern) → IsSettledQuestion g (denied_question g xs p)
denied_question_settled g xs (forall s x t p) = denied_question_settled g (xs ++ record { name = x; sort = t } ∷ []) p
denied_question_settled g xs (negation s p) = asked_question_settled g xs p
denied_question_settled g xs p = tt

-- ---- predicates without connectives

filtered_settled : (g : KoreSignature) (test : Replaced → Bool) (rs : List Replaced) → ArePutSettled g rs → ArePutSettled g (filter test rs)
filtered_settled g test [] a = tt
filtered_settled g test (r ∷ rs) a = by (test r) (filtered_settled g test rs a.1)
  where
    by : (b : Bool) → ArePutSettled g (filter test rs) → ArePutSettled g (cond b (r ∷ filter test rs) (filter test rs))
    by true h = (a.0, h)
    by false h = h

quotation_settled : (g : KoreSignature) (rs : List Replaced) (p : KorePattern) → ArePutSettled g rs → IsFit g Any p → IsSettledAtom g (quotation rs p)
quotation_settled g rs p a i = (i, filtered_settled g (λ r. is_named r.name (free_variables p)) rs a)

ceil_settled : (g : KoreSignature) (rs : List Replaced) (alone b : Bool) (a : KoreSort) (p : KorePattern) → ArePutSettled g rs → IsFit g Any p → IsSettledFormula g (opened_ceil g rs alone b a p)
ceil_settled g rs alone b a (conjunction s (next_pattern p (next_pattern q no_patterns))) h i = opened_same_settled g alone b a (folded g rs p) (folded g rs q) (folded_settled g rs p h i.0) (folded_settled g rs q h i.1.0)
ceil_settled g rs alone b a p h i = fixed_settled g b

asked_formula_settled : (g : KoreSignature) (rs : List Replaced) (b : Bool) (p : KorePattern) (o : Option HeadQuestion) → ArePutSettled g rs → IsFit g Any p → IsSettledQuestion g o → IsSettledFormula g (asked_formula g rs b p o)
asked_formula_settled g rs b p (Some q) a i j = opened_test_settled g b q.test (literal_fact b (quotation rs p)) (folded g rs q.subject) (quotation_settled g rs p a i) j.1
asked_formula_settled g rs b p None a i j = quotation_settled g rs p a i

denied_formula_settled : (g : KoreSignature) (rs : List Replaced) (b : Bool) (p : KorePattern) (o : Option HeadQuestion) → ArePutSettled g rs → IsFit g Any p → IsSettledQuestion g o → IsSettledFormula g (denied_formula g rs b p o)
denied_formula_settled g rs b p (Some q) a i j = opened_test_settled g (not b) q.test (literal_fact b (quotation rs p)) (folded g rs q.subject) (quotation_settled g rs p a i) j.1
denied_formula_settled g rs b p None a i j = quotation_settled g rs p a i

leaf_settled : (g : KoreSignature) (rs : List Replaced) (alone b : Bool) (p : KorePattern) → ArePutSettled g rs → IsFit g Any p → IsSettledFormula g (opened_leaf g rs alone b p)
leaf_settled g rs alone b (equals a s p q) h i = opened_same_settled g alone b a (folded g rs p) (folded g rs q) (folded_settled g rs p h i.0) (folded_settled g rs q h i.1)
leaf_settled g rs alone b (membership a s p q) h i = opened_same_settled g alone b a (folded g rs p) (folded g rs q) (folded_settled g rs p h i.0) (folded_settled g rs q h i.1)
leaf_settled g rs alone b (ceil a s p) h i = ceil_settled g rs alone b a p h i
leaf_settled g rs alone b (exists s x t p) h i = asked_formula_settled g rs b (exists s x t p) (head_question g [] (exists s x t p)) h i (asked_question_settled g [] (exists s x t p))
leaf_settled g rs alone b (forall s x t p) h i = denied_formula_settled g rs b (forall s x t p) (denied_question g [] (forall s x t p)) h i (denied_question_settled g [] (forall s x t p))
leaf_settled g rs alone b p h i = quotation_settled g rs p h i

mutual
  opened_settled : (g : KoreSignature) (rs : List Replaced) (alone b : Bool) (p : KorePattern) → ArePutSettled g rs → IsFit g Any p → IsSettledFormula g (opened (opened_leaf g rs) alone b p)
  opened_settled g rs alone b (top s) h i = fixed_settled g b
  opened_settled g rs alone b (bottom s) h i = fixed_settled g (not b)
  opened_settled g rs alone b (negation s p) h i = opened_settled g rs alone (not b) p h i
  opened_settled g rs alone b (conjunction s ps) h i = if_settled g b (all_opened (opened_leaf g rs) (alone && b) b ps) (all_opened_settled g rs (alone && b) b ps h i)
  opened_settled g rs alone b (disjunction s ps) h i = if_settled g (not b) (all_opened (opened_leaf g rs) (alone && not b) b ps) (all_opened_settled g rs (alone && not b) b ps h i)
  opened_settled g rs alone b (implication s p q) h i = if_settled g (not b) (pair (opened (opened_leaf g rs) (alone && not b) (not b) p) (opened (opened_leaf g rs) (alone && not b) b q)) (opened_settled g rs (alone && not b) (not b) p h i.0, (opened_settled g rs (alone && not b) b q h i.1, tt))
  opened_settled g rs alone b (equivalence s p q) h i = (
    (opened_settled g rs false false p h i.0, (opened_settled g rs false b q h i.1, tt)),
    ((opened_settled g rs false true p h i.0, (opened_settled g rs false (not b) q h i.1, tt)), tt),
  )
  opened_settled g rs alone b (ceil a s p) h i = choose g (is_term p || is_conjoined_pair p) (opened_leaf g rs alone b (ceil a s p)) (opened (opened_leaf g rs) alone b p) (leaf_settled g rs alone b (ceil a s p) h i) (opened_settled g rs alone b p h i)
  opened_settled g rs alone b (floor a s p) h i = choose g (is_term p) (opened_leaf g rs alone b (floor a s p)) (opened (opened_leaf g rs) alone b p) (leaf_settled g rs alone b (floor a s p) h i) (opened_settled g rs alone b p h i)
  opened_settled g rs alone b (variable x s) h i = leaf_settled g rs alone b (variable x s) h i
  opened_settled g rs alone b (set_variable x s) h i = leaf_settled g rs alone b (set_variable x s) h i
  opened_settled g rs alone b (application f ss ps) h i = leaf_settled g rs alone b (application f ss ps) h i
  opened_settled g rs alone b (string_literal x) h i = leaf_settled g rs alone b (string_literal x) h i
  opened_settled g rs alone b (literal s x) h i = leaf_settled g rs alone b (literal s x) h i
  opened_settled g rs alone b (next s p) h i = absurd i
  opened_settled g rs alone b (rewriting s p q) h i = absurd i
  opened_settled g rs alone b (exists s x t p) h i = leaf_settled g rs alone b (exists s x t p) h i
  opened_settled g rs alone b (forall s x t p) h i = leaf_settled g rs alone b (forall s x t p) h i
  opened_settled g rs alone b (equals a s p q) h i = leaf_settled g rs alone b (equals a s p q) h i
  opened_settled g rs alone b (membership a s p q) h i = leaf_settled g rs alone b (membership a s p q) h i
  opened_settled g rs alone b (mu x s p) h i = absurd i
  opened_settled g rs alone b (nu x s p) h i = absurd i

  all_opened_settled : (g : KoreSignature) (rs : List Replaced) (alone b : Bool) (ps : KorePatterns) → ArePutSettled g rs → AreFit g Any ps → AreSettledFormulas g (all_opened (opened_leaf g rs) alone b ps)
  all_opened_settled g rs alone b no_patterns h i = tt
  all_opened_settled g rs alone b (next_pattern p ps) h i = (opened_settled g rs alone b p h i.0, all_opened_settled g rs alone b ps h i.1)

-- ---- clauses

quoted_settled : (g : KoreSignature) (rs : List Replaced) (b : Bool) (p : KorePattern) → ArePutSettled g rs → IsFit g Any p → IsSettledLiteral g (quoted_literal rs b p)
quoted_settled g rs b (negation s p) h i = quoted_settled g rs (not b) p h i
quoted_settled g rs b p h i = quotation_settled g rs p h i

conjunct_settled : (g : KoreSignature) (rs : List Replaced) (n : ℕ) (p : KorePattern) → ArePutSettled g rs → IsFit g Any p → AreSettledClauses g (clauses_of_conjunct g rs n p)
conjunct_settled g rs n p h i = by_size (AllByRecursion (IsSettledLiteral g)) (is_too_large n (opened_predicate g rs true p)) ((quoted_literal rs true p ∷ []) ∷ []) (distributed (opened_predicate g rs true p))
    ((quoted_settled g rs true p h i, tt), tt)
    (clauses_have (IsSettledLiteral g) (opened_predicate g rs true p) (opened_settled g rs true true p h i))

conjuncts_settled : (g : KoreSignature) (rs : List Replaced) (n : ℕ) (ps : List KorePattern) → ArePutSettled g rs → AllByRecursion (IsFit g Any) ps → AreSettledClauses g (clauses_of_conjuncts g rs n ps)
conjuncts_settled g rs n [] h i = tt
conjuncts_settled g rs n (p ∷ ps) h i = all_both (AllByRecursion (IsSettledLiteral g)) (clauses_of_conjunct g rs n p) (clauses_of_conjuncts g rs (n + literals_of_conjunct g rs n p) ps) (conjunct_settled g rs n p h i.0) (conjuncts_settled g rs (n + literals_of_conjunct g rs n p) ps h i.1)

pub once_settled : (g : KoreSignature) (cs : List (List Literal)) → AreSettledClauses g cs → AreSettledClauses g (without_repeats cs)
once_settled g cs h = kept_are literals_same (AllByRecursion (IsSettledLiteral g)) [] 0 cs h

pub predicates_settled : (g : KoreSignature) (ps : List KorePattern) → AllByRecursion (IsFit g Any) ps → AreSettledClauses g (without_repeats (clauses_of_conjuncts g [] 0 ps))
predicates_settled g ps h = once_settled g (clauses_of_conjuncts g [] 0 ps) (conjuncts_settled g [] 0 ps tt h)
