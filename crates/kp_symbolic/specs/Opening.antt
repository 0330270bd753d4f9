-- A predicate with a sign as a formula of literals: connectives, equality of constructor terms, Boolean expressions and
-- tests of heads are opened, and what isn't opened is quoted.
-- Source: matching logic's connectives in negation normal form; constructors are injective and without confusion; K's
-- domains.md (BOOL).
use Rattle.std.specs.Prelude.{Bool, true, false, not, ◌&&◌, ◌||◌, List, [], ◌∷◌, ◌++◌, Option, Some, None, if◌then◌else◌, MatchBool}
use Rattle.std.specs.Bool.{beq}
use Rattle.std.specs.List.{filter}
use Rattle.std.specs.Str.{bytes_eq}
use Rattle.kp_kore.specs.Syntax.{Text, KoreSort, sort_variable, KoreSorts, no_sorts, next_sort, KorePattern, KorePatterns, variable, application, top, bottom, negation, conjunction, disjunction, implication, equivalence, exists, forall, ceil, floor, equals, membership, no_patterns, next_pattern}
use Rattle.kp_kore.specs.Attributes.{sorts_equal}
use Rattle.kp_kore.specs.Hooks.{Comparison, equal, Connective, both, either, implies, same as same_truth, other, Hook, whole_arithmetic, whole_comparison, truth_connective, truth_negation, values_equal, values_different}
use Rattle.kp_kore.specs.Parts.{SortedName, is_term, free_variables}
use Rattle.kp_kore.specs.Signature.{KoreSignature, SymbolMeaning, injection, construction, interpretation, meaning_of, boolean_sort, is_truth_sort, Head, integers, booleans, constructor_of}
use Rattle.kp_kore.specs.Value.{Value, truth, constructed, Values, no_values, next_value, head_of}
use Rattle.kp_kore.specs.Interpretation.{compared}
use Rattle.kp_kore.specs.Instance.{is_named, is_conjoined_pair}
use Rattle.kp_compile.specs.Spelled.{places_of}
use Rattle.kp_symbolic.specs.Terms.{SymbolicTerm, unknown, offset, known, headed, SymbolicTerms, no_terms, next_term, term_variables, Replaced}
use Rattle.kp_symbolic.specs.Formulas.{Formula, fact, all_of, one_of, Formulas, no_formulas, next_formula}
use Rattle.kp_symbolic.specs.States.{HeadTest, one_head, head_of_sort, Atom, same, has_head, quoted, Literal}
use Rattle.kp_symbolic.specs.Alike.{terms_same}
use Rattle.kp_symbolic.specs.Folding.{folded, Sum, sum_of}
use Rattle.kp_symbolic.specs.Heads.{is_construction, passes_head, head_answer}

-- ---- formulas by their sign

-- what is said by a sign: the fact, or its opposite
abbrev pub signed : Bool → Type 0 → Type 0
signed b A = MatchBool b A (¬ A)

-- all of these where the sign is positive, else one of these
abbrev pub all_if : Bool → Formulas Literal → Formula Literal
all_if true fs = all_of fs
all_if false fs = one_of fs

-- what is always true, or always false
abbrev pub fixed : Bool → Formula Literal
fixed b = all_if b no_formulas

abbrev pub pair : Formula Literal → Formula Literal → Formulas Literal
pair f h = next_formula f (next_formula h no_formulas)

abbrev pub literal_fact : Bool → Atom → Formula Literal
literal_fact b a = fact (record { holds = b; atom = a })

-- both are true or both are false: the one with its opposite formula, then the other
abbrev pub agreeing : Formula Literal → Formula Literal → Formula Literal → Formula Literal → Formula Literal
agreeing p not_p q not_q = all_of (pair (one_of (pair not_p q)) (one_of (pair p not_q)))

-- ---- connectives

-- How a predicate without connectives is opened: whether it stands in a clause of its own, its sign, the predicate.
abbrev pub Leaf : Type 0
Leaf = Bool → Bool → KorePattern → Formula Literal

-- \ceil and \floor of a predicate are the predicate
abbrev mutual
  pub opened : Leaf → Bool → Bool → KorePattern → Formula Literal
  opened leaf alone b (top s) = fixed b
  opened leaf alone b (bottom s) = fixed (not b)
  opened leaf alone b (negation s p) = opened leaf alone (not b) p
  opened leaf alone b (conjunction s ps) = all_if b (all_opened leaf (alone && b) b ps)
  opened leaf alone b (disjunction s ps) = all_if (not b) (all_opened leaf (alone && not b) b ps)
  opened leaf alone b (implication s p q) = all_if (not b) (pair (opened leaf (alone && not b) (not b) p) (opened leaf (alone && not b) b q))
  opened leaf alone b (equivalence s p q) = agreeing (opened leaf false true p) (opened leaf false false p) (opened leaf false b q) (opened leaf false (not b) q)
  opened leaf alone b (ceil a s p) = if is_term p || is_conjoined_pair p then leaf alone b (ceil a s p) else opened leaf alone b p
  opened leaf alone b (floor a s p) = if is_term p then leaf alone b (floor a s p) else opened leaf alone b p
  opened leaf alone b p = leaf alone b p

  pub all_opened : Leaf → Bool → Bool → KorePatterns → Formulas Literal
  all_opened leaf alone b no_patterns = no_formulas
  all_opened leaf alone b (next_pattern p ps) = next_formula (opened leaf alone b p) (all_opened leaf alone b ps)

-- what is left to the leaf: no connectives, and of \ceil and \floor those of terms alone
abbrev pub is_left : KorePattern → Bool
is_left (top s) = false
is_left (bottom s) = false
is_left (negation s p) = false
is_left (conjunction s ps) = false
is_left (disjunction s ps) = false
is_left (implication s p q) = false
is_left (equivalence s p q) = false
is_left (ceil a s p) = is_term p || is_conjoined_pair p
is_left (floor a s p) = is_term p
is_left p = true

-- ---- what an equality and a Boolean expression open to

-- the truth sort; where there is none, no expression is Boolean
abbrev pub truth_sort : KoreSignature → KoreSort
truth_sort g = of_declared (boolean_sort g)
  where
    of_declared : Option KoreSort → KoreSort
    of_declared (Some s) = s
    of_declared None = sort_variable []

-- the literal that a Boolean expression is true
abbrev pub is_true : KoreSignature → Bool → SymbolicTerm → Formula Literal
is_true g b t = literal_fact b (same (truth_sort g) t (known (truth true)))

abbrev pub equality_fact : Bool → KoreSort → SymbolicTerm → SymbolicTerm → Formula Literal
equality_fact b s t u = literal_fact b (same s t u)

-- two sums of one variable compare as their constants do
abbrev pub compared_at_once : Comparison → Option Sum → Option Sum → Option Bool
compared_at_once c (Some m) (Some n) = if bytes_eq m.variable.name n.variable.name then Some (compared c m.constant n.constant) else None
compared_at_once c _ _ = None

abbrev pub fixed_or : Option Bool → Bool → Formula Literal → Formula Literal
fixed_or (Some c) b f = fixed (beq c b)
fixed_or None b f = f

-- x stands in the term, under constructors alone or as it
abbrev mutual
  pub holds_name : KoreSignature → Text → SymbolicTerm → Bool
  holds_name g x (unknown y) = bytes_eq x y.name
  holds_name g x (headed f ts) = is_construction (meaning_of g f) && some_hold_name g x ts
  holds_name g x _ = false

  pub some_hold_name : KoreSignature → Text → SymbolicTerms → Bool
  some_hold_name g x no_terms = false
  some_hold_name g x (next_term t ts) = holds_name g x t || some_hold_name g x ts

-- a constructor's term and what has no constructor: a variable inside the term isn't the term, nor is another value
abbrev pub is_never : KoreSignature → SymbolicTerm → SymbolicTerm → Bool
is_never g t (unknown x) = holds_name g x.name t
is_never g t (known u) = true
is_never g t u = false

-- two terms without constructors, not the same by form
abbrev pub unconstructed : KoreSignature → Bool → Formula Literal → SymbolicTerm → SymbolicTerm → Formula Literal
unconstructed g b kept (known u) (known w) = fixed (not b)
unconstructed g b kept t u = fixed_or (compared_at_once equal (sum_of g t) (sum_of g u)) b kept

-- an equality of a Boolean variable with what doesn't hold it is kept in a clause of its own
abbrev pub is_kept_truth : SymbolicTerm → SymbolicTerm → Bool
is_kept_truth (unknown x) u = not (is_named x.name (term_variables u))
is_kept_truth t (unknown y) = not (is_named y.name (term_variables t))
is_kept_truth t u = false

-- How a term is opened: where a Boolean expression is asked for, by whether it stands in a clause of its own, its sign, and
-- the literal that is kept where it isn't opened; its constructor, if it has one, and its members.
mutual
  pub data Seen : Type 0 where
    seen : SymbolicTerm → (Bool → Bool → Formula Literal → Formula Literal) → Option Text → Seens → Seen

  pub data Seens : Type 0 where
    none_seen : Seens
    next_seen : Seen → Seens → Seens

-- the formula that a Boolean expression, as a part of another, is true or false
abbrev pub asked : KoreSignature → Bool → Bool → Seen → Formula Literal
asked g alone b (seen t p c ms) = p alone b (is_true g b t)

-- both expressions are true or both are false
abbrev pub opened_agreement : KoreSignature → Bool → Seen → Seen → Formula Literal
opened_agreement g b m n = agreeing (asked g false true m) (asked g false false m) (asked g false b n) (asked g false (not b) n)

-- of the truth sort: with a truth value the other side as it was written, else as \iff
abbrev pub opened_truths : KoreSignature → Bool → Bool → Formula Literal → Seen → Seen → Formula Literal
opened_truths g alone b kept (seen t p c ms) (seen (known (truth a)) q d ns) = p alone (beq a b) kept
opened_truths g alone b kept (seen (known (truth a)) p c ms) (seen u q d ns) = q alone (beq a b) kept
opened_truths g alone b kept (seen t p c ms) (seen u q d ns) = if alone && b && is_kept_truth t u then kept else opened_agreement g b (seen t p c ms) (seen u q d ns)

-- of another sort: of one constructor member by member, of two never, else kept
abbrev pub opened_sides : KoreSignature → Bool → Formula Literal → SymbolicTerm → SymbolicTerm → Option Text → Option Text → Formulas Literal → Formula Literal
opened_sides g b kept t u (Some c) (Some d) members = if bytes_eq c d then all_if b members else fixed (not b)
opened_sides g b kept t u (Some c) None members = if is_never g t u then fixed (not b) else kept
opened_sides g b kept t u None (Some d) members = if is_never g u t then fixed (not b) else kept
opened_sides g b kept t u None None members = unconstructed g b kept t u

abbrev pub sorts_of_members : KoreSignature → Option Text → KoreSorts
sorts_of_members g (Some c) = places_of g c
sorts_of_members g None = no_sorts

-- an equality at a sort; members of constructors are literals of their own
abbrev mutual
  pub opened_seen : KoreSignature → Bool → Bool → KoreSort → Formula Literal → Seen → Seen → Formula Literal
  opened_seen g alone b s kept (seen t p c ms) (seen u q d ns) =
      if terms_same t u then fixed b
      else if is_truth_sort g s then opened_truths g alone b kept (seen t p c ms) (seen u q d ns)
      else opened_sides g b kept t u c d (opened_members g (alone && b) b (sorts_of_members g c) ms ns)

  pub opened_members : KoreSignature → Bool → Bool → KoreSorts → Seens → Seens → Formulas Literal
  opened_members g alone b (next_sort s ss) (next_seen (seen t p c ms) rest) (next_seen (seen u q d ns) others) = next_formula (opened_seen g alone b s (equality_fact b s t u) (seen t p c ms) (seen u q d ns)) (opened_members g alone b ss rest others)
  opened_members g alone b ss ms ns = no_formulas

-- the sort at which a symbol of two arguments compares: that of both, if they have one
abbrev pub common_sort : KoreSorts → KoreSort
common_sort (next_sort a (next_sort b ss)) = if sorts_equal a b then a else sort_variable []
common_sort ss = sort_variable []

-- the Boolean hooks are opened, and so are comparisons that the folded terms decide
abbrev pub opened_call : KoreSignature → KoreSorts → SymbolMeaning → Seens → Bool → Bool → Formula Literal → Formula Literal
opened_call g ss (interpretation truth_negation) (next_seen m none_seen) alone b kept = asked g alone (not b) m
opened_call g ss (interpretation (truth_connective c)) (next_seen m (next_seen n none_seen)) alone b kept = connected_by c
  where
    connected_by : Connective → Formula Literal
    connected_by both = all_if b (pair (asked g (alone && b) b m) (asked g (alone && b) b n))
    connected_by either = all_if (not b) (pair (asked g (alone && not b) b m) (asked g (alone && not b) b n))
    connected_by implies = all_if (not b) (pair (asked g (alone && not b) (not b) m) (asked g (alone && not b) b n))
    connected_by same_truth = opened_agreement g b m n
    connected_by other = opened_agreement g (not b) m n
opened_call g ss (interpretation (whole_comparison o)) (next_seen (seen t p c ms) (next_seen (seen u q d ns) none_seen)) alone b kept = fixed_or (compared_at_once o (sum_of g t) (sum_of g u)) b kept
opened_call g ss (interpretation values_equal) (next_seen m (next_seen n none_seen)) alone b kept = opened_seen g alone b (common_sort ss) kept m n
opened_call g ss (interpretation values_different) (next_seen m (next_seen n none_seen)) alone b kept = opened_seen g alone (not b) (common_sort ss) kept m n
opened_call g ss meaning ms alone b kept = kept

abbrev pub constructor_if : Bool → Text → Option Text
constructor_if b f = if b then Some f else None

abbrev mutual
  pub seen_value : Value → Seen
  seen_value (constructed c us) = seen (known (constructed c us)) (λ alone b kept. kept) (Some c) (seen_values us)
  seen_value (truth a) = seen (known (truth a)) (λ alone b kept. fixed (beq a b)) None none_seen
  seen_value u = seen (known u) (λ alone b kept. kept) None none_seen

  pub seen_values : Values → Seens
  seen_values no_values = none_seen
  seen_values (next_value u us) = next_seen (seen_value u) (seen_values us)

abbrev mutual
  pub seen_term : KoreSignature → SymbolicTerm → Seen
  seen_term g (known u) = seen_value u
  seen_term g (headed f ts) = seen (headed f ts) (opened_call g (places_of g f) (meaning_of g f) (seen_terms g ts)) (constructor_if (is_construction (meaning_of g f)) f) (seen_terms g ts)
  seen_term g t = seen t (λ alone b kept. kept) None none_seen

  pub seen_terms : KoreSignature → SymbolicTerms → Seens
  seen_terms g no_terms = none_seen
  seen_terms g (next_term t ts) = next_seen (seen_term g t) (seen_terms g ts)

-- an equality of two terms at a sort
abbrev pub opened_same : KoreSignature → Bool → Bool → KoreSort → SymbolicTerm → SymbolicTerm → Formula Literal
opened_same g alone b s t u = opened_seen g alone b s (equality_fact b s t u) (seen_term g t) (seen_term g u)

-- a Boolean expression
abbrev pub opened_truth : KoreSignature → Bool → Bool → SymbolicTerm → Formula Literal
opened_truth g alone b t = asked g alone b (seen_term g t)

-- ---- heads

-- a question for the head of a term: the term and the test
pub record HeadQuestion : Type 0 where
  pub subject : KorePattern
  pub test : HeadTest

-- the arguments are these variables, in order, each of another name
abbrev pub are_variables : List SortedName → KoreSorts → KorePatterns → Bool
are_variables [] no_sorts no_patterns = true
are_variables (x ∷ xs) (next_sort s ss) (next_pattern (variable y t) ps) = bytes_eq x.name y && sorts_equal x.sort t && sorts_equal x.sort s && not (is_named x.name xs) && are_variables xs ss ps
are_variables _ _ _ = false

abbrev pub question_if : Bool → KorePattern → HeadTest → Option HeadQuestion
question_if b p test = if b then Some (record { subject = p; test = test }) else None

-- the constructor of the bound variables, as it stands or under inj; the bound variable under inj
abbrev pub asked_constructor : KoreSignature → List SortedName → KorePattern → SymbolMeaning → Text → KorePatterns → Option HeadQuestion
asked_constructor g xs p construction f ps = question_if (are_variables xs (places_of g f) ps) p (one_head f)
asked_constructor g xs p m f ps = None

abbrev pub asked_under_inj : KoreSignature → List SortedName → KorePattern → KoreSorts → KorePatterns → Option HeadQuestion
asked_under_inj g xs p ss (next_pattern (application f ts ps) no_patterns) = asked_constructor g xs p (meaning_of g f) f ps
asked_under_inj g (x ∷ []) p (next_sort t ss) ps = question_if (are_variables (x ∷ []) (next_sort t no_sorts) ps) p (head_of_sort t)
asked_under_inj g xs p ss ps = None

abbrev pub asked_of : KoreSignature → List SortedName → KorePattern → SymbolMeaning → Text → KoreSorts → KorePatterns → Option HeadQuestion
asked_of g xs p injection f ss ps = asked_under_inj g xs p ss ps
asked_of g xs p m f ss ps = asked_constructor g xs p m f ps

-- the one bound variable, as it stands
abbrev pub asked_variable : List SortedName → KorePattern → Text → KoreSort → Option HeadQuestion
asked_variable (x ∷ []) p z t = question_if (are_variables (x ∷ []) (next_sort t no_sorts) (next_pattern (variable z t) no_patterns)) p (head_of_sort t)
asked_variable xs p z t = None

-- what the other side asks of a term
abbrev pub asked_side : KoreSignature → List SortedName → KorePattern → KorePattern → Option HeadQuestion
asked_side g xs p (application f ss ps) = asked_of g xs p (meaning_of g f) f ss ps
asked_side g xs p (variable z t) = asked_variable xs p z t
asked_side g xs p r = None

-- what it asks of a variable that isn't bound
abbrev pub asked_of_variable : KoreSignature → List SortedName → KorePattern → KorePattern → Option HeadQuestion
asked_of_variable g xs (variable y t) r = if is_named y xs then None else asked_side g xs (variable y t) r
asked_of_variable g xs p r = None

abbrev pub under_injection : SymbolMeaning → Option HeadQuestion → Option HeadQuestion
under_injection injection o = o
under_injection m o = None

-- as it stands or under inj
abbrev pub question_of_sides : KoreSignature → List SortedName → KorePattern → KorePattern → Option HeadQuestion
question_of_sides g xs (application f ss (next_pattern p no_patterns)) r = under_injection (meaning_of g f) (asked_of_variable g xs p r)
question_of_sides g xs p r = asked_of_variable g xs p r

abbrev pub first_question : Option HeadQuestion → Option HeadQuestion → Option HeadQuestion
first_question (Some q) o = Some q
first_question None o = o

-- \exists of the bound variables, of an equality that asks it of one of its sides
abbrev pub head_question : KoreSignature → List SortedName → KorePattern → Option HeadQuestion
head_question g xs (exists s x t p) = head_question g (xs ++ record { name = x; sort = t } ∷ []) p
head_question g xs (equals a s p r) = first_question (question_of_sides g xs p r) (question_of_sides g xs r p)
head_question g xs (membership a s p r) = first_question (question_of_sides g xs p r) (question_of_sides g xs r p)
head_question g xs p = None

-- \forall of the bound variables, of the opposite of such a question
abbrev pub denied_question : KoreSignature → List SortedName → KorePattern → Option HeadQuestion
denied_question g xs (forall s x t p) = denied_question g (xs ++ record { name = x; sort = t } ∷ []) p
denied_question g xs (negation s p) = head_question g xs p
denied_question g xs p = None

-- the head of an interpreted call
abbrev pub head_of_call : Hook → Head
head_of_call (whole_arithmetic a) = integers
head_of_call h = booleans

abbrev pub opened_test : KoreSignature → Bool → HeadTest → Formula Literal → SymbolicTerm → Formula Literal
opened_test g b test kept (unknown x) = fixed_or (head_answer g x.sort test) b (literal_fact b (has_head x test))
opened_test g b test kept (offset x c) = fixed (beq (passes_head g test integers) b)
opened_test g b test kept (known u) = fixed (beq (passes_head g test (head_of u)) b)
opened_test g b test kept (headed f ts) = by_meaning (meaning_of g f)
  where
    by_meaning : SymbolMeaning → Formula Literal
    by_meaning construction = fixed (beq (passes_head g test (constructor_of f)) b)
    by_meaning (interpretation h) = fixed (beq (passes_head g test (head_of_call h)) b)
    by_meaning m = kept

-- ---- predicates without connectives

-- the replacements of the pattern's free variables alone
abbrev pub quotation : List Replaced → KorePattern → Atom
quotation rs p = quoted p (filter (λ r. is_named r.name (free_variables p)) rs)

-- \ceil of a term is true, of two conjoined terms their equality
abbrev pub opened_ceil : KoreSignature → List Replaced → Bool → Bool → KoreSort → KorePattern → Formula Literal
opened_ceil g rs alone b a (conjunction s (next_pattern p (next_pattern q no_patterns))) = opened_same g alone b a (folded g rs p) (folded g rs q)
opened_ceil g rs alone b a p = fixed b

abbrev pub opened_leaf : KoreSignature → List Replaced → Leaf
opened_leaf g rs alone b (equals a s p q) = opened_same g alone b a (folded g rs p) (folded g rs q)
opened_leaf g rs alone b (membership a s p q) = opened_same g alone b a (folded g rs p) (folded g rs q)
opened_leaf g rs alone b (ceil a s p) = opened_ceil g rs alone b a p
opened_leaf g rs alone b (exists s x t p) = of_question (head_question g [] (exists s x t p))
  where
    of_question : Option HeadQuestion → Formula Literal
    of_question (Some q) = opened_test g b q.test (literal_fact b (quotation rs (exists s x t p))) (folded g rs q.subject)
    of_question None = literal_fact b (quotation rs (exists s x t p))
opened_leaf g rs alone b (forall s x t p) = of_denied (denied_question g [] (forall s x t p))
  where
    of_denied : Option HeadQuestion → Formula Literal
    of_denied (Some q) = opened_test g (not b) q.test (literal_fact b (quotation rs (forall s x t p))) (folded g rs q.subject)
    of_denied None = literal_fact b (quotation rs (forall s x t p))
opened_leaf g rs alone b p = literal_fact b (quotation rs p)

-- a predicate, with terms in the place of variables
abbrev pub opened_predicate : KoreSignature → List Replaced → Bool → KorePattern → Formula Literal
opened_predicate g rs b p = opened (opened_leaf g rs) true b p
