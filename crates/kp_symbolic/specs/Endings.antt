-- When results that may be undecided are right: of a run, an implication, a simplified state; and which states must not be
-- left undecided.
-- Source: the K Haskell backend's JSON-RPC documentation (execute and its reasons, implies, simplify); this project.
use Rattle.std.specs.Prelude.{◌≡◌, ℕ, suc, ◌<◌, ◌≤◌, Bool, true, false, not, ◌&&◌, ◌||◌, List, [], ◌∷◌, ◌++◌, map, Option, Some, None, IsTrue, ⊤, length, min, if◌then◌else◌}
use Rattle.std.specs.List.{AllByRecursion, Contains, flat_map, filter, list_any, list_all}
use Rattle.std.specs.List.Sorted.{IsPermutation}
use Rattle.std.specs.Str.{bytes_eq}
use Rattle.kp_kore.specs.Syntax.{KoreSort, KorePattern}
use Rattle.kp_kore.specs.Parts.{SortedName, free_variables, subpatterns}
use Rattle.kp_kore.specs.Signature.{KoreSignature, meaning_of, has_only_numbers}
use Rattle.kp_kore.specs.Instance.{Valuation, conjoined_predicates, conjoined_terms, is_named}
use Rattle.kp_kore.specs.Rules.{RuleBody, rewrite, foreign_rule, RewriteRule, top_binders, under_binders}
use Rattle.kp_kore.specs.Foreign.{none_within, has_interpreted_head, repeats_literals_only, InjectionsSplit}
use Rattle.kp_kore.specs.Theory.{Theory}
use Rattle.kp_kore.specs.Steps.{AnyByRecursion, Fires, IsUnknown, StepsIn}
use Rattle.kp_kore.specs.Replies.{IsComputed}
use Rattle.kp_kore.specs.AtHand.{OfEach, OfSome, HasSome}
use Rattle.kp_kore.specs.Onward.{Leads, Passes}
use Rattle.kp_kore.specs.Executions.{Options, listed_in, Reason, depth_bound, RunsTo, IsRightReason}
use Rattle.kp_kore.specs.Implied.{Implied, IsRightImplied, Simplified, IsRightSimplified}
use Rattle.kp_symbolic.specs.Terms.{SymbolicTerm, unknown, headed, SymbolicTerms, no_terms, next_term, term_instance, term_variables, Replaced, replacement_for}
use Rattle.kp_symbolic.specs.States.{Literal, SymbolicState}
use Rattle.kp_symbolic.specs.Folding.{folded}
use Rattle.kp_symbolic.specs.Heads.{is_construction}
use Rattle.kp_symbolic.specs.Clauses.{clauses_of_conjuncts}
use Rattle.kp_symbolic.specs.Solving.{Equation, equation_of, IsReadAs}
use Rattle.kp_symbolic.specs.Writing.{written_clause, written_predicate}
use Rattle.kp_symbolic.specs.Plain.{has_only_tokens, IsPlainState, read_clauses, rough_clauses}
use Rattle.kp_symbolic.specs.Weights.{IsOver, IsWithinLimits}
use Rattle.kp_symbolic.specs.Verdicts.{IsStateUndecided}
use Rattle.kp_symbolic.specs.Sources.{SymbolicRule, rule_beside, TermsMeet, IsMatch}
use Rattle.kp_symbolic.specs.Shown.{Situation, AreDifferent, question_of, is_rough, IsMetButRough, RuleShape, IsEasy, Undecided, unknown_clauses, weight_passed, most_told, IsShown, IsLimitOfTerms}

-- ---- rules that meet a state

-- a rule of the theory, as it stands in this place beside the state
pub record RuleUse : Type 0 where
  pub rule : RewriteRule
  pub beside : SymbolicRule

pub record IsUse (t : Theory) (s : SymbolicState) (k : ℕ) (u : RuleUse) : Type 0 where
  pub among : Contains t.rules u.rule
  pub reads : rule_beside t.signature k u.rule.body ≡ Some u.beside
  pub meets : TermsMeet t.signature s.term u.beside.left

-- counted from k
abbrev pub AreUses : Theory → SymbolicState → ℕ → List RuleUse → Type 0
AreUses t s k [] = ⊤
AreUses t s k (u ∷ us) = IsUse t s k u × AreUses t s (suc k) us

-- each variable of the rules has a term in its place
abbrev pub AllReplaced : List Replaced → List SymbolicRule → Type 0
AllReplaced put rules = AllByRecursion (λ r. AllByRecursion (λ x. ¬ (replacement_for put x.name ≡ None)) r.variables) rules

-- the shapes of all rules that meet the state, in order; a foreign one has none
abbrev pub shape_of : KoreSignature → RuleBody → List RuleShape
shape_of g (rewrite r) = record { left = r.left; clauses = clauses_of_conjuncts g [] 0 r.condition; compared = 0 } ∷ []
shape_of g (foreign_rule l) = []

abbrev pub MeetsRule : KoreSignature → SymbolicState → RuleBody → Type 0
MeetsRule g s (rewrite r) = AnyByRecursion (λ q. TermsMeet g s.term q.left) (beside (rule_beside g 0 (rewrite r)))
  where
    beside : Option SymbolicRule → List SymbolicRule
    beside (Some q) = q ∷ []
    beside None = []
MeetsRule g s (foreign_rule l) = ⊥

pub data AreShapes (g : KoreSignature) (s : SymbolicState) : List RewriteRule → List RuleShape → Type 0 where
  no_more : AreShapes g s [] []
  meets : (r : RewriteRule) (rs : List RewriteRule) (qs : List RuleShape) → MeetsRule g s r.body → AreShapes g s rs qs → AreShapes g s (r ∷ rs) (shape_of g r.body ++ qs)
  passes : (r : RewriteRule) (rs : List RewriteRule) (qs : List RuleShape) → ¬ MeetsRule g s r.body → AreShapes g s rs qs → AreShapes g s (r ∷ rs) qs

-- ---- execute

-- no match of the rule leaves a clause that isn't plain
abbrev pub IsSure : Theory → Situation → RewriteRule → Type 0
IsSure t b r = (k : ℕ) (q : SymbolicRule) (put : List Replaced) → rule_beside t.signature k r.body ≡ Some q → IsMatch t.signature b.hand b.state (q ∷ []) put →
    ¬ AnyByRecursion (λ c. IsTrue (is_rough t.signature b c)) (question_of t.signature (with_put put) q)
  where
    with_put : List Replaced → Situation
    with_put put = record { hand = b.hand; state = b.state; rules = b.rules; put = put; not_given = b.not_given; lefts = b.lefts }

abbrev pub IsReadRule : RuleBody → Type 0
IsReadRule (rewrite r) = ⊤
IsReadRule (foreign_rule l) = ⊥

-- a rule that is read is met but for what isn't plain, and no sure rule of a smaller priority number fires there
pub record IsRuleAsked (t : Theory) (b : Situation) (v : Valuation) (u : RuleUse) : Type 0 where
  pub is_read : IsReadRule u.rule.body
  pub met : IsMetButRough t.signature b v u.beside
  pub none_before : AllByRecursion (λ r. r.priority < u.rule.priority → IsSure t b r → ¬ Fires t.signature r.body (term_instance t.signature v b.state.term)) t.rules

-- what is shown of a state of a run of the request
pub record IsShownOfRun (t : Theory) (request p : KorePattern) (cause : Undecided) : Type 0 where
  pub state : SymbolicState
  pub read : IsReadAs t.signature p state
  pub uses : List RuleUse
  pub are_uses : AreUses t state 1 uses
  pub put : List Replaced
  pub match : IsMatch t.signature (request ∷ p ∷ []) state (map (λ u. u.beside) uses) put
  pub replaced : AllReplaced put (map (λ u. u.beside) uses)
  pub shapes : List RuleShape
  pub are_shapes : AreShapes t.signature state t.rules shapes
  pub shown : (let b : Situation = record { hand = request ∷ p ∷ []; state = state; rules = map (λ u. u.beside) uses; put = put; not_given = []; lefts = map (λ q. q.left) shapes } in
      IsShown t.signature b shapes (λ v. AnyByRecursion (IsRuleAsked t b v) uses) cause)

-- how a run ends: by one of the seven reasons, of which aborted names a foreign rule, or undecided
pub data Ending : Type 0 where
  ends : Reason → Ending
  aborted : Undecided → Ending

pub record Ended : Type 0 where
  pub depth : ℕ
  pub ending : Ending
  pub state : KorePattern

-- the state's condition is plain and within the limits
abbrev pub IsPlainPattern : KoreSignature → KorePattern → Type 0
IsPlainPattern g p = (s : SymbolicState) × IsReadAs g p s × IsPlainState g s × IsWithinLimits g s

-- depth-bound: a state whose condition is plain and within the limits has an instance; the other reasons as they are
abbrev pub IsRightBound : Theory → Options → KorePattern → KorePattern → ℕ → Reason → Type 0
IsRightBound t o request s d depth_bound = (d ≡ o.bound) × (IsPlainPattern t.signature s → HasSome t.signature (request ∷ []) s)
IsRightBound t o request s d reason = IsRightReason t o request s d reason

abbrev pub IsRightEnding : Theory → Options → KorePattern → KorePattern → ℕ → Ending → Type 0
IsRightEnding t o request s d (ends reason) = RunsTo t o request s d reason × IsRightBound t o request s d reason
IsRightEnding t o request s d (aborted cause) = Leads t request s d × Passes t (listed_in o) request d × (d < o.bound) × IsShownOfRun t request s cause

pub record IsRightEnded (t : Theory) (o : Options) (request : KorePattern) (reply : Ended) : Type 0 where
  pub within_bound : reply.depth ≤ o.bound
  pub ending : IsRightEnding t o request reply.state reply.depth reply.ending
  -- some instance of the request goes on until the last step
  pub reached : (n : ℕ) → reply.depth ≡ suc n → OfSome t.signature [] request (λ v c. (later : _) × StepsIn t n c later)
  pub computed : IsComputed t.signature reply.state

-- a state that runs don't leave undecided: no foreign rule might rewrite an instance, and it is easy beside its rules
pub record IsEasyForRuns (t : Theory) (request p : KorePattern) : Type 0 where
  pub state : SymbolicState
  pub read : IsReadAs t.signature p state
  pub known : OfEach t.signature (request ∷ []) p (λ v c. ¬ IsUnknown t c)
  pub shapes : List RuleShape
  pub are_shapes : AreShapes t.signature state t.rules shapes
  pub easy : IsEasy t.signature state shapes

abbrev pub IsFloorKept : Theory → KorePattern → Ended → Type 0
IsFloorKept t request reply = IsEasyForRuns t request reply.state → (u : Undecided) → reply.ending ≡ aborted u → IsLimitOfTerms u

-- ---- implies

-- the variables of a term that stand outside of calls, alone or with a constant added
abbrev pub given_by_member : Bool → List SortedName → List SortedName
given_by_member true xs = xs
given_by_member false xs = []

abbrev mutual
  pub open_places : KoreSignature → SymbolicTerm → List SortedName
  open_places g (headed f ts) = given_by_member (is_construction (meaning_of g f)) (all_open_places g ts)
  open_places g t = term_variables t

  pub all_open_places : KoreSignature → SymbolicTerms → List SortedName
  all_open_places g no_terms = []
  all_open_places g (next_term t ts) = open_places g t ++ all_open_places g ts

abbrev pub is_equation_of : SortedName → Option Equation → Bool
is_equation_of x (Some e) = bytes_eq e.variable.name x.name
is_equation_of x None = false

-- the bound variable is given by the match, or by a solved equation
abbrev pub is_given : KoreSignature → SymbolicRule → SortedName → Bool
is_given g r x = is_named x.name (open_places g r.left) || list_any (λ c. is_equation_of x (equation_of g c)) r.clauses

-- the consequent as the one rule: its term, and its predicates' clauses; its variables are those that are bound
pub record IsConsequent (g : KoreSignature) (c : KorePattern) (r : SymbolicRule) : Type 0 where
  pub term : KorePattern
  pub is_term : conjoined_terms (under_binders c) ≡ term ∷ []
  pub is : r ≡ record {
    left = folded g [] term;
    clauses = clauses_of_conjuncts g [] 0 (conjoined_predicates (under_binders c));
    ensured = [];
    right = None;
    variables = top_binders c;
  }

abbrev pub not_given_in : KoreSignature → SymbolicRule → List SortedName
not_given_in g r = filter (λ x. not (is_given g r x)) r.variables

-- each bound variable that is given has a term in its place
abbrev pub AllGivenReplaced : KoreSignature → List Replaced → SymbolicRule → Type 0
AllGivenReplaced g put r = AllByRecursion (λ x. IsTrue (is_given g r x) → ¬ (replacement_for put x.name ≡ None)) r.variables

-- the antecedent is the state, with the variables of both sides at hand
pub record IsAntecedent (g : KoreSignature) (a c : KorePattern) (s : SymbolicState) : Type 0 where
  pub read : SymbolicState
  pub is_read : IsReadAs g a read
  pub term : s.term ≡ read.term
  pub sort : s.sort ≡ read.sort
  pub clauses : s.clauses ≡ read.clauses
  pub variables : s.variables ≡ read.variables ++ free_variables c

-- the consequent meets the antecedent, or nothing stands beside it
abbrev pub IsBesideAntecedent : KoreSignature → KorePattern → SymbolicState → List SymbolicRule → Type 0
IsBesideAntecedent g c s [] = ⊤
IsBesideAntecedent g c s (r ∷ []) = IsConsequent g c r × TermsMeet g s.term r.left
IsBesideAntecedent g c s rs = ⊥

-- a sort whose values are compared by their numbers or texts
abbrev pub is_compared_sort : KoreSignature → SortedName → Bool
is_compared_sort g x = has_only_numbers g x.sort || has_only_tokens g x.sort

abbrev pub is_compared : KoreSignature → List SortedName → SortedName → Bool
is_compared g bound x = is_compared_sort g x && not (is_named x.name bound)

abbrev pub may_stand : KoreSignature → List SortedName → SortedName → Bool
may_stand g bound x = is_compared_sort g x || is_named x.name bound

-- each free variable of the consequent's term stands where the antecedent has it, or is compared
abbrev mutual
  pub stands_as : KoreSignature → List SortedName → SymbolicTerm → SymbolicTerm → Bool
  stands_as g bound (unknown x) (unknown y) = may_stand g bound x || bytes_eq x.name y.name
  stands_as g bound (unknown x) t = may_stand g bound x
  stands_as g bound (headed f ts) (headed h us) = if bytes_eq f h then all_stand_as g bound ts us else true
  stands_as g bound t u = list_all (may_stand g bound) (term_variables t)

  pub all_stand_as : KoreSignature → List SortedName → SymbolicTerms → SymbolicTerms → Bool
  all_stand_as g bound (next_term t ts) (next_term u us) = stands_as g bound t u && all_stand_as g bound ts us
  all_stand_as g bound ts us = true

abbrev pub consequent_shapes : KoreSignature → KorePattern → List SymbolicRule → List RuleShape
consequent_shapes g c rs = flat_map (λ p. map (λ r. record { left = p; clauses = r.clauses; compared = length (filter (is_compared g r.variables) (free_variables p)) }) rs) (conjoined_terms (under_binders c))

-- what is shown of an implication
pub record IsShownOfImplication (g : KoreSignature) (a c : KorePattern) (cause : Undecided) : Type 0 where
  pub state : SymbolicState
  pub antecedent : IsAntecedent g a c state
  pub rules : List SymbolicRule
  pub beside : IsBesideAntecedent g c state rules
  pub put : List Replaced
  pub match : IsMatch g (a ∷ c ∷ []) state rules put
  pub given : AllByRecursion (AllGivenReplaced g put) rules
  pub shown : (let b : Situation = record { hand = a ∷ c ∷ []; state = state; rules = rules; put = put; not_given = flat_map (not_given_in g) rules; lefts = map (λ q. q.left) (consequent_shapes g c rules) } in
      IsShown g b (consequent_shapes g c rules) (λ v. AnyByRecursion (IsMetButRough g b v) rules) cause)

-- an implication that isn't left undecided: as a left term the consequent's makes no rule foreign
pub record IsEasyImplication (g : KoreSignature) (a c : KorePattern) : Type 0 where
  pub state : SymbolicState
  pub antecedent : IsAntecedent g a c state
  pub rules : List SymbolicRule
  pub beside : IsBesideAntecedent g c state rules
  -- it stands beside the antecedent where it meets it
  pub meets : (r : SymbolicRule) → IsConsequent g c r → TermsMeet g state.term r.left → ¬ (rules ≡ [])
  pub easy : IsEasy g state (consequent_shapes g c rules)
  pub uninterpreted : AllByRecursion (λ p. IsTrue (none_within (has_interpreted_head g) p)) (conjoined_terms (under_binders c))
  pub repeats : AllByRecursion (λ p. IsTrue (repeats_literals_only g (free_variables p))) (conjoined_terms (under_binders c))
  pub injections : AllByRecursion (λ p. AllByRecursion (InjectionsSplit g) (subpatterns p)) (conjoined_terms (under_binders c))
  pub places : AllByRecursion (λ r. IsTrue (stands_as g r.variables r.left state.term)) rules

-- ---- simplify

-- The predicate is what is written for these clauses in some order, each with its literals in some order; of clauses that
-- are written alike it has one.
pub record IsPredicateOf (g : KoreSignature) (sort : KoreSort) (cs : List (List Literal)) (p : KorePattern) : Type 0 where
  pub ordered : List (List Literal)
  pub written : written_predicate g sort ordered ≡ Some p
  pub from_these : (d : List Literal) → Contains ordered d → (c : List Literal) × Contains cs c × IsPermutation c d
  pub all_of_these : (c : List Literal) → Contains cs c → (d : List Literal) × IsPermutation c d × Contains (map (written_clause g sort) ordered) (written_clause g sort d)
  pub once : AreDifferent (map (written_clause g sort) ordered)

abbrev pub simplify_situation : KorePattern → SymbolicState → Situation
simplify_situation p s = record { hand = p ∷ []; state = s; rules = []; put = []; not_given = []; lefts = [] }

-- Exactly the clauses of the state that aren't plain, where the plain ones can be true and don't decide; or all clauses, with
-- a weight of them that is over its limit; or a limit of its terms.
abbrev pub IsShownAlone : KoreSignature → KorePattern → SymbolicState → Undecided → Type 0
IsShownAlone g p s (unknown_clauses q) = IsStateUndecided g s (rough_clauses g s) × (¬ (rough_clauses g s ≡ []) × IsPredicateOf g s.sort (rough_clauses g s) q)
IsShownAlone g p s (weight_passed q w n) = (m : ℕ) × IsOver w (read_clauses g s) m × ((n ≡ min m most_told) × IsPredicateOf g s.sort s.clauses q)
IsShownAlone g p s cause = IsShown g (simplify_situation p s) [] (λ v. ⊥) cause

-- what is shown of a state that is simplified: no rule stands beside it, and no variable is replaced
pub record IsShownOfState (g : KoreSignature) (p : KorePattern) (cause : Undecided) : Type 0 where
  pub state : SymbolicState
  pub read : IsReadAs g p state
  pub shown : IsShownAlone g p state cause

-- a state that simplify doesn't leave undecided
pub record IsEasyAlone (g : KoreSignature) (p : KorePattern) : Type 0 where
  pub state : SymbolicState
  pub read : IsReadAs g p state
  pub easy : IsEasy g state []

-- ---- results that may be undecided

pub data Result (R : Type 0) : Type 0 where
  answered : R → Result R
  what_is_undecided : Undecided → Result R

abbrev pub IsRightOr : {R : Type 0} → (R → Type 0) → (Undecided → Type 0) → Result R → Type 0
IsRightOr IsRight IsCause (answered r) = IsRight r
IsRightOr IsRight IsCause (what_is_undecided u) = IsCause u

abbrev pub IsRightOfImplies : KoreSignature → KorePattern → KorePattern → Result Implied → Type 0
IsRightOfImplies g a c = IsRightOr (IsRightImplied g a c) (IsShownOfImplication g a c)

abbrev pub IsRightOfSimplify : KoreSignature → KorePattern → Result Simplified → Type 0
IsRightOfSimplify g p = IsRightOr (IsRightSimplified g p) (IsShownOfState g p)

abbrev pub IsSimplifyFloorKept : KoreSignature → KorePattern → Result Simplified → Type 0
IsSimplifyFloorKept g p r = IsEasyAlone g p → (u : Undecided) → r ≡ what_is_undecided u → IsLimitOfTerms u

abbrev pub IsImpliesFloorKept : KoreSignature → KorePattern → KorePattern → Result Implied → Type 0
IsImpliesFloorKept g a c r = IsEasyImplication g a c → (u : Undecided) → r ≡ what_is_undecided u → IsLimitOfTerms u
