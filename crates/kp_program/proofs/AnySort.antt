-- A right result stays right at whatever sorts the conjunctions of its states are written.
use Rattle.std.proofs.Common.{◌≡◌, ◌⊎◌, ◌↔◌, ℕ, List, [], ◌∷◌, Option, Some, None, sym, subst, ◌∙◌, inl, inr}
use Rattle.std.specs.List.{AllByRecursion, AllZip}
use Rattle.kp_kore.specs.Syntax.{Text, KoreSort, KorePattern, KorePatterns, conjunction, no_patterns, next_pattern}
use Rattle.kp_kore.specs.Signature.{KoreSignature}
use Rattle.kp_kore.specs.Value.{Value}
use Rattle.kp_kore.specs.Instance.{Valuation, IsInstance}
use Rattle.kp_kore.specs.Theory.{Theory}
use Rattle.kp_kore.specs.Steps.{AnyByRecursion}
use Rattle.kp_kore.specs.AtHand.{OfEach, OfSome, HasSome, IsOver, IsTrueOver}
use Rattle.kp_kore.specs.Onward.{Leads}
use Rattle.kp_kore.specs.Cases.{NextState, HasTwoCases, OfOneAlone, AreParts, FollowExactly, AreNextStates}
use Rattle.kp_kore.specs.Causes.{Cause, foreign, IsShown}
use Rattle.kp_kore.specs.Executions as theory
use Rattle.kp_kore.specs.Executions.{Options, Reason, Executed, EndsBy, RunsTo, IsStuck, IsBranching, IsCutPoint, IsRightReason, IsRightExecuted}
use Rattle.kp_kore.proofs.ListLemmas.{all_map, any_map}
use Rattle.kp_results.specs.Results as parts
use Rattle.kp_results.specs.Results.{NextParts, Ending, ExecutedParts, IsPatternOf, IsNextOf, IsReasonOf, IsResultOf}
use Rattle.kp_rpc.specs.Request.{ExecuteRequest}
use Rattle.kp_replies.specs.RightReplies.{asked_options}
use Rattle.kp_execute.specs.Laws.{MeansRight}
use Rattle.kp_client.specs.Links.{IsRightRun}

-- ---- patterns of one state

-- the same pattern, or two conjunctions of the same members
abbrev AreAlike : KorePattern → KorePattern → Type 0
AreAlike p q = (p ≡ q) ⊎ ((ps : KorePatterns) × (a : KoreSort) × (b : KoreSort) × (p ≡ conjunction a ps) × (q ≡ conjunction b ps))

alike : (term : KorePattern) (predicate : Option KorePattern) (p q : KorePattern)
    → IsPatternOf (record { term = term; predicate = predicate }) p → IsPatternOf (record { term = term; predicate = predicate }) q → AreAlike p q
alike term None p q h k = inl (h ∙ sym k)
alike term (Some r) p q h k = inr (next_pattern term (next_pattern r no_patterns), h.0, k.0, h.1, k.1)

-- the property of a conjunction doesn't depend on its sort
abbrev AtEachSort : (KorePattern → Type 0) → Type 0
AtEachSort P = (a b : KoreSort) (ps : KorePatterns) → P (conjunction a ps) → P (conjunction b ps)

carried : (P : KorePattern → Type 0) → AtEachSort P → (p q : KorePattern) → AreAlike p q → P p → P q
carried P at p q (inl same) h = subst P same h
carried P at p q (inr (ps, a, b, first, second)) h = subst P (sym second) (at a b ps (subst P first h))

-- ---- instances

met : (g : KoreSignature) (v : Valuation) (c : Value) → AtEachSort (λ p. IsInstance g v p c)
met g v c a b ps h = record { term = h.term; predicates = h.predicates }

each : (g : KoreSignature) (others : List KorePattern) (P : Valuation → Value → Type 0) → AtEachSort (λ s. OfEach g others s P)
each g others P a b ps h = λ v c given is. h v c given (met g v c b a ps is)

-- ---- over a state

-- of a pattern, written at another sort
over_pattern : (g : KoreSignature) (s : KorePattern) (v : Valuation) (c : Value) → AtEachSort (λ p. IsOver g s v p c)
over_pattern g s v c a b ps h = record { chosen = h.chosen; agrees = h.agrees; sorts = h.sorts; met = met g h.chosen c a b ps h.met }

-- of the state, written at another sort
over_state : (g : KoreSignature) (v : Valuation) (p : KorePattern) (c : Value) → AtEachSort (λ s. IsOver g s v p c)
over_state g v p c a b ps h = record { chosen = h.chosen; agrees = h.agrees; sorts = h.sorts; met = h.met }

true_over_state : (g : KoreSignature) (v : Valuation) (p : KorePattern) → AtEachSort (λ s. IsTrueOver g s v p)
true_over_state g v p a b ps h = record { chosen = h.chosen; agrees = h.agrees; sorts = h.sorts; holds = h.holds }

some : (g : KoreSignature) (others : List KorePattern) (P Q : Valuation → Value → Type 0) (a b : KoreSort) (ps : KorePatterns)
    → ((v : Valuation) (c : Value) → P v c → Q v c) → OfSome g others (conjunction a ps) P → OfSome g others (conjunction b ps) Q
some g others P Q a b ps f h = record {
  valuation = h.valuation;
  configuration = h.configuration;
  given = h.given;
  met = met g h.valuation h.configuration a b ps h.met;
  such = f h.valuation h.configuration h.such;
}

has_some : (g : KoreSignature) (others : List KorePattern) → AtEachSort (HasSome g others)
has_some g others a b ps h = some g others (λ v c. Unit {0}) (λ v c. Unit {0}) a b ps (λ v c h. h) h

-- ---- how the run came to the state

leads : (t : Theory) (request : KorePattern) (d : ℕ) → AtEachSort (λ s. Leads t request s d)
leads t request d a b ps h = record {
  found = λ v c given met later steps. over_pattern t.signature request v later a b ps (h.found v c given met later steps);
  only = λ v later sorts over. h.only v later sorts (over_pattern t.signature request v later b a ps over);
  names = h.names;
}

ends_by : (t : Theory) (o : Options) (request : KorePattern) (d : ℕ) (id : Text) → AtEachSort (λ s. EndsBy t o request s d id)
ends_by t o request d id a b ps h = record {
  before = h.before;
  one_less = h.one_less;
  leads = leads t request d a b ps h.leads;
  passes = h.passes;
  turn = h.turn;
  is_terminal = h.is_terminal;
  no_cut_point = h.no_cut_point;
}

runs : (t : Theory) (o : Options) (request : KorePattern) (d : ℕ) (r : Reason) → AtEachSort (λ s. RunsTo t o request s d r)
runs t o request d (theory.terminal id) a b ps h = ends_by t o request d id a b ps h
runs t o request d theory.vacuous a b ps h = (leads t request d a b ps h.0, h.1)
runs t o request d theory.depth_bound a b ps h = (leads t request d a b ps h.0, h.1)
runs t o request d theory.stuck a b ps h = (leads t request d a b ps h.0, h.1)
runs t o request d (theory.branching nexts) a b ps h = (leads t request d a b ps h.0, h.1)
runs t o request d (theory.cut_point id next) a b ps h = (leads t request d a b ps h.0, h.1)
runs t o request d (theory.aborted cause) a b ps h = (leads t request d a b ps h.0, h.1)

-- ---- next states of the state

one_alone : {X : Type 0} (P Q : X → Type 0) (xs : List X) → ((x : X) → P x ↔ Q x) → OfOneAlone P xs → OfOneAlone Q xs
one_alone P Q [] f h = h
one_alone P Q (x ∷ xs) f (inl (here, rest)) = inl ((f x).0 here, all_map (λ y. ¬ P y) (λ y. ¬ Q y) xs (λ y n q. n ((f y).1 q)) rest)
one_alone P Q (x ∷ xs) f (inr (not_here, rest)) = inr ((λ q. not_here ((f x).1 q)), one_alone P Q xs f rest)

are_parts : (t : Theory) (others : List KorePattern) (nexts : List NextState) → AtEachSort (λ s. AreParts t others s nexts)
are_parts t others nexts a b ps h = record {
  divided = λ v c given is case holds. one_alone _ _ nexts (λ n. (
    (λ k. (k.0, true_over_state t.signature v n.predicate a b ps k.1)),
    (λ k. (k.0, true_over_state t.signature v n.predicate b a ps k.1)),
  )) (h.divided v c given (met t.signature v c b a ps is) case holds);
  only = all_map _ _ nexts (λ n f v c given is held. f v c given (met t.signature v c b a ps is) (true_over_state t.signature v n.predicate b a ps held)) h.only;
  held = all_map _ _ nexts (λ n k. some t.signature others _ _ a b ps (λ v c held. true_over_state t.signature v n.predicate a b ps held) k) h.held;
}

follow : (t : Theory) (others : List KorePattern) (nexts : List NextState) → AtEachSort (λ s. FollowExactly t others s nexts)
follow t others nexts a b ps h = record {
  found = λ v c given is case next goes. any_map _ _ nexts (λ n k. (k.0, over_state t.signature v n.state next a b ps k.1)) (h.found v c given (met t.signature v c b a ps is) case next goes);
  only = all_map _ _ nexts (λ n f v next given over. let k = f v next given (over_state t.signature v n.state next b a ps over) in (k.0, met t.signature v k.0 a b ps k.1, k.2)) h.only;
}

next_states : (t : Theory) (request : KorePattern) (nexts : List NextState) → AtEachSort (λ s. AreNextStates t request s nexts)
next_states t request nexts a b ps h = record {
  parts = are_parts t (request ∷ []) nexts a b ps h.parts;
  follow = follow t (request ∷ []) nexts a b ps h.follow;
  names = h.names;
  predicates = h.predicates;
  one_sort = h.one_sort;
}

-- ---- the reason, of the state

stuck : (t : Theory) (request : KorePattern) → AtEachSort (IsStuck t request)
stuck t request a b ps h = record { has = has_some t.signature (request ∷ []) a b ps h.has; final = each t.signature (request ∷ []) _ a b ps h.final }

two_cases : (t : Theory) (others : List KorePattern) → AtEachSort (HasTwoCases t others)
two_cases t others a b ps h = record {
  one = h.one;
  other = h.other;
  differ = h.differ;
  first = some t.signature others _ _ a b ps (λ v c is. is) h.first;
  second = some t.signature others _ _ a b ps (λ v c is. is) h.second;
}

branching : (t : Theory) (request : KorePattern) (nexts : List NextState) → AtEachSort (λ s. IsBranching t request s nexts)
branching t request nexts a b ps h = record {
  known = each t.signature (request ∷ []) _ a b ps h.known;
  two = two_cases t (request ∷ []) a b ps h.two;
  next_states = next_states t request nexts a b ps h.next_states;
}

cut_point : (t : Theory) (o : Options) (request : KorePattern) (id : Text) (next : NextState) → AtEachSort (λ s. IsCutPoint t o request s id next)
cut_point t o request id next a b ps h = record {
  has = has_some t.signature (request ∷ []) a b ps h.has;
  turn = each t.signature (request ∷ []) _ a b ps h.turn;
  is_cut_point = h.is_cut_point;
  by_rule = h.by_rule;
  next_states = next_states t request (next ∷ []) a b ps h.next_states;
}

shown : (t : Theory) (request : KorePattern) (cause : Cause) → AtEachSort (λ s. IsShown t request s cause)
shown t request (foreign id) a b ps h = any_map _ _ t.rules (λ r k. (k.0, some t.signature (request ∷ []) _ _ a b ps (λ v c is. is) k.1)) h

right : (t : Theory) (o : Options) (request : KorePattern) (d : ℕ) (r : Reason) → AtEachSort (λ s. IsRightReason t o request s d r)
right t o request d theory.vacuous a b ps h = λ has. h (has_some t.signature (request ∷ []) b a ps has)
right t o request d theory.depth_bound a b ps h = (h.0, λ decided. has_some t.signature (request ∷ []) a b ps (h.1 decided))
right t o request d theory.stuck a b ps h = (h.0, stuck t request a b ps h.1)
right t o request d (theory.branching nexts) a b ps h = (h.0, branching t request nexts a b ps h.1)
right t o request d (theory.cut_point id next) a b ps h = (h.0, cut_point t o request id next a b ps h.1)
right t o request d (theory.terminal id) a b ps h = h
right t o request d (theory.aborted cause) a b ps h = (h.0, shown t request cause a b ps h.1)

-- ---- next states, each written at another sort

abbrev next_of : Option Text → KorePattern → KorePattern → NextState
next_of rule predicate state = record { rule = rule; predicate = predicate; state = state }

-- the same rule and predicate, and patterns of one state
abbrev AreAlikeNext : NextState → NextState → Type 0
AreAlikeNext m k = (m.rule ≡ k.rule) × (m.predicate ≡ k.predicate) × AreAlike m.state k.state

alike_next : (n : NextParts) (m k : NextState) → IsNextOf n m → IsNextOf n k → AreAlikeNext m k
alike_next n m k h l = (h.rule ∙ sym l.rule, h.predicate ∙ sym l.predicate, alike n.state.term n.state.predicate m.state k.state h.state l.state)

alike_nexts : (ns : List NextParts) (ms ks : List NextState) → AllZip IsNextOf ns ms → AllZip IsNextOf ns ks → AllZip AreAlikeNext ms ks
alike_nexts [] [] [] h l = tt
alike_nexts (n ∷ ns) (m ∷ ms) (k ∷ ks) h l = (alike_next n m k h.0 l.0, alike_nexts ns ms ks h.1 l.1)
alike_nexts [] (m ∷ ms) ks h l = absurd h
alike_nexts [] [] (k ∷ ks) h l = absurd l
alike_nexts (n ∷ ns) [] ks h l = absurd h
alike_nexts (n ∷ ns) (m ∷ ms) [] h l = absurd l

-- the property of a next state doesn't depend on the sort of its state
abbrev AtEachNext : (NextState → Type 0) → Type 0
AtEachNext P = (rule : Option Text) (predicate : KorePattern) → AtEachSort (λ s. P (next_of rule predicate s))

next_carried : (P : NextState → Type 0) → AtEachNext P → (m k : NextState) → AreAlikeNext m k → P m → P k
next_carried P at m k (rule, predicate, state) h =
    carried (λ s. P (next_of k.rule k.predicate s)) (at k.rule k.predicate) m.state k.state state
    (subst (λ q. P (next_of k.rule q m.state)) predicate (subst (λ r. P (next_of r m.predicate m.state)) rule h))

back : (m k : NextState) → AreAlikeNext m k → AreAlikeNext k m
back m k (rule, predicate, inl same) = (sym rule, sym predicate, inl (sym same))
back m k (rule, predicate, inr (ps, a, b, first, second)) = (sym rule, sym predicate, inr (ps, b, a, second, first))

all_carried : (P : NextState → Type 0) → AtEachNext P → (ms ks : List NextState) → AllZip AreAlikeNext ms ks → AllByRecursion P ms → AllByRecursion P ks
all_carried P at [] [] z h = tt
all_carried P at (m ∷ ms) (k ∷ ks) z h = (next_carried P at m k z.0 h.0, all_carried P at ms ks z.1 h.1)
all_carried P at [] (k ∷ ks) z h = absurd z
all_carried P at (m ∷ ms) [] z h = absurd z

any_carried : (P : NextState → Type 0) → AtEachNext P → (ms ks : List NextState) → AllZip AreAlikeNext ms ks → AnyByRecursion P ms → AnyByRecursion P ks
any_carried P at [] ks z h = absurd h
any_carried P at (m ∷ ms) [] z h = absurd z
any_carried P at (m ∷ ms) (k ∷ ks) z (inl here) = inl (next_carried P at m k z.0 here)
any_carried P at (m ∷ ms) (k ∷ ks) z (inr rest) = inr (any_carried P at ms ks z.1 rest)

one_carried : (P : NextState → Type 0) → AtEachNext P → (ms ks : List NextState) → AllZip AreAlikeNext ms ks → OfOneAlone P ms → OfOneAlone P ks
one_carried P at [] ks z h = absurd h
one_carried P at (m ∷ ms) [] z h = absurd z
one_carried P at (m ∷ ms) (k ∷ ks) z (inl (here, rest)) =
    inl (next_carried P at m k z.0 here, all_carried (λ n. ¬ P n) (λ rule predicate a b ps no yes. no (at rule predicate b a ps yes)) ms ks z.1 rest)
one_carried P at (m ∷ ms) (k ∷ ks) z (inr (not_here, rest)) = inr ((λ h. not_here (next_carried P at k m (back m k z.0) h)), one_carried P at ms ks z.1 rest)

parts_carried : (t : Theory) (others : List KorePattern) (s : KorePattern) (ms ks : List NextState) → AllZip AreAlikeNext ms ks → AreParts t others s ms → AreParts t others s ks
parts_carried t others s ms ks z h = record {
  divided = λ v c given met case is. one_carried _ (λ rule predicate a b ps k. k) ms ks z (h.divided v c given met case is);
  only = all_carried _ (λ rule predicate a b ps k. k) ms ks z h.only;
  held = all_carried _ (λ rule predicate a b ps k. k) ms ks z h.held;
}

follow_carried : (t : Theory) (others : List KorePattern) (s : KorePattern) (ms ks : List NextState) → AllZip AreAlikeNext ms ks → FollowExactly t others s ms → FollowExactly t others s ks
follow_carried t others s ms ks z h = record {
  found = λ v c given met case next goes. any_carried _ (λ rule predicate a b ps k. (k.0, over_pattern t.signature s v next a b ps k.1)) ms ks z (h.found v c given met case next goes);
  only = all_carried _ (λ rule predicate a b ps k v next given over. k v next given (over_pattern t.signature s v next b a ps over)) ms ks z h.only;
}

next_states_carried : (t : Theory) (request s : KorePattern) (ms ks : List NextState) → AllZip AreAlikeNext ms ks → AreNextStates t request s ms → AreNextStates t request s ks
next_states_carried t request s ms ks z h = record {
  parts = parts_carried t (request ∷ []) s ms ks z h.parts;
  follow = follow_carried t (request ∷ []) s ms ks z h.follow;
  names = all_carried _ (λ rule predicate a b ps k. k) ms ks z h.names;
  predicates = all_carried _ (λ rule predicate a b ps k. k) ms ks z h.predicates;
  one_sort = all_carried _ (λ rule predicate a b ps k. k) ms ks z h.one_sort;
}

-- ---- the reason, of its next states

branching_carried : (t : Theory) (request s : KorePattern) (ms ks : List NextState) → AllZip AreAlikeNext ms ks → IsBranching t request s ms → IsBranching t request s ks
branching_carried t request s ms ks z h = record { known = h.known; two = h.two; next_states = next_states_carried t request s ms ks z h.next_states }

cut_point_carried : (t : Theory) (o : Options) (request s : KorePattern) (id : Text) (m k : NextState) → AreAlikeNext m k → IsCutPoint t o request s id m → IsCutPoint t o request s id k
cut_point_carried t o request s id m k z h = record {
  has = h.has;
  turn = h.turn;
  is_cut_point = h.is_cut_point;
  by_rule = sym z.0 ∙ h.by_rule;
  next_states = next_states_carried t request s (m ∷ []) (k ∷ []) (z, tt) h.next_states;
}

-- the run came to its end for this reason, which is right
abbrev EndsRight : Theory → Options → KorePattern → KorePattern → ℕ → Reason → Type 0
EndsRight t o request s d r = RunsTo t o request s d r × IsRightReason t o request s d r

at_branching : (t : Theory) (o : Options) (request s : KorePattern) (d : ℕ) (ms ks : List NextState)
    → AllZip AreAlikeNext ms ks → EndsRight t o request s d (theory.branching ms) → EndsRight t o request s d (theory.branching ks)
at_branching t o request s d ms ks z (came, (below, h)) = (came, (below, branching_carried t request s ms ks z h))

at_cut_point : (t : Theory) (o : Options) (request s : KorePattern) (d : ℕ) (id : Text) (m k : NextState)
    → AreAlikeNext m k → EndsRight t o request s d (theory.cut_point id m) → EndsRight t o request s d (theory.cut_point id k)
at_cut_point t o request s d id m k z (came, (below, h)) = (came, (below, cut_point_carried t o request s id m k z h))

by_one : (t : Theory) (o : Options) (request s : KorePattern) (d : ℕ) (r q is : Reason) → r ≡ is → q ≡ is → EndsRight t o request s d r → EndsRight t o request s d q
by_one t o request s d r q is e f h = subst (EndsRight t o request s d) (e ∙ sym f) h

by_reason : (t : Theory) (o : Options) (request s : KorePattern) (d : ℕ) (ending : Ending) (ns : List NextParts) (r q : Reason)
    → IsReasonOf ending ns r → IsReasonOf ending ns q → EndsRight t o request s d r → EndsRight t o request s d q
by_reason t o request s d parts.vacuous ns r q e f h = by_one t o request s d r q theory.vacuous e.1 f.1 h
by_reason t o request s d parts.depth_bound ns r q e f h = by_one t o request s d r q theory.depth_bound e.1 f.1 h
by_reason t o request s d parts.stuck ns r q e f h = by_one t o request s d r q theory.stuck e.1 f.1 h
by_reason t o request s d (parts.terminal id) ns r q e f h = by_one t o request s d r q (theory.terminal id) e.1 f.1 h
by_reason t o request s d (parts.aborted cause) ns r q e f h = by_one t o request s d r q (theory.aborted cause) e.1 f.1 h
by_reason t o request s d parts.branching ns r q (ms, are, e) (ks, also, f) h =
    subst (EndsRight t o request s d) (sym f) (at_branching t o request s d ms ks (alike_nexts ns ms ks are also) (subst (EndsRight t o request s d) e h))
by_reason t o request s d (parts.cut_point id) [] r q e f h = absurd e.1
by_reason t o request s d (parts.cut_point id) (n ∷ ns) r q (m, are, e) (k, also, f) h =
    subst (EndsRight t o request s d) (sym f) (at_cut_point t o request s d id m k (alike_next n m k are.0 also.0) (subst (EndsRight t o request s d) e h))

-- ---- the result

abbrev result_of : ℕ → Reason → KorePattern → Executed
result_of d r s = record { depth = d; reason = r; state = s }

-- at another sort of its state
at_state : (t : Theory) (o : Options) (request : KorePattern) (d : ℕ) (r : Reason) → AtEachSort (λ s. IsRightExecuted t o request (result_of d r s))
at_state t o request d r a b ps h = record {
  within_bound = h.within_bound;
  runs = runs t o request d r a b ps h.runs;
  reached = h.reached;
  computed = h.computed;
  reason = right t o request d r a b ps h.reason;
}

-- at other sorts of its next states
at_reason : (t : Theory) (o : Options) (request s : KorePattern) (d : ℕ) (ending : Ending) (ns : List NextParts) (r q : Reason)
    → IsReasonOf ending ns r → IsReasonOf ending ns q → IsRightExecuted t o request (result_of d r s) → IsRightExecuted t o request (result_of d q s)
at_reason t o request s d ending ns r q e f h =
    let ends : EndsRight t o request s d q = by_reason t o request s d ending ns r q e f (h.runs, h.reason) in
    record { within_bound = h.within_bound; runs = ends.0; reached = h.reached; computed = h.computed; reason = ends.1 }

-- of the results that the parts mean, all are right where one is
pub at_any_sort : (t : Theory) (o : Options) (request : KorePattern) (x : ExecutedParts) (m k : Executed)
    → IsResultOf x m → IsResultOf x k → IsRightExecuted t o request m → IsRightExecuted t o request k
at_any_sort t o request x m k h l right =
    let state : IsRightExecuted t o request (result_of m.depth m.reason k.state) =
    carried (λ s. IsRightExecuted t o request (result_of m.depth m.reason s)) (at_state t o request m.depth m.reason)
    m.state k.state (alike x.state.term x.state.predicate m.state k.state h.state l.state) right in
    let reason : IsRightExecuted t o request (result_of m.depth k.reason k.state) = at_reason t o request k.state m.depth x.ending x.nexts m.reason k.reason h.reason l.reason state in
    subst (λ (d : ℕ). IsRightExecuted t o request (result_of d k.reason k.state)) (h.depth ∙ sym l.depth) reason

-- so a run is right where its parts mean one right result
pub right_meaning : (t : Theory) (q : ExecuteRequest) (x : ExecutedParts) (meant : Executed)
    → IsResultOf x meant → IsRightExecuted t (asked_options q.options) q.state meant → IsRightRun t q x
right_meaning t q x meant is right other also = at_any_sort t (asked_options q.options) q.state x meant other is also right

pub right_run : (t : Theory) (q : ExecuteRequest) (x : ExecutedParts) → MeansRight t (asked_options q.options) q.state x → IsRightRun t q x
right_run t q x h = right_meaning t q x h.result h.is h.right
