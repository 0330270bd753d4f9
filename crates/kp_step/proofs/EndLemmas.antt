-- How a step ends: with its cases, with a limit that is passed, or with what is left open.
use Rattle.std.proofs.Common.{◌≡◌, refl, sym, ap, subst, ◌∙◌, ℕ, List, [], ◌∷◌, ◌++◌, map, Option, Some, None, inl, inr}
use Rattle.std.specs.Prelude.{MatchOption}
use Rattle.std.specs.Option.{option_map}
use Rattle.std.specs.List.{AllByRecursion, AllZip, Contains}
use Rattle.std.proofs.lemmas.List.Elements.{Contains-push, Contains-append_left, Contains-append_right}
use Rattle.kp_symbolic.proofs.Distribution.{all_first, all_second}
use Rattle.kp_kore.specs.Syntax.{Text}
use Rattle.kp_kore.specs.Signature.{KoreSignature}
use Rattle.kp_kore.specs.Rules.{RewriteRule}
use Rattle.kp_kore.specs.Theory.{Theory}
use Rattle.kp_kore.proofs.TurnLemmas.{of_member}
use Rattle.kp_kore.specs.Steps.{IsUnknown}
use Rattle.kp_symbolic.specs.States.{SymbolicState}
use Rattle.kp_symbolic.specs.View.{clauses_view}
use Rattle.kp_case_laws.specs.Parts.{StatePart, whole, OfEachInstance, IsTold}
use Rattle.kp_case_laws.specs.Turns.{AreAllTurns, rules_of}
use Rattle.kp_case_laws.specs.NextStates.{StepCase, HaveOwnIds}
use Rattle.kp_unify.specs.Narrowed.{NumberedPart}
use Rattle.kp_unify.specs.declared.part.Part.{Part}
use Rattle.kp_step.specs.ReadyParts.{IsReadyPart, HasInstance}
use Rattle.kp_rule_sets.specs.declared.rule_set.RuleSet.{RuleSet}
use Rattle.kp_satisfiability.specs.Read.{HasSortedClauses}
use Rattle.kp_limits.specs.Wide.{first_wide}
use Rattle.kp_unify.specs.Views.{IsSetting}
use Rattle.kp_unify.specs.declared.part.Setting.{Setting}
use Rattle.kp_step.specs.Meets.{AllMeet}
use Rattle.kp_step.specs.Counted.{most_for, IsCounted}
use Rattle.kp_step.proofs.CountLemmas.{counted_for, most_of_none}
use Rattle.kp_step.specs.Ready.{IsReadyState, IsWholeReady}
use Rattle.kp_step.specs.Rules.{Steps, IsStepFrom, IsSearchFrom}
use Rattle.kp_step.specs.Remainders.{IsPartIn, AreUntaken, OneTakesAll}
use Rattle.kp_step.specs.Found.{PlacedTurn, IsRuleAt, AreAllFound}
use Rattle.kp_step.specs.Follows.{AreNextsOf, IsSolvedPart}
use Rattle.kp_step.specs.Limits.{TermLimit, number, Passes, PassesNone, IsFirstPassed, IsCaseMade, told_state, IsPassed}
use Rattle.kp_step.specs.Tries.{OneFiresOnAll, AreRemaining}
use Rattle.kp_step.specs.Answers.{IsRightUndecided, IsRightAnswerAlone, AreDecided, TellsRemainder}
use Rattle.kp_step.specs.RightSteps.{IsCaseOf, IsRemainderOf, AreCasesOf, IsToldUndecided}
use Rattle.kp_step.specs.Views.{numbered_views, next_view, next_told, part_told, limit_view}
use Rattle.kp_step.specs.declared.part_answers.PartAnswer as answers
use Rattle.kp_step.specs.declared.outcome.StepLimit.{StepLimit}
use Rattle.kp_step.specs.declared.part_answers.UndecidedClauses.{UndecidedClauses}
use Rattle.kp_step.specs.declared.part_answers.Decided as decisions
use Rattle.kp_step.specs.declared.part_answers.Decided.TheVariants as decided
use Rattle.kp_step.specs.declared.outcome.Next.{Next}
use Rattle.kp_step.proofs.AloneLemmas.{one_fires}
use Rattle.kp_step.proofs.CauseLemmas.{open_state, open_remainder}
use Rattle.kp_step.proofs.DecideLemmas.{shown_of_instance, shown_itself}
use Rattle.kp_step.proofs.FoundLemmas.{one_at, turns_of}
use Rattle.kp_step.proofs.RemainderLemmas.{all_is_left, kept_is_left, kept_have}
use Rattle.kp_step.proofs.OutcomeLemmas.{HasBeenSolved, cases_are, steps_are}
use Rattle.kp_step.proofs.LimitLemmas.{passes_wide}
use Rattle.kp_step.proofs.SortedLemmas.{sorted_clauses}
use Rattle.kp_step.proofs.SolvedLemmas.{solved_left, solved_have}
use Rattle.kp_step.proofs.TryLemmas.{found_rules, rules_in_theory}

-- ---- the whole state

abbrev with_number : StatePart → ℕ → NumberedPart
with_number p n = record { part = p; next = n }

pub is_whole : (g : KoreSignature) (used : List Text) (s : SymbolicState) (next : ℕ) (q : NumberedPart) → q.part ≡ whole s → q.next ≡ next → IsReadyState g used s next → HasInstance g (whole s) → IsWholeReady g used s q
is_whole g used s next q e f r i = record { is = e; ready = subst (IsReadyPart g used) (sym (by q.part q.next e f)) r; instance = i }
  where
    by : (p : StatePart) (n : ℕ) → p ≡ whole s → n ≡ next → with_number p n ≡ with_number (whole s) next
    by p n a b = ap (λ x. with_number x n) a ∙ ap (λ m. with_number (whole s) m) b

-- ---- what is left open

pub open_at_all : (t : Theory) (s : SymbolicState) (o : UndecidedClauses) → IsTold t.signature (whole s) → IsRightUndecided t.signature s o → IsCounted t.signature s (most_for t.signature s []) o.over → first_wide t.signature s ≡ None → IsToldUndecided t s (clauses_view o.shown.items) o.over None
open_at_all t s o told shows counted none = record { no_number = none; behind = inl shows.2; rule = None; is_rule = tt; weight = shows.0; weighed = shows.1; what_is_undecided = open_state t s (clauses_view o.shown.items) shows.0 told (shown_itself t.signature s (clauses_view o.shown.items) shows.0 shows.2) (counted_for t.signature s s [] (most_for t.signature s []) shows.0 o.over (most_of_none t.signature s) counted shows.1) }

-- ---- the remainder

pub remainder_told : (t : Theory) (used : List Text) (s : SymbolicState) (q : NumberedPart) (found : List RewriteRule) (left : List NumberedPart) (d : decisions.Decided) → q.part ≡ whole s → HasInstance t.signature (whole s) → AllByRecursion (Contains t.rules) found → AllMeet t.signature s found → AreUntaken t.signature used None found (whole s) (whole s) left →
    OneTakesAll t.signature found (q ∷ []) left → AreDecided t.signature s found left d → TellsRemainder t used s found d
remainder_told t used s q found left (decided.Parts ks) e there members meet l o k = record {
  left = kept_is_left t.signature used None found (whole s) (whole s) left (numbered_views ks.items) k l;
  instances = kept_have t.signature left (numbered_views ks.items) k;
  alone = one_fires t s q found left (numbered_views ks.items) e o k;
}
remainder_told t used s q found left (decided.UndecidedClauses o) e there members meet l all k =
    let shows = k.2 in
    let compares = k.3 shows.0 shows.1 in
    let shown = shown_of_instance t.signature s k.0.part.state (clauses_view o.shown.items) shows.0 there shows.2 in
    (shows.0, shows.1, open_remainder t used s (whole s) found left k.0 (clauses_view o.shown.items) shows.0 members meet l k.1 shown compares)

one_fires_solved : (t : Theory) (used : List Text) (s : SymbolicState) (found : List RewriteRule) (qs rs : List NumberedPart) → AllZip (IsSolvedPart t.signature used) qs rs → OneFiresOnAll t s found qs → OneFiresOnAll t s found rs
one_fires_solved t used s [] qs rs z o = tt
one_fires_solved t used s (r ∷ []) [] [] z o = o
one_fires_solved t used s (r ∷ []) [] (y ∷ rs) z o = tt
one_fires_solved t used s (r ∷ []) (x ∷ qs) [] z o = absurd z
one_fires_solved t used s (r ∷ []) (x ∷ qs) (y ∷ rs) z o = tt
one_fires_solved t used s (r ∷ p ∷ found) qs rs z o = tt

pub remaining_solved : (t : Theory) (used : List Text) (s : SymbolicState) (found : List RewriteRule) (qs rs : List NumberedPart) → AllZip (IsSolvedPart t.signature used) qs rs → AreRemaining t used s found qs → AreRemaining t used s found rs
remaining_solved t used s found qs rs z r = record {
  left = solved_left t.signature used None found (whole s) (whole s) qs rs z r.left;
  instances = solved_have t.signature used qs rs z r.instances;
  alone = one_fires_solved t used s found qs rs z r.alone;
}

-- their equations are solved
have_been_solved : (g : KoreSignature) (used : List Text) (qs rs : List NumberedPart) → AllZip (IsSolvedPart g used) qs rs → AllByRecursion (HasBeenSolved g) rs
have_been_solved g used [] [] z = tt
have_been_solved g used [] (y ∷ rs) z = absurd z
have_been_solved g used (x ∷ qs) [] z = absurd z
have_been_solved g used (x ∷ qs) (y ∷ rs) z = ((x.part, z.0.solving), have_been_solved g used qs rs z.1)

-- ---- the rules that are found

same_found : (t : Theory) (turns : List PlacedTurn) (found others : List RewriteRule) → AllZip (IsRuleAt t) turns found → AllZip (IsRuleAt t) turns others → found ≡ others
same_found t [] [] [] z y = refl
same_found t [] [] (q ∷ others) z y = absurd y
same_found t [] (r ∷ found) others z y = absurd z
same_found t (k ∷ turns) [] others z y = absurd z
same_found t (k ∷ turns) (r ∷ found) [] z y = absurd y
same_found t (k ∷ turns) (r ∷ found) (q ∷ others) z y = ap (λ x. x ∷ found) (one_at t k.place r q z.0.0 y.0.0) ∙ ap (λ xs. q ∷ xs) (same_found t turns found others z.1 y.1)

-- ---- the cases

pub cases_right : (t : Theory) (used : List Text) (s : SymbolicState) (turns : List PlacedTurn) (found : List RewriteRule) (ns : List Next) (ps : List Part) (f : AreAllFound t used (whole s) turns) → AllZip (IsRuleAt t) turns found → AreNextsOf t used (whole s) turns (map next_view ns) → HaveOwnIds t.rules →
    OfEachInstance t.signature (whole s) (λ w c. ¬ IsUnknown t c) → AreRemaining t used s found (numbered_views ps) → AllByRecursion (HasBeenSolved t.signature) (numbered_views ps) → PassesNone t.signature s → AllByRecursion (λ x. PassesNone t.signature x) (map next_told ns ++ map part_told ps) → HasInstance t.signature (whole s) → AreCasesOf t used s ns ps
cases_right t used s turns found ns ps f z nexts own known r solved none limits some =
    cases_are t used s turns ns ps f nexts own known
    (subst (λ xs. AreRemaining t used s xs (numbered_views ps)) (same_found t turns found (rules_of (turns_of t used (whole s) turns turns f.each)) z (found_rules t used (whole s) turns turns f.each)) r) solved none
    (all_first (λ x. PassesNone t.signature x) (map next_told ns) (map part_told ps) limits) (all_second (λ x. PassesNone t.signature x) (map next_told ns) (map part_told ps) limits) some

-- ---- limits

first_of_cases : (k : StepCase) (ks : List StepCase) → Contains (k ∷ ks) k
first_of_cases k ks = Contains-append_left (k ∷ []) ks k (Contains-push [] k)

-- the first case that passes a limit passes this one
record IsCaseBeyond (g : KoreSignature) (l : TermLimit) (ks : List StepCase) : Type 0 where
  one : StepCase
  among : Contains ks one
  before : List StepCase
  behind : List StepCase
  order : ks ≡ before ++ one ∷ behind
  none_before : AllByRecursion (λ k. PassesNone g (told_state k)) before
  passes : Passes g (told_state one) l

beyond_here : (g : KoreSignature) (l : TermLimit) (k : StepCase) (ks : List StepCase) → Passes g (told_state k) l → IsCaseBeyond g l (k ∷ ks)
beyond_here g l k ks p = record { one = k; among = first_of_cases k ks; before = []; behind = ks; order = refl; none_before = tt; passes = p }

beyond_later : (g : KoreSignature) (l : TermLimit) (k : StepCase) (ks : List StepCase) → PassesNone g (told_state k) → IsCaseBeyond g l ks → IsCaseBeyond g l (k ∷ ks)
beyond_later g l k ks none b = record {
  one = b.one;
  among = Contains-append_right (k ∷ []) ks b.one b.among;
  before = k ∷ b.before;
  behind = b.behind;
  order = ap (λ xs. k ∷ xs) b.order;
  none_before = (none, b.none_before);
  passes = b.passes;
}

by_part : (g : KoreSignature) (l : TermLimit) (ps : List Part) (ks : List StepCase) → AllZip IsRemainderOf ps ks → IsFirstPassed g (map part_told ps) l → IsCaseBeyond g l ks
by_part g l [] ks z a = absurd a
by_part g l (p ∷ ps) [] z a = absurd z
by_part g l (p ∷ ps) (k ∷ ks) z (inl e) = beyond_here g l k ks (subst (λ x. Passes g (told_state x) l) (sym z.0) e)
by_part g l (p ∷ ps) (k ∷ ks) z (inr a) = beyond_later g l k ks (subst (λ x. PassesNone g (told_state x)) (sym z.0) a.0) (by_part g l ps ks z.1 a.1)

by_either : (t : Theory) (l : TermLimit) (ns : List Next) (ps : List Part) (xs ys : List StepCase) → AllZip (IsCaseOf t) ns xs → AllZip IsRemainderOf ps ys → IsFirstPassed t.signature (map next_told ns ++ map part_told ps) l → IsCaseBeyond t.signature l (xs ++ ys)
by_either t l [] ps [] ys z y a = by_part t.signature l ps ys y a
by_either t l [] ps (x ∷ xs) ys z y a = absurd z
by_either t l (n ∷ ns) ps [] ys z y a = absurd z
by_either t l (n ∷ ns) ps (x ∷ xs) ys z y (inl p) = beyond_here t.signature l x (xs ++ ys) (subst (λ k. Passes t.signature (told_state k) l) (sym z.0.is) p)
by_either t l (n ∷ ns) ps (x ∷ xs) ys z y (inr a) = beyond_later t.signature l x (xs ++ ys) (subst (λ k. PassesNone t.signature (told_state k)) (sym z.0.is) a.0) (by_either t l ns ps xs ys z.1 y a.1)

pub passes_written : (t : Theory) (used : List Text) (s : SymbolicState) (turns : List PlacedTurn) (found : List RewriteRule) (ns : List Next) (ps : List Part) (l : TermLimit) (f : AreAllFound t used (whole s) turns) → AllZip (IsRuleAt t) turns found → AreNextsOf t used (whole s) turns (map next_view ns) → HaveOwnIds t.rules →
    OfEachInstance t.signature (whole s) (λ w c. ¬ IsUnknown t c) → AreRemaining t used s found (numbered_views ps) → PassesNone t.signature s → IsFirstPassed t.signature (map next_told ns ++ map part_told ps) l → IsPassed t s l
passes_written t used s turns found ns ps l f z nexts own known r none a =
    let k = steps_are t used s turns ns ps f nexts own known
    (subst (λ xs. AreRemaining t used s xs (numbered_views ps)) (same_found t turns found (rules_of (turns_of t used (whole s) turns turns f.each)) z (found_rules t used (whole s) turns turns f.each)) r) in
    let b = by_either t l ns ps k.by_rules k.others k.each_next k.each_part a in
    record {
      state = told_state b.one;
      which = inr (inr (record { cases = k.by_rules ++ k.others; are = k.are; one = b.one; among = b.among; before = b.before; behind = b.behind; order = b.order; none_before = b.none_before; made = of_member (IsCaseMade t s) (k.by_rules ++ k.others) b.one k.made b.among; is = refl }));
      own_first = inr none;
      passes = b.passes;
    }

-- what is told of the limits of what is written
abbrev pub LimitsTold : KoreSignature → Option StepLimit → List Next → List Part → Type 0
LimitsTold g o ns ps = MatchOption o (AllByRecursion (λ x. PassesNone g x) (map next_told ns ++ map part_told ps)) (λ l. IsFirstPassed g (map next_told ns ++ map part_told ps) (limit_view l))

pub limits_of : (g h : KoreSignature) (o d : Option StepLimit) (ns ms : List Next) (ps qs : List Part) → g ≡ h → o ≡ d → ns ≡ ms → ps ≡ qs → LimitsTold g o ns ps → LimitsTold h d ms qs
limits_of g h o d ns ms ps qs e is first rest told = subst (λ x. LimitsTold h x ms qs) is (subst (λ x. LimitsTold x o ms qs) e (subst (λ x. LimitsTold g o x qs) first (subst (λ x. LimitsTold g o ns x) rest told)))

-- ---- by what the code makes, over the setting's signature

each_ready : (g : KoreSignature) (used : List Text) (s m : StatePart) (qs : List NumberedPart) → AllByRecursion (IsPartIn g used s m) qs → AllByRecursion (IsReadyPart g used) qs
each_ready g used s m [] h = tt
each_ready g used s m (q ∷ qs) h = (h.0.ready, each_ready g used s m qs h.1)

pub solved_by : (t : Theory) (used : List Text) (s : SymbolicState) (g : KoreSignature) (found : List RewriteRule) (qs rs : List NumberedPart) → g ≡ t.signature → AreRemaining t used s found qs → (AllByRecursion (IsReadyPart g used) qs → AllZip (IsSolvedPart g used) qs rs) → AreRemaining t used s found rs
solved_by t used s g found qs rs e r k =
    let at = subst (λ h. AllByRecursion (IsReadyPart h used) qs → AllZip (IsSolvedPart h used) qs rs) e k in
    remaining_solved t used s found qs rs (at (each_ready t.signature used (whole s) (whole s) qs r.left.each)) r

pub solved_each_by : (t : Theory) (used : List Text) (s : SymbolicState) (g : KoreSignature) (found : List RewriteRule) (qs rs : List NumberedPart) → g ≡ t.signature → AreRemaining t used s found qs → (AllByRecursion (IsReadyPart g used) qs → AllZip (IsSolvedPart g used) qs rs) → AllByRecursion (HasBeenSolved t.signature) rs
solved_each_by t used s g found qs rs e r k =
    let at = subst (λ h. AllByRecursion (IsReadyPart h used) qs → AllZip (IsSolvedPart h used) qs rs) e k in
    have_been_solved t.signature used qs rs (at (each_ready t.signature used (whole s) (whole s) qs r.left.each))

-- all of the state is left to none
pub all_left : (t : Theory) (used : List Text) (s : SymbolicState) (g : KoreSignature) (q : NumberedPart) (parts : List NumberedPart) → g ≡ t.signature → IsWholeReady t.signature used s q → parts ≡ q ∷ [] → AreUntaken g used None [] (whole s) (whole s) parts
all_left t used s g q parts e w is =
    subst (λ h. AreUntaken h used None [] (whole s) (whole s) parts) (sym e)
    (subst (AreUntaken t.signature used None [] (whole s) (whole s)) (sym is) (subst (λ p. AreUntaken t.signature used None [] p p (q ∷ [])) w.is (all_is_left t.signature used q w.ready)))

pub ready_left : (g : KoreSignature) (used : List Text) (o : Option RewriteRule) (found : List RewriteRule) (s m : StatePart) (qs : List NumberedPart) → AreUntaken g used o found s m qs → AllByRecursion (IsReadyPart g used) qs
ready_left g used o found s m qs l = each_ready g used s m qs l.each

pub remainder_by : (t : Theory) (used : List Text) (s : SymbolicState) (g : KoreSignature) (q : NumberedPart) (found : List RewriteRule) (parts left : List NumberedPart) (d : decisions.Decided) (turns : List PlacedTurn) → g ≡ t.signature → IsWholeReady t.signature used s q → AllZip (IsRuleAt t) turns found → AllMeet t.signature s found → parts ≡ q ∷ [] → AreUntaken g used None found (whole s) (whole s) left →
    OneTakesAll g found parts left → AreDecided g q.part.state found left d → TellsRemainder t used s found d
remainder_by t used s g q found parts left d turns e w z meet is l o k =
    remainder_told t used s q found left d w.is w.instance (rules_in_theory t turns found z) meet (subst (λ h. AreUntaken h used None found (whole s) (whole s) left) e l)
    (subst (λ xs. OneTakesAll t.signature found xs left) is (subst (λ h. OneTakesAll h found parts left) e o)) (subst (λ p. AreDecided t.signature p.state found left d) w.is (subst (λ h. AreDecided h q.part.state found left d) e k))

pub told_remainder_open : (t : Theory) (used : List Text) (s : SymbolicState) (found : List RewriteRule) (o : UndecidedClauses) → TellsRemainder t used s found (decided.UndecidedClauses o) → AreAllTurns t (whole s) found → first_wide t.signature s ≡ None → OfEachInstance t.signature (whole s) (λ w c. ¬ IsUnknown t c) → IsToldUndecided t s (clauses_view o.shown.items) o.over None
told_remainder_open t used s found o k all none known = record { no_number = none; behind = inr known; rule = None; is_rule = tt; weight = k.0; weighed = k.1; what_is_undecided = k.2 (λ w c sorts met q member goes turn. all w c sorts met q member turn) }

-- ---- the state itself

pub passes_itself : (t : Theory) (s : SymbolicState) (g : KoreSignature) (o : Option StepLimit) (l : StepLimit) → g ≡ t.signature → o ≡ Some l → MatchOption o (PassesNone g s) (λ m. Passes g s (limit_view m)) → IsPassed t s (limit_view l)
passes_itself t s g o l e is told = record { state = s; which = inl refl; own_first = inl refl; passes = subst (λ h. Passes h s (limit_view l)) e (subst (λ d. MatchOption d (PassesNone g s) (λ m. Passes g s (limit_view m))) is told) }

pub passes_number : (t : Theory) (s : SymbolicState) (g : KoreSignature) (o : Option StepLimit) (l : StepLimit) → g ≡ t.signature → o ≡ Some l → option_map limit_view o ≡ option_map number (first_wide g s) → IsPassed t s (limit_view l)
passes_number t s g o l e is told = record { state = s; which = inl refl; own_first = inl refl; passes = subst (λ h. Passes h s (limit_view l)) e (passes_wide g s o l is told) }

-- a step from all of it
pub step_from : (t : Theory) (used : List Text) (s : SymbolicState) (k : Setting) (rules : RuleSet) (next : ℕ) (q : NumberedPart) → Steps t k rules → IsSetting used k → q.part ≡ whole s → q.next ≡ next → IsReadyState t.signature used s next → HasInstance t.signature (whole s) → PassesNone t.signature s → IsStepFrom t used s k rules q
step_from t used s k rules next q steps setting e f ready some limits = record { steps = steps; setting = setting; whole = is_whole t.signature used s next q e f ready some; limits = limits }

-- where no foreign rule might rewrite an instance
pub search_from : (t : Theory) (used : List Text) (s : SymbolicState) (k : Setting) (rules : RuleSet) (q : NumberedPart) → IsStepFrom t used s k rules q → OfEachInstance t.signature (whole s) (λ w c. ¬ IsUnknown t c) → IsSearchFrom t used s k rules q
search_from t used s k rules q from known = record { steps = from.steps; setting = from.setting; limits = from.limits; known = known; whole = from.whole }

-- where it passes no limit
pub passes_none_at : (t : Theory) (s : SymbolicState) (g : KoreSignature) (o : Option StepLimit) → g ≡ t.signature → o ≡ None → MatchOption o (PassesNone g s) (λ m. Passes g s (limit_view m)) → PassesNone t.signature s
passes_none_at t s g o e is told = subst (λ h. PassesNone h s) e (subst (λ d. MatchOption d (PassesNone g s) (λ m. Passes g s (limit_view m))) is told)

-- what is answered of it
pub answer_at : (t : Theory) (used : List Text) (s : SymbolicState) (g : KoreSignature) (next : ℕ) (a : answers.PartAnswer) → g ≡ t.signature → IsReadyState t.signature used s next → (HasSortedClauses g s → IsRightAnswerAlone g s a) → IsRightAnswerAlone t.signature s a
answer_at t used s g next a e ready told = subst (λ h. HasSortedClauses h s → IsRightAnswerAlone h s a) e told (sorted_clauses t.signature s ready.safe.sorted)
