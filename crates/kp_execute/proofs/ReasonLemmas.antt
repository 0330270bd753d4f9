-- Each of the six reasons is right of the patterns.
use Rattle.std.proofs.Common.{◌≡◌, refl, sym, ap, ◌∙◌, subst, inl, inr, arith, ℕ, zero, suc, ◌<◌, List, [], ◌∷◌, ◌++◌, Some, None}
use Rattle.std.specs.List.{AllByRecursion, AllZip, Contains}
use Rattle.std.proofs.lemmas.List.Elements.{Contains-append_left, Contains-append_right}
use Rattle.kp_kore.specs.Syntax.{Text, KorePattern}
use Rattle.kp_kore.specs.Signature.{KoreSignature}
use Rattle.kp_kore.specs.AtHand.{HasSome, OfEach}
use Rattle.kp_kore.specs.Rules.{RewriteRule}
use Rattle.kp_kore.specs.Theory.{Theory}
use Rattle.kp_kore.specs.Steps.{StepsIn}
use Rattle.kp_kore.specs.Value.{Value}
use Rattle.kp_kore.specs.Cases.{NextState, HasTurnAlone}
use Rattle.kp_kore.specs.Causes.{IsDecided}
use Rattle.kp_kore.specs.Onward.{Passes}
use Rattle.kp_kore.specs.Executions as theory
use Rattle.kp_kore.specs.Executions.{Options, listed_in, IsStuck, IsBranching, EndsBy}
use Rattle.kp_kore.proofs.ListLemmas.{all_left, all_right}
use Rattle.kp_symbolic.specs.States.{SymbolicState}
use Rattle.kp_symbolic_laws.specs.Safe.{IsSafe}
use Rattle.kp_case_laws.specs.Parts.{whole, IsGrown}
use Rattle.kp_case_laws.specs.Firing.{HasNoInstance}
use Rattle.kp_case_laws.specs.NextStates.{StepCase, HaveOwnIds, AreStepCases, IsWithinHand, HaveValues, IsWritten}
use Rattle.kp_case_laws.specs.Runs.{StatePasses}
use Rattle.kp_case_laws.specs.RunLaws.{IsAloneBy}
use Rattle.kp_case_laws.specs.EndLaws.{id_of_case}
use Rattle.kp_case_laws.proofs.AtHandLemmas.{sorts_of_hand, hand_in_hand}
use Rattle.kp_case_laws.proofs.RunLaws.{passes_as_pattern, by_one_as_pattern, ends_as_pattern}
use Rattle.kp_case_laws.proofs.EndLaws.{says_some, says_none, says_stuck, says_branching, says_cut_point}
use Rattle.kp_unify.specs.declared.part.Part.{Part}
use Rattle.kp_step.specs.Places.{IsAt}
use Rattle.kp_step.specs.RightSteps.{IsCaseOf, IsRemainderOf, AreCasesOf}
use Rattle.kp_step.specs.declared.outcome.Next.{Next}
use Rattle.kp_step.proofs.FoundLemmas.{one_at, at_contains, own_id_at}
use Rattle.kp_execute.specs.Endings.{IsEndAtBound, IsListedAt, AreOfTwo, AreSeveral, IsTerminal}
use Rattle.kp_execute.specs.declared.ending.Ending.TheVariants.{DepthBound}
use Rattle.kp_results.specs.Results.{StateParts, NextParts, IsNextOf}
use Rattle.kp_execute.specs.Written.{AreCasesWritten, IsNextWritten, IsStateWritten, IsShown, MentionsNoLost, pattern_of}
use Rattle.kp_execute.specs.Told.{AreTold}
use Rattle.kp_execute.proofs.NextLemmas.{AllWritten, told_nexts, told_parts, nexts_written, remainders_written, all_written}
use Rattle.kp_execute.proofs.DecidedLemmas.{HasHere, decided_has}
use Rattle.kp_execute.proofs.EndLemmas.{Stands, leads, at_hand}

-- ---- what was passed

pub passes : (t : Theory) (o : Options) (used : List Text) (request p : KorePattern) (first now : SymbolicState) (d : ℕ) → Stands t used request p first now d → StatePasses t (listed_in o) first d → Passes t (listed_in o) request d
passes t o used request p first now d s h = passes_as_pattern t (listed_in o) request first d s.first_pattern s.all h

pub by_one : (t : Theory) (used : List Text) (request p : KorePattern) (first now : SymbolicState) (d : ℕ) → Stands t used request p first now d → (n : ℕ) → n < d → (id : Text) × OfEach t.signature [] request (λ v c. (later : Value) → StepsIn t n c later → HasTurnAlone t id later)
by_one t used request p first now d s = by_one_as_pattern t request first d s.first_pattern s.all s.run.by_one

-- ---- no instance

pub says_vacuous : (t : Theory) (used : List Text) (request p : KorePattern) (first now : SymbolicState) (d : ℕ) → Stands t used request p first now d → HasNoInstance t.signature (whole now) → ¬ HasSome t.signature (request ∷ []) p
says_vacuous t used request p first now d s none =
    says_none t used request p first now s.last_pattern s.all (hand_in_hand _ first.variables now.variables s.first_pattern.at_hand s.run.leads.at_hand) s.one_sort s.run.grown none

-- ---- the bound

says_here : (t : Theory) (used : List Text) (request p : KorePattern) (first now : SymbolicState) (d : ℕ) → Stands t used request p first now d → HasHere t.signature now → HasSome t.signature (request ∷ []) p
says_here t used request p first now d s h = says_some t request p now h.valuation h.configuration (at_hand t used request p first now d s (h.valuation, h.sorts)) h.sorts h.met

pub says_bound : (t : Theory) (used : List Text) (request : KorePattern) (first now : SymbolicState) (x : StateParts) (d : ℕ) → Stands t used request (pattern_of now.sort x) first now d → IsSafe t.signature now → IsStateWritten t.signature now x → IsShown x.predicate → IsEndAtBound t.signature now DepthBound →
    IsDecided (pattern_of now.sort x) → HasSome t.signature (request ∷ []) (pattern_of now.sort x)
says_bound t used request first now x d s safe w shown end decided = says_here t used request (pattern_of now.sort x) first now d s (elim end [
  | inl h ↦ record { valuation = h.valuation; configuration = h.configuration; sorts = h.sorts; met = h.met }
  | inr u ↦ decided_has t.signature now x u.shown u.over safe w shown u.right decided
])

-- ---- cases

-- values of all that is at hand, of a case with an instance
values_of : (g : KoreSignature) (s : SymbolicState) (k : StepCase) → IsWithinHand g s k → HaveValues g s.variables
values_of g s k h = let i = h.instance in (i.0, sorts_of_hand g i.0 s.variables k.part.state.variables h.part i.2)

no_rules : (qs : List Part) (ks : List StepCase) → AllZip IsRemainderOf qs ks → AllByRecursion (λ k. k.rule ≡ None) ks
no_rules [] [] z = tt
no_rules [] (k ∷ ks) z = absurd z
no_rules (q ∷ qs) [] z = absurd z
no_rules (q ∷ qs) (k ∷ ks) z = (ap (λ j. j.rule) z.0, no_rules qs ks z.1)

cons_is_nil : {X : Type 0} {x : X} {xs : List X} → (x ∷ xs) ≡ [] → ⊥
cons_is_nil e = cc

pub stuck_right : (t : Theory) (used : List Text) (request p : KorePattern) (first now : SymbolicState) (d : ℕ) (qs : List Part) → Stands t used request p first now d → AreCasesOf t used now [] qs → ¬ (qs ≡ []) → IsStuck t request p
stuck_right t used request p first now d qs s c some = by qs c.by_rules c.others c.each_next c.each_part c.are c.hand some
  where
    by : (qs : List Part) (ks os : List StepCase) → AllZip (IsCaseOf t) [] ks → AllZip IsRemainderOf qs os → AreStepCases t now (ks ++ os) → AllByRecursion (IsWithinHand t.signature now) (ks ++ os) → ¬ (qs ≡ []) → IsStuck t request p
    by [] ks os z y a h some = absurd (some refl)
    by (q ∷ qs) (k ∷ ks) os z y a h some = absurd z
    by (q ∷ qs) [] [] z y a h some = absurd y
    by (q ∷ qs) [] (k ∷ os) z y a h some = says_stuck t request p now (k ∷ os) (at_hand t used request p first now d s (values_of t.signature now k h.0)) a h (λ e. cons_is_nil e) (no_rules (q ∷ qs) (k ∷ os) y)

-- ---- two cases

-- two of these cases are of different ids
pub record HasTwo (ks : List StepCase) : Type 0 where
  pub one : StepCase
  pub other : StepCase
  pub first : Contains ks one
  pub second : Contains ks other
  pub differ : ¬ (id_of_case one ≡ id_of_case other)

here_first : {X : Type 0} (x : X) (xs : List X) → Contains (x ∷ xs) x
here_first x xs = (0, omega arith, refl)

some_is_none : {X : Type 0} {x : X} → Some x ≡ None → ⊥
some_is_none e = cc

inside : {X : Type 0} {x y : X} → Some x ≡ Some y → x ≡ y
inside e = cc

id_by_rule : (t : Theory) (n : Next) (k : StepCase) (i : IsCaseOf t n k) → id_of_case k ≡ Some i.rule.id
id_by_rule t n k i = ap id_of_case i.is

-- a next state and a part that remains
rule_and_none : (t : Theory) (n : Next) (ns : List Next) (q : Part) (qs : List Part) (ks os : List StepCase) → AllZip (IsCaseOf t) (n ∷ ns) ks → AllZip IsRemainderOf (q ∷ qs) os → HasTwo (ks ++ os)
rule_and_none t n ns q qs [] os z y = absurd z
rule_and_none t n ns q qs (k ∷ ks) [] z y = absurd y
rule_and_none t n ns q qs (k ∷ ks) (j ∷ os) z y = record {
  one = k;
  other = j;
  first = Contains-append_left (k ∷ ks) (j ∷ os) k (here_first k ks);
  second = Contains-append_right (k ∷ ks) (j ∷ os) j (here_first j os);
  differ = λ e. some_is_none (sym (id_by_rule t n k z.0) ∙ e ∙ ap id_of_case y.0);
}

-- the case of a next state
record CaseOf (t : Theory) (n : Next) (ks : List StepCase) : Type 0 where
  case : StepCase
  among : Contains ks case
  is : IsCaseOf t n case

case_of : (t : Theory) (n : Next) (ns : List Next) (ks : List StepCase) → AllZip (IsCaseOf t) ns ks → Contains ns n → CaseOf t n ks
case_of t n [] ks z (i, l, e) = absurd (omega (arith, l))
case_of t n (m ∷ ns) [] z (i, l, e) = absurd z
case_of t n (m ∷ ns) (k ∷ ks) z (zero, l, e) = record { case = k; among = here_first k ks; is = subst (λ j. IsCaseOf t j k) e z.0 }
case_of t n (m ∷ ns) (k ∷ ks) z (suc i, l, e) =
    let c = case_of t n ns ks z.1 (i, omega (arith, l), e) in
    record { case = c.case; among = Contains-append_right (k ∷ []) ks c.case c.among; is = c.is }

two_rules : (t : Theory) (ns : List Next) (ks os : List StepCase) → HaveOwnIds t.rules → AllZip (IsCaseOf t) ns ks → AreOfTwo ns → HasTwo (ks ++ os)
two_rules t ns ks os own z two =
    let a = case_of t two.one ns ks z two.has_one in
    let b = case_of t two.other ns ks z two.has_other in
    record {
      one = a.case;
      other = b.case;
      first = Contains-append_left ks os a.case a.among;
      second = Contains-append_left ks os b.case b.among;
      differ = λ e. own_id_at t.rules two.other.rule two.one.rule b.is.rule a.is.rule own b.is.at a.is.at (λ same. two.differ (sym same)) (inside (sym (id_by_rule t two.one a.case a.is) ∙ e ∙ id_by_rule t two.other b.case b.is));
    }

two_cases : (t : Theory) (ns : List Next) (qs : List Part) (ks os : List StepCase) → HaveOwnIds t.rules → AllZip (IsCaseOf t) ns ks → AllZip IsRemainderOf qs os → AreSeveral ns qs → HasTwo (ks ++ os)
two_cases t ns [] ks os own z y several = two_rules t ns ks os own z several
two_cases t [] (q ∷ qs) ks os own z y several = absurd (several refl)
two_cases t (n ∷ ns) (q ∷ qs) ks os own z y several = rule_and_none t n ns q qs ks os z y

some_values : (g : KoreSignature) (s : SymbolicState) (ks : List StepCase) → HasTwo ks → AllByRecursion (IsWithinHand g s) ks → HaveValues g s.variables
some_values g s [] h all = absurd (none_here h.one h.first)
  where
    none_here : (k : StepCase) → Contains [] k → ⊥
    none_here k (i, l, e) = omega (arith, l)
some_values g s (k ∷ ks) h all = values_of g s k all.0

-- next states that the parts mean
pub record BranchesInto (t : Theory) (request p : KorePattern) (xs : List NextParts) : Type 0 where
  pub states : List NextState
  pub are : AllZip IsNextOf xs states
  pub branching : IsBranching t request p states

pub branching_right : (t : Theory) (used : List Text) (request p : KorePattern) (first now : SymbolicState) (d : ℕ) (ns : List Next) (qs : List Part) (xs : List NextParts) → HaveOwnIds t.rules → Stands t used request p first now d → AreCasesOf t used now ns qs → AreSeveral ns qs → AreTold t ns qs → AreCasesWritten t ns qs xs →
    AllByRecursion (MentionsNoLost now.variables p now.sort) xs → BranchesInto t request p xs
branching_right t used request p first now d ns qs xs own s c several told w lost =
    let lost_in = subst (AllByRecursion (MentionsNoLost now.variables p now.sort)) w.are lost in
    let a = all_written t.signature request p now c.by_rules c.others w.by_rules w.others
    (nexts_written t used request p now now.sort ns c.by_rules w.by_rules s.free c.each_next w.each_next c.each (told_nexts t used now ns c.each told.each_next) (all_left (IsWithinHand t.signature now) c.by_rules c.others c.hand) (all_left (MentionsNoLost now.variables p now.sort) w.by_rules w.others lost_in))
    (remainders_written t used request p now now.sort qs c.others w.others s.free c.each_part w.each_part (told_parts t used now qs c.remains told.each_part) (all_right (MentionsNoLost now.variables p now.sort) w.by_rules w.others lost_in)) in
    let two = two_cases t ns qs c.by_rules c.others own c.each_next c.each_part several in
    let hand = at_hand t used request p first now d s (some_values t.signature now (c.by_rules ++ c.others) two c.hand) in
    record {
      states = a.states;
      are = subst (λ ys. AllZip IsNextOf ys a.states) (sym w.are) a.are;
      branching = says_branching t request p now (c.by_rules ++ c.others) a.states two.one two.other hand c.are c.hand a.written two.first two.second two.differ;
    }

-- ---- a cut point

pub record CutsAt (t : Theory) (o : Options) (request p : KorePattern) (id : Text) (x : NextParts) : Type 0 where
  pub state : NextState
  pub is : IsNextOf x state
  pub cut_point : theory.IsCutPoint t o request p id state

pub cut_point_right : (t : Theory) (o : Options) (used : List Text) (request p : KorePattern) (first now : SymbolicState) (d : ℕ) (n : Next) (x : NextParts) → Stands t used request p first now d → AreCasesOf t used now (n ∷ []) [] → IsListedAt t o.cut_points n.rule → AreTold t (n ∷ []) [] → (w : IsNextWritten t n x) →
    MentionsNoLost now.variables p now.sort x → CutsAt t o request p w.rule.id x
cut_point_right t o used request p first now d n x s c listed told w lost = by c.by_rules c.others c.each_next c.each_part c.are c.hand
  where
    of_written : (k : StepCase) (i : IsCaseOf t n k) → AreStepCases t now (k ∷ []) → IsWithinHand t.signature now k → AllWritten t.signature request p now (k ∷ []) (x ∷ []) → CutsAt t o request p w.rule.id x
    of_written k i a h all = from all.states all.are all.written
      where
        same : i.rule ≡ w.rule
        same = one_at t n.rule i.rule w.rule i.at w.at

        alone : IsAloneBy t used now i.rule k
        alone = record {
          cases = a;
          hand = h;
          by_rule = ap (λ j. j.rule) i.is;
          of_theory = at_contains t.rules n.rule i.rule i.at;
          fires = c.alone i.rule i.at;
          grown = subst (λ j. IsGrown t.signature used (whole now) (whole j.next)) (sym i.is) c.each.0.grown;
        }

        from : (ms : List NextState) → AllZip IsNextOf (x ∷ []) ms → AllZip (IsWritten t.signature request p now) (k ∷ []) ms → CutsAt t o request p w.rule.id x
        from [] z y = absurd z
        from (m ∷ l ∷ ms) z y = absurd z.1
        from (m ∷ []) z y = record {
          state = m;
          is = z.0;
          cut_point = subst (λ r. theory.IsCutPoint t o request p r.id m) same (says_cut_point t o used request p now i.rule k m (at_hand t used request p first now d s (values_of t.signature now k h)) alone y.0 (listed i.rule i.at));
        }

    by : (ks os : List StepCase) → AllZip (IsCaseOf t) (n ∷ []) ks → AllZip IsRemainderOf [] os → AreStepCases t now (ks ++ os) → AllByRecursion (IsWithinHand t.signature now) (ks ++ os) → CutsAt t o request p w.rule.id x
    by [] os z y a h = absurd z
    by (k ∷ j ∷ ks) os z y a h = absurd z.1
    by (k ∷ []) (j ∷ os) z y a h = absurd y
    by (k ∷ []) [] z y a h = of_written k z.0 a h.0 (nexts_written t used request p now now.sort (n ∷ []) (k ∷ []) (x ∷ []) s.free z (w, tt) c.each (told_nexts t used now (n ∷ []) c.each told.each_next) h (lost, tt))

-- ---- a rule to stop behind

pub terminal_right : (t : Theory) (o : Options) (used : List Text) (request p : KorePattern) (first now : SymbolicState) (d place : ℕ) (r : RewriteRule) → Stands t used request p first now d → IsTerminal t o first d place → IsAt t place r → EndsBy t o request p d r.id
terminal_right t o used request p first now d place r s h at =
    let same : h.rule ≡ r = one_at t place h.rule r h.at at in
    let both = ends_as_pattern t (listed_in o) request first h.before h.rule.id s.first_pattern s.all h.ends in
    subst (λ q. EndsBy t o request p d q.id) same (record {
      before = h.before;
      one_less = h.one_less;
      leads = leads t used request p first now d s;
      passes = both.0;
      turn = both.1;
      is_terminal = h.is_terminal;
      no_cut_point = h.no_cut_point;
    })
