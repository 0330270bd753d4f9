-- What is answered of a run is right.
use Rattle.std.proofs.Common.{◌≡◌, refl, sym, ap, ◌∙◌, subst, ℕ, ℤ, List, [], ◌∷◌, Option, Some, None, Result, Ok, Err, IfOk}
use Rattle.std.specs.Option.{option_map}
use Rattle.kp_kore.specs.Syntax.{Text, KoreSort, KorePattern}
use Rattle.kp_kore.specs.Parts.{variable_names}
use Rattle.kp_kore.specs.Signature.{KoreSignature}
use Rattle.kp_kore.specs.Rules.{RewriteRule}
use Rattle.kp_kore.specs.Theory.{Theory}
use Rattle.kp_kore.specs.Steps.{IsUnknownBy}
use Rattle.kp_kore.specs.Replies.{IsComputed}
use Rattle.kp_kore.specs.AtHand.{OfSome}
use Rattle.kp_kore.specs.Causes.{foreign, IsShown}
use Rattle.kp_kore.specs.Executions as theory
use Rattle.kp_kore.specs.Executions.{Options}
use Rattle.kp_kore.proofs.StandingNames.{free_stands_names}
use Rattle.kp_clauses.specs.Faults.{state_fault}
use Rattle.kp_clauses.proofs.StateLemmas.{nothing_misplaced}
use Rattle.kp_signature.specs.Places.{the_top}
use Rattle.kp_signature.specs.Verify.{VerifiesAs}
use Rattle.kp_symbolic.specs.Solving.{opened_state, IsReadAs}
use Rattle.kp_symbolic.specs.States.{Literal, SymbolicState}
use Rattle.kp_symbolic.specs.Verdicts.{Weighed}
use Rattle.kp_symbolic.specs.View.{state_view}
use Rattle.kp_symbolic_laws.specs.Runs.{OfEachKept}
use Rattle.kp_symbolic_laws.specs.Safe.{IsSafe}
use Rattle.kp_symbolic_laws.specs.Kept.{CanBeWritten}
use Rattle.kp_limits.specs.declared.weight.Weighed as code
use Rattle.kp_satisfiability.specs.Answers.{IsWeighedAs}
use Rattle.kp_case_laws.specs.NextStates.{HaveOwnIds, IsAtHand}
use Rattle.kp_case_laws.proofs.EndLaws.{some_instance}
use Rattle.kp_case_laws.proofs.RunLaws.{reaches_as_pattern}
use Rattle.kp_case_laws.proofs.StepCases.{any_member}
use Rattle.kp_results.specs.Results as parts
use Rattle.kp_results.specs.Results.{StateParts, NextParts, Ending, ExecutedParts}
use Rattle.kp_results.specs.View.{undecided_view}
use Rattle.kp_results.specs.declared.undecided.Undecided.{Undecided}
use Rattle.kp_simplify.specs.Told.{parts_of_call, parts_of_weight}
use Rattle.kp_unify.specs.declared.part.Setting.{Setting}
use Rattle.kp_rule_sets.specs.declared.rule_set.RuleSet.{RuleSet}
use Rattle.kp_step.specs.Causes.{IsUndecidedStep, MeetsForeign, IsFirstMet}
use Rattle.kp_step.specs.Limits.{number, IsPassed}
use Rattle.kp_step.specs.RightSteps.{IsToldUndecided, IsRightStep}
use Rattle.kp_step.specs.declared.outcome.StepOutcome.{StepOutcome}
use Rattle.kp_step.specs.declared.outcome.StepOutcome.TheVariants.{Foreign}
use Rattle.kp_step.proofs.FoundLemmas.{one_at}
use Rattle.kp_execute.specs.Endings.{IsRunFrom, IsRightEnding, IsRightRun}
use Rattle.kp_execute.specs.declared.ending.Ending as runs
use Rattle.kp_execute.specs.declared.ending.Ending.TheVariants.{Vacuous, DepthBound, Stuck, Branching, CutPoint, Terminal, Aborted}
use Rattle.kp_execute.specs.declared.ending.Run.{Run}
use Rattle.kp_execute.specs.Written.{AreWritten, IsIdAt, IsEndWritten, pattern_of}
use Rattle.kp_execute.specs.Told.{IsReadRight}
use Rattle.kp_execute.specs.Known.{Begins, IsRunOf, EndsWith, EndsUndecided}
use Rattle.kp_execute.specs.Answers.{IsUndecidedBy, call_of, by_clauses, by_weight, by_number, PassesByOne, IsLeftAtBound, IsFirstTold, IsEndedRun, IsUndecidedRun, IsRightAnswer, aborted_with}
use Rattle.kp_execute.proofs.JoinedLemmas.{state_pattern}
use Rattle.kp_execute.proofs.NextLemmas.{parts_pattern}
use Rattle.kp_execute.proofs.EndLemmas.{Stands, stands, leads, at_hand}
use Rattle.kp_execute.proofs.ReasonLemmas.{passes, by_one}
use Rattle.kp_execute.proofs.OrderLemmas.{end_in_order}
use Rattle.kp_execute.proofs.ResultLemmas.{says_right}
use Rattle.kp_execute.proofs.ReadLemmas.{read_ready, read_request}

-- ---- a run begins

pub read_right : (g : KoreSignature) (p : KorePattern) (sort : KoreSort) (s : SymbolicState) → VerifiesAs g p sort → state_fault g p ≡ None → IsReadAs g p s → ((o : SymbolicState) → opened_state g p ≡ Some o → OfEachKept g (CanBeWritten g) o) → IsReadRight g p s
read_right g p sort s verified clear read kept =
    let placed = nothing_misplaced g p clear in
    record { place = the_top; verified = verified.0; known = placed.0; predicates = placed.1; read = read; kept = kept read.opened read.is_opened }

-- the same, as it is read over the code's signature
pub read_as : (t : Theory) (g : KoreSignature) (p : KorePattern) (sort : KoreSort) (s : SymbolicState) → g ≡ t.signature → VerifiesAs t.signature p sort → state_fault g p ≡ None → (VerifiesAs g p sort → IsReadAs g p s) → (VerifiesAs g p sort → (o : SymbolicState) → opened_state g p ≡ Some o → OfEachKept g (CanBeWritten g) o) →
    IsReadRight t.signature p s
read_as t g p sort s same verified clear read kept =
    let v : VerifiesAs g p sort = subst (λ x. VerifiesAs x p sort) (sym same) verified in
    subst (λ x. IsReadRight x p s) same (read_right g p sort s v clear (read v) (kept v))

pub run_from : (t : Theory) (request : KorePattern) (s : SymbolicState) (k : Setting) (rules : RuleSet) → Begins t request s k rules → HaveOwnIds t.rules → IsRunFrom t (variable_names request) s k rules 1
run_from t request s k rules b own = record {
  steps = record { signature = b.signature; runs = b.runs; own_ids = own };
  setting = b.setting;
  ready = read_ready t.signature (variable_names request) request s b.read (free_stands_names request);
}

pub run_of : (t : Theory) (o : Options) (request : KorePattern) (s : SymbolicState) (k : Setting) (rules : RuleSet) (r : Run) → Begins t request s k rules → HaveOwnIds t.rules → IsRightRun t o (variable_names request) s r → IsRunOf t o request r
run_of t o request s k rules r b own run = record {
  used = variable_names request;
  first = s;
  own_ids = own;
  request_of = read_request t.signature (variable_names request) request s b.read (λ x e. e);
  run = run;
}

-- ---- the result of a run

never_foreign : (t : Theory) (s : SymbolicState) (ending : runs.Ending) (e : Ending) (xs : List NextParts) → IsEndWritten t ending e xs → IsFirstTold t s e
never_foreign t s Vacuous e xs w = subst (IsFirstTold t s) (sym w.0) tt
never_foreign t s DepthBound e xs w = subst (IsFirstTold t s) (sym w.0) tt
never_foreign t s (Stuck remainder) e xs w = subst (IsFirstTold t s) (sym w.0) tt
never_foreign t s (Branching nexts remainder) e xs w = subst (IsFirstTold t s) (sym w.0) tt
never_foreign t s (CutPoint next) e xs w = subst (IsFirstTold t s) (sym w.3) tt
never_foreign t s (Terminal place) e xs w = subst (IsFirstTold t s) (sym w.2) tt
never_foreign t s (Aborted why) e xs w = absurd w

-- another reason isn't the bound
not_bound : (t : Theory) (s : SymbolicState) (e is : Ending) → e ≡ is → ¬ (is ≡ parts.depth_bound) → IsLeftAtBound t s e
not_bound t s e is same other h = absurd (other (sym same ∙ h))

bound_left : (t : Theory) (o : Options) (used : List Text) (first s : SymbolicState) (d : ℕ) (ending : runs.Ending) (e : Ending) (xs : List NextParts) → IsRightEnding t o used first d s ending → IsEndWritten t ending e xs → IsLeftAtBound t s e
bound_left t o used first s d Vacuous e xs h w = not_bound t s e parts.vacuous w.0 (λ k. cc)
bound_left t o used first s d DepthBound e xs h w = λ k. h.2
bound_left t o used first s d (Stuck remainder) e xs h w = not_bound t s e parts.stuck w.0 (λ k. cc)
bound_left t o used first s d (Branching nexts remainder) e xs h w = not_bound t s e parts.branching w.0 (λ k. cc)
bound_left t o used first s d (CutPoint next) e xs h w = not_bound t s e (parts.cut_point w.2.rule.id) w.3 (λ k. cc)
bound_left t o used first s d (Terminal place) e xs h w = not_bound t s e (parts.terminal w.0.id) w.2 (λ k. cc)
bound_left t o used first s d (Aborted why) e xs h w = absurd w

stands_written : (t : Theory) (o : Options) (request : KorePattern) (x : ExecutedParts) (e : EndsWith t o request x) → Stands t e.run.used request (pattern_of (state_view e.whole.state).sort x.state) e.run.first (state_view e.whole.state) e.whole.depth
stands_written t o request x e =
    let now = state_view e.whole.state in
    let safe : IsSafe t.signature now = e.run.run.ready.safe in
    stands t e.run.used request (pattern_of now.sort x.state) e.run.first now e.whole.depth e.run.request_of e.run.run.run (state_pattern t.signature now x.state safe e.written.state) safe.sorted.one_sort_each

pub ended_right : (t : Theory) (o : Options) (request : KorePattern) (x : ExecutedParts) (e : EndsWith t o request x) → IsComputed t.signature (pattern_of (state_view e.whole.state).sort x.state) → IsEndedRun t o request x
ended_right t o request x e computed = let r = e.whole in let h = e.run in record {
  state = state_view r.state;
  of_run = record { run = r; is_run = h; is_last = refl };
  written = e.written.state;
  means = says_right t o h.used request h.first r x (record { own_ids = h.own_ids; request_of = h.request_of; run = h.run; told = e.told; written = e.written; computed = computed });
  by_one = subst (PassesByOne t request) (sym e.written.depth) (by_one t h.used request (pattern_of (state_view r.state).sort x.state) h.first (state_view r.state) r.depth (stands_written t o request x e));
  bound = bound_left t o h.used h.first (state_view r.state) r.depth r.ending x.ending x.nexts h.run.ending e.written.end;
  first = never_foreign t (state_view r.state) r.ending x.ending x.nexts e.written.end;
  order = end_in_order t r.ending x.ending x.nexts e.written.end e.order;
}

-- ---- a run that ends with what a step tells

here : (t : Theory) (o : Options) (request : KorePattern) (r : Run) (x : StateParts) (why : StepOutcome) (h : EndsUndecided t o request r x why) → Stands t h.run.used request (pattern_of (state_view r.state).sort x) h.run.first (state_view r.state) r.depth
here t o request r x why h =
    let now = state_view r.state in
    let safe : IsSafe t.signature now = h.run.run.ready.safe in
    stands t h.run.used request (pattern_of now.sort x) h.run.first now r.depth h.run.request_of h.run.run.run (state_pattern t.signature now x safe h.written) safe.sorted.one_sort_each

ending_of : (t : Theory) (o : Options) (request : KorePattern) (r : Run) (x : StateParts) (why : StepOutcome) (h : EndsUndecided t o request r x why) → IsRightEnding t o h.run.used h.run.first r.depth (state_view r.state) (Aborted why)
ending_of t o request r x why h = subst (IsRightEnding t o h.run.used h.run.first r.depth (state_view r.state)) h.is h.run.run.ending

-- what the step tells is so
pub step_of : (t : Theory) (o : Options) (request : KorePattern) (r : Run) (x : StateParts) (why : StepOutcome) (h : EndsUndecided t o request r x why) → IsRightStep t h.run.used (state_view r.state) why
step_of t o request r x why h = (ending_of t o request r x why h).2.0

pub open_right : (t : Theory) (o : Options) (request : KorePattern) (r : Run) (x : StateParts) (why : StepOutcome) (u : parts.Undecided) → EndsUndecided t o request r x why → IsUndecidedBy t (state_view r.state) u → IsUndecidedRun t o request r.depth x u
open_right t o request r x why u h by =
    let now = state_view r.state in
    let p = pattern_of now.sort x in
    let s : Stands t h.run.used request p h.run.first now r.depth = here t o request r x why h in
    let e = ending_of t o request r x why h in
    record {
      state = now;
      of_run = record { run = r; is_run = h.run; is_last = refl };
      below = e.1;
      written = h.written;
      same = s.last_pattern;
      leads = leads t h.run.used request p h.run.first now r.depth s;
      passes = passes t o h.run.used request p h.run.first now r.depth s e.0;
      by_one = by_one t h.run.used request p h.run.first now r.depth s;
      reached = λ n is. reaches_as_pattern t request h.run.first n s.first_pattern (h.run.run.run.reached n is);
      computed = h.computed;
      open_by = by;
    }

-- ---- a foreign rule

foreign_shown : (t : Theory) (request p : KorePattern) (s : SymbolicState) (r : RewriteRule) → IsAtHand t.signature request p s → MeetsForeign t s r → IsShown t request p (foreign r.id)
foreign_shown t request p s r hand m = any_member (λ q. (q.id ≡ r.id) × OfSome t.signature (request ∷ []) p (λ v c. IsUnknownBy t.signature q.body c)) t.rules r m.of_theory
    (refl, some_instance t.signature (λ v c. IsUnknownBy t.signature r.body c) request p s m.valuation m.configuration hand m.sorts m.met m.unknown)

pub foreign_right : (t : Theory) (o : Options) (request : KorePattern) (r : Run) (x : StateParts) (place : ℕ) (id : Text) → EndsUndecided t o request r x (Foreign place) → IsIdAt t place id → IsRightAnswer t o request (aborted_with r.depth x id)
foreign_right t o request r x place id h at =
    let now = state_view r.state in
    let p = pattern_of now.sort x in
    let s : Stands t h.run.used request p h.run.first now r.depth = here t o request r x (Foreign place) h in
    let e = ending_of t o request r x (Foreign place) h in
    let m : IsFirstMet t now place = step_of t o request r x (Foreign place) h in
    let same : m.rule.id ≡ id = ap (λ q. q.id) (one_at t place m.rule at.0 m.at at.1) ∙ sym at.2 in
    record {
      state = now;
      of_run = record { run = r; is_run = h.run; is_last = refl };
      written = h.written;
      means = record {
        result = record { depth = r.depth; reason = theory.aborted (foreign id); state = p };
        is = record { depth = refl; reason = (refl, refl); state = parts_pattern now.sort x };
        right = record {
          within_bound = h.run.run.within;
          runs = (leads t h.run.used request p h.run.first now r.depth s, passes t o h.run.used request p h.run.first now r.depth s e.0);
          reached = λ n is. reaches_as_pattern t request h.run.first n s.first_pattern (h.run.run.run.reached n is);
          computed = h.computed;
          reason = (e.1, subst (λ i. IsShown t request p (foreign i)) same (foreign_shown t request p now m.rule (at_hand t h.run.used request p h.run.first now r.depth s (m.meets.valuation, m.meets.sorts)) m.meets));
        };
      };
      by_one = by_one t h.run.used request p h.run.first now r.depth s;
      bound = not_bound t now (parts.aborted (foreign id)) (parts.aborted (foreign id)) refl (λ k. cc);
      first = (place, at.0, at.1, at.2, m);
      order = tt;
    }

-- ---- what isn't decided

pub open_by_clauses : (t : Theory) (s : SymbolicState) (shown : List (List Literal)) (over : Option code.Weighed) (place : Option ℕ) (limit : Option parts.Limit) (q : KorePattern) → IsToldUndecided t s shown over place → ((h : Option Weighed) → IsWeighedAs h over → limit ≡ option_map parts_of_weight h) →
    AreWritten t.signature s.sort shown (Some q) → IsUndecidedBy t s (parts.predicate q limit)
open_by_clauses t s shown over place limit q told weighs written = by told.weight told.weighed told.what_is_undecided
  where
    by : (h : Option Weighed) → IsWeighedAs h over → IsUndecidedStep t s told.rule shown h → IsUndecidedBy t s (parts.predicate q limit)
    by None w left = subst (λ l. IsUndecidedBy t s (parts.predicate q l)) (sym (weighs None w)) (by_clauses place told.rule shown q told.is_rule left written)
    by (Some h) w left = subst (λ l. IsUndecidedBy t s (parts.predicate q l)) (sym (weighs (Some h) w)) (by_weight place told.rule shown q h told.is_rule left written)

pub open_by_number : {E : Type 0} (t : Theory) (s : SymbolicState) (f : Text) (m n a b : ℤ) (r : Result Undecided E) → a ≡ m → b ≡ n → IsPassed t s (number (call_of f m n)) → IfOk r (λ u. undecided_view u ≡ parts_of_call (call_of f a b)) → IfOk r (λ u. IsUndecidedBy t s (undecided_view u))
open_by_number t s f m n a b (Ok u) is_first is_second passed e =
    subst (IsUndecidedBy t s) (sym (e ∙ ap (λ k. parts_of_call (call_of f k b)) is_first ∙ ap (λ k. parts_of_call (call_of f m k)) is_second)) (by_number (call_of f m n) passed)
open_by_number t s f m n a b (Err x) is_first is_second passed e = tt
