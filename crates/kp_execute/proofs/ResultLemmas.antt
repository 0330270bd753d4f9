-- A right run as it is written means a right result.
use Rattle.std.proofs.Common.{◌≡◌, refl, sym, subst, ℕ, List, [], ◌∷◌}
use Rattle.std.specs.List.{AllByRecursion}
use Rattle.kp_kore.specs.Syntax.{Text, KorePattern}
use Rattle.kp_kore.specs.Theory.{Theory}
use Rattle.kp_kore.specs.Executions as theory
use Rattle.kp_kore.specs.Executions.{Options, Reason, RunsTo, IsRightReason}
use Rattle.kp_symbolic.specs.States.{SymbolicState}
use Rattle.kp_symbolic_laws.specs.Safe.{IsSafe}
use Rattle.kp_symbolic.specs.View.{state_view}
use Rattle.kp_case_laws.specs.NextStates.{HaveOwnIds}
use Rattle.kp_case_laws.proofs.RunLaws.{reaches_as_pattern}
use Rattle.kp_execute.specs.Endings.{IsRightEnding}
use Rattle.kp_execute.specs.declared.ending.Ending as runs
use Rattle.kp_execute.specs.declared.ending.Ending.TheVariants.{Vacuous, DepthBound, Stuck, Branching, CutPoint, Terminal, Aborted}
use Rattle.kp_execute.specs.declared.ending.Run.{Run}
use Rattle.kp_results.specs.Results.{StateParts, NextParts, Ending, vacuous, depth_bound, stuck, branching, cut_point, terminal, ExecutedParts, IsReasonOf}
use Rattle.kp_execute.specs.Written.{IsStateWritten, IsShown, IsEndWritten, MentionsNoLost, pattern_of}
use Rattle.kp_execute.specs.Told.{IsToldEnd}
use Rattle.kp_execute.specs.Laws.{IsWrittenRunOf, MeansRight}
use Rattle.kp_execute.proofs.JoinedLemmas.{state_pattern}
use Rattle.kp_execute.proofs.NextLemmas.{parts_pattern}
use Rattle.kp_execute.proofs.EndLemmas.{Stands, stands, leads}
use Rattle.kp_execute.proofs.ReasonLemmas.{passes, says_vacuous, says_bound, stuck_right, BranchesInto, branching_right, CutsAt, cut_point_right, terminal_right}

-- the end means a reason that is right
record EndsRight (t : Theory) (o : Options) (request p : KorePattern) (d : ℕ) (e : Ending) (xs : List NextParts) : Type 0 where
  reason : Reason
  is : IsReasonOf e xs reason
  runs : RunsTo t o request p d reason
  right : IsRightReason t o request p d reason

-- with these next states, and as this
moved : (t : Theory) (o : Options) (request p : KorePattern) (d : ℕ) (e f : Ending) (xs ys : List NextParts) → e ≡ f → xs ≡ ys → EndsRight t o request p d f ys → EndsRight t o request p d e xs
moved t o request p d e f xs ys a b h = subst (λ k. EndsRight t o request p d k xs) (sym a) (subst (EndsRight t o request p d f) (sym b) h)

-- what is known of the last state and of the run to it
record Arrives (t : Theory) (o : Options) (used : List Text) (request : KorePattern) (first now : SymbolicState) (x : StateParts) (d : ℕ) : Type 0 where
  here : Stands t used request (pattern_of now.sort x) first now d
  own_ids : HaveOwnIds t.rules
  safe : IsSafe t.signature now
  written : IsStateWritten t.signature now x
  shown : IsShown x.predicate

ends_right : (t : Theory) (o : Options) (used : List Text) (request : KorePattern) (first now : SymbolicState) (x : StateParts) (d : ℕ) (ending : runs.Ending) (e : Ending) (xs : List NextParts) → Arrives t o used request first now x d → IsRightEnding t o used first d now ending → IsToldEnd t ending → IsEndWritten t ending e xs →
    AllByRecursion (MentionsNoLost now.variables (pattern_of now.sort x) now.sort) xs → EndsRight t o request (pattern_of now.sort x) d e xs
ends_right t o used request first now x d Vacuous e xs a h told w lost =
    let p = pattern_of now.sort x in
    moved t o request p d e vacuous xs [] w.0 w.1 (record {
      reason = theory.vacuous;
      is = (refl, refl);
      runs = (leads t used request p first now d a.here, passes t o used request p first now d a.here h.0);
      right = says_vacuous t used request p first now d a.here h.1;
    })
ends_right t o used request first now x d DepthBound e xs a h told w lost =
    let p = pattern_of now.sort x in
    moved t o request p d e depth_bound xs [] w.0 w.1 (record {
      reason = theory.depth_bound;
      is = (refl, refl);
      runs = (leads t used request p first now d a.here, passes t o used request p first now d a.here h.0);
      right = (h.1, (λ decided. says_bound t used request first now x d a.here a.safe a.written a.shown h.2 decided));
    })
ends_right t o used request first now x d (Stuck remainder) e xs a h told w lost =
    let p = pattern_of now.sort x in
    moved t o request p d e stuck xs [] w.0 w.1 (record {
      reason = theory.stuck;
      is = (refl, refl);
      runs = (leads t used request p first now d a.here, passes t o used request p first now d a.here h.0);
      right = (h.1, stuck_right t used request p first now d remainder.items a.here h.2.0 h.2.1);
    })
ends_right t o used request first now x d (Branching nexts remainder) e xs a h told w lost =
    let p = pattern_of now.sort x in
    let b : BranchesInto t request p xs = branching_right t used request p first now d nexts.items remainder.items xs a.own_ids a.here h.2.0 h.2.1 told w.1 lost in
    moved t o request p d e branching xs xs w.0 refl (record {
      reason = theory.branching b.states;
      is = (b.states, b.are, refl);
      runs = (leads t used request p first now d a.here, passes t o used request p first now d a.here h.0);
      right = (h.1, b.branching);
    })
ends_right t o used request first now x d (CutPoint next) e xs a h told w lost =
    let p = pattern_of now.sort x in
    let none : AllByRecursion (MentionsNoLost now.variables p now.sort) (w.0 ∷ []) = subst (AllByRecursion (MentionsNoLost now.variables p now.sort)) w.1 lost in
    let c : CutsAt t o request p w.2.rule.id w.0 = cut_point_right t o used request p first now d next w.0 a.here h.2.0 h.2.1 told w.2 none.0 in
    moved t o request p d e (cut_point w.2.rule.id) xs (w.0 ∷ []) w.3 w.1 (record {
      reason = theory.cut_point w.2.rule.id c.state;
      is = (c.state, (c.is, tt), refl);
      runs = (leads t used request p first now d a.here, passes t o used request p first now d a.here h.0);
      right = (h.1, c.cut_point);
    })
ends_right t o used request first now x d (Terminal place) e xs a h told w lost =
    let p = pattern_of now.sort x in
    moved t o request p d e (terminal w.0.id) xs [] w.2 w.3 (record {
      reason = theory.terminal w.0.id;
      is = (refl, refl);
      runs = terminal_right t o used request p first now d place w.0 a.here h w.1;
      right = tt;
    })
ends_right t o used request first now x d (Aborted why) e xs a h told w lost = absurd w

pub says_right : (t : Theory) (o : Options) (used : List Text) (request : KorePattern) (s : SymbolicState) (r : Run) (x : ExecutedParts) → IsWrittenRunOf t o used request s r x → MeansRight t o request x
says_right t o used request s r x h =
    let now = state_view r.state in
    let p = pattern_of now.sort x.state in
    let safe : IsSafe t.signature now = h.run.ready.safe in
    let here : Stands t used request p s now r.depth = stands t used request p s now r.depth h.request_of h.run.run (state_pattern t.signature now x.state safe h.written.state) safe.sorted.one_sort_each in
    let arrives : Arrives t o used request s now x.state r.depth = record { here = here; own_ids = h.own_ids; safe = safe; written = h.written.state; shown = h.written.shown } in
    let end : EndsRight t o request p r.depth x.ending x.nexts = ends_right t o used request s now x.state r.depth r.ending x.ending x.nexts arrives h.run.ending h.told h.written.end h.written.none_lost in
    record {
      result = record { depth = r.depth; reason = end.reason; state = p };
      is = record { depth = sym h.written.depth; reason = end.is; state = parts_pattern now.sort x.state };
      right = record {
        within_bound = h.run.within;
        runs = end.runs;
        reached = λ n e. reaches_as_pattern t request s n here.first_pattern (h.run.run.reached n e);
        computed = h.computed;
        reason = end.right;
      };
    }
