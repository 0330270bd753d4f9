-- A run goes on by one rule alone, or ends.
use Rattle.std.proofs.Common.{◌≡◌, sym, ◌∙◌, subst, ℕ, suc, ◌<◌, arith, Bool, true, false, ◌||◌, List}
use Rattle.std.specs.Str.{bytes_eq}
use Rattle.std.proofs.lemmas.List.Folds.{list_any-append}
use Rattle.kp_kore.specs.Syntax.{Text}
use Rattle.kp_kore.specs.Signature.{KoreSignature}
use Rattle.kp_kore.specs.Rules.{RewriteRule}
use Rattle.kp_kore.specs.Theory.{Theory}
use Rattle.kp_kore.specs.Executions.{Options, listed_in, is_among}
use Rattle.kp_kore.specs.Replies.{is_listed}
use Rattle.kp_symbolic.specs.States.{SymbolicState}
use Rattle.kp_symbolic.specs.View.{state_view, clauses_view}
use Rattle.kp_case_laws.specs.Runs.{HasRunTo}
use Rattle.kp_case_laws.proofs.RunLaws.{begins, passes_none, goes_on, passes_on, ends_by}
use Rattle.kp_satisfiability.specs.Read.{HasSortedClauses}
use Rattle.kp_step.specs.Ready.{IsReadyState}
use Rattle.kp_step.specs.Answers.{IsRightUndecided, IsRightAnswerAlone}
use Rattle.kp_step.specs.declared.part_answers.PartAnswer.{PartAnswer}
use Rattle.kp_step.specs.declared.part_answers.PartAnswer.TheVariants as answer
use Rattle.kp_step.specs.declared.part_answers.UndecidedClauses.{UndecidedClauses}
use Rattle.kp_step.proofs.SortedLemmas.{sorted_clauses}
use Rattle.kp_execute.specs.Endings.{IsUndecided, IsEndAtBound, IsEndOfStep, IsRightEnding, IsUnderWay, IsRightRun}
use Rattle.kp_execute.specs.Onward.{IsTakenBy, StopsBehind, GoesOn}
use Rattle.kp_execute.specs.declared.ending.Ending.{Ending}
use Rattle.kp_execute.specs.declared.ending.Ending.TheVariants.{Vacuous, DepthBound, Stuck, Branching, CutPoint, Terminal, Aborted}
use Rattle.kp_execute.specs.declared.ending.Run.{Run}

-- ---- at the bound

-- what is left open of the state isn't decided
pub open_undecided : (g : KoreSignature) (s : SymbolicState) (a : PartAnswer) (o : UndecidedClauses) → a ≡ answer.UndecidedClauses o → IsRightAnswerAlone g s a → IsUndecided g s
open_undecided g s a o e right = by (subst (IsRightAnswerAlone g s) e right)
  where
    by : IsRightUndecided g s o → IsUndecided g s
    by r = record { shown = clauses_view o.shown.items; over = r.0; right = r.2 }

-- ---- on its way

either_false : (a b : Bool) → a ≡ false → b ≡ false → a || b ≡ false
either_false false b e f = f
either_false true b e f = absurd (cc)

unlisted : (o : Options) (r : RewriteRule) → is_among o.cut_points r.id ≡ false → is_among o.terminals r.id ≡ false → is_listed (listed_in o) r ≡ false
unlisted o r e f = list_any-append (bytes_eq r.id) o.cut_points o.terminals ∙ either_false (is_among o.cut_points r.id) (is_among o.terminals r.id) e f

pub run_begins : (t : Theory) (o : Options) (used : List Text) (s : SymbolicState) (next : ℕ) → IsReadyState t.signature used s next → IsUnderWay t o used s s next 0
run_begins t o used s next ready = record { run = begins t used s; passes = passes_none t (listed_in o) s; ready = ready }

run_to : (t : Theory) (o : Options) (used : List Text) (s now later : SymbolicState) (next after d : ℕ) (r : RewriteRule) → IsUnderWay t o used s now next d → IsTakenBy t o used now r later after → HasRunTo t used s later (suc d)
run_to t o used s now later next after d r u k = subst (λ x. HasRunTo t used s x (suc d)) k.is (goes_on t used s now d r k.case u.run k.alone)

pub run_goes_on : (t : Theory) (o : Options) (used : List Text) (s now later : SymbolicState) (next after d : ℕ) → IsUnderWay t o used s now next d → GoesOn t o used now later after → IsUnderWay t o used s later after (suc d)
run_goes_on t o used s now later next after d u h = record {
  run = run_to t o used s now later next after d h.rule u h.taken;
  passes = passes_on t used (listed_in o) s now d h.rule h.taken.case u.run u.passes h.taken.alone (unlisted o h.rule h.taken.no_cut_point h.no_terminal);
  ready = h.taken.ready;
}

-- ---- at its end

right_ending : (t : Theory) (o : Options) (used : List Text) (s now : SymbolicState) (next d : ℕ) (e : Ending) → IsUnderWay t o used s now next d → d < o.bound → IsEndOfStep t o used now e → IsRightEnding t o used s d now e
right_ending t o used s now next d Vacuous u less h = (u.passes, h)
right_ending t o used s now next d DepthBound u less h = absurd h
right_ending t o used s now next d (Stuck x) u less h = (u.passes, less, h)
right_ending t o used s now next d (Branching x y) u less h = (u.passes, less, h)
right_ending t o used s now next d (CutPoint x) u less h = (u.passes, less, h)
right_ending t o used s now next d (Terminal x) u less h = absurd h
right_ending t o used s now next d (Aborted x) u less h = (u.passes, less, h)

-- by what a step tells
pub run_ends : (t : Theory) (o : Options) (used : List Text) (s : SymbolicState) (r : Run) → IsUnderWay t o used s (state_view r.state) r.next r.depth → r.depth < o.bound → IsEndOfStep t o used (state_view r.state) r.ending → IsRightRun t o used s r
run_ends t o used s r u less h = record { within = omega (arith, less); run = u.run; ready = u.ready; ending = right_ending t o used s (state_view r.state) r.next r.depth r.ending u less h }

bound_ending : (t : Theory) (o : Options) (used : List Text) (s now : SymbolicState) (next d : ℕ) (e : Ending) → IsUnderWay t o used s now next d → d ≡ o.bound → IsEndAtBound t.signature now e → IsRightEnding t o used s d now e
bound_ending t o used s now next d Vacuous u same h = (u.passes, h)
bound_ending t o used s now next d DepthBound u same h = (u.passes, same, h)
bound_ending t o used s now next d (Stuck x) u same h = absurd h
bound_ending t o used s now next d (Branching x y) u same h = absurd h
bound_ending t o used s now next d (CutPoint x) u same h = absurd h
bound_ending t o used s now next d (Terminal x) u same h = absurd h
bound_ending t o used s now next d (Aborted x) u same h = absurd h

-- what is answered of the setting's signature is so of the theory's
pub bound_told : (t : Theory) (used : List Text) (now : SymbolicState) (next : ℕ) (g : KoreSignature) (e : Ending) → g ≡ t.signature → IsReadyState t.signature used now next → (HasSortedClauses g now → IsEndAtBound g now e) → IsEndAtBound t.signature now e
bound_told t used now next g e same ready h = subst (λ x. IsEndAtBound x now e) same (h (subst (λ x. HasSortedClauses x now) (sym same) (sorted_clauses t.signature now ready.sorted.state)))

-- at its bound
pub run_is_long : (t : Theory) (o : Options) (used : List Text) (s : SymbolicState) (r : Run) → IsUnderWay t o used s (state_view r.state) r.next r.depth → r.depth ≡ o.bound → IsEndAtBound t.signature (state_view r.state) r.ending → IsRightRun t o used s r
run_is_long t o used s r u same h = record { within = omega (arith, same); run = u.run; ready = u.ready; ending = bound_ending t o used s (state_view r.state) r.next r.depth r.ending u same h }

-- behind a rule
pub run_stops : (t : Theory) (o : Options) (used : List Text) (s now : SymbolicState) (next d place : ℕ) (r : Run) → IsUnderWay t o used s now next d → d < o.bound → StopsBehind t o used now place (state_view r.state) r.next → r.depth ≡ suc d → r.ending ≡ Terminal place → IsRightRun t o used s r
run_stops t o used s now next d place r u less h one is = record {
  within = omega (arith, less, one);
  run = subst (λ n. HasRunTo t used s (state_view r.state) n) (sym one) (run_to t o used s now (state_view r.state) next r.next d h.rule u h.taken);
  ready = h.taken.ready;
  ending = subst (IsRightEnding t o used s r.depth (state_view r.state)) (sym is) (record {
    before = d;
    one_less = one;
    rule = h.rule;
    at = h.at;
    ends = ends_by t used (listed_in o) s now d h.rule h.taken.case u.run u.passes h.taken.alone;
    is_terminal = h.is_terminal;
    no_cut_point = h.taken.no_cut_point;
  });
}
