-- From a ground state and the end of its run to the reply that tells it.
use Rattle.std.proofs.Common.{◌≡◌, ℕ, Option, Some, None, Result, Ok, Err, Vec, refl, sym, subst}
use Rattle.std.specs.Option.{option_map, IfSome}
use Rattle.std.specs.Result.{IfOk}
use Rattle.std.specs.declared.alloc.Global.{Global}
use Rattle.serde_json.specs.Data.{Data}
use Rattle.kp_kore.specs.Syntax.{KoreSort, KorePattern}
use Rattle.kp_kore.specs.Signature.{KoreSignature}
use Rattle.kp_kore.specs.View.{sort_view}
use Rattle.kp_kore.specs.Value.{HasSort}
use Rattle.kp_ground.specs.View.{value_view}
use Rattle.kp_signature.specs.Verify.{VerifiesAs}
use Rattle.kp_compile.specs.Spelled.{first_foreign, IsGroundState, IsOtherShape, IsSpellingOf, spelling}
use Rattle.kp_compile.specs.declared.state.GroundState.{GroundState}
use Rattle.kp_run.specs.Causes.{IsStateIn, StopsUntold}
use Rattle.kp_run.specs.Runs.{written_of}
use Rattle.kp_run.specs.declared.run.GroundRun.{GroundRun}
use Rattle.kp_rpc.specs.Request.{RequestId, ExecuteOptions, bound_of}
use Rattle.kp_rpc.specs.Reply.{result_reply, reply_bytes}
use Rattle.kp_replies.specs.Written.{executed_tree}
use Rattle.kp_replies.specs.RightReplies.{asked_options}
use Rattle.kp_methods.proofs.Ended.{both_empty, ended, has_tree_of, reason_meant, same_value, tells_first}
use Rattle.kp_methods.proofs.Runs.{run_is_right}
use Rattle.kp_methods.specs.Ends.{result_of}
use Rattle.kp_methods.specs.Normal.{IsLater}
use Rattle.kp_methods.specs.ServedTheory.{IsElsewhere, ServedTheory}
use Rattle.kp_methods.specs.Untold.{IsUntold, elsewhere, stops_at_rules, no_state, no_run}
use Rattle.kp_methods.specs.Simplified.{IsReplyLine}
use Rattle.kp_methods.specs.Executed.{IsExecuted}
use Rattle.kp_methods.specs.ExecutedByValues.{IsEndOf, IsStateOf}

-- ---- states

-- what was read over an equal signature
pub state_over : (g h : KoreSignature) → g ≡ h → (p : KorePattern) (sort : KoreSort) (found : GroundState) → VerifiesAs h p sort → first_foreign g p ≡ None → ¬ IsOtherShape g p → sort_view found.sort ≡ sort →
    (VerifiesAs g p sort → IsGroundState g p (sort_view found.sort) (value_view found.value)) → IsStateOf h p found
state_over g h same p sort found v none shape is ground =
    subst (λ k. IsStateOf k p found) same (record {
      sort = sort;
      verifies = subst (λ k. VerifiesAs k p sort) (sym same) v;
      is_state = record { no_foreign = none; shape = shape; sort_is = is; ground = ground };
    })

-- the state's value has the sort that it is written at
pub sorted_start : (g : KoreSignature) (p : KorePattern) (found : GroundState) → IsStateOf g p found → HasSort g (sort_view found.sort) (value_view found.value)
sorted_start g p found h = (h.is_state.ground h.verifies).sorted

-- ---- ends

later_at : (s : ServedTheory) (options : ExecuteOptions) (p : KorePattern) (end : GroundRun) (h : IsEndOf s.theory options p end) → IsLater s.theory p h.is_start.sort end.depth (written_of end.state)
later_at s options p end h =
    let st = h.is_start in
    let ground = st.is_state.ground st.verifies in
    record {
      start = value_view h.start.value;
      means = ground.meant;
      reached = subst (λ k. IsStateIn s.theory end.depth (record { value = value_view h.start.value; sort = k }) (written_of end.state)) st.is_state.sort_is h.ends;
    }

is_told : (s : ServedTheory) (options : ExecuteOptions) (p : KorePattern) (end : GroundRun) → ¬ IsElsewhere s.main options.module_name → (h : IsEndOf s.theory options p end) → ¬ IsUntold s options p h.is_start.sort
is_told s options p end here h (elsewhere e) = here e
is_told s options p end here h (stops_at_rules e) = e (both_empty options.cut_points options.terminals h.plain.cut_points h.plain.terminals)
is_told s options p end here h (no_state e) = h.is_start.is_state.shape e
is_told s options p end here h (no_run c means stops) =
    let st = h.is_start in
    let ground = st.is_state.ground st.verifies in
    let at_value = subst (λ u. StopsUntold s.theory (record { value = u; sort = st.sort }) (bound_of options)) (same_value s.theory.signature p c (value_view h.start.value) means ground.meant) stops in
    h.told (subst (λ k. StopsUntold s.theory (record { value = value_view h.start.value; sort = k }) (bound_of options)) (sym st.is_state.sort_is) at_value)

answered : (s : ServedTheory) (id : RequestId) (options : ExecuteOptions) (q : KorePattern) (end : GroundRun) → ¬ IsElsewhere s.main options.module_name → (h : IsEndOf s.theory options q end) → (p : KorePattern) →
    IsSpellingOf s.theory.signature (value_view end.state.value) p → p ≡ spelling s.theory.signature (sort_view end.state.sort) (value_view end.state.value) →
    (tree : Data) → executed_tree (result_of end p) ≡ Some tree → IsExecuted s (record { id = id; state = q; options = options }) (result_reply id tree)
answered s id options q end here h p sp normal tree w =
    let st = h.is_start in
    let ground = st.is_state.ground st.verifies in
    record {
      is_told = record { sort = st.sort; verifies = st.verifies; no_foreign = st.is_state.no_foreign; told = is_told s options q end here h };
      right = record {
        result = result_of end p;
        tree = tree;
        written = w;
        reply_is = refl;
        meant = ended end p;
        means = record { depth = refl; reason = reason_meant end.stop; state = refl };
        right = run_is_right s.theory (asked_options options) q p (value_view h.start.value) end h.run
            (both_empty options.cut_points options.terminals h.plain.cut_points h.plain.terminals) ground.term ground.closed ground.meant sp;
      };
      normal = record { later = written_of end.state; is_later = later_at s options q end h; spelled = normal };
      first = tells_first s.theory (value_view h.start.value) (bound_of options) end h.run;
      bare = record { predicate = refl; nexts = refl };
    }

-- ---- lines

-- the line with the end of a run, where there is one
pub end_line_is_right : {E : Type 0} (r : Result (Option (Vec ℕ Global)) E) (s : ServedTheory) (id : RequestId) (options : ExecuteOptions) (q : KorePattern) (end : GroundRun) → ¬ IsElsewhere s.main options.module_name → IsEndOf s.theory options q end →
    (p : KorePattern) → IsSpellingOf s.theory.signature (value_view end.state.value) p → p ≡ spelling s.theory.signature (sort_view end.state.sort) (value_view end.state.value) →
    IfOk r (λ line. option_map (λ (b : Vec ℕ Global). b.items) line ≡ option_map (λ (t : Data). reply_bytes (result_reply id t)) (executed_tree (result_of end p))) →
    IfOk r (λ found. IfSome found (λ line. IsReplyLine (IsExecuted s (record { id = id; state = q; options = options })) line.items))
end_line_is_right (Err e) s id options q end here h p sp normal l = tt
end_line_is_right (Ok None) s id options q end here h p sp normal l = tt
end_line_is_right (Ok (Some line)) s id options q end here h p sp normal l =
    let t = has_tree_of (Some line) line id (executed_tree (result_of end p)) refl l in
    (result_reply id t.0, answered s id options q end here h p sp normal t.0 t.1, t.2)
