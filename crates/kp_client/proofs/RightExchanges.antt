-- What right replies say of a node's state.
use Rattle.std.proofs.Common.{◌≡◌, refl, sym, subst, ℕ, ◌^◌, ◌<◌, ◌≤◌, true, Option, Some, None, List, [], ◌∷◌}
use Rattle.kp_kore.specs.Syntax.{KorePattern, sort_variable, conjunction, next_pattern, no_patterns}
use Rattle.kp_kore.specs.Parts.{SortedName, free_variables}
use Rattle.kp_kore.specs.Instance.{Valuation, GivesSorts, AgreesOn}
use Rattle.kp_kore.specs.Theory.{Theory}
use Rattle.kp_kore.specs.Claims.{ReachabilityClaim}
use Rattle.kp_kore.specs.Arcs.{EdgeSays, CoverSays, StuckSays}
use Rattle.kp_kore.specs.Implied.{Implied, DoesImply, HasCounterexample, IsRightImplied, not_valid, valid}
use Rattle.kp_kore.specs.Onward.{Leads, Passes}
use Rattle.kp_kore.specs.Executions as theory
use Rattle.kp_kore.specs.Executions.{Options, Executed, RunsTo, IsRightExecuted}
use Rattle.kp_kore.proofs.AfterLemmas.{after_of_both}
use Rattle.kp_kore.proofs.Ended.{stuck_reply}
use Rattle.serde_json.specs.Data.{unsigned, negative, float}
use Rattle.kp_rpc.specs.Request.{RequestId, id_text, id_number, id_null, ExecuteRequest, ImpliesRequest}
use Rattle.kp_rpc.specs.Request.{IsReadId}
use Rattle.kp_results.specs.Results.{NextParts, Ending, vacuous, depth_bound, stuck, branching, cut_point, terminal, aborted, ExecutedParts, IsPatternOf, IsReasonOf, IsResultOf}
use Rattle.kp_replies.specs.Read.{execute, implies, executed, implied}
use Rattle.kp_replies.specs.Replies.{StandWith}
use Rattle.kp_replies.specs.RightReplies.{asked_options, IsMainAsked}
use Rattle.kp_replies.proofs.Methods.{told_nexts}
use Rattle.kp_client.specs.Links.{Exchange, ToldTheory, IsRightExchange, IsRightRun, AsksForRun, AsksForImplication}
use Rattle.kp_client.specs.Rounds.{IsGivenId, is_followed, cover_question, step_question, Tells}
use Rattle.kp_rpc.proofs.QuestionsRead.{execute_read, implies_read}

-- the id of a question is one that is read
given_read : (i : RequestId) → IsGivenId i → IsReadId i
given_read (id_text t) h = absurd h
given_read (id_number (unsigned n)) h = h
given_read (id_number (negative z)) h = absurd h
given_read (id_number (float x)) h = absurd h
given_read id_null h = absurd h

-- ---- covers

agrees_with_itself : (xs : List SortedName) (v : Valuation) → AgreesOn xs v v
agrees_with_itself [] v = tt
agrees_with_itself (x ∷ xs) v = (refl, agrees_with_itself xs v)

no_sorts_asked : (t : Theory) (v : Valuation) (xs : List SortedName) → xs ≡ [] → GivesSorts t.signature v xs
no_sorts_asked t v [] e = tt
no_sorts_asked t v (x ∷ xs) e = absurd (cc)

cover_from_implied : (t : Theory) (claim : ReachabilityClaim) (s : KorePattern) → free_variables claim.right ≡ [] → DoesImply t.signature s claim.right → CoverSays t claim s
cover_from_implied t claim s closed does v c left sorts met = record {
  chosen = v;
  agrees = agrees_with_itself (free_variables claim.left) v;
  sorts = no_sorts_asked t v (free_variables claim.right) closed;
  met = does v c (sorts, (no_sorts_asked t v (free_variables claim.right) closed, tt)) met;
}

-- what the server took for its request is the question
implied_is_right : (t : ToldTheory) (claim : ReachabilityClaim) (s : KorePattern) (e : Exchange) (x : Implied) → IsRightExchange t e → Tells (cover_question claim s) implies e (implied x) → IsRightImplied t.theory.signature s claim.right x
implied_is_right t claim s e x right tells =
    let q : ImpliesRequest = record { id = tells.number; antecedent = s; consequent = claim.right; module_name = None } in
    let a : AsksForImplication t e.frame x = right.implies_so x tells.told in
    let same : a.request ≡ q = implies_read q a.request tells.asked.0 a.members e.frame (given_read tells.number tells.lawful) tells.asked.1 tells.asked.2 a.is_frame a.is_request in
    subst (λ (r : ImpliesRequest). IsMainAsked t.main r.module_name → IsRightImplied t.theory.signature r.antecedent r.consequent x) same a.right tt

pub cover_is_right : (t : ToldTheory) (claim : ReachabilityClaim) (s : KorePattern) (e : Exchange) (p q : KorePattern) → free_variables claim.right ≡ [] → IsRightExchange t e → Tells (cover_question claim s) implies e (implied (valid p q)) → CoverSays t.theory claim s
cover_is_right t claim s e p q closed right tells =
    let h : IsRightImplied t.theory.signature s claim.right (valid p q) = implied_is_right t claim s e (valid p q) right tells in
    cover_from_implied t.theory claim s closed h.0

pub uncovered_is_right : (t : ToldTheory) (claim : ReachabilityClaim) (s : KorePattern) (e : Exchange) → IsRightExchange t e → Tells (cover_question claim s) implies e (implied not_valid) → HasCounterexample t.theory.signature s claim.right
uncovered_is_right t claim s e right tells = implied_is_right t claim s e not_valid right tells

-- ---- steps

-- what the question asks for
abbrev asked : ℕ → KorePattern → RequestId → ExecuteRequest
asked depth s i = record { id = i; state = s; options = record { max_depth = Some depth; module_name = None; cut_points = []; terminals = [] } }

run_is_right : (t : ToldTheory) (depth : ℕ) (s : KorePattern) (e : Exchange) (x : ExecutedParts) (meant : Executed) → depth < 2 ^ 64 → IsRightExchange t e → (tells : Tells (step_question depth s) execute e (executed x)) → IsResultOf x meant →
    IsRightExecuted t.theory (asked_options (asked depth s tells.number).options) s meant
run_is_right t depth s e x meant fits right tells means =
    let q : ExecuteRequest = asked depth s tells.number in
    let a : AsksForRun t e.frame x = right.executes x tells.told in
    let same : a.request ≡ q = execute_read q a.request tells.asked.0 a.members e.frame (given_read tells.number tells.lawful, fits) tells.asked.1 tells.asked.2 a.is_frame a.is_request in
    let run : IsRightRun t.theory q x = subst (λ (r : ExecuteRequest). IsMainAsked t.main r.options.module_name → IsRightRun t.theory r x) same a.right tt in
    run meant means

-- a reason that the prover goes by, and how the run came to its end
record Meant (e : Ending) (nexts : List NextParts) : Type 0 where
  reason : theory.Reason
  is : IsReasonOf e nexts reason
  runs : (t : Theory) (o : Options) (s s' : KorePattern) (d : ℕ) → RunsTo t o s s' d reason → Leads t s s' d × Passes t (theory.listed_in o) s d

meant_of : (e : Ending) (nexts : List NextParts) → is_followed e ≡ true → StandWith e nexts → Meant e nexts
meant_of vacuous nexts f none = absurd (cc f)
meant_of depth_bound nexts f none = record { reason = theory.depth_bound; is = (none, refl); runs = λ t o s s' d r. r }
meant_of stuck nexts f none = record { reason = theory.stuck; is = (none, refl); runs = λ t o s s' d r. r }
meant_of branching nexts f none = absurd (cc f)
meant_of (cut_point id) nexts f none = absurd (cc f)
meant_of (terminal id) nexts f none = absurd (cc f)
meant_of (aborted cause) nexts f none = record { reason = theory.aborted cause; is = (none, refl); runs = λ t o s s' d r. r }

pub edge_is_right : (t : ToldTheory) (depth : ℕ) (s beyond : KorePattern) (e : Exchange) (x : ExecutedParts) → depth < 2 ^ 64 → IsRightExchange t e → Tells (step_question depth s) execute e (executed x) → is_followed x.ending ≡ true → 1 ≤ x.depth → IsPatternOf x.state beyond → EdgeSays t.theory [] s beyond x.depth
edge_is_right t depth s beyond e x fits right tells follow some is =
    let m : Meant x.ending x.nexts = meant_of x.ending x.nexts follow (told_nexts e.reply x tells.told) in
    let o : Options = asked_options (asked depth s tells.number).options in
    let run : IsRightExecuted t.theory o s (record { depth = x.depth; reason = m.reason; state = beyond }) =
    run_is_right t depth s e x (record { depth = x.depth; reason = m.reason; state = beyond }) fits right tells (record { depth = refl; reason = m.is; state = is }) in
    let both = m.runs t.theory o s beyond x.depth run.runs in
    record { progress = some; after = after_of_both t.theory [] s beyond x.depth both.0 both.1 }

-- a state has a pattern
some_pattern : (term : KorePattern) (predicate : Option KorePattern) → (p : KorePattern) × IsPatternOf (record { term = term; predicate = predicate }) p
some_pattern term None = (term, refl)
some_pattern term (Some q) = (conjunction (sort_variable []) (next_pattern term (next_pattern q no_patterns)), (sort_variable [], refl))

stuck_from : (t : Theory) (o : Options) (s beyond : KorePattern) (d : ℕ) → d ≡ 0 → IsRightExecuted t o s (record { depth = d; reason = theory.stuck; state = beyond }) → StuckSays t s
stuck_from t o s beyond d none right =
    let at : IsRightExecuted t o s (record { depth = 0; reason = theory.stuck; state = beyond }) = subst (λ (n : ℕ). IsRightExecuted t o s (record { depth = n; reason = theory.stuck; state = beyond })) none right in
    stuck_reply t s beyond at.runs.0 at.reason.1.final

stuck_reason : (e : Ending) (nexts : List NextParts) → e ≡ stuck → StandWith e nexts → IsReasonOf e nexts theory.stuck
stuck_reason e nexts is stands = subst (λ (k : Ending). StandWith k nexts → IsReasonOf k nexts theory.stuck) (sym is) (λ none. (none, refl)) stands

pub stuck_is_right : (t : ToldTheory) (depth : ℕ) (s : KorePattern) (e : Exchange) (x : ExecutedParts) → depth < 2 ^ 64 → IsRightExchange t e → Tells (step_question depth s) execute e (executed x) → x.depth ≡ 0 → x.ending ≡ stuck → StuckSays t.theory s
stuck_is_right t depth s e x fits right tells none is =
    let p = some_pattern x.state.term x.state.predicate in
    let means : IsResultOf x (record { depth = x.depth; reason = theory.stuck; state = p.0 }) = record { depth = refl; reason = stuck_reason x.ending x.nexts is (told_nexts e.reply x tells.told); state = p.1 } in
    stuck_from t.theory (asked_options (asked depth s tells.number).options) s p.0 x.depth none (run_is_right t depth s e x (record { depth = x.depth; reason = theory.stuck; state = p.0 }) fits right tells means)
