-- What a right run makes of the tree says so.
use Rattle.std.proofs.Common.{◌≡◌, refl, sym, ap, subst, ℕ, ◌≤◌, true, List, [], ◌∷◌, map, length, Option, Some, None}
use Rattle.std.specs.Prelude.{◌≢◌}
use Rattle.std.specs.List.{AllByRecursion, AllZip, list_any}
use Rattle.std.specs.Str.{bytes_eq}
use Rattle.kp_kore.specs.Syntax.{Text, KoreSort, KorePattern, sort_variable, conjunction, next_pattern, no_patterns}
use Rattle.kp_kore.specs.Instance.{conjoined_terms}
use Rattle.kp_kore.specs.Rules.{RewriteRule}
use Rattle.kp_kore.specs.Theory.{Theory}
use Rattle.kp_kore.specs.Claims.{ReachabilityClaim}
use Rattle.kp_kore.specs.Replies.{is_listed}
use Rattle.kp_kore.specs.Cases.{NextState}
use Rattle.kp_kore.specs.Children.{split_child, branch_child}
use Rattle.kp_kore.specs.ClaimRules.{with_rules, MayUse}
use Rattle.kp_kore.specs.Arcs.{EdgeSays, SplitSays, BranchChild, BranchSays, VacuousSays, StuckSays}
use Rattle.kp_kore.specs.Executions as theory
use Rattle.kp_kore.specs.Executions.{Options, RunsTo, EndsBy, IsRightExecuted, listed_in}
use Rattle.kp_kore.specs.Onward.{Leads, Passes}
use Rattle.kp_kore.proofs.Ended.{steps_edge, terminal_edge, vacuous_reply, stuck_reply, stuck_in_main}
use Rattle.kp_kore.proofs.Splitting.{next_states_split}
use Rattle.kp_kore.proofs.Branching.{next_states_branch}
use Rattle.kp_graph.specs.Tree as graph
use Rattle.kp_graph.specs.Tree.{ProofNode, node_at, arc_fault, with_edge, with_split, with_branch}
use Rattle.kp_graph.specs.Says.{TreeSays}
use Rattle.kp_graph.proofs.SaidLemmas.{edge_says, split_says, branch_says, vacuous_says, stuck_says, hold_says}
use Rattle.kp_rpc.specs.Request.{ExecuteRequest}
use Rattle.kp_results.specs.Results as parts
use Rattle.kp_results.specs.Results.{NextParts, Ending, ExecutedParts, IsPatternOf, IsNextOf, IsReasonOf}
use Rattle.kp_replies.specs.Replies.{StandWith}
use Rattle.kp_replies.specs.RightReplies.{asked_options}
use Rattle.kp_links.specs.Links.{Exchange}
use Rattle.kp_links.specs.RightExchanges.{IsRightRun}
use Rattle.kp_rounds.specs.StatedSorts.{sort_beside}
use Rattle.kp_rounds.specs.Rounds as rounds
use Rattle.kp_rounds.specs.Rounds.{RoundEnd, Leading, IsChildOf, parts_of, has_one_term, is_terminal}
use Rattle.kp_round_laws.specs.RightRounds.{end_tree}
use Rattle.kp_round_laws.proofs.AskedRules.{any_left}

-- ---- meanings of what is read

some_pattern : (term : KorePattern) (predicate : Option KorePattern) → (p : KorePattern) × IsPatternOf (record { term = term; predicate = predicate }) p
some_pattern term None = (term, refl)
some_pattern term (Some q) = (conjunction (sort_variable []) (next_pattern term (next_pattern q no_patterns)), (sort_variable [], refl))

next_state : NextParts → NextState
next_state x = record { rule = x.rule; predicate = x.predicate; state = (some_pattern x.state.term x.state.predicate).0 }

some_nexts : (xs : List NextParts) → AllZip IsNextOf xs (map next_state xs)
unfolding next_state
some_nexts [] = tt
some_nexts (x ∷ xs) = (record { rule = refl; predicate = refl; state = (some_pattern x.state.term x.state.predicate).1 }, some_nexts xs)

-- ---- edges

pub cuts_are_listed : (o : Options) (id : Text) → list_any (bytes_eq id) o.cut_points ≡ true → list_any (bytes_eq id) (listed_in o) ≡ true
cuts_are_listed o id e = any_left (bytes_eq id) o.cut_points o.terminals e

passed_edge : (m : Theory) (o : Options) (s s' : KorePattern) (d : ℕ) → 1 ≤ d → Leads m s s' d × Passes m (listed_in o) s d → EdgeSays m o.cut_points s s' d
passed_edge m o s s' d some h = steps_edge m (listed_in o) o.cut_points s s' d some h.0 h.1 (cuts_are_listed o)

ended_edge : (m : Theory) (o : Options) (s s' : KorePattern) (d : ℕ) (id : Text) → EndsBy m o s s' d id → EdgeSays m o.cut_points s s' d
ended_edge m o s s' d id h =
    subst (EdgeSays m o.cut_points s s') (sym h.one_less)
    (terminal_edge m (listed_in o) o.cut_points s s' h.before id (subst (Leads m s s') h.one_less h.leads) h.passes h.turn (cuts_are_listed o) h.no_cut_point)

-- a reason for an ending, and the edge that it makes
record Meant (e : Ending) (nexts : List NextParts) : Type 0 where
  reason : theory.Reason
  is : IsReasonOf e nexts reason
  edge : (m : Theory) (o : Options) (s s' : KorePattern) (d : ℕ) → 1 ≤ d → RunsTo m o s s' d reason → EdgeSays m o.cut_points s s' d

meant_of : (e : Ending) (nexts : List NextParts) → StandWith e nexts → Meant e nexts
meant_of parts.vacuous nexts none = record { reason = theory.vacuous; is = (none, refl); edge = λ m o s s' d some r. passed_edge m o s s' d some r }
meant_of parts.depth_bound nexts none = record { reason = theory.depth_bound; is = (none, refl); edge = λ m o s s' d some r. passed_edge m o s s' d some r }
meant_of parts.stuck nexts none = record { reason = theory.stuck; is = (none, refl); edge = λ m o s s' d some r. passed_edge m o s s' d some r }
meant_of parts.branching nexts any = record { reason = theory.branching (map next_state nexts); is = (map next_state nexts, some_nexts nexts, refl); edge = λ m o s s' d some r. passed_edge m o s s' d some r }
meant_of (parts.cut_point id) nexts one =
    record { reason = theory.cut_point id (next_state one.0); is = (next_state one.0, subst (λ ns. AllZip IsNextOf ns (next_state one.0 ∷ [])) (sym one.1) (some_nexts (one.0 ∷ [])), refl); edge = λ m o s s' d some r. passed_edge m o s s' d some r }
meant_of (parts.terminal id) nexts none = record { reason = theory.terminal id; is = (none, refl); edge = λ m o s s' d some r. ended_edge m o s s' d id r }
meant_of (parts.aborted cause) nexts none = record { reason = theory.aborted cause; is = (none, refl); edge = λ m o s s' d some r. passed_edge m o s s' d some r }

pub run_edge : (m : Theory) (q : ExecuteRequest) (x : ExecutedParts) (next : KorePattern) → IsRightRun m q x → StandWith x.ending x.nexts → 1 ≤ x.depth → IsPatternOf x.state next →
    EdgeSays m (asked_options q.options).cut_points q.state next x.depth
run_edge m q x then right stands some is =
    let k : Meant x.ending x.nexts = meant_of x.ending x.nexts stands in
    let run : IsRightExecuted m (asked_options q.options) q.state (record { depth = x.depth; reason = k.reason; state = then }) = right (record { depth = x.depth; reason = k.reason; state = then }) (record { depth = refl; reason = k.is; state = is }) in
    k.edge m (asked_options q.options) q.state then x.depth some run.runs

-- ---- runs of no step

-- a run of no step is right for a reason that the ending has
at_once : (m : Theory) (q : ExecuteRequest) (x : ExecutedParts) (reason : theory.Reason) → IsRightRun m q x → IsReasonOf x.ending x.nexts reason → x.depth ≡ 0 →
    (s : KorePattern) × IsRightExecuted m (asked_options q.options) q.state (record { depth = 0; reason = reason; state = s })
at_once m q x reason right is none =
    let p = some_pattern x.state.term x.state.predicate in
    let run : IsRightExecuted m (asked_options q.options) q.state (record { depth = x.depth; reason = reason; state = p.0 }) = right (record { depth = x.depth; reason = reason; state = p.0 }) (record { depth = refl; reason = is; state = p.1 }) in
    (p.0, subst (λ (d : ℕ). IsRightExecuted m (asked_options q.options) q.state (record { depth = d; reason = reason; state = p.0 })) none run)

no_nexts : (e : Ending) (nexts : List NextParts) (k : Ending) (reason : theory.Reason) → e ≡ k → (StandWith k nexts → IsReasonOf k nexts reason) → StandWith e nexts → IsReasonOf e nexts reason
no_nexts e nexts k reason is from stands = subst (λ (j : Ending). IsReasonOf j nexts reason) (sym is) (from (subst (λ (j : Ending). StandWith j nexts) is stands))

pub run_stuck : (m : Theory) (q : ExecuteRequest) (x : ExecutedParts) → IsRightRun m q x → StandWith x.ending x.nexts → x.depth ≡ 0 → x.ending ≡ parts.stuck → StuckSays m q.state
run_stuck m q x right stands none is =
    let run = at_once m q x theory.stuck right (no_nexts x.ending x.nexts parts.stuck theory.stuck is (λ e. (e, refl)) stands) none in
    stuck_reply m q.state run.0 run.1.runs.0 run.1.reason.1.final

pub run_vacuous : (m : Theory) (claim : ReachabilityClaim) (q : ExecuteRequest) (x : ExecutedParts) → IsRightRun m q x → StandWith x.ending x.nexts → x.depth ≡ 0 → x.ending ≡ parts.vacuous → VacuousSays m claim q.state
run_vacuous m claim q x right stands none is =
    let run = at_once m q x theory.vacuous right (no_nexts x.ending x.nexts parts.vacuous theory.vacuous is (λ e. (e, refl)) stands) none in
    vacuous_reply m claim q.state run.0 run.1.runs.0 run.1.reason

-- the next states of a branching, or of a cut point, as the children say
record Branched (nexts : List NextParts) (children : List BranchChild) : Type 0 where
  states : List NextState
  are : AllZip IsNextOf nexts states
  same : map branch_child states ≡ children

branched : (nexts : List NextParts) (children : List BranchChild) → AllZip IsChildOf nexts children → Branched nexts children
branched [] [] z = record { states = []; are = tt; same = refl }
branched [] (k ∷ ks) z = absurd z
branched (x ∷ xs) [] z = absurd z
branched (x ∷ xs) (k ∷ ks) z =
    let more : Branched xs ks = branched xs ks z.1 in
    let first : NextState = record { rule = k.rule; predicate = x.predicate; state = k.state } in
    record { states = first ∷ more.states; are = (record { rule = z.0.rule; predicate = refl; state = z.0.state }, more.are); same = ap (λ cs. k ∷ cs) more.same }

pub run_branch : (m : Theory) (q : ExecuteRequest) (x : ExecutedParts) (children : List BranchChild) → IsRightRun m q x → x.depth ≡ 0 → x.ending ≡ parts.branching → AllZip IsChildOf x.nexts children → BranchSays m q.state children
run_branch m q x children right none is z =
    let b : Branched x.nexts children = branched x.nexts children z in
    let run = at_once m q x (theory.branching b.states) right (subst (λ (e : Ending). IsReasonOf e x.nexts (theory.branching b.states)) (sym is) (b.states, b.are, refl)) none in
    subst (BranchSays m q.state) b.same (next_states_branch m q.state run.0 b.states run.1.runs.0 run.1.reason.1.known run.1.reason.1.next_states)

pub run_cut : (m : Theory) (q : ExecuteRequest) (x : ExecutedParts) (id : Text) (children : List BranchChild) → IsRightRun m q x → StandWith x.ending x.nexts → x.depth ≡ 0 → x.ending ≡ parts.cut_point id → AllZip IsChildOf x.nexts children → BranchSays m q.state children
run_cut m q x id children right stands none is z =
    let b : Branched x.nexts children = branched x.nexts children z in
    let one = subst (λ (e : Ending). StandWith e x.nexts) is stands in
    by_states b.states b.are b.same one
  where
    by_states : (states : List NextState) → AllZip IsNextOf x.nexts states → map branch_child states ≡ children → ((n : NextParts) × (x.nexts ≡ n ∷ [])) → BranchSays m q.state children
    by_states [] are same one = absurd (subst (λ ns. AllZip IsNextOf ns []) one.1 are)
    by_states (a ∷ c ∷ more) are same one = absurd (subst (λ ns. AllZip IsNextOf ns (a ∷ c ∷ more)) one.1 are).1
    by_states (a ∷ []) are same one =
        let run = at_once m q x (theory.cut_point id a) right (subst (λ (e : Ending). IsReasonOf e x.nexts (theory.cut_point id a)) (sym is) (a, are, refl)) none in
        subst (BranchSays m q.state) same (next_states_branch m q.state run.0 (a ∷ []) run.1.runs.0 (λ v c given met. (run.1.reason.1.turn v c given met).known) run.1.reason.1.next_states)

-- ---- splits

the_term : (s : KorePattern) (terms : List KorePattern) → conjoined_terms s ≡ terms → has_one_term terms ≡ true → (t : KorePattern) × (conjoined_terms s ≡ t ∷ [])
the_term s [] is one = absurd (cc one)
the_term s (t ∷ []) is one = (t, is)
the_term s (t ∷ u ∷ more) is one = absurd (cc one)

next_parts : (sort : KoreSort) (s : KorePattern) (xs : List NextParts) → map (λ n. split_child sort s n.predicate) (map next_state xs) ≡ map (λ y. split_child sort s y.predicate) xs
unfolding next_state
next_parts sort s [] = refl
next_parts sort s (x ∷ xs) = ap (λ more. split_child sort s x.predicate ∷ more) (next_parts sort s xs)

pub run_split : (m : Theory) (q : ExecuteRequest) (x : ExecutedParts) → IsRightRun m q x → x.depth ≡ 0 → x.ending ≡ parts.branching → x.nexts ≢ [] → has_one_term (conjoined_terms q.state) ≡ true → SplitSays m q.state (parts_of q.state x.nexts)
run_split m q x right none is some one =
    let term = the_term q.state (conjoined_terms q.state) refl one in
    let run = at_once m q x (theory.branching (map next_state x.nexts)) right (subst (λ (e : Ending). IsReasonOf e x.nexts (theory.branching (map next_state x.nexts))) (sym is) (map next_state x.nexts, some_nexts x.nexts, refl)) none in
    by_nexts x.nexts some (λ sort. subst (SplitSays m q.state) (next_parts sort q.state x.nexts) (next_states_split m sort q.state run.0 term.0 (map next_state x.nexts) term.1 run.1.runs.0 run.1.reason.1.next_states))
  where
    by_nexts : (xs : List NextParts) → xs ≢ [] → ((sort : KoreSort) → SplitSays m q.state (map (λ y. split_child sort q.state y.predicate) xs)) → SplitSays m q.state (parts_of q.state xs)
    by_nexts [] some says = absurd (some refl)
    by_nexts (y ∷ ys) some says = says (sort_beside y.predicate)

-- a split is said over the signature alone
pub split_of_main : (t : Theory) (rs : List RewriteRule) (s : KorePattern) (states : List KorePattern) → SplitSays (with_rules t rs) s states → SplitSays t s states
split_of_main t rs s states h = record { divides = h.divides; only = h.only; names = h.names }

pub vacuous_of_main : (t : Theory) (rs : List RewriteRule) (claim : ReachabilityClaim) (s : KorePattern) → VacuousSays (with_rules t rs) claim s → VacuousSays t claim s
vacuous_of_main t rs claim s h = h

-- ---- the tree

pub grown_says : (t : Theory) (dependencies circularities : List ReachabilityClaim) (claim : ReachabilityClaim) (tree : List ProofNode) (n count : ℕ) (grown : List ProofNode) (end : RoundEnd) →
    TreeSays t dependencies circularities claim tree → arc_fault tree n ≡ None → TreeSays t dependencies circularities claim grown → rounds.AddsNodes tree n count grown end → TreeSays t dependencies circularities claim (end_tree end)
grown_says t dependencies circularities claim tree n count grown end said free new (rounds.has_room l) = new
grown_says t dependencies circularities claim tree n count grown end said free new (rounds.too_many l) = hold_says t dependencies circularities claim tree n graph.nodes said free

-- What a right run from a node, asked with the claims' rules that may be used there and that were all listed, makes of a
-- tree that says so.
pub leading_says : (t : Theory) (dependencies circularities : List ReachabilityClaim) (claim : ReachabilityClaim) (rs : List RewriteRule) (q : ExecuteRequest) (tree : List ProofNode) (n : ℕ) (x : ProofNode) (e : Exchange) (r : ExecutedParts) (end : RoundEnd) →
    TreeSays t dependencies circularities claim tree → arc_fault tree n ≡ None → node_at tree n ≡ Some x → q.state ≡ x.state →
    MayUse dependencies circularities x.progress rs → AllByRecursion (λ c. is_listed (asked_options q.options).cut_points c ≡ true) rs →
    IsRightRun (with_rules t rs) q r → StandWith r.ending r.nexts → Leading tree n x.state e r end → TreeSays t dependencies circularities claim (end_tree end)
leading_says t deps circs claim rs q tree n x e r end said free at same may listed right stands (rounds.edge then last some is grows) =
    grown_says t deps circs claim tree n 1 (with_edge n r.depth then (is_terminal r.ending) tree) last said free
    (edge_says t deps circs claim tree n r.depth x then (is_terminal r.ending) said free at (record { rules = rs; may = may; listed = (asked_options q.options).cut_points; all = listed })
    (subst (λ s. EdgeSays (with_rules t rs) (asked_options q.options).cut_points s then r.depth) same (run_edge (with_rules t rs) q r then right stands some is))) grows
leading_says t deps circs claim rs q tree n x e r end said free at same may listed right stands (rounds.stuck none is) =
    stuck_says t deps circs claim tree n x said free at (stuck_in_main t deps circs x.progress rs x.state may (subst (StuckSays (with_rules t rs)) same (run_stuck (with_rules t rs) q r right stands none is)))
leading_says t deps circs claim rs q tree n x e r end said free at same may listed right stands (rounds.vacuous none is) =
    vacuous_says t deps circs claim tree n x said free at (vacuous_of_main t rs claim x.state (subst (VacuousSays (with_rules t rs) claim) same (run_vacuous (with_rules t rs) claim q r right stands none is)))
leading_says t deps circs claim rs q tree n x e r end said free at same may listed right stands (rounds.held none is) = hold_says t deps circs claim tree n (graph.reply e.reply) said free
leading_says t deps circs claim rs q tree n x e r end said free at same may listed right stands (rounds.cut id children last none is z grows) =
    grown_says t deps circs claim tree n (length children) (with_branch n children tree) last said free
    (branch_says t deps circs claim tree n x children said free at (record { rules = rs; may = may; listed = (asked_options q.options).cut_points; all = listed })
    (subst (λ s. BranchSays (with_rules t rs) s children) same (run_cut (with_rules t rs) q r id children right stands none is z))) grows
leading_says t deps circs claim rs q tree n x e r end said free at same may listed right stands (rounds.split last none is some whole one grows) =
    grown_says t deps circs claim tree n (length r.nexts) (with_split n (parts_of x.state r.nexts) tree) last said free
    (split_says t deps circs claim tree n x (parts_of x.state r.nexts) said free at
    (split_of_main t rs x.state (parts_of x.state r.nexts) (subst (λ s. SplitSays (with_rules t rs) s (parts_of s r.nexts)) same
    (run_split (with_rules t rs) q r right none is some (subst (λ s. has_one_term (conjoined_terms s) ≡ true) (sym same) one))))) grows
leading_says t deps circs claim rs q tree n x e r end said free at same may listed right stands (rounds.undivided none is whole one) = hold_says t deps circs claim tree n (graph.reply e.reply) said free
leading_says t deps circs claim rs q tree n x e r end said free at same may listed right stands (rounds.branch children last none is some part z grows) =
    grown_says t deps circs claim tree n (length children) (with_branch n children tree) last said free
    (branch_says t deps circs claim tree n x children said free at (record { rules = rs; may = may; listed = (asked_options q.options).cut_points; all = listed })
    (subst (λ s. BranchSays (with_rules t rs) s children) same (run_branch (with_rules t rs) q r children right none is z))) grows
