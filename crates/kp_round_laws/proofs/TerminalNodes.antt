-- Each flagged node comes by an edge that a terminal rule of the options ended.
use Rattle.std.proofs.Common.{◌≡◌, refl, sym, ap, subst, ◌∙◌, ℕ, zero, suc, ◌+◌, ◌<◌, Bool, true, false, ◌||◌, List, [], ◌∷◌, ◌++◌, map, length, Option, Some, None, slice_get, set, arith}
use Rattle.std.specs.List.{AllByRecursion}
use Rattle.std.specs.Option.{option_map_or}
use Rattle.std.proofs.lemmas.List.{length-set}
use Rattle.kp_kore.specs.Syntax.{Text, KorePattern}
use Rattle.kp_kore.specs.Arcs.{BranchChild}
use Rattle.kp_kore.specs.Rules.{RewriteRule}
use Rattle.kp_kore.specs.Theory.{Theory}
use Rattle.kp_kore.specs.ClaimRules.{with_rules, is_progress}
use Rattle.kp_kore.specs.Executions as theory
use Rattle.kp_kore.specs.Executions.{Options, EndsBy, IsRightExecuted}
use Rattle.kp_graph.specs.Tree as graph
use Rattle.kp_graph.specs.Tree.{ProofNode, NodeArc, HeldBy, node_at, arc_fault, first_nodes, child_node, open_node, numbers_from, progress_at, with_arc, with_hold, with_children, with_edge, with_split, with_branch}
use Rattle.kp_graph.proofs.Opened.{Opened, opened, changes, get_placed}
use Rattle.kp_graph.proofs.Places.{at_place, get_front}
use Rattle.kp_book.specs.Books.{Opening, Registration}
use Rattle.kp_rpc.specs.Request.{ExecuteRequest}
use Rattle.kp_results.specs.Results as parts
use Rattle.kp_results.specs.Results.{Ending, NextParts, ExecutedParts, IsPatternOf, IsReasonOf}
use Rattle.kp_replies.specs.Replies.{StandWith}
use Rattle.kp_replies.specs.RightReplies.{asked_options}
use Rattle.kp_replies.proofs.Methods.{told_nexts}
use Rattle.kp_links.specs.Links.{Exchange}
use Rattle.kp_links.specs.RightExchanges.{IsRightRun}
use Rattle.kp_rounds.specs.Jobs.{ProofJob, AddedModules}
use Rattle.kp_rounds.specs.Rounds as rounds
use Rattle.kp_rounds.specs.Rounds.{RoundEnd, ends, Round, Leading, is_terminal, parts_of, step_request}
use Rattle.kp_rounds.specs.Sound.{IsTerminalAt}
use Rattle.kp_round_laws.specs.RightRounds.{IsRightFrom, Stands, end_tree}
use Rattle.kp_round_laws.proofs.RoundsSay.{told_run}
use Rattle.kp_round_laws.proofs.Failing.{IsLeftTerminal}
use Rattle.kp_round_laws.proofs.Flagged.{ComesBy, FlagsCome, flags_with_change, flags_with_more}

-- the edge from one state to the other was ended by a terminal rule of the job
pub record FlagSays (t : Theory) (job : ProofJob) (s s' : KorePattern) (d : ℕ) : Type 0 where
  pub rules : List RewriteRule
  pub options : Options
  pub same : options.terminals ≡ job.terminals
  pub id : Text
  pub ended : EndsBy (with_rules t rules) options s s' d id

-- ---- one change

flags_arc : (Q : KorePattern → KorePattern → ℕ → Type 0) (tree : List ProofNode) (n : ℕ) (a : NodeArc) → arc_fault tree n ≡ None → FlagsCome Q tree → FlagsCome Q (with_arc n a tree)
flags_arc Q tree n a free come =
    let o : Opened tree n = opened tree n free in
    rw (changes (λ x. record x { arc = Some a }) tree n o) (flags_with_change Q tree o.place o.node (record o.node { arc = Some a }) o.at o.arc refl refl come)

flags_hold : (Q : KorePattern → KorePattern → ℕ → Type 0) (tree : List ProofNode) (n : ℕ) (why : HeldBy) → arc_fault tree n ≡ None → FlagsCome Q tree → FlagsCome Q (with_hold n why tree)
flags_hold Q tree n why free come =
    let o : Opened tree n = opened tree n free in
    rw (changes (λ x. record x { held = Some why }) tree n o) (flags_with_change Q tree o.place o.node (record o.node { held = Some why }) o.at o.arc refl refl come)

none_flagged : {X : Type 0} (f : X → ProofNode) → ((x : X) → (f x).flagged ≡ false) → (xs : List X) (j : ℕ) (z : ProofNode) → slice_get (map f xs) j ≡ Some z → z.flagged ≡ true → ⊥
none_flagged f plain [] j z at flagged = absurd (cc at)
none_flagged f plain (x ∷ xs) zero z at flagged = let same : f x ≡ z = cc at in absurd (cc (sym (plain x) ∙ ap (λ (v : ProofNode). v.flagged) same ∙ flagged))
none_flagged f plain (x ∷ xs) (suc j) z at flagged = none_flagged f plain xs j z at flagged

flags_plain : {X : Type 0} (Q : KorePattern → KorePattern → ℕ → Type 0) (tree : List ProofNode) (n : ℕ) (a : NodeArc) (f : X → ProofNode) (xs : List X) → ((x : X) → (f x).flagged ≡ false) → arc_fault tree n ≡ None → FlagsCome Q tree → FlagsCome Q (with_children n a (map f xs) tree)
flags_plain Q tree n a f xs plain free come = flags_with_more Q (with_arc n a tree) (map f xs) (flags_arc Q tree n a free come) (λ j z at flagged. absurd (none_flagged f plain xs j z at flagged))

flags_edge : (Q : KorePattern → KorePattern → ℕ → Type 0) (tree : List ProofNode) (n d : ℕ) (x : ProofNode) (s : KorePattern) (flagged : Bool) → arc_fault tree n ≡ None → node_at tree n ≡ Some x → (flagged ≡ true → Q x.state s d) → FlagsCome Q tree → FlagsCome Q (with_edge n d s flagged tree)
flags_edge Q tree n d x s flagged free at says come = flags_with_more Q (with_arc n a tree) (child ∷ []) (flags_arc Q tree n a free come) new
  where
    a : NodeArc
    a = graph.edge d (length tree + 1) flagged

    child : ProofNode
    child = child_node n s flagged

    o : Opened tree n
    o = opened tree n free

    same_node : x ≡ o.node
    same_node = let both : Some x ≡ Some o.node = sym at ∙ at_place tree n o.place o.number ∙ o.at in cc both

    set_tree : with_arc n a tree ≡ set tree o.place (record o.node { arc = Some a })
    set_tree = changes (λ y. record y { arc = Some a }) tree n o

    long : length (with_arc n a tree) ≡ length tree
    long = ap length set_tree ∙ length-set tree o.place (record o.node { arc = Some a })

    new : (j : ℕ) (z : ProofNode) → slice_get (child ∷ []) j ≡ Some z → z.flagged ≡ true → ComesBy Q (with_arc n a tree ++ child ∷ []) (length (with_arc n a tree) + j) z
    new (suc j) z there flag = absurd (cc there)
    new zero z there flag =
        let is : child ≡ z = cc there in
        let on : flagged ≡ true = ap (λ (v : ProofNode). v.flagged) is ∙ flag in
        let place : slice_get (with_arc n a tree) o.place ≡ Some (record o.node { arc = Some a }) = ap (λ l. slice_get l o.place) set_tree ∙ get_placed tree o.place o.node (record o.node { arc = Some a }) o.at in
        let within : o.place < length tree = o.within in
        let front : o.place < length (with_arc n a tree) = omega (arith, within, long) in
        let number : length tree + 1 ≡ length (with_arc n a tree) + 0 + 1 = omega (arith, long) in
        record {
          place = o.place;
          before = record o.node { arc = Some a };
          at = get_front (with_arc n a tree) (child ∷ []) o.place front ∙ place;
          depth = d;
          from = ap (λ f. Some (graph.edge d (length tree + 1) f)) on ∙ ap (λ k. Some (graph.edge d k true)) number;
          such = subst (λ w. Q o.node.state w d) (ap (λ (y : ProofNode). y.state) is) (subst (λ v. Q v s d) (ap (λ (y : ProofNode). y.state) same_node) (says on));
        }

-- ---- a run that a terminal rule ends

says_of : (t : Theory) (job : ProofJob) (rs : List RewriteRule) (q : ExecuteRequest) (d : ℕ) (then_state : KorePattern) (e : Ending) (nexts : List NextParts) → (asked_options q.options).terminals ≡ job.terminals → StandWith e nexts → is_terminal e ≡ true →
    ((reason : theory.Reason) → IsReasonOf e nexts reason → IsRightExecuted (with_rules t rs) (asked_options q.options) q.state (record { depth = d; reason = reason; state = then_state })) → FlagSays t job q.state then_state d
says_of t job rs q d s parts.vacuous nexts same none is right = absurd (cc is)
says_of t job rs q d s parts.depth_bound nexts same none is right = absurd (cc is)
says_of t job rs q d s parts.stuck nexts same none is right = absurd (cc is)
says_of t job rs q d s parts.branching nexts same none is right = absurd (cc is)
says_of t job rs q d s (parts.cut_point id) nexts same none is right = absurd (cc is)
says_of t job rs q d s (parts.aborted cause) nexts same none is right = absurd (cc is)
says_of t job rs q d s (parts.terminal id) nexts same none is right = record { rules = rs; options = asked_options q.options; same = same; id = id; ended = (right (theory.terminal id) (none, refl)).runs }

run_says : (t : Theory) (job : ProofJob) (rs : List RewriteRule) (q : ExecuteRequest) (r : ExecutedParts) (s : KorePattern) → (asked_options q.options).terminals ≡ job.terminals → IsRightRun (with_rules t rs) q r → StandWith r.ending r.nexts → IsPatternOf r.state s → is_terminal r.ending ≡ true → FlagSays t job q.state s r.depth
run_says t job rs q r s same right stands is on =
    says_of t job rs q r.depth s r.ending r.nexts same stands on (λ reason means. right (record { depth = r.depth; reason = reason; state = s }) (record { depth = refl; reason = means; state = is }))

-- ---- rounds

flags_added : (Q : KorePattern → KorePattern → ℕ → Type 0) (tree : List ProofNode) (n count : ℕ) (grown : List ProofNode) (end : RoundEnd) → arc_fault tree n ≡ None → FlagsCome Q tree → FlagsCome Q grown → rounds.AddsNodes tree n count grown end → FlagsCome Q (end_tree end)
flags_added Q tree n count grown end free come new (rounds.has_room l) = new
flags_added Q tree n count grown end free come new (rounds.too_many l) = flags_hold Q tree n graph.nodes free come

flags_split : (Q : KorePattern → KorePattern → ℕ → Type 0) (tree : List ProofNode) (n : ℕ) (states : List KorePattern) → arc_fault tree n ≡ None → FlagsCome Q tree → FlagsCome Q (with_split n states tree)
flags_split Q tree n states free come = flags_plain Q tree n (graph.split (numbers_from (length tree + 1) (length states))) (λ s. open_node n s false (progress_at tree n)) states (λ s. refl) free come

flags_branch : (Q : KorePattern → KorePattern → ℕ → Type 0) (tree : List ProofNode) (n : ℕ) (children : List BranchChild) → arc_fault tree n ≡ None → FlagsCome Q tree → FlagsCome Q (with_branch n children tree)
flags_branch Q tree n children free come = flags_plain Q tree n (graph.branch (map (λ k. k.rule) children) (numbers_from (length tree + 1) (length children))) (λ k. open_node n k.state false (progress_at tree n || is_progress k.rule)) children (λ k. refl) free come

flags_leading : (Q : KorePattern → KorePattern → ℕ → Type 0) (tree : List ProofNode) (n : ℕ) (x : ProofNode) (e : Exchange) (r : ExecutedParts) (end : RoundEnd) → arc_fault tree n ≡ None → node_at tree n ≡ Some x → ((s : KorePattern) → IsPatternOf r.state s → is_terminal r.ending ≡ true → Q x.state s r.depth) →
    FlagsCome Q tree → Leading tree n x.state e r end → FlagsCome Q (end_tree end)
flags_leading Q tree n x e r end free at says come (rounds.Leading.edge beyond last some is grows) = flags_added Q tree n 1 (with_edge n r.depth beyond (is_terminal r.ending) tree) last free come (flags_edge Q tree n r.depth x beyond (is_terminal r.ending) free at (says beyond is) come) grows
flags_leading Q tree n x e r end free at says come (rounds.stuck none is) = flags_arc Q tree n graph.stuck free come
flags_leading Q tree n x e r end free at says come (rounds.Leading.vacuous none is) = flags_arc Q tree n graph.vacuous free come
flags_leading Q tree n x e r end free at says come (rounds.Leading.held none is) = flags_hold Q tree n (graph.reply e.reply) free come
flags_leading Q tree n x e r end free at says come (rounds.cut id children last none is z grows) = flags_added Q tree n (length children) (with_branch n children tree) last free come (flags_branch Q tree n children free come) grows
flags_leading Q tree n x e r end free at says come (rounds.split last none is some whole one grows) = flags_added Q tree n (length r.nexts) (with_split n (parts_of x.state r.nexts) tree) last free come (flags_split Q tree n (parts_of x.state r.nexts) free come) grows
flags_leading Q tree n x e r end free at says come (rounds.undivided none is whole one) = flags_hold Q tree n (graph.reply e.reply) free come
flags_leading Q tree n x e r end free at says come (rounds.branch children last none is some part z grows) = flags_added Q tree n (length children) (with_branch n children tree) last free come (flags_branch Q tree n children free come) grows

-- a round keeps that flagged nodes come so
pub round_flags : (o : Opening) (t : Theory) (job : ProofJob) (modules : AddedModules) (book : List Registration) (tree : List ProofNode) (n : ℕ) (x : ProofNode) (es : List Exchange) (end : RoundEnd) → Stands o t job modules book → arc_fault tree n ≡ None → node_at tree n ≡ Some x →
    AllByRecursion (IsRightFrom o book) es → FlagsCome (FlagSays t job) tree → Round job modules tree n x es end → FlagsCome (FlagSays t job) (end_tree end)
round_flags o t job modules book tree n x es end st free at right come (rounds.covered e p q tells is) = flags_arc (FlagSays t job) tree n graph.cover free come
round_flags o t job modules book tree n x es end st free at right come (rounds.Round.vacuous e p q tells is) = flags_arc (FlagSays t job) tree n graph.vacuous free come
round_flags o t job modules book tree n x es end st free at right come (rounds.undecided e tells) = flags_hold (FlagSays t job) tree n (graph.reply e.reply) free come
round_flags o t job modules book tree n x es end st free at right come (rounds.Round.refused fs code refuses other) = come
round_flags o t job modules book tree n x es end st free at right come (rounds.terminal e tells flagged) = flags_arc (FlagSays t job) tree n graph.terminal free come
round_flags o t job modules book tree n x es end st free at right come (rounds.steps e fs _ tells plain (rounds.by_run name f r last asks run leads)) =
    let ran = told_run o t job modules book tree n x name f r st at right.1.0 asks run in
    flags_leading (FlagSays t job) tree n x f r last free at (λ s is on. run_says t job ran.0.rules (step_request job modules name x.state run.number) r s refl ran.1 (told_nexts f.reply r run.told) is on) come leads
round_flags o t job modules book tree n x es end st free at right come (rounds.steps e fs _ tells plain (rounds.by_front name f u last asks run (rounds.LeadingTo.edge beyond after some is adds))) =
    flags_added (FlagSays t job) tree n 1 (with_edge n u.depth beyond false tree) after free come (flags_edge (FlagSays t job) tree n u.depth x beyond false free at (λ on. absurd (cc on)) come) adds
round_flags o t job modules book tree n x es end st free at right come (rounds.steps e fs _ tells plain (rounds.by_front name f u last asks run (rounds.LeadingTo.held none))) = flags_hold (FlagSays t job) tree n (graph.reply f.reply) free come
round_flags o t job modules book tree n x es end st free at right come (rounds.steps e fs _ tells plain (rounds.Stepping.refused name gs code asks refuses)) = come

pub first_flags : (Q : KorePattern → KorePattern → ℕ → Type 0) (s : KorePattern) → FlagsCome Q (first_nodes s)
first_flags Q s zero y at flagged = let same : false ≡ true = ap (λ (o : Option ProofNode). option_map_or (λ v. v.flagged) o false) at ∙ flagged in absurd (cc same)
first_flags Q s (suc i) y at flagged = absurd (cc at)

-- a node that is left terminal in a tree whose flags come so was reached by a terminal rule of the options
pub left_terminal : (t : Theory) (job : ProofJob) (tree : List ProofNode) (n : ℕ) → FlagsCome (FlagSays t job) tree → IsLeftTerminal t job tree n → IsTerminalAt t job tree n
left_terminal t job tree zero come left = let at : None ≡ Some left.node = left.at in absurd (cc at)
left_terminal t job tree (suc i) come left =
    let c : ComesBy (FlagSays t job) tree i left.node = come i left.node left.at left.flagged in
    record {
      node = left.node;
      at = left.at;
      arc = left.arc;
      uncovered = left.uncovered;
      place = c.place + 1;
      before = c.before;
      before_at = at_place tree (c.place + 1) c.place refl ∙ c.at;
      depth = c.depth;
      from = c.from ∙ ap (λ k. Some (graph.edge c.depth k true)) (one_more_is i);
      rules = c.such.rules;
      options = c.such.options;
      same = c.such.same;
      id = c.such.id;
      ended = c.such.ended;
    }
  where
    one_more_is : (i : ℕ) → i + 1 ≡ suc i
    one_more_is i = omega arith
