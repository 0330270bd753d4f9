-- The line with which the service replies to a frame makes a right exchange for the theory of the main module.
use Rattle.std.proofs.Common.{◌≡◌, ◌<◌, ◌≤◌, ◌^◌, ◌++◌, ℕ, Bool, List, [], ◌∷◌, Option, Some, None, option_map, refl, sym, ap, subst, ◌∙◌, arith}
use Rattle.std.specs.Prelude.{ℤ, codes}
use Rattle.serde_json.specs.Data.{Data, object, Members, no_members, put}
use Rattle.serde_json.specs.Written.{compact_text}
use Rattle.kp_kore.specs.Syntax.{Text, KorePattern}
use Rattle.kp_kore.specs.Implied.{Implied, Simplified, IsRightImplied}
use Rattle.kp_kore.specs.Cases.{NextState}
use Rattle.kp_kore.specs.Executions as theory
use Rattle.kp_kore.specs.Theory.{Theory}
use Rattle.std.specs.List.{AllZip}
use Rattle.kp_json.specs.Faults.{Reading, read}
use Rattle.kp_json.specs.Written.{wrapped_pattern}
use Rattle.kp_rpc.specs.Frame.{IsFrame}
use Rattle.kp_rpc.specs.Request.{RequestId, id_null, IsReadId, ExecuteOptions, ExecuteRequest, bound_of, most_steps}
use Rattle.kp_rpc.specs.Reply.{RequestError, foreign_symbol, other_shape, no_module, no_pattern, not_verified, error_reply, error_tree, result_reply, reply_bytes}
use Rattle.kp_rpc.proofs.ReadBack.{Back, IsBack, reply_back, wrapped_back}
use Rattle.kp_results.specs.Results.{NextParts, Ending, vacuous, depth_bound, stuck, branching, cut_point, terminal, aborted, ExecutedParts, IsNextOf, IsReasonOf, StateParts, Undecided}
use Rattle.kp_replies.specs.Aborted.{aborted_tree}
use Rattle.kp_replies.specs.Failures.{Failure, bad_sides, undecided, failure_data, failure_error, failed_reply, failure_reply}
use Rattle.kp_replies.specs.Read.{execute, implies, executed, UnfinishedParts, unfinished, implied, failed, read_reply}
use Rattle.kp_replies.specs.Replies.{IsReplyOf, StandWith, unfinished_parts}
use Rattle.kp_replies.specs.RightReplies.{asked_options, IsMainAsked}
use Rattle.kp_replies.specs.Written.{executed_tree, implied_tree, simplified_tree, added_tree}
use Rattle.kp_replies.proofs.AbortedBack.{aborted_back, aborted_no_implication}
use Rattle.kp_replies.proofs.Alone.{run_line_alone, run_line_no_implication, implication_line_alone, implication_line_no_run}
use Rattle.kp_replies.proofs.Texts.{line_read}
use Rattle.kp_requests.specs.Requests as requests
use Rattle.kp_requests.specs.Requests.{Asked, asks, refused, Call, Frame, single}
use Rattle.kp_requests.specs.Calls.{read_frame}
use Rattle.kp_requests.specs.Frames.{IsJson, Asks, no_json, json}
use Rattle.kp_book.specs.Books.{Opening, Registration, Seen}
use Rattle.kp_client.specs.Links.{Exchange, ToldTheory, IsRightRun, IsRightExchange}
use Rattle.kp_conn.specs.Conversations.{line_of}
use Rattle.kp_execute.specs.Answers as runs
use Rattle.kp_execute.specs.Laws.{MeansRight}
use Rattle.kp_methods.specs.Executed as execution
use Rattle.kp_methods.specs.Executed.{IsExecutedAs, IsUnderstoodAs}
use Rattle.kp_symbolic.specs.Endings as endings
use Rattle.kp_symbolic.specs.Endings.{Result, answered}
use Rattle.kp_simplify.specs.Spelled.{parts_of_cause}
use Rattle.kp_methods.specs.Simplified as simplification
use Rattle.kp_methods.specs.Simplified.{IsSimplifiedAs}
use Rattle.kp_methods.specs.ServedTheory.{ServedTheory}
use Rattle.kp_methods.specs.Implied as implication
use Rattle.kp_implies.specs.Answers.{IsRightOfSides}
use Rattle.kp_methods.specs.Implied.{IsImpliedAs}
use Rattle.kp_service.specs.Answered.{IsReplyIn, no_such_module, in_module}
use Rattle.kp_service.specs.Answers.{Adds, IsReplyTo, IsMember, told, added, silent, added_silently, IsAnswer, refusal, alone, together, items_of, batch_reply}
use Rattle.kp_service.specs.Meant.{IsServedAt}
use Rattle.kp_program.specs.Proofs.{IsMainTheory, told_theory, IsRepliedBy}
use Rattle.kp_program.proofs.AnySort.{right_run}
use Rattle.kp_program.proofs.PlainTexts.{error_tells, array_tells}
use Rattle.kp_program.proofs.RequestsRead.{IsAsked, frame_asked, asked_id, run_request, implication_request}
use Rattle.kp_program.proofs.Theories.{served_main}

from_some : {A : Type 0} (x y : A) → Some x ≡ Some y → x ≡ y
from_some x y e = cc e

mapped : {A B : Type 0} (f : A → B) (x : Option A) (b : B) → option_map f x ≡ Some b → (a : A) × (x ≡ Some a) × (f a ≡ b)
mapped f None b e = absurd (cc e)
mapped f (Some a) b e = (a, refl, cc e)

-- ---- lines that tell no result

-- of a line that tells no result of either method
record TellsNothing (line : List ℕ) : Type 0 where
  no_run : (x : ExecutedParts) → IsReplyOf execute line (executed x) → ⊥
  no_implication : (x : Implied) → IsReplyOf implies line (implied x) → ⊥

-- such a line makes a right exchange for every theory
with_nothing : (t : ToldTheory) (frame line : List ℕ) → TellsNothing line → IsRightExchange t (record { frame = frame; reply = line })
with_nothing t frame line n = record {
  executes = λ x h. absurd (n.no_run x h);
  implies_so = λ x h. absurd (n.no_implication x h);
}

empty_line : (text : List ℕ) → [] ≡ text ++ 10 ∷ [] → ⊥
empty_line [] e = absurd (cc e)
empty_line (b ∷ bs) e = absurd (cc e)

nothing_told : TellsNothing []
nothing_told = record {
  no_run = λ x h. empty_line h.0 h.1;
  no_implication = λ x h. empty_line h.0 h.1;
}

no_run_failed : (x : ExecutedParts) (code : ℤ) → executed x ≡ failed code → ⊥
no_run_failed x code e = cc e

no_run_unfinished : (x : ExecutedParts) (y : UnfinishedParts) → executed x ≡ unfinished y → ⊥
no_run_unfinished x y e = cc e

no_implication_failed : (x : Implied) (code : ℤ) → implied x ≡ failed code → ⊥
no_implication_failed x code e = cc e

fault_told : (id : RequestId) (error : Data) → TellsNothing (reply_bytes (failed_reply id error))
fault_told id error = record {
  no_run = λ x h. let c = error_tells execute id error (executed x) h in no_run_failed x c.0 c.1;
  no_implication = λ x h. let c = error_tells implies id error (implied x) h in no_implication_failed x c.0 c.1;
}

error_told : (id : RequestId) (e : RequestError) → TellsNothing (reply_bytes (error_reply id e))
error_told id e = fault_told id (error_tree e)

failure_told : (id : RequestId) (f : Failure) (d : Data) → failure_reply id f ≡ Some d → TellsNothing (reply_bytes d)
failure_told id f d made =
    let m = mapped (λ x. failed_reply id (failure_error f x)) (failure_data f) d made in
    subst (λ (x : Data). TellsNothing (reply_bytes x)) m.2 (fault_told id (failure_error f m.0))

-- a line of a result of which neither is read
other_result : (id : RequestId) (tree : Data) → IsReadId id → Back tree → read_reply execute (result_reply id tree) ≡ None → read_reply implies (result_reply id tree) ≡ None → TellsNothing (reply_bytes (result_reply id tree))
other_result id tree lawful back no_run no_implication = record {
  no_run = λ x h. let both : None ≡ Some (executed x) = sym no_run ∙ line_read execute (result_reply id tree) (executed x) (reply_back id tree lawful back) h in cc both;
  no_implication = λ x h. let both : None ≡ Some (implied x) = sym no_implication ∙ line_read implies (result_reply id tree) (implied x) (reply_back id tree lawful back) h in cc both;
}

state_back : (d : Data) → Back d → Back (object (put (codes "state") d no_members))
state_back d h = record { numbers = (h.numbers, tt); is = rw h.is refl }

simplified_told : (id : RequestId) (p : KorePattern) (tree : Data) → IsReadId id → simplified_tree p ≡ Some tree → TellsNothing (reply_bytes (result_reply id tree))
simplified_told id p tree lawful made = by (wrapped_pattern p) (wrapped_back p) made
  where
    by : (x : Option Data) → IsBack x → option_map object (option_map (λ d. put (codes "state") d no_members) x) ≡ Some tree → TellsNothing (reply_bytes (result_reply id tree))
    by None h e = absurd (cc e)
    by (Some d) h e =
        subst (λ (y : Data). TellsNothing (reply_bytes (result_reply id y))) (from_some _ tree e) (other_result id (object (put (codes "state") d no_members)) lawful (state_back d h) refl refl)

added_told : (id : RequestId) (name : Text) → IsReadId id → TellsNothing (reply_bytes (result_reply id (added_tree name)))
added_told id name lawful = other_result id (added_tree name) lawful (record { numbers = (tt, tt); is = refl }) refl refl

-- ---- runs

-- no run is longer than a number of 64 bits
bounded : (n : Option ℕ) (name : Option Text) (cut_points terminals : List Text) → bound_of (record { max_depth = n; module_name = name; cut_points = cut_points; terminals = terminals }) ≤ most_steps
bounded None name cut_points terminals = omega arith
bounded (Some n) name cut_points terminals = omega arith

fits : (depth bound : ℕ) → depth ≤ bound → bound ≤ most_steps → depth < 2 ^ 64
fits depth bound h k = omega arith

short_run : (t : Theory) (options : ExecuteOptions) (p : KorePattern) (x : ExecutedParts) → MeansRight t (asked_options options) p x → x.depth < 2 ^ 64
short_run t options p x m =
    let within : m.result.depth ≤ bound_of options = m.right.within_bound in
    fits x.depth (bound_of options) (subst (λ (n : ℕ). n ≤ bound_of options) m.is.depth within) (bounded options.max_depth options.module_name options.cut_points options.terminals)

same_run : (x y : ExecutedParts) → executed y ≡ executed x → y ≡ x
same_run x y e = cc e

-- next states stand with the ending of a result that means something
reason_stands : (e : Ending) (ns : List NextParts) (r : theory.Reason) → IsReasonOf e ns r → StandWith e ns
reason_stands vacuous ns r h = h.0
reason_stands depth_bound ns r h = h.0
reason_stands stuck ns r h = h.0
reason_stands branching ns r h = tt
reason_stands (cut_point id) ns r h = alone ns h.0 h.1
  where
    alone : (xs : List NextParts) (m : NextState) → AllZip IsNextOf xs (m ∷ []) → (n : NextParts) × (xs ≡ n ∷ [])
    alone [] m all = absurd all
    alone (n ∷ []) m all = (n, refl)
    alone (n ∷ k ∷ xs) m all = absurd all.1
reason_stands (terminal id) ns r h = h.0
reason_stands (aborted cause) ns r h = h.0

-- what was asked, and what is served at this book
record Setup (o : Opening) (t : Theory) (frame : List ℕ) (book : List Registration) (s : ServedTheory) (name : Option Text) : Type 0 where
  main : IsMainTheory o t
  tree : Data
  is_frame : IsFrame frame tree
  served : IsServedAt o book name s

theory_is : (o : Opening) (t : Theory) (frame : List ℕ) (book : List Registration) (s : ServedTheory) (name : Option Text) → Setup o t frame book s name → IsMainAsked o.main name → s.theory ≡ t
theory_is o t frame book s name u asked = served_main o t book name s u.main asked u.served

-- a right result, as it is written
run_told : (o : Opening) (t : Theory) (frame : List ℕ) (book : List Registration) (s : ServedTheory) (id : RequestId) (options : ExecuteOptions) (p : KorePattern) (x : ExecutedParts) (tree d : Data) →
    (u : Setup o t frame book s options.module_name) → IsAsked u.tree id (requests.execute (read p) options) → MeansRight s.theory (asked_options options) p x → executed_tree x ≡ Some tree → d ≡ result_reply id tree → IsRightExchange (told_theory o t) (record { frame = frame; reply = reply_bytes d })
run_told o t frame book s id options p x tree d u a means written is =
    let q : ExecuteRequest = record { id = id; state = p; options = options } in
    let lawful = asked_id frame u.tree id _ u.is_frame a in
    let short = short_run s.theory options p x means in
    let stands = reason_stands x.ending x.nexts means.result.reason means.is.reason in
    let asked = run_request u.tree id p options a in
    let right : IsRightRun s.theory q x = right_run s.theory q x means in
    record {
      executes = λ y h. record {
        members = asked.0;
        request = q;
        is_frame = subst (λ (e : Data). IsFrame frame e) asked.1 u.is_frame;
        is_request = asked.2;
        right = λ main.
            let same : y ≡ x = same_run x y (run_line_alone id x tree (executed y) lawful short stands written (subst (λ (e : Data). IsReplyOf execute (reply_bytes e) (executed y)) is h)) in
            subst (λ (v : Theory). IsRightRun v q y) (theory_is o t frame book s options.module_name u main) (subst (λ (z : ExecutedParts). IsRightRun s.theory q z) (sym same) right);
      };
      implies_so = λ y h. absurd (run_line_no_implication id x tree (implied y) lawful short written (subst (λ (e : Data). IsReplyOf implies (reply_bytes e) (implied y)) is h));
    }

what_is_undecided : (id : RequestId) (depth : ℕ) (state : StateParts) (u : Undecided) (d : Data) → IsReadId id → depth < 2 ^ 64 → execution.reply_of id (runs.what_is_undecided depth state u) ≡ Some d → TellsNothing (reply_bytes d)
what_is_undecided id depth state u d lawful short made =
    let m = mapped (result_reply id) (aborted_tree depth state u) d made in
    subst (λ (y : Data). TellsNothing (reply_bytes y)) m.2 (record {
      no_run = λ x h. no_run_unfinished x (unfinished_parts depth state u) (aborted_back id depth state u m.0 (executed x) lawful short m.1 h);
      no_implication = λ x h. aborted_no_implication id depth state u m.0 (implied x) lawful short m.1 h;
    })

below_bound : (depth : ℕ) (options : ExecuteOptions) → depth < bound_of options → depth < 2 ^ 64
below_bound depth options below =
    fits depth (bound_of options) (omega (arith, below)) (bounded options.max_depth options.module_name options.cut_points options.terminals)

answer_told : (o : Opening) (t : Theory) (frame : List ℕ) (book : List Registration) (s : ServedTheory) (id : RequestId) (options : ExecuteOptions) (p : KorePattern) (r : runs.RunAnswer) (d : Data) →
    (u : Setup o t frame book s options.module_name) → IsAsked u.tree id (requests.execute (read p) options) → runs.IsRightAnswer s.theory (asked_options options) p r → execution.reply_of id r ≡ Some d → IsRightExchange (told_theory o t) (record { frame = frame; reply = reply_bytes d })
answer_told o t frame book s id options p (runs.executed x) d u a right made =
    let m = mapped (result_reply id) (executed_tree x) d made in
    run_told o t frame book s id options p x m.0 d u a right.means m.1 (sym m.2)
answer_told o t frame book s id options p (runs.what_is_undecided depth state cause) d u a right made =
    with_nothing (told_theory o t) frame (reply_bytes d) (what_is_undecided id depth state cause d (asked_id frame u.tree id _ u.is_frame a) (below_bound depth options right.below) made)

understood : (o : Opening) (t : Theory) (frame : List ℕ) (book : List Registration) (s : ServedTheory) (id : RequestId) (options : ExecuteOptions) (p : KorePattern) (d : Data) →
    (u : Setup o t frame book s options.module_name) → IsAsked u.tree id (requests.execute (read p) options) → IsUnderstoodAs s id options p d → IsRightExchange (told_theory o t) (record { frame = frame; reply = reply_bytes d })
understood o t frame book s id options p _ u a (execution.by_values d x) =
    let r = x.right in
    run_told o t frame book s id options p r.result r.tree d u a (record { result = r.meant; is = r.means; right = r.right }) r.written r.reply_is
understood o t frame book s id options p _ u a (execution.told r d clear right made) = answer_told o t frame book s id options p r d u a right made
understood o t frame book s id options p _ u a (execution.foreign name found) = with_nothing (told_theory o t) frame _ (error_told id (not_verified (foreign_symbol name)))
understood o t frame book s id options p _ u a (execution.left_out untold) = with_nothing (told_theory o t) frame _ (error_told id (not_verified other_shape))

run_replied : (o : Opening) (t : Theory) (frame : List ℕ) (book : List Registration) (s : ServedTheory) (id : RequestId) (options : ExecuteOptions) (state : Reading KorePattern) (d : Data) →
    (u : Setup o t frame book s options.module_name) → IsAsked u.tree id (requests.execute state options) → IsExecutedAs s id options state d → IsRightExchange (told_theory o t) (record { frame = frame; reply = reply_bytes d })
run_replied o t frame book s id options _ _ u a (execution.unread f) = with_nothing (told_theory o t) frame _ (error_told id (no_pattern f))
run_replied o t frame book s id options _ _ u a (execution.faulty p f first) = with_nothing (told_theory o t) frame _ (error_told id (not_verified f))
run_replied o t frame book s id options _ _ u a (execution.understood p sort d verifies x) = understood o t frame book s id options p d u a x

-- ---- implications

same_implication : (x y : Implied) → implied y ≡ implied x → y ≡ x
same_implication x y e = cc e

implication_told : (o : Opening) (t : Theory) (frame : List ℕ) (book : List Registration) (s : ServedTheory) (id : RequestId) (name : Option Text) (p q : KorePattern) (x : Implied) (tree : Data) →
    (u : Setup o t frame book s name) → IsAsked u.tree id (requests.implies (read p) (read q) name) → implied_tree x ≡ Some tree → IsRightImplied s.theory.signature p q x →
    IsRightExchange (told_theory o t) (record { frame = frame; reply = reply_bytes (result_reply id tree) })
implication_told o t frame book s id name p q x tree u a written right =
    let lawful = asked_id frame u.tree id _ u.is_frame a in
    let asked = implication_request u.tree id p q name a in
    record {
      executes = λ y h. absurd (implication_line_no_run id x tree (executed y) lawful written h);
      implies_so = λ y h. record {
        members = asked.0;
        request = record { id = id; antecedent = p; consequent = q; module_name = name };
        is_frame = subst (λ (e : Data). IsFrame frame e) asked.1 u.is_frame;
        is_request = asked.2;
        right = λ main.
            let same : y ≡ x = same_implication x y (implication_line_alone id x tree (implied y) lawful written h) in
            subst (λ (v : Theory). IsRightImplied v.signature p q y) (theory_is o t frame book s name u main) (subst (λ (z : Implied). IsRightImplied s.theory.signature p q z) (sym same) right);
      };
    }

-- a right answer: a result, or what isn't decided
implication_answered : (o : Opening) (t : Theory) (frame : List ℕ) (book : List Registration) (s : ServedTheory) (id : RequestId) (name : Option Text) (p q : KorePattern) (r : Result Implied) (d : Data) →
    (u : Setup o t frame book s name) → IsAsked u.tree id (requests.implies (read p) (read q) name) → IsRightOfSides s.theory.signature p q r → implication.reply_of id r ≡ Some d →
    IsRightExchange (told_theory o t) (record { frame = frame; reply = reply_bytes d })
implication_answered o t frame book s id name p q (answered x) d u a right made =
    let m = mapped (λ tree. result_reply id tree) (implied_tree x) d made in
    subst (λ (e : Data). IsRightExchange (told_theory o t) (record { frame = frame; reply = reply_bytes e })) m.2 (implication_told o t frame book s id name p q x m.0 u a m.1 right)
implication_answered o t frame book s id name p q (endings.what_is_undecided cause) d u a right made = with_nothing (told_theory o t) frame (reply_bytes d) (failure_told id (undecided (parts_of_cause cause)) d made)

implication_replied : (o : Opening) (t : Theory) (frame : List ℕ) (book : List Registration) (s : ServedTheory) (id : RequestId) (name : Option Text) (left right : Reading KorePattern) (d : Data) →
    (u : Setup o t frame book s name) → IsAsked u.tree id (requests.implies left right name) → IsImpliedAs s.theory.signature id left right d → IsRightExchange (told_theory o t) (record { frame = frame; reply = reply_bytes d })
implication_replied o t frame book s id name _ _ _ u a (implication.bad_sides left right e wrong) = with_nothing (told_theory o t) frame _ (error_told id e)
implication_replied o t frame book s id name _ _ _ u a (implication.incomparable p q f d faultless wrong made) = with_nothing (told_theory o t) frame (reply_bytes d) (failure_told id (bad_sides (implication.told_fault f)) d made)
implication_replied o t frame book s id name _ _ _ u a (implication.told p q r d faultless comparable right made) = implication_answered o t frame book s id name p q r d u a right made

-- ---- simplify

simplify_understood : (s : ServedTheory) (id : RequestId) (p : KorePattern) (d : Data) → IsReadId id → simplification.IsUnderstoodAs s.theory.signature id p d → TellsNothing (reply_bytes d)
simplify_understood s id p _ lawful (simplification.told r d right made) = by r made
  where
    by : (x : Result Simplified) → simplification.reply_of id x ≡ Some d → TellsNothing (reply_bytes d)
    by (answered q) e =
        let m = mapped (λ tree. result_reply id tree) (simplified_tree (simplification.pattern_of q)) d e in
        subst (λ (y : Data). TellsNothing (reply_bytes y)) m.2 (simplified_told id (simplification.pattern_of q) m.0 lawful m.1)
    by (endings.what_is_undecided cause) e = failure_told id (undecided (parts_of_cause cause)) d e
simplify_understood s id p _ lawful (simplification.foreign name found) = error_told id (not_verified (foreign_symbol name))
simplify_understood s id p _ lawful (simplification.left_out untold) = error_told id (not_verified other_shape)

simplify_replied : (s : ServedTheory) (id : RequestId) (state : Reading KorePattern) (d : Data) → IsReadId id → IsSimplifiedAs s.theory.signature id state d → TellsNothing (reply_bytes d)
simplify_replied s id _ _ lawful (simplification.unread f) = error_told id (no_pattern f)
simplify_replied s id _ _ lawful (simplification.faulty p f first) = error_told id (not_verified f)
simplify_replied s id _ _ lawful (simplification.understood p sort d verifies x) = simplify_understood s id p d lawful x

-- ---- calls

-- a call of a frame
record IsCallOf (frame : List ℕ) (call : Call) : Type 0 where
  tree : Data
  is_json : IsJson frame tree
  reads : read_frame tree ≡ single call

call_of : (frame : List ℕ) (f : Frame) (call : Call) → Asks frame f → f ≡ single call → IsCallOf frame call
call_of frame _ call (no_json none) e = absurd (cc e)
call_of frame _ call (json d is) e = record { tree = d; is_json = is; reads = e }

-- what a call asks
abbrev asked_by : (frame : List ℕ) (call : Call) → IsCallOf frame call → RequestId → requests.Request → Type 0
asked_by frame call c id r = IsAsked c.tree id r × IsFrame frame c.tree

object_frame : (frame : List ℕ) (d : Data) (o : Members) → IsJson frame d → d ≡ object o → IsFrame frame d
object_frame frame d o is same =
    subst (λ (e : Data). IsFrame frame e) (sym same) (record { fits = is.fits; utf8 = is.utf8; reads = is.reads ∙ ap Some same; brackets = tt })

call_asks : (frame : List ℕ) (call : Call) (id : RequestId) (r : requests.Request) (c : IsCallOf frame call) → call.id ≡ Some id → call.asked ≡ asks r → asked_by frame call c id r
call_asks frame call id r c named asked =
    let a = frame_asked c.tree call id r c.reads named asked in
    (a, object_frame frame c.tree a.members c.is_json a.tree)

in_reply : (o : Opening) (t : Theory) (frame : List ℕ) (book : List Registration) (name : Option Text) (id : RequestId) (RightOver : ServedTheory → Data → Type 0) (d : Data) →
    ((s : ServedTheory) → IsServedAt o book name s → RightOver s d → IsRightExchange (told_theory o t) (record { frame = frame; reply = reply_bytes d })) →
    IsReplyIn o book name id RightOver d → IsRightExchange (told_theory o t) (record { frame = frame; reply = reply_bytes d })
in_reply o t frame book name id RightOver _ right (no_such_module missing unbound) = with_nothing (told_theory o t) frame _ (error_told id (no_module missing))
in_reply o t frame book name id RightOver _ right (in_module s d served over) = right s served over

replied : (o : Opening) (t : Theory) (frame : List ℕ) (book : List Registration) (call : Call) (id : RequestId) (asked : Asked) (d : Data) → IsMainTheory o t → IsCallOf frame call → call.id ≡ Some id → call.asked ≡ asked →
    IsReplyTo o book id asked d → IsRightExchange (told_theory o t) (record { frame = frame; reply = reply_bytes d })
replied o t frame book call id (refused e) d main c named is right =
    with_nothing (told_theory o t) frame (reply_bytes d) (subst (λ (y : Data). TellsNothing (reply_bytes y)) (sym right) (error_told id e))
replied o t frame book call id (asks (requests.execute state options)) d main c named is right =
    let a = call_asks frame call id (requests.execute state options) c named is in
    in_reply o t frame book options.module_name id (λ s. IsExecutedAs s id options state) d
    (λ s served over. run_replied o t frame book s id options state d (record { main = main; tree = c.tree; is_frame = a.1; served = served }) a.0 over) right
replied o t frame book call id (asks (requests.implies left right name)) d main c named is over =
    let a = call_asks frame call id (requests.implies left right name) c named is in
    in_reply o t frame book name id (λ s. IsImpliedAs s.theory.signature id left right) d
    (λ s served reply. implication_replied o t frame book s id name left right d (record { main = main; tree = c.tree; is_frame = a.1; served = served }) a.0 reply) over
replied o t frame book call id (asks (requests.simplify state name)) d main c named is right =
    let a = call_asks frame call id (requests.simplify state name) c named is in
    in_reply o t frame book name id (λ s. IsSimplifiedAs s.theory.signature id state) d
    (λ s served over. with_nothing (told_theory o t) frame (reply_bytes d) (simplify_replied s id state d (asked_id frame c.tree id _ a.1 a.0) over)) right
replied o t frame book call id (asks (requests.add_module text name_as_id)) d main c named is right =
    with_nothing (told_theory o t) frame (reply_bytes d) (failure_told id right.0 d right.2)

adds_by : (o : Opening) (book : List Registration) (asked : Asked) (r : Registration) → Adds o book asked r → (text : Text) × (named : Bool) × (asked ≡ asks (requests.add_module text named))
adds_by o book (refused e) r h = absurd h
adds_by o book (asks (requests.execute state options)) r h = absurd h
adds_by o book (asks (requests.implies left right name)) r h = absurd h
adds_by o book (asks (requests.simplify state name)) r h = absurd h
adds_by o book (asks (requests.add_module text named)) r h = (text, named, refl)

member_right : (o : Opening) (t : Theory) (frame : List ℕ) (before after : Seen) (call : Call) (reply : Option Data) → IsMainTheory o t → IsCallOf frame call → IsMember o before call reply after → IsRightExchange (told_theory o t) (record { frame = frame; reply = line_of (option_map compact_text reply) })
member_right o t frame before _ call _ main c (told at id d grows named right) = replied o t frame at call id call.asked d main c named refl right
member_right o t frame before _ call _ main c (added between id r grows named adds) =
    let what = adds_by o between call.asked r adds in
    let a = call_asks frame call id (requests.add_module what.0 what.1) c named what.2 in
    with_nothing (told_theory o t) frame _ (added_told id r.id (asked_id frame c.tree id _ a.1 a.0))
member_right o t frame before _ call _ main c (silent at grows none nothing) = with_nothing (told_theory o t) frame [] nothing_told
member_right o t frame before _ call _ main c (added_silently between r grows none adds) = with_nothing (told_theory o t) frame [] nothing_told

-- ---- any reply

batch_told : (replies : List Data) → TellsNothing (line_of (option_map compact_text (batch_reply replies)))
batch_told [] = nothing_told
batch_told (d ∷ ds) = record {
  no_run = λ x h. array_tells execute (items_of (d ∷ ds)) (executed x) h;
  no_implication = λ x h. array_tells implies (items_of (d ∷ ds)) (implied x) h;
}

answer_right : (o : Opening) (t : Theory) (frame : List ℕ) (before after : Seen) (reply : Option (List ℕ)) → IsMainTheory o t → IsAnswer o before frame reply after →
    IsRightExchange (told_theory o t) (record { frame = frame; reply = line_of reply })
answer_right o t frame before _ _ main (refusal e whole) = with_nothing (told_theory o t) frame _ (error_told id_null e)
answer_right o t frame before _ _ main (alone call reply after is member) = member_right o t frame before after call reply main (call_of frame (single call) call is refl) member
answer_right o t frame before _ _ main (together calls replies after is members) = with_nothing (told_theory o t) frame _ (batch_told replies)

pub replied_is_right : (o : Opening) (t : Theory) (e : Exchange) → IsMainTheory o t → IsRepliedBy o e → IsRightExchange (told_theory o t) e
replied_is_right o t e main r =
    subst (λ (line : List ℕ). IsRightExchange (told_theory o t) (record { frame = e.frame; reply = line })) (sym r.line) (answer_right o t e.frame r.before r.after r.reply main r.answer)
