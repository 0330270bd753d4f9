-- A frame that asks of the main module is answered as it would be before any module is added.
use Rattle.std.proofs.Common.{◌≡◌, ℕ, ℤ, true, List, [], ◌∷◌, Option, Some, None, option_map, option_and_then, refl, sym, ap, subst, ◌∙◌}
use Rattle.std.specs.Prelude.{◌<◌, ◌^◌, ⊤}
use Rattle.std.specs.List.{AllByRecursion}
use Rattle.serde_json.specs.Data.{Data, unsigned, object}
use Rattle.serde_json.specs.Written.{compact_text}
use Rattle.serde_json.specs.Read.{read}
use Rattle.kp_kore.specs.Syntax.{Text, KorePattern}
use Rattle.kp_kore.specs.Claims.{ReachabilityClaim}
use Rattle.kp_kore.specs.Theory.{NumberedAxiom}
use Rattle.kp_kore.proofs.ListLemmas.{all_append}
use Rattle.kp_graph.specs.Tree.{ProofNode}
use Rattle.kp_json.specs.Faults.{wrapped_reading}
use Rattle.kp_json.specs.Written.{two_parts, wrapped_pattern}
use Rattle.kp_book.specs.Books.{Opening, Registration, Seen, rules_in, rules_bound, first_of, meaning_in}
use Rattle.kp_additions.specs.Served.{nothing_seen}
use Rattle.kp_methods.specs.ServedTheory.{ServedTheory}
use Rattle.kp_rpc.specs.Request.{RequestId, id_text, id_number, id_null, id_tree, IsReadId, ExecuteOptions, ExecuteRequest, execute_method, implies_method}
use Rattle.kp_rpc.specs.Readings.{read_id, read_options}
use Rattle.kp_rpc.specs.Questions.{Question, to_execute, to_imply, to_add, IsReadNumber, execute_params, implies_params, request_object, question_tree}
use Rattle.kp_rpc.proofs.Asked.{options_are}
use Rattle.kp_rpc.proofs.OptionsRead.{options_told}
use Rattle.kp_rpc.proofs.CompactRead.{compact_reads}
use Rattle.kp_rpc.proofs.QuestionBack.{execute_back, implies_back}
use Rattle.kp_rpc.proofs.ReadBack.{plain_back}
use Rattle.kp_requests.specs.Frames.{IsJson, Asks, no_json, json}
use Rattle.kp_requests.specs.Requests.{execute, implies, simplify, add_module, Asked, asks, refused, Call, Frame, single, batch, refused_whole}
use Rattle.kp_requests.specs.Calls.{call_from, or_invalid_params, read_frame}
use Rattle.kp_replies.specs.Read.{Method, ServerReply}
use Rattle.kp_client.specs.Links.{Exchange, IsTextOf}
use Rattle.kp_client.specs.Rounds as rounds
use Rattle.kp_client.specs.Rounds.{cover_question, step_question, IsGivenId, Tells, Refuses, by_error, by_no_reply, by_reason, by_unfinished, by_no_text, ProofOutcome, RoundEnd, Stepping, edge, too_many, stuck, held, Round, covered, steps, Rounds, none_yet, one_more, Proves, in_round, after_rounds, all_covered, some_held}
use Rattle.kp_service.specs.Meant.{IsServedAt, module_asked}
use Rattle.kp_service.specs.Answered.{IsReplyIn, no_such_module, in_module}
use Rattle.kp_service.specs.Answers.{IsReplyTo, AddsNothing, Adds, IsMember, told, added, silent, added_silently, IsAnswer, refusal, alone, together}
use Rattle.kp_program.specs.Proofs.{IsRepliedBy, IsRepliedAtOpening}

-- ---- what is asked of the main module

-- a request that names no module and adds none
abbrev pub IsOfMain : Asked → Type 0
IsOfMain (refused e) = ⊤
IsOfMain (asks (execute state options)) = options.module_name ≡ None
IsOfMain (asks (implies antecedent consequent name)) = name ≡ None
IsOfMain (asks (simplify state name)) = name ≡ None
IsOfMain (asks (add_module text name_as_id)) = ⊥

-- a frame of one such request, or one that is refused
abbrev pub IsOfMainFrame : Frame → Type 0
IsOfMainFrame (single call) = IsOfMain call.asked
IsOfMainFrame (batch calls) = ⊥
IsOfMainFrame (refused_whole e) = ⊤

-- ---- what it means at any book

same_meaning : (o : Opening) (book : List Registration) (axioms : List NumberedAxiom) → rules_in o.modules o.main ≡ Some axioms → meaning_in o book o.main ≡ meaning_in o [] o.main
same_meaning o book axioms bound = ap (λ x. first_of x (rules_bound book o.main)) bound ∙ sym (ap (λ x. first_of x (rules_bound [] o.main)) bound)

served_at : (o : Opening) (book : List Registration) (axioms : List NumberedAxiom) (asked : Option Text) (s : ServedTheory) → rules_in o.modules o.main ≡ Some axioms → asked ≡ None → IsServedAt o book asked s → IsServedAt o [] asked s
served_at o book axioms asked s bound none served =
    let main : module_asked o asked ≡ o.main = ap (module_asked o) none in
    record {
      axioms = served.axioms;
      bound = ap (meaning_in o []) main ∙ sym (same_meaning o book axioms bound) ∙ sym (ap (meaning_in o book) main) ∙ served.bound;
      means = served.means;
      main_is = served.main_is;
      names_are = served.names_are;
    }

none_named : (asked : Option Text) (name : Text) → asked ≡ None → asked ≡ Some name → ⊥
none_named asked name none is = let both : None ≡ Some name = sym none ∙ is in absurd (cc)

reply_in : (o : Opening) (book : List Registration) (axioms : List NumberedAxiom) (asked : Option Text) (id : RequestId) (RightOver : ServedTheory → Data → Type 0) (reply : Data) → rules_in o.modules o.main ≡ Some axioms → asked ≡ None → IsReplyIn o book asked id RightOver reply → IsReplyIn o [] asked id RightOver reply
reply_in o book axioms asked id RightOver _ bound none (no_such_module name is) = absurd (none_named asked name none is.0)
reply_in o book axioms asked id RightOver _ bound none (in_module s reply served right) = in_module s reply (served_at o book axioms asked s bound none served) right

reply_to : (o : Opening) (book : List Registration) (axioms : List NumberedAxiom) (id : RequestId) (asked : Asked) (reply : Data) → rules_in o.modules o.main ≡ Some axioms → IsOfMain asked → IsReplyTo o book id asked reply → IsReplyTo o [] id asked reply
reply_to o book axioms id (refused e) reply bound main r = r
reply_to o book axioms id (asks (execute state options)) reply bound main r = reply_in o book axioms options.module_name id _ reply bound main r
reply_to o book axioms id (asks (implies antecedent consequent name)) reply bound main r = reply_in o book axioms name id _ reply bound main r
reply_to o book axioms id (asks (simplify state name)) reply bound main r = reply_in o book axioms name id _ reply bound main r
reply_to o book axioms id (asks (add_module text name_as_id)) reply bound main r = absurd main

adds_none : (o : Opening) (book : List Registration) (asked : Asked) (r : Registration) → IsOfMain asked → Adds o book asked r → ⊥
adds_none o book (refused e) r main adds = adds
adds_none o book (asks (execute state options)) r main adds = adds
adds_none o book (asks (implies antecedent consequent name)) r main adds = adds
adds_none o book (asks (simplify state name)) r main adds = adds
adds_none o book (asks (add_module text name_as_id)) r main adds = main

adds_nothing : (o : Opening) (asked : Asked) → IsOfMain asked → AddsNothing o [] asked
adds_nothing o (refused e) main = tt
adds_nothing o (asks (execute state options)) main = tt
adds_nothing o (asks (implies antecedent consequent name)) main = tt
adds_nothing o (asks (simplify state name)) main = tt
adds_nothing o (asks (add_module text name_as_id)) main = absurd main

member_at : (o : Opening) (before : Seen) (axioms : List NumberedAxiom) (call : Call) (reply : Option Data) (after : Seen) → rules_in o.modules o.main ≡ Some axioms → IsOfMain call.asked → IsMember o before call reply after → IsMember o nothing_seen call reply nothing_seen
member_at o before axioms call _ _ bound main (told at id reply grows is right) = told [] id reply ([], refl) is (reply_to o at axioms id call.asked reply bound main right)
member_at o before axioms call _ _ bound main (added between id r grows is adds) = absurd (adds_none o between call.asked r main adds)
member_at o before axioms call _ _ bound main (silent at grows is nothing) = silent [] ([], refl) is (adds_nothing o call.asked main)
member_at o before axioms call _ _ bound main (added_silently between r grows is adds) = absurd (adds_none o between call.asked r main adds)

pub answer_at : (o : Opening) (frame : List ℕ) (before : Seen) (reply : Option (List ℕ)) (after : Seen) (axioms : List NumberedAxiom) → rules_in o.modules o.main ≡ Some axioms → ((f : Frame) → Asks frame f → IsOfMainFrame f) → IsAnswer o before frame reply after → IsAnswer o nothing_seen frame reply nothing_seen
answer_at o frame before _ _ axioms bound main (refusal e is) = refusal e is
answer_at o frame before _ _ axioms bound main (alone call reply after is member) = alone call reply nothing_seen is (member_at o before axioms call reply after bound (main (single call) is) member)
answer_at o frame before _ _ axioms bound main (together calls replies after is members) = absurd (main (batch calls) is)

-- ---- the text of a question of the main module

id_back : (id : RequestId) → IsGivenId id → read_id (id_tree id) ≡ Some id
id_back (id_text t) h = absurd h
id_back (id_number (unsigned n)) h = refl
id_back (id_number n) h = absurd h
id_back id_null h = absurd h

read_given : (id : RequestId) → IsGivenId id → IsReadId id
read_given (id_text t) h = absurd h
read_given (id_number (unsigned n)) h = h
read_given (id_number n) h = absurd h
read_given id_null h = absurd h

some_module : (x : Option Data) (y : Option ExecuteOptions) → ((o : ExecuteOptions) → y ≡ Some o → o.module_name ≡ None) → IsOfMain (or_invalid_params (option_and_then (λ s. option_map (execute (wrapped_reading s)) y) x))
some_module None y h = tt
some_module (Some s) None h = tt
some_module (Some s) (Some o) h = h o refl

sides_module : (x y : Option Data) (z : Option (Option Text)) → ((n : Option Text) → z ≡ Some n → n ≡ None) → IsOfMain (or_invalid_params (option_and_then (λ a. option_and_then (λ c. option_map (implies (wrapped_reading a) (wrapped_reading c)) z) y) x))
sides_module None y z h = tt
sides_module (Some a) None z h = tt
sides_module (Some a) (Some c) None h = tt
sides_module (Some a) (Some c) (Some n) h = h n refl

from_some : {A : Type 0} (x y : A) → Some x ≡ Some y → x ≡ y
from_some x y e = cc e

run_of_main : (q : ExecuteRequest) (tree : Data) → IsGivenId q.id → q.options.module_name ≡ None → IsOfMainFrame (read_frame (request_object q.id execute_method (execute_params q.options tree)))
run_of_main q tree given none =
    let params = execute_params q.options tree in
    let d = request_object q.id execute_method params in
    subst (λ x. IsOfMainFrame (single (call_from d true (Some execute_method) (option_map Some x)))) (sym (id_back q.id given))
    (some_module _ (read_options (object params)) (λ o is. let same : o ≡ q.options = from_some o q.options (sym is ∙ options_told params q.options (options_are q.options tree)) in ap (λ x. x.module_name) same ∙ none))

sides_of_main : (id : RequestId) (a c : Data) → IsGivenId id → IsOfMainFrame (read_frame (request_object id implies_method (implies_params None a c)))
sides_of_main id a c given =
    let d = request_object id implies_method (implies_params None a c) in
    subst (λ x. IsOfMainFrame (single (call_from d true (Some implies_method) (option_map Some x)))) (sym (id_back id given))
    (sides_module _ _ (Some None) (λ n is. sym (from_some None n is)))

-- a question of the main module, whose numbers are written so that they are read again
abbrev pub IsOfMainQuestion : Question → Type 0
IsOfMainQuestion (to_execute q) = IsGivenId q.id × IsReadNumber q.options.max_depth × (q.options.module_name ≡ None)
IsOfMainQuestion (to_imply q) = IsGivenId q.id × (q.module_name ≡ None)
IsOfMainQuestion (to_add id text) = ⊥

run_tree : (q : ExecuteRequest) (x : Option Data) (d : Data) → IsGivenId q.id → q.options.module_name ≡ None → option_map (λ s. request_object q.id execute_method (execute_params q.options s)) x ≡ Some d → IsOfMainFrame (read_frame d)
run_tree q None d given none is = absurd (cc)
run_tree q (Some s) d given none is = subst (λ x. IsOfMainFrame (read_frame x)) (from_some _ _ is) (run_of_main q s given none)

sides_tree : (id : RequestId) (name : Option Text) (x y : Option Data) (d : Data) → IsGivenId id → name ≡ None → two_parts (λ a c. request_object id implies_method (implies_params name a c)) x y ≡ Some d → IsOfMainFrame (read_frame d)
sides_tree id name None y d given none is = absurd (cc)
sides_tree id name (Some a) None d given none is = absurd (cc)
sides_tree id name (Some a) (Some c) d given none is = subst (λ x. IsOfMainFrame (read_frame x)) (ap (λ n. request_object id implies_method (implies_params n a c)) (sym none) ∙ from_some _ _ is) (sides_of_main id a c given)

tree_of_main : (q : Question) (d : Data) → IsOfMainQuestion q → question_tree q ≡ Some d → IsOfMainFrame (read_frame d)
tree_of_main (to_execute q) d main is = run_tree q (wrapped_pattern q.state) d main.0 main.2 is
tree_of_main (to_imply q) d main is = sides_tree q.id q.module_name (wrapped_pattern q.antecedent) (wrapped_pattern q.consequent) d main.0 main.1 is
tree_of_main (to_add id text) d main is = absurd main

read_again : (q : Question) (d e : Data) (frame : List ℕ) → IsOfMainQuestion q → question_tree q ≡ Some d → frame ≡ compact_text d → IsJson frame e → e ≡ d
read_again (to_execute q) d e frame main is text j = compact_reads d e (plain_back (question_tree (to_execute q)) d (execute_back q (read_given q.id main.0, main.1)) is) (ap read (sym text) ∙ j.reads)
read_again (to_imply q) d e frame main is text j = compact_reads d e (plain_back (question_tree (to_imply q)) d (implies_back q (read_given q.id main.0)) is) (ap read (sym text) ∙ j.reads)
read_again (to_add id text') d e frame main is text j = absurd main

pub frame_of_main : (q : Question) (frame : List ℕ) (f : Frame) → IsOfMainQuestion q → IsTextOf q frame → Asks frame f → IsOfMainFrame f
frame_of_main q frame _ main text (no_json none) = tt
frame_of_main q frame _ main text (json d is) = subst (λ x. IsOfMainFrame (read_frame x)) (sym (read_again q text.0 d frame main text.1 text.2 is)) (tree_of_main q text.0 main text.1)

-- ---- the exchanges of a proof

-- its frame is the text of a question of the main module
abbrev pub AsksOfMain : Exchange → Type 0
AsksOfMain e = (q : Question) × IsOfMainQuestion q × IsTextOf q e.frame

cover_asks : (claim : ReachabilityClaim) (s : KorePattern) (e : Exchange) (i : RequestId) → IsGivenId i → IsTextOf (cover_question claim s i) e.frame → AsksOfMain e
cover_asks claim s e i given text = (cover_question claim s i, (given, refl), text)

step_asks : (depth : ℕ) (s : KorePattern) (e : Exchange) (i : RequestId) → depth < 2 ^ 64 → IsGivenId i → IsTextOf (step_question depth s i) e.frame → AsksOfMain e
step_asks depth s e i small given text = (step_question depth s i, (given, small, refl), text)

cover_told : (claim : ReachabilityClaim) (s : KorePattern) (e : Exchange) (m : Method) (r : ServerReply) → Tells (cover_question claim s) m e r → AsksOfMain e
cover_told claim s e m r t = cover_asks claim s e t.number t.lawful t.asked

step_told : (depth : ℕ) (s : KorePattern) (e : Exchange) (m : Method) (r : ServerReply) → depth < 2 ^ 64 → Tells (step_question depth s) m e r → AsksOfMain e
step_told depth s e m r small t = step_asks depth s e t.number small t.lawful t.asked

cover_refused : (claim : ReachabilityClaim) (s : KorePattern) (m : Method) (es : List Exchange) (code : ℤ) → Refuses (cover_question claim s) m es code → AllByRecursion AsksOfMain es
cover_refused claim s m _ _ (by_error e code t) = (cover_told claim s e m _ t, tt)
cover_refused claim s m _ _ (by_no_reply e t) = (cover_asks claim s e t.number t.lawful t.asked, tt)
cover_refused claim s m _ _ (by_reason e x t other) = (cover_told claim s e m _ t, tt)
cover_refused claim s m _ _ (by_unfinished e u t) = (cover_told claim s e m _ t, tt)
cover_refused claim s m _ _ (by_no_text i none) = tt

step_refused : (depth : ℕ) (s : KorePattern) (m : Method) (es : List Exchange) (code : ℤ) → depth < 2 ^ 64 → Refuses (step_question depth s) m es code → AllByRecursion AsksOfMain es
step_refused depth s m _ _ small (by_error e code t) = (step_told depth s e m _ small t, tt)
step_refused depth s m _ _ small (by_no_reply e t) = (step_asks depth s e t.number small t.lawful t.asked, tt)
step_refused depth s m _ _ small (by_reason e x t other) = (step_told depth s e m _ small t, tt)
step_refused depth s m _ _ small (by_unfinished e u t) = (step_told depth s e m _ small t, tt)
step_refused depth s m _ _ small (by_no_text i none) = tt

stepping_asks : (depth : ℕ) (tree : List ProofNode) (n : ℕ) (s : KorePattern) (es : List Exchange) (end : RoundEnd) → depth < 2 ^ 64 → Stepping depth tree n s es end → AllByRecursion AsksOfMain es
stepping_asks depth tree n s _ _ small (edge e x later t followed some is room) = (step_told depth s e _ _ small t, tt)
stepping_asks depth tree n s _ _ small (too_many e x t followed some full) = (step_told depth s e _ _ small t, tt)
stepping_asks depth tree n s _ _ small (stuck e x t none is) = (step_told depth s e _ _ small t, tt)
stepping_asks depth tree n s _ _ small (held e x t followed none is) = (step_told depth s e _ _ small t, tt)
stepping_asks depth tree n s _ _ small (rounds.Stepping.refused es code r) = step_refused depth s _ es code small r

round_asks : (claim : ReachabilityClaim) (depth : ℕ) (tree : List ProofNode) (n : ℕ) (s : KorePattern) (es : List Exchange) (end : RoundEnd) → depth < 2 ^ 64 → Round claim depth tree n s es end → AllByRecursion AsksOfMain es
round_asks claim depth tree n s _ _ small (covered e p q t) = (cover_told claim s e _ _ t, tt)
round_asks claim depth tree n s _ _ small (rounds.Round.undecided e t) = (cover_told claim s e _ _ t, tt)
round_asks claim depth tree n s _ _ small (rounds.Round.refused es code r other) = cover_refused claim s _ es code r
round_asks claim depth tree n s _ _ small (steps e es end t more) = (cover_told claim s e _ _ t, stepping_asks depth tree n s es end small more)

rounds_ask : (claim : ReachabilityClaim) (depth k : ℕ) (tree : List ProofNode) (es : List Exchange) → depth < 2 ^ 64 → Rounds claim depth k tree es → AllByRecursion AsksOfMain es
rounds_ask claim depth _ _ _ small none_yet = tt
rounds_ask claim depth _ _ _ small (one_more k tree later es more n x before least at round) = all_append AsksOfMain es more (rounds_ask claim depth k tree es small before) (round_asks claim depth tree n x.state more _ small round)

pub proof_asks : (claim : ReachabilityClaim) (depth : ℕ) (es : List Exchange) (tree : List ProofNode) (outcome : ProofOutcome) → depth < 2 ^ 64 → Proves claim depth es tree outcome → AllByRecursion AsksOfMain es
proof_asks claim depth _ _ _ small (in_round k tree last es more n x outcome before few least at round) = all_append AsksOfMain es more (rounds_ask claim depth k tree es small before) (round_asks claim depth tree n x.state more _ small round)
proof_asks claim depth _ _ _ small (after_rounds tree es n before least) = rounds_ask claim depth _ tree es small before
proof_asks claim depth _ _ _ small (all_covered k tree es before few none all) = rounds_ask claim depth k tree es small before
proof_asks claim depth _ _ _ small (some_held k tree es n why before few none is) = rounds_ask claim depth k tree es small before

-- ---- what replied

pub replied_at : (o : Opening) (axioms : List NumberedAxiom) (e : Exchange) → rules_in o.modules o.main ≡ Some axioms → AsksOfMain e → IsRepliedBy o e → IsRepliedAtOpening o e
replied_at o axioms e bound ask r = record {
  reply = r.reply;
  answer = answer_at o e.frame r.before r.reply r.after axioms bound (λ f is. frame_of_main ask.0 e.frame f ask.1 ask.2 is) r.answer;
  line = r.line;
}

pub all_replied_at : (o : Opening) (axioms : List NumberedAxiom) (es : List Exchange) → rules_in o.modules o.main ≡ Some axioms → AllByRecursion AsksOfMain es → AllByRecursion (IsRepliedBy o) es → AllByRecursion (IsRepliedAtOpening o) es
all_replied_at o axioms [] bound questions replied = tt
all_replied_at o axioms (e ∷ es) bound questions replied = (replied_at o axioms e bound questions.0 replied.0, all_replied_at o axioms es bound questions.1 replied.1)
