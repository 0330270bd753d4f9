-- From an answer of a pattern, or what is wrong with it, to the line of the reply.
use Rattle.std.proofs.Common.{◌≡◌, refl, sym, ◌∙◌, ap, subst, ℕ, Option, Some, None, Result, Ok, Err, Vec, string_bytes}
use Rattle.std.specs.Prelude.{String}
use Rattle.std.specs.Option.{option_map, IfSome}
use Rattle.std.specs.Result.{IfOk}
use Rattle.std.specs.declared.alloc.Global.{Global}
use Rattle.serde_json.specs.Data.{Data}
use Rattle.kp_kore.specs.Syntax.{KorePattern}
use Rattle.kp_kore.specs.Executions as theory
use Rattle.kp_kore.specs.Signature.{KoreSignature}
use Rattle.kp_kore.specs.Theory.{Theory}
use Rattle.kp_json.specs.Faults.{Reading, read}
use Rattle.kp_clauses.specs.Faults.{state_fault}
use Rattle.kp_rpc.specs.Request.{RequestId, ExecuteOptions}
use Rattle.kp_rpc.specs.Reply.{foreign_symbol, other_shape, not_verified, error_reply, result_reply, reply_bytes}
use Rattle.kp_rpc.specs.View.{state_fault_view}
use Rattle.kp_rpc.specs.declared.fault.StateFault.{StateFault}
use Rattle.kp_replies.specs.Aborted.{aborted_tree}
use Rattle.kp_replies.specs.RightReplies.{asked_options}
use Rattle.kp_replies.specs.Written.{executed_tree}
use Rattle.kp_results.specs.Results.{ExecutedParts, StateParts, Undecided}
use Rattle.kp_methods.specs.ServedTheory.{ServedTheory}
use Rattle.kp_methods.specs.Simplified.{IsFaultTold, fault_told, IsReplyLine}
use Rattle.kp_methods.proofs.SimplifiedLines.{right_line}
use Rattle.kp_execute.specs.Answers.{RunAnswer, executed, what_is_undecided, IsRightAnswer, IsUnexecuted}
use Rattle.kp_execute.specs.Wants.{LacksInjection, TellsNoInjection}
use Rattle.kp_execute.specs.declared.answer.ExecuteError.{ExecuteError}
use Rattle.kp_execute.specs.declared.answer.ExecuteError.TheVariants as error
use Rattle.kp_methods.specs.Executed.{IsExecuted, reply_of, IsUntold, no_injection, no_state, IsUnderstoodAs, by_values, told, foreign, left_out, IsExecutedAs, faulty}
use Rattle.kp_methods.specs.ExecutedLines.{IsLineOf}

-- ---- what was read

-- the same by another name
pub line_of_read : {E : Type 0} (r : Result (Vec ℕ Global) E) (s : ServedTheory) (id : RequestId) (options : ExecuteOptions) (x y : Reading KorePattern) → x ≡ y → IfOk r (λ line. IsReplyLine (IsExecutedAs s id options y) line.items) →
    IfOk r (λ line. IsReplyLine (IsExecutedAs s id options x) line.items)
line_of_read r s id options x y same l = subst (λ z. IfOk r (λ line. IsReplyLine (IsExecutedAs s id options z) line.items)) (sym same) l

-- the reply that tells a verify fault
pub told_fault : (s : ServedTheory) (id : RequestId) (options : ExecuteOptions) (p : KorePattern) (reply : Data) → IsFaultTold s.theory.signature id p reply → IsExecutedAs s id options (read p) reply
told_fault s id options p reply (fault_told f h) = faulty p f h

-- ---- ground states

-- the run of a ground value tells the reply
pub by_values_line : (s : ServedTheory) (id : RequestId) (options : ExecuteOptions) (p : KorePattern) (o : Option (Vec ℕ Global)) (line : Vec ℕ Global) → o ≡ Some line →
    IfSome o (λ found. IsReplyLine (IsExecuted s (record { id = id; state = p; options = options })) found.items) → IsReplyLine (IsUnderstoodAs s id options p) line.items
by_values_line s id options p o line is h =
    let l = subst (λ x. IfSome x (λ found. IsReplyLine (IsExecuted s (record { id = id; state = p; options = options })) found.items)) is h in
    (l.0, by_values l.0 l.1, l.2)

-- ---- answers

-- the line of a result is that of its reply
pub result_line : {E : Type 0} (r : Result (Option (Vec ℕ Global)) E) (id : RequestId) (tree reply : Option Data) → reply ≡ option_map (result_reply id) tree →
    IfOk r (λ line. option_map (λ (b : Vec ℕ Global). b.items) line ≡ option_map (λ (t : Data). reply_bytes (result_reply id t)) tree) → IfOk r (λ line. IsLineOf line reply)
result_line (Err e) id tree reply is l = tt
result_line (Ok line) id None reply is l = l ∙ sym (ap (option_map reply_bytes) is)
result_line (Ok line) id (Some t) reply is l = l ∙ sym (ap (option_map reply_bytes) is)

-- the answer that is told is that
pub run_line : {E : Type 0} (r : Result (Option (Vec ℕ Global)) E) (id : RequestId) (a : RunAnswer) (x : ExecutedParts) → a ≡ executed x →
    IfOk r (λ line. option_map (λ (b : Vec ℕ Global). b.items) line ≡ option_map (λ (t : Data). reply_bytes (result_reply id t)) (executed_tree x)) → IfOk r (λ line. IsLineOf line (reply_of id a))
run_line r id a x is l = result_line r id (executed_tree x) (reply_of id a) (ap (reply_of id) is) l

pub undecided_line_of : {E : Type 0} (r : Result (Option (Vec ℕ Global)) E) (id : RequestId) (a : RunAnswer) (depth : ℕ) (state : StateParts) (u : Undecided) → a ≡ what_is_undecided depth state u →
    IfOk r (λ line. option_map (λ (b : Vec ℕ Global). b.items) line ≡ option_map (λ (t : Data). reply_bytes (result_reply id t)) (aborted_tree depth state u)) → IfOk r (λ line. IsLineOf line (reply_of id a))
undecided_line_of r id a depth state u is l = result_line r id (aborted_tree depth state u) (reply_of id a) (ap (reply_of id) is) l

-- the line of a right answer is that of a right reply
pub line_told : (s : ServedTheory) (id : RequestId) (options : ExecuteOptions) (p : KorePattern) (a : RunAnswer) (o : Option (Vec ℕ Global)) (line : Vec ℕ Global) → state_fault s.theory.signature p ≡ None → IsRightAnswer s.theory (asked_options options) p a →
    o ≡ Some line → IsLineOf o (reply_of id a) → IsReplyLine (IsUnderstoodAs s id options p) line.items
line_told s id options p a o line clear right is e = by (reply_of id a) refl
  where
    by : (r : Option Data) → reply_of id a ≡ r → IsReplyLine (IsUnderstoodAs s id options p) line.items
    by None k = let none : Some line.items ≡ None = sym (ap (option_map (λ (b : Vec ℕ Global). b.items)) is) ∙ (e ∙ ap (option_map reply_bytes) k) in absurd (cc none)
    by (Some reply) k =
        let some : Some line.items ≡ Some (reply_bytes reply) = sym (ap (option_map (λ (b : Vec ℕ Global). b.items)) is) ∙ (e ∙ ap (option_map reply_bytes) k) in
        (reply, told a reply clear right k, cc some)

-- ---- refusals

-- T2
pub untold_line : {E : Type 0} (r : Result (Vec ℕ Global) E) (s : ServedTheory) (id : RequestId) (options : ExecuteOptions) (p : KorePattern) (f : StateFault) → state_fault_view f ≡ not_verified other_shape → IsUntold s options p →
    IfOk r (λ line. line.items ≡ reply_bytes (error_reply id (state_fault_view f))) → IfOk r (λ line. IsReplyLine (IsUnderstoodAs s id options p) line.items)
untold_line r s id options p f t2 why l =
    right_line r (IsUnderstoodAs s id options p) (error_reply id (not_verified other_shape)) (left_out why) (subst (λ x. IfOk r (λ line. line.items ≡ reply_bytes (error_reply id x))) t2 l)

-- T1
pub foreign_line : {E : Type 0} (r : Result (Vec ℕ Global) E) (s : ServedTheory) (id : RequestId) (options : ExecuteOptions) (p : KorePattern) (e : ExecuteError) (name : String Global) → e ≡ error.ForeignSymbol name → IsUnexecuted s.theory.signature p e →
    IfOk r (λ line. line.items ≡ reply_bytes (error_reply id (not_verified (foreign_symbol (string_bytes name))))) → IfOk r (λ line. IsReplyLine (IsUnderstoodAs s id options p) line.items)
foreign_line r s id options p e name is h l =
    right_line r (IsUnderstoodAs s id options p) (error_reply id (not_verified (foreign_symbol (string_bytes name)))) (foreign (string_bytes name) (subst (IsUnexecuted s.theory.signature p) is h)) l

pub other_shape_untold : (s : ServedTheory) (options : ExecuteOptions) (p : KorePattern) (e : ExecuteError) → e ≡ error.OtherShape → IsUnexecuted s.theory.signature p e → IsUntold s options p
other_shape_untold s options p e is h = no_state (subst (IsUnexecuted s.theory.signature p) is h)

pub no_injection_untold : (s : ServedTheory) (options : ExecuteOptions) (p : KorePattern) (e : ExecuteError) → e ≡ error.NoInjection → IsUnexecuted s.theory.signature p e → (TellsNoInjection e → LacksInjection s.theory (asked_options options) p) →
    IsUntold s options p
no_injection_untold s options p e is h wants = no_injection (subst (IsUnexecuted s.theory.signature p) is h) (wants is)

-- ---- signatures

-- what holds over an equal signature
pub clear_over : (g h : KoreSignature) → g ≡ h → (p : KorePattern) → state_fault g p ≡ None → state_fault h p ≡ None
clear_over g h same p c = subst (λ k. state_fault k p ≡ None) same c

pub unexecuted_over : (g h : KoreSignature) → g ≡ h → (p : KorePattern) (e : ExecuteError) → IsUnexecuted g p e → IsUnexecuted h p e
unexecuted_over g h same p e u = subst (λ k. IsUnexecuted k p e) same u

-- the run of what was asked
pub lacks_over : (t : Theory) (o : theory.Options) (q : theory.Options) → o ≡ q → (p : KorePattern) (e : ExecuteError) → (TellsNoInjection e → LacksInjection t o p) → TellsNoInjection e → LacksInjection t q p
lacks_over t o q same p e wants is = subst (λ k. LacksInjection t k p) same (wants is)

-- the answer to what was asked
pub right_over : (t : Theory) (o : theory.Options) (q : theory.Options) → o ≡ q → (p : KorePattern) (a : RunAnswer) → IsRightAnswer t o p a → IsRightAnswer t q p a
right_over t o q same p a h = subst (λ k. IsRightAnswer t k p a) same h
