-- From what was found of a pattern, or is wrong with it, to the line of the reply.
use Rattle.std.proofs.Common.{◌≡◌, refl, sym, ◌∙◌, ap, subst, ℕ, List, Option, Some, None, Result, Ok, Err, Vec, string_bytes}
use Rattle.std.specs.Prelude.{String}
use Rattle.std.specs.Option.{option_map, IsSome}
use Rattle.std.specs.Result.{IfOk}
use Rattle.std.specs.declared.alloc.Global.{Global}
use Rattle.serde_json.specs.Data.{Data}
use Rattle.kp_kore.specs.Syntax.{KoreSort, KorePattern}
use Rattle.kp_kore.specs.Signature.{KoreSignature}
use Rattle.kp_kore.specs.View.{view}
use Rattle.kp_json.specs.Faults.{Reading, read}
use Rattle.kp_kore.specs.Implied as theory
use Rattle.kp_kore.specs.Implied.{state, nothing}
use Rattle.kp_signature.specs.Faults.{fault_view}
use Rattle.kp_signature.specs.Verify as verify
use Rattle.kp_signature.specs.Verify.{VerifiesAs}
use Rattle.kp_signature.specs.declared.error.VerifyError.{VerifyError}
use Rattle.kp_clauses.specs.Faults.{state_fault}
use Rattle.kp_symbolic.specs.Endings.{Result as Answer, answered, what_is_undecided}
use Rattle.kp_symbolic.specs.Shown.{Undecided}
use Rattle.kp_rpc.specs.Request.{RequestId}
use Rattle.kp_rpc.specs.Reply.{foreign_symbol, other_shape, not_verified, error_reply, result_reply, reply_bytes}
use Rattle.kp_rpc.specs.View.{pattern_fault_view, state_fault_view}
use Rattle.kp_rpc.specs.declared.fault.StateFault.{StateFault}
use Rattle.kp_rpc.specs.declared.fault.StateFault.TheVariants as fault
use Rattle.kp_replies.specs.Failures.{Failure, undecided, failure_reply}
use Rattle.kp_replies.specs.Written.{simplified_tree}
use Rattle.kp_results.specs.View.{undecided_view}
use Rattle.kp_methods.specs.Ends.{IsWrongPattern, TellsFault}
use Rattle.kp_methods.specs.RightResults.{NoneLeftOut}
use Rattle.kp_methods.specs.declared.failure.PatternFailure.TheVariants as failure
use Rattle.kp_simplify.specs.Spelled.{parts_of_cause}
use Rattle.kp_simplify.specs.Told.{IsFound, IsToldAs, IsUnsimplified, LacksInjection}
use Rattle.kp_simplify.specs.declared.answer.Simplified.{Simplified}
use Rattle.kp_simplify.specs.declared.answer.Simplified.TheVariants as found
use Rattle.kp_simplify.specs.declared.simplify_pattern.SimplifyError.{SimplifyError}
use Rattle.kp_simplify.specs.declared.simplify_pattern.SimplifyError.TheVariants as error
use Rattle.kp_methods.specs.Simplified.{IsRightAnswer, pattern_of, IsUntold, no_state, no_injection, IsUnderstoodAs, told, foreign, left_out, IsSimplifiedAs, faulty, IsFaultTold, fault_told, IsReplyLine}
use Rattle.kp_methods.proofs.Sorts.{sort_is}

-- ---- lines

-- the line of a reply that is right
pub right_line : {E : Type 0} (r : Result (Vec ℕ Global) E) (IsRight : Data → Type 0) (reply : Data) → IsRight reply → IfOk r (λ line. line.items ≡ reply_bytes reply) → IfOk r (λ line. IsReplyLine IsRight line.items)
right_line (Ok line) IsRight reply h l = (reply, h, l)
right_line (Err e) IsRight reply h l = tt

-- what is right in one way is right in another
pub line_weaker : {E : Type 0} (r : Result (Vec ℕ Global) E) (P Q : Data → Type 0) → ((d : Data) → P d → Q d) → IfOk r (λ line. IsReplyLine P line.items) → IfOk r (λ line. IsReplyLine Q line.items)
line_weaker (Ok line) P Q f l = (l.0, f l.0 l.1, l.2)
line_weaker (Err e) P Q f l = tt

-- the same of what was read, by another name
pub line_of_read : {E : Type 0} (r : Result (Vec ℕ Global) E) (g : KoreSignature) (id : RequestId) (x y : Reading KorePattern) → x ≡ y → IfOk r (λ line. IsReplyLine (IsSimplifiedAs g id y) line.items) → IfOk r (λ line. IsReplyLine (IsSimplifiedAs g id x) line.items)
line_of_read r g id x y same l = subst (λ z. IfOk r (λ line. IsReplyLine (IsSimplifiedAs g id z) line.items)) (sym same) l

-- over an equal signature
pub line_over : {E : Type 0} (r : Result (Vec ℕ Global) E) (g h : KoreSignature) (id : RequestId) (p : KorePattern) (s : KoreSort) → h ≡ g → (VerifiesAs h p s → IfOk r (λ line. IsReplyLine (IsUnderstoodAs h id p) line.items)) →
    VerifiesAs g p s → IfOk r (λ line. IsReplyLine (IsUnderstoodAs g id p) line.items)
line_over r g h id p s same l = subst (λ k. VerifiesAs k p s → IfOk r (λ line. IsReplyLine (IsUnderstoodAs k id p) line.items)) same l

-- ---- verify faults

-- a pattern whose fault is told doesn't verify
pub unverified : (g : KoreSignature) (p : KorePattern) (e : VerifyError) → TellsFault g p e → IsSome (fault_view e) → (s : KoreSort) → VerifiesAs g p s → ⊥
unverified g p e tells told_some s h = by (fault_view e) refl told_some
  where
    by : (o : Option verify.VerifyFault) → fault_view e ≡ o → IsSome o → ⊥
    by (Some f) is k = let both : Some f ≡ None = sym (tells f is) ∙ h.0 in cc
    by None is k = absurd (cc k)

pub fault_line : {E : Type 0} (r : Result (Vec ℕ Global) E) (g : KoreSignature) (p : KorePattern) (id : RequestId) (f : StateFault) → IsWrongPattern g NoneLeftOut p (failure.Fault f) → ((s : KoreSort) → VerifiesAs g p s → ⊥) →
    IfOk r (λ line. line.items ≡ reply_bytes (error_reply id (state_fault_view f))) → IfOk r (λ line. IsReplyLine (IsFaultTold g id p) line.items)
fault_line r g p id (fault.Json f) w fails l = absurd w
fault_line r g p id (fault.Verify f) w fails l =
    right_line r (IsFaultTold g id p) (error_reply id (not_verified (pattern_fault_view f))) (fault_told (pattern_fault_view f) (record { tells = w; unverified = fails })) l
fault_line r g p id (fault.NoModule name) w fails l = absurd w

-- it is a reply to simplify
pub told_fault : (g : KoreSignature) (id : RequestId) (p : KorePattern) (reply : Data) → IsFaultTold g id p reply → IsSimplifiedAs g id (read p) reply
told_fault g id p reply (fault_told f h) = faulty p f h

-- ---- what was found

record Found (g : KoreSignature) (p : KorePattern) (a : Simplified) : Type 0 where
  pub answer : Answer theory.Simplified
  pub right : IsRightAnswer g p answer
  pub is_told : IsToldAs answer a

found_in : (g : KoreSignature) (p : KorePattern) (a : Simplified) → state_fault g p ≡ None → IsFound g p a → Found g p a
found_in g p a clear h = record {
  answer = h.answer;
  right = record { clear = clear; right = h.right; floor = h.floor };
  is_told = h.is_told;
}

pub state_found : (g : KoreSignature) (p : KorePattern) (a : Simplified) (q : _) → a ≡ found.State q → state_fault g p ≡ None → IsFound g p a → (r : theory.Simplified) × IsRightAnswer g p (answered r) × (pattern_of r ≡ view q.value)
state_found g p a q is clear h = let f = found_in g p (found.State q) clear (subst (IsFound g p) is h) in by f.answer f.right f.is_told
  where
    by : (r : Answer theory.Simplified) → IsRightAnswer g p r → IsToldAs r (found.State q) → (t : theory.Simplified) × IsRightAnswer g p (answered t) × (pattern_of t ≡ view q.value)
    by (answered (state x)) right same = (state x, right, same)
    by (answered (nothing s)) right same = absurd same
    by (what_is_undecided cause) right same = absurd same

pub nothing_found : (g : KoreSignature) (p : KorePattern) (a : Simplified) (s : KoreSort) → a ≡ found.Nothing → VerifiesAs g p s → state_fault g p ≡ None → IsFound g p a → IsRightAnswer g p (answered (nothing s))
nothing_found g p a s is verified clear h = let f = found_in g p found.Nothing clear (subst (IsFound g p) is h) in by f.answer f.right f.is_told
  where
    by : (r : Answer theory.Simplified) → IsRightAnswer g p r → IsToldAs r found.Nothing → IsRightAnswer g p (answered (nothing s))
    by (answered (state x)) right same = absurd same
    by (answered (nothing t)) right same = subst (λ k. IsRightAnswer g p (answered (nothing k))) (sort_is g p s t verified right.right.0) right
    by (what_is_undecided cause) right same = absurd same

pub left_open_found : (g : KoreSignature) (p : KorePattern) (a : Simplified) (u : _) → a ≡ found.UndecidedStep u → state_fault g p ≡ None → IsFound g p a → (cause : Undecided) × IsRightAnswer g p (what_is_undecided cause) × (undecided_view u ≡ parts_of_cause cause)
left_open_found g p a u is clear h = let f = found_in g p (found.UndecidedStep u) clear (subst (IsFound g p) is h) in by f.answer f.right f.is_told
  where
    by : (r : Answer theory.Simplified) → IsRightAnswer g p r → IsToldAs r (found.UndecidedStep u) → (cause : Undecided) × IsRightAnswer g p (what_is_undecided cause) × (undecided_view u ≡ parts_of_cause cause)
    by (answered (state x)) right same = absurd same
    by (answered (nothing s)) right same = absurd same
    by (what_is_undecided cause) right same = (cause, right, same)

-- ---- the lines of answers

-- where a line was written, it is that of the tree
written : (x : Option (Vec ℕ Global)) (line : Vec ℕ Global) (make : Data → List ℕ) (o : Option Data) → x ≡ Some line → option_map (λ (b : Vec ℕ Global). b.items) x ≡ option_map make o → (d : Data) × (o ≡ Some d) × (line.items ≡ make d)
written x line make None is e = let none : Some line.items ≡ None = sym (ap (option_map (λ (b : Vec ℕ Global). b.items)) is) ∙ e in absurd (cc none)
written x line make (Some d) is e = let some : Some line.items ≡ Some (make d) = sym (ap (option_map (λ (b : Vec ℕ Global). b.items)) is) ∙ e in (d, refl, cc some)

pub state_told : (g : KoreSignature) (p : KorePattern) (id : RequestId) (r : theory.Simplified) (q : KorePattern) (x : Option (Vec ℕ Global)) (line : Vec ℕ Global) → IsRightAnswer g p (answered r) → pattern_of r ≡ q → x ≡ Some line →
    option_map (λ (b : Vec ℕ Global). b.items) x ≡ option_map (λ (t : Data). reply_bytes (result_reply id t)) (simplified_tree q) → IsReplyLine (IsUnderstoodAs g id p) line.items
state_told g p id r q x line right same is e =
    let t = written x line (λ t. reply_bytes (result_reply id t)) (simplified_tree q) is e in
    (result_reply id t.0, told (answered r) (result_reply id t.0) right (ap (option_map (λ (d : Data). result_reply id d)) (ap simplified_tree same ∙ t.1)), t.2)

pub undecided_told : (g : KoreSignature) (p : KorePattern) (id : RequestId) (cause : Undecided) (f : Failure) (x : Option (Vec ℕ Global)) (line : Vec ℕ Global) → IsRightAnswer g p (what_is_undecided cause) → f ≡ undecided (parts_of_cause cause) → x ≡ Some line →
    option_map (λ (b : Vec ℕ Global). b.items) x ≡ option_map reply_bytes (failure_reply id f) → IsReplyLine (IsUnderstoodAs g id p) line.items
undecided_told g p id cause f x line right same is e =
    let t = written x line reply_bytes (failure_reply id f) is e in
    (t.0, told (what_is_undecided cause) t.0 right (ap (failure_reply id) (sym same) ∙ t.1), t.2)

-- ---- the lines of refusals

-- T2
pub untold_line : {E : Type 0} (r : Result (Vec ℕ Global) E) (g : KoreSignature) (p : KorePattern) (id : RequestId) (f : StateFault) → state_fault_view f ≡ not_verified other_shape → IsUntold g p →
    IfOk r (λ line. line.items ≡ reply_bytes (error_reply id (state_fault_view f))) → IfOk r (λ line. IsReplyLine (IsUnderstoodAs g id p) line.items)
untold_line r g p id f t2 why l =
    right_line r (IsUnderstoodAs g id p) (error_reply id (not_verified other_shape)) (left_out why) (subst (λ x. IfOk r (λ line. line.items ≡ reply_bytes (error_reply id x))) t2 l)

-- T1
pub foreign_line : {E : Type 0} (r : Result (Vec ℕ Global) E) (g : KoreSignature) (p : KorePattern) (id : RequestId) (e : SimplifyError) (name : String Global) → e ≡ error.ForeignSymbol name → IsUnsimplified g p e →
    IfOk r (λ line. line.items ≡ reply_bytes (error_reply id (not_verified (foreign_symbol (string_bytes name))))) → IfOk r (λ line. IsReplyLine (IsUnderstoodAs g id p) line.items)
foreign_line r g p id e name is h l =
    right_line r (IsUnderstoodAs g id p) (error_reply id (not_verified (foreign_symbol (string_bytes name)))) (foreign (string_bytes name) (subst (IsUnsimplified g p) is h)) l

pub other_shape_untold : (g : KoreSignature) (p : KorePattern) (e : SimplifyError) → e ≡ error.OtherShape → IsUnsimplified g p e → IsUntold g p
other_shape_untold g p e is h = no_state (subst (IsUnsimplified g p) is h)

pub no_injection_untold : (g : KoreSignature) (p : KorePattern) (e : SimplifyError) → e ≡ error.NoInjection → IsUnsimplified g p e → LacksInjection g p → IsUntold g p
no_injection_untold g p e is h wants = no_injection (subst (IsUnsimplified g p) is h) wants
