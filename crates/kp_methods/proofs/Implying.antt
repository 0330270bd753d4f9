-- From what was read of two sides, and what was found of them, to the reply to implies.
use Rattle.std.proofs.Common.{◌≡◌, refl, sym, ◌∙◌, ap, subst, ℕ, List, Option, Some, None, Result, Ok, Err, Vec}
use Rattle.std.specs.Option.{option_map}
use Rattle.std.specs.Result.{IfOk}
use Rattle.std.specs.declared.alloc.Global.{Global}
use Rattle.serde_json.specs.Data.{Data}
use Rattle.kp_kore.specs.Syntax.{KoreSort, KorePattern, top, bottom}
use Rattle.kp_kore.specs.Rules.{under_binders}
use Rattle.kp_kore.specs.Signature.{KoreSignature}
use Rattle.kp_kore.specs.View.{sort_view, view}
use Rattle.kp_kore.specs.Implied.{Implied, IsCondition, IsRightImplied, witnessed, vacuous}
use Rattle.kp_kore.specs.Implied as theory
use Rattle.kp_json.specs.Faults.{Reading, read}
use Rattle.kp_signature.specs.Verify.{VerifiesAs}
use Rattle.kp_symbolic.specs.Endings.{Result as Answer, answered, what_is_undecided}
use Rattle.kp_symbolic.specs.Shown.{Undecided}
use Rattle.kp_clauses.specs.Faults as place
use Rattle.kp_rpc.specs.Request.{RequestId}
use Rattle.kp_rpc.specs.Reply.{not_verified, other_shape, error_reply, result_reply, reply_bytes}
use Rattle.kp_rpc.specs.View.{pattern_fault_view, state_fault_view}
use Rattle.kp_rpc.specs.declared.fault.PatternFault.{PatternFault}
use Rattle.kp_rpc.specs.declared.fault.StateFault.{StateFault}
use Rattle.kp_rpc.specs.declared.fault.StateFault.TheVariants as state
use Rattle.kp_replies.specs.Failures.{Failure, bad_sides, undecided, failure_reply}
use Rattle.kp_replies.specs.Written.{implied_tree}
use Rattle.kp_results.specs.View.{undecided_view}
use Rattle.kp_sides.specs.Sides.{SidesFault, AreComparable, side_fault}
use Rattle.kp_sides.specs.View.{sides_fault_view}
use Rattle.kp_simplify.specs.Spelled.{parts_of_cause}
use Rattle.kp_implies.specs.Answers.{IsRightOfSides}
use Rattle.kp_implies.specs.Promises.{IsRightFor}
use Rattle.kp_implies.specs.Told.{IsToldAs, IsUnanswered}
use Rattle.kp_implies.specs.declared.answer.Implication.{Implication}
use Rattle.kp_implies.specs.declared.answer.Implication.TheVariants as found
use Rattle.kp_methods.specs.declared.failure.PatternFailure.TheVariants as failure
use Rattle.kp_methods.specs.declared.implies.Told.{Told}
use Rattle.kp_methods.specs.declared.sides.ImpliesFailure.{ImpliesFailure}
use Rattle.kp_methods.specs.declared.sides.ImpliesFailure.TheVariants as sides
use Rattle.kp_methods.specs.Simplified.{IsReplyLine}
use Rattle.kp_methods.specs.Implied.{IsSideRefusal, IsFaultlessSide, AreFaultless, IsImpliesUntold, IsImpliesError, in_antecedent, in_consequent, untold, told_fault, reply_of, IsImpliedAs, bad_sides as badly, incomparable, told as tells}
use Rattle.kp_methods.specs.ImpliedLines.{IsSidesLine, IsFaultLine, IsTreeFailure, refusal_of, IsSideFailure, IsBothFailure, AreIncomparable, IsSidesFailure, AreChecked, IsToldOf, IsAnswerOf}
use Rattle.kp_methods.proofs.Sorts.{sort_is}

-- ---- failures

-- the antecedent's tree spells no pattern
pub left_unread : (g : KoreSignature) (a c : Reading KorePattern) (f : ImpliesFailure) → IsTreeFailure a f → IsSidesFailure g a c f
left_unread g a c (sides.Side failure.Memory) w = tt
left_unread g a c (sides.Side (failure.Fault f)) w = subst (λ x. IsImpliesError g x c (state_fault_view f)) (sym w.1) w.2
left_unread g a c (sides.Sides f) w = absurd w

-- the consequent's
pub right_unread : (g : KoreSignature) (a c : Reading KorePattern) (p : KorePattern) (f : ImpliesFailure) → a ≡ read p → IsTreeFailure c f → IsSidesFailure g a c f
right_unread g a c p (sides.Side failure.Memory) is w = tt
right_unread g a c p (sides.Side (failure.Fault f)) is w = subst (λ x. IsImpliesError g x c (state_fault_view f)) (sym is) (subst (λ x. IsImpliesError g (read p) x (state_fault_view f)) (sym w.1) w.2)
right_unread g a c p (sides.Sides f) is w = absurd w

-- what holds of the patterns that were read holds of what was read
pub of_read : (g : KoreSignature) (a c : Reading KorePattern) (p q : KorePattern) (f : ImpliesFailure) → a ≡ read p → c ≡ read q → IsSidesFailure g (read p) (read q) f → IsSidesFailure g a c f
of_read g a c p q f is other w = subst (λ x. IsSidesFailure g x c f) (sym is) (subst (λ x. IsSidesFailure g (read p) x f) (sym other) w)

pub told_of_read : (g : KoreSignature) (a c : Reading KorePattern) (p q : KorePattern) (x : Told) → a ≡ read p → c ≡ read q → IsToldOf g (read p) (read q) x → IsToldOf g a c x
told_of_read g a c p q x is other h = subst (λ y. IsToldOf g y c x) (sym is) (subst (λ y. IsToldOf g (read p) y x) (sym other) h)

-- T1 or T2 of a side that verifies
pub refused_side : (g : KoreSignature) (p body : KorePattern) (sort : KoreSort) (f : PatternFault) (x : place.StateFault) → VerifiesAs g p sort → side_fault g body ≡ Some x → pattern_fault_view f ≡ refusal_of x → IsSideFailure g p body (sides.Side (failure.Fault (state.Verify f)))
refused_side g p body sort f (place.foreign_symbol name) verifies found told = subst (IsSideRefusal g p body) (sym told) (sort, verifies, found)
refused_side g p body sort f place.other_shape verifies found told = subst (IsSideRefusal g p body) (sym told) (sort, verifies, found)

pub left_wrong : (g : KoreSignature) (p q : KorePattern) (f : ImpliesFailure) → IsSideFailure g p p f → IsSidesFailure g (read p) (read q) f
left_wrong g p q (sides.Side failure.Memory) w = tt
left_wrong g p q (sides.Side (failure.Fault (state.Json f))) w = absurd w
left_wrong g p q (sides.Side (failure.Fault (state.Verify f))) w = in_antecedent (pattern_fault_view f) w
left_wrong g p q (sides.Side (failure.Fault (state.NoModule name))) w = absurd w
left_wrong g p q (sides.Sides f) w = absurd w

right_wrong : (g : KoreSignature) (p q : KorePattern) (sort : KoreSort) (f : ImpliesFailure) → IsFaultlessSide g p p sort → IsSideFailure g q (under_binders q) f → IsSidesFailure g (read p) (read q) f
right_wrong g p q sort (sides.Side failure.Memory) x w = tt
right_wrong g p q sort (sides.Side (failure.Fault (state.Json f))) x w = absurd w
right_wrong g p q sort (sides.Side (failure.Fault (state.Verify f))) x w = in_consequent sort (pattern_fault_view f) x w
right_wrong g p q sort (sides.Side (failure.Fault (state.NoModule name))) x w = absurd w
right_wrong g p q sort (sides.Sides f) x w = absurd w

pub right_failed : (g : KoreSignature) (p q body : KorePattern) (sort : KoreSort) (f : ImpliesFailure) → body ≡ under_binders q → IsFaultlessSide g p p sort → IsSideFailure g q body f → IsSidesFailure g (read p) (read q) f
right_failed g p q body sort f is x w = right_wrong g p q sort f x (subst (λ b. IsSideFailure g q b f) is w)

-- neither has a fault of its own
pub faultless_sides : (g : KoreSignature) (p q body : KorePattern) (sort other : KoreSort) → body ≡ under_binders q → IsFaultlessSide g p p sort → IsFaultlessSide g q body other → AreFaultless g p q
faultless_sides g p q body sort other is x y = record { sort = sort; other = other; antecedent = x; consequent = subst (λ b. IsFaultlessSide g q b other) is y }

-- both have one together
pub both_wrong : (g : KoreSignature) (p q : KorePattern) (f : ImpliesFailure) → AreFaultless g p q → IsBothFailure g p q f → IsSidesFailure g (read p) (read q) f
both_wrong g p q (sides.Side failure.Memory) x w = tt
both_wrong g p q (sides.Side (failure.Fault f)) x w = absurd w
both_wrong g p q (sides.Sides f) x w = record { left = p; right = q; is_left = refl; is_right = refl; faultless = x; wrong = w }

-- the same over an equal signature
pub wrong_over : (g h : KoreSignature) → g ≡ h → (a c : Reading KorePattern) (f : ImpliesFailure) → IsSidesFailure g a c f → IsSidesFailure h a c f
wrong_over g h same a c f w = subst (λ k. IsSidesFailure k a c f) same w

-- nothing is wrong with both
pub both_checked : (g : KoreSignature) (p q body : KorePattern) (sort other : KoreSort) → body ≡ under_binders q → IsFaultlessSide g p p sort → IsFaultlessSide g q body other → AreComparable g p q → AreChecked g p q sort
both_checked g p q body sort other is x y z = record { faultless = record { sort = sort; other = other; antecedent = x; consequent = subst (λ b. IsFaultlessSide g q b other) is y }; is = refl; comparable = z }

-- T2 of sides without an answer
pub not_told : (g : KoreSignature) (p q : KorePattern) (f : StateFault) → AreFaultless g p q → AreComparable g p q → IsImpliesUntold g → state_fault_view f ≡ not_verified other_shape → IsSidesFailure g (read p) (read q) (sides.Side (failure.Fault f))
not_told g p q f x y w is = subst (λ e. IsImpliesError g (read p) (read q) e) (sym is) (untold x y w)

-- ---- answers

-- a right answer of two patterns that were read
pub answer_of : (g : KoreSignature) (a c : Reading KorePattern) (x : Told) (r : Answer Implied) (h : IsToldOf g a c x) → IsRightOfSides g h.left h.right r → IsAnswerOf g a c r
answer_of g a c x r h right = record { left = h.left; right = h.right; is_left = h.is_left; is_right = h.is_right; faultless = h.faultless; comparable = h.comparable; is_right_answer = right }

-- what is found over an equal signature
pub right_found : (g h : KoreSignature) → h ≡ g → (a c : KorePattern) (sort own : KoreSort) (r : Implication) → own ≡ sort → AreChecked g a c sort →
    ((other : KoreSort) → VerifiesAs h a own → VerifiesAs h c other → side_fault h a ≡ None → side_fault h (under_binders c) ≡ None → AreComparable h a c → IsRightFor h a c r) → IsRightFor g a c r
right_found g h same a c sort own r is x f =
    let verifies : VerifiesAs g a own = subst (VerifiesAs g a) (x.is ∙ sym is) x.faultless.antecedent.verifies in
    subst (λ k. (VerifiesAs k a own → VerifiesAs k c x.faultless.other → side_fault k a ≡ None → side_fault k (under_binders c) ≡ None → AreComparable k a c → IsRightFor k a c r)) same (f x.faultless.other)
    verifies x.faultless.consequent.verifies x.faultless.antecedent.clear x.faultless.consequent.clear x.comparable

pub told_where_checked : (g : KoreSignature) (a c : KorePattern) (x : Told) → AreChecked g a c (sort_view x.sort) → IsRightFor g a c x.found → IsToldOf g (read a) (read c) x
told_where_checked g a c x h f = record { left = a; right = c; is_left = refl; is_right = refl; faultless = h.faultless; comparable = h.comparable; sort = h.is; found = f }

-- the antecedent verifies at the sort that is told
pub verifies_at : (g : KoreSignature) (a c : Reading KorePattern) (x : Told) (h : IsToldOf g a c x) → VerifiesAs g h.left (sort_view x.sort)
verifies_at g a c x h = subst (VerifiesAs g h.left) h.sort h.faultless.antecedent.verifies

pub not_valid_found : (g : KoreSignature) (a c : KorePattern) → IsRightFor g a c found.NotValid → IsRightOfSides g a c (answered theory.not_valid)
not_valid_found g a c f = by f.answer f.is_told f.right
  where
    by : (r : Answer Implied) → IsToldAs r found.NotValid → IsRightOfSides g a c r → IsRightOfSides g a c (answered theory.not_valid)
    by (answered theory.not_valid) t right = right
    by (answered (theory.valid p q)) t right = absurd t
    by (what_is_undecided cause) t right = absurd t

-- the predicate of an implication that isn't vacuous stands at the antecedent's sort
top_is : (g : KoreSignature) (a c p q : KorePattern) (sort s : KoreSort) → VerifiesAs g a sort → p ≡ top s → IsCondition g a c p q → p ≡ top sort
top_is g a c p q sort s verifies is (witnessed t sorted some same told none) = same ∙ ap top (sort_is g a sort t verifies sorted)
top_is g a c p q sort s verifies is (vacuous t sorted none same other) = let both : bottom t ≡ top s = sym same ∙ is in cc

bottom_is : (g : KoreSignature) (a c p q : KorePattern) (sort s : KoreSort) → VerifiesAs g a sort → p ≡ bottom s → IsCondition g a c p q → (p ≡ bottom sort) × (q ≡ top sort)
bottom_is g a c p q sort s verifies is (witnessed t sorted some same told none) = let both : top t ≡ bottom s = sym same ∙ is in cc
bottom_is g a c p q sort s verifies is (vacuous t sorted none same other) = (same ∙ ap bottom (sort_is g a sort t verifies sorted), other ∙ ap top (sort_is g a sort t verifies sorted))

right_at : (g : KoreSignature) (a c p q x y : KorePattern) → p ≡ x → q ≡ y → IsRightImplied g a c (theory.valid p q) → IsRightImplied g a c (theory.valid x y)
right_at g a c p q x y e f h = subst (λ z. IsRightImplied g a c (theory.valid z y)) e (subst (λ z. IsRightImplied g a c (theory.valid p z)) f h)

pub valid_found : (g : KoreSignature) (a c : KorePattern) (sort : KoreSort) (k : _) → VerifiesAs g a sort → IsRightFor g a c (found.Valid k) → IsRightOfSides g a c (answered (theory.valid (top sort) (view k.value)))
valid_found g a c sort k verifies f = by f.answer f.is_told f.right
  where
    by : (r : Answer Implied) → IsToldAs r (found.Valid k) → IsRightOfSides g a c r → IsRightOfSides g a c (answered (theory.valid (top sort) (view k.value)))
    by (answered theory.not_valid) t right = absurd t
    by (answered (theory.valid p q)) t right = right_at g a c p q (top sort) (view k.value) (top_is g a c p q sort t.0.0 verifies t.0.1 right.1) t.1 right
    by (what_is_undecided cause) t right = absurd t

pub vacuous_found : (g : KoreSignature) (a c : KorePattern) (sort : KoreSort) → VerifiesAs g a sort → IsRightFor g a c found.Vacuous → IsRightOfSides g a c (answered (theory.valid (bottom sort) (top sort)))
vacuous_found g a c sort verifies f = by f.answer f.is_told f.right
  where
    by : (r : Answer Implied) → IsToldAs r found.Vacuous → IsRightOfSides g a c r → IsRightOfSides g a c (answered (theory.valid (bottom sort) (top sort)))
    by (answered theory.not_valid) t right = absurd t
    by (answered (theory.valid p q)) t right = let b = bottom_is g a c p q sort t.0 verifies t.1 right.1 in right_at g a c p q (bottom sort) (top sort) b.0 b.1 right
    by (what_is_undecided cause) t right = absurd t

pub undecided_found : (g : KoreSignature) (a c : KorePattern) (u : _) → IsRightFor g a c (found.Undecided u) → (cause : Undecided) × IsRightOfSides g a c (what_is_undecided cause) × (undecided_view u ≡ parts_of_cause cause)
undecided_found g a c u f = by f.answer f.is_told f.right
  where
    by : (r : Answer Implied) → IsToldAs r (found.Undecided u) → IsRightOfSides g a c r → (cause : Undecided) × IsRightOfSides g a c (what_is_undecided cause) × (undecided_view u ≡ parts_of_cause cause)
    by (answered theory.not_valid) t right = absurd t
    by (answered (theory.valid p q)) t right = absurd t
    by (what_is_undecided cause) t right = (cause, right, t)

-- ---- lines

-- the reply that tells a right answer
told_reply_of : (g : KoreSignature) (id : RequestId) (a c : Reading KorePattern) (r : Answer Implied) (reply : Data) → IsAnswerOf g a c r → reply_of id r ≡ Some reply → IsImpliedAs g id a c reply
told_reply_of g id a c r reply h made =
    subst (λ x. IsImpliedAs g id x c reply) (sym h.is_left) (subst (λ x. IsImpliedAs g id (read h.left) x reply) (sym h.is_right) (tells h.left h.right r reply h.faultless h.comparable h.is_right_answer made))

-- the line that was written for it
pub answer_line : (g : KoreSignature) (id : RequestId) (a c : Reading KorePattern) (r : Answer Implied) (o : Option (Vec ℕ Global)) (line : Vec ℕ Global) → IsAnswerOf g a c r → o ≡ Some line →
    option_map (λ (b : Vec ℕ Global). b.items) o ≡ option_map reply_bytes (reply_of id r) → IsReplyLine (IsImpliedAs g id a c) line.items
answer_line g id a c r o line h is told = by (reply_of id r) refl (sym (ap (option_map (λ (b : Vec ℕ Global). b.items)) is) ∙ told)
  where
    by : (x : Option Data) → reply_of id r ≡ x → Some line.items ≡ option_map reply_bytes x → IsReplyLine (IsImpliedAs g id a c) line.items
    by None made e = absurd (cc e)
    by (Some reply) made e = (reply, told_reply_of g id a c r reply h made, cc e)

-- a result's bytes are those of its reply
pub result_bytes : (id : RequestId) (r : Implied) → option_map (λ (t : Data). reply_bytes (result_reply id t)) (implied_tree r) ≡ option_map reply_bytes (reply_of id (answered r))
result_bytes id r = by (implied_tree r)
  where
    by : (x : Option Data) → option_map (λ (t : Data). reply_bytes (result_reply id t)) x ≡ option_map reply_bytes (option_map (λ t. result_reply id t) x)
    by None = refl
    by (Some t) = refl

incomparable_line : (g : KoreSignature) (id : RequestId) (a c : Reading KorePattern) (f : SidesFault) (reply : Data) → AreIncomparable g a c f → failure_reply id (bad_sides (told_fault f)) ≡ Some reply → IsImpliedAs g id a c reply
incomparable_line g id a c f reply h made =
    subst (λ x. IsImpliedAs g id x c reply) (sym h.is_left) (subst (λ x. IsImpliedAs g id (read h.left) x reply) (sym h.is_right) (incomparable h.left h.right f reply h.faultless h.wrong made))

pub sides_line_is_right : (g : KoreSignature) (id : RequestId) (a c : Reading KorePattern) (f : ImpliesFailure) → IsSidesFailure g a c f → (line : List ℕ) → IsFaultLine id f line → IsReplyLine (IsImpliedAs g id a c) line
sides_line_is_right g id a c (sides.Side failure.Memory) w line l = absurd l
sides_line_is_right g id a c (sides.Side (failure.Fault f)) w line l = (error_reply id (state_fault_view f), badly a c (state_fault_view f) w, l)
sides_line_is_right g id a c (sides.Sides f) w line l = (l.0, incomparable_line g id a c (sides_fault_view f) l.0 w l.1, l.2)

-- the line of a fault of both sides
told_reply : (id : RequestId) (f : SidesFault) → (d : Data) × (failure_reply id (bad_sides (told_fault f)) ≡ Some d)
told_reply id f = (_, refl)

pub bad_sides_line : (id : RequestId) (f : SidesFault) (x : Failure) (o : Option (Vec ℕ Global)) (line : Vec ℕ Global) → x ≡ bad_sides (told_fault f) → o ≡ Some line →
    option_map (λ (b : Vec ℕ Global). b.items) o ≡ option_map reply_bytes (failure_reply id x) → IsSidesLine id f line.items
bad_sides_line id f x o line same is told =
    let d = told_reply id f in
    let one : Some line.items ≡ Some (reply_bytes d.0) =
    sym (ap (option_map (λ (b : Vec ℕ Global). b.items)) is) ∙ (told ∙ (ap (λ y. option_map reply_bytes (failure_reply id y)) same ∙ ap (option_map reply_bytes) d.1)) in
    (d.0, d.1, cc one)

pub bad_sides_have_a_line : (id : RequestId) (f : SidesFault) (x : Failure) (o : Option (Vec ℕ Global)) → x ≡ bad_sides (told_fault f) →
    option_map (λ (b : Vec ℕ Global). b.items) o ≡ option_map reply_bytes (failure_reply id x) → o ≡ None → ⊥
bad_sides_have_a_line id f x o same told none =
    let d = told_reply id f in
    let one : None ≡ Some (reply_bytes d.0) =
    sym (ap (option_map (λ (b : Vec ℕ Global). b.items)) none) ∙ (told ∙ (ap (λ y. option_map reply_bytes (failure_reply id y)) same ∙ ap (option_map reply_bytes) d.1)) in
    absurd (cc one)
