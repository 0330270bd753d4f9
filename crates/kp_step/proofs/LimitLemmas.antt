-- Which limit is passed by a state, and by one of two lists of states, one behind the other.
use Rattle.std.proofs.Common.{◌≡◌, refl, sym, ap, ◌∙◌, subst, ℕ, ◌+◌, ◌<◌, length, get_or, drop, map, List, [], ◌∷◌, ◌++◌, Option, Some, None, inl, inr}
use Rattle.std.specs.Option.{option_map}
use Rattle.std.specs.Prelude.{Result, Ok, Err, IfOk, MatchOption}
use Rattle.std.specs.List.{AllByRecursion}
use Rattle.kp_kore.specs.Signature.{KoreSignature}
use Rattle.kp_kore.proofs.ListLemmas.{all_append}
use Rattle.kp_symbolic.specs.States.{SymbolicState}
use Rattle.kp_symbolic.specs.View.{clauses_view}
use Rattle.kp_symbolic.specs.declared.clause.Clause.{Clause}
use Rattle.kp_limits.specs.Wide.{WideCall, first_wide}
use Rattle.kp_simplify.specs.Answers.{first_deep, state_sides}
use Rattle.kp_step.specs.Limits.{TermLimit, number, depth, Passes, PassesNone, IsFirstPassed, with_more}
use Rattle.kp_step.specs.Views.{limit_view}
use Rattle.kp_step.specs.declared.outcome.StepLimit.{StepLimit}
use Rattle.kp_step.proofs.LoopLemmas.{waiting_views}

-- what is told of a state
abbrev pub TellsLimit : KoreSignature → SymbolicState → Option StepLimit → Type 0
TellsLimit g s o = MatchOption o (PassesNone g s) (λ l. Passes g s (limit_view l))

pub told_with : (g : KoreSignature) (s : SymbolicState) (o : Option StepLimit) (some these : List Clause) → some ≡ these → TellsLimit g (with_more s (clauses_view some)) o → TellsLimit g (with_more s (clauses_view these)) o
told_with g s o some these e t = subst (λ cs. TellsLimit g (with_more s (clauses_view cs)) o) e t

pub passes_here : (g : KoreSignature) (s : SymbolicState) (o : Option StepLimit) (l : StepLimit) → o ≡ Some l → TellsLimit g s o → Passes g s (limit_view l)
passes_here g s o l e t = subst (TellsLimit g s) e t

pub passes_none : (g : KoreSignature) (s : SymbolicState) (o : Option StepLimit) → o ≡ None → TellsLimit g s o → PassesNone g s
passes_none g s o e t = subst (TellsLimit g s) e t

-- ---- a number before the depth

inside : {A : Type 0} {a b : A} → Some a ≡ Some b → a ≡ b
inside e = cc

pub passes_wide : (g : KoreSignature) (s : SymbolicState) (o : Option StepLimit) (l : StepLimit) → o ≡ Some l → option_map limit_view o ≡ option_map number (first_wide g s) → Passes g s (limit_view l)
passes_wide g s o l e k = by (first_wide g s) refl (sym (ap (option_map limit_view) e) ∙ k)
  where
    by : (d : Option WideCall) → first_wide g s ≡ d → Some (limit_view l) ≡ option_map number d → Passes g s (limit_view l)
    by None h f = absurd (cc)
    by (Some c) h f = subst (Passes g s) (sym (inside f)) h

none_of : (d : Option WideCall) → None ≡ option_map number d → d ≡ None
none_of None e = refl
none_of (Some c) e = absurd (cc)

pub none_wide : (g : KoreSignature) (s : SymbolicState) (o : Option StepLimit) → o ≡ None → option_map limit_view o ≡ option_map number (first_wide g s) → first_wide g s ≡ None
none_wide g s o e k = none_of (first_wide g s) (sym (ap (option_map limit_view) e) ∙ k)

tells_depth : (g : KoreSignature) (s : SymbolicState) (o : Option StepLimit) → first_wide g s ≡ None → option_map limit_view o ≡ option_map depth (first_deep g (state_sides s)) → TellsLimit g s o
tells_depth g s o none k = by o (first_deep g (state_sides s)) refl k
  where
    by : (d : Option StepLimit) (m : Option ℕ) → first_deep g (state_sides s) ≡ m → option_map limit_view d ≡ option_map depth m → TellsLimit g s d
    by None None h f = (none, h)
    by None (Some n) h f = absurd (cc)
    by (Some l) None h f = absurd (cc)
    by (Some l) (Some n) h f = subst (Passes g s) (sym (inside f)) (none, h)

pub depth_told : {E : Type 0} (g : KoreSignature) (s : SymbolicState) (r : Result (Option StepLimit) E) → first_wide g s ≡ None → IfOk r (λ o. option_map limit_view o ≡ option_map depth (first_deep g (state_sides s))) → IfOk r (TellsLimit g s)
depth_told g s (Ok o) none k = tells_depth g s o none k
depth_told g s (Err e) none k = tt

-- ---- of some states, one behind the other

pub first_more : {A : Type 0} (g : KoreSignature) (v : A → SymbolicState) (xs : List A) (i : ℕ) (x : A) (l : TermLimit) → i < length xs → x ≡ get_or xs i x → PassesNone g (v x) → (IsFirstPassed g (map v (drop i xs)) l → IsFirstPassed g (map v xs) l) → IsFirstPassed g (map v (drop (i + 1) xs)) l → IsFirstPassed g (map v xs) l
first_more g v xs i x l h e n f rest = f (subst (λ ss. IsFirstPassed g ss l) (sym (waiting_views v xs i x h e)) (inr (n, rest)))

pub first_here : {A : Type 0} (g : KoreSignature) (v : A → SymbolicState) (xs : List A) (i : ℕ) (x : A) (l : TermLimit) → i < length xs → x ≡ get_or xs i x → Passes g (v x) l → (IsFirstPassed g (map v (drop i xs)) l → IsFirstPassed g (map v xs) l) → IsFirstPassed g (map v xs) l
first_here g v xs i x l h e p f = f (subst (λ ss. IsFirstPassed g ss l) (sym (waiting_views v xs i x h e)) (inl p))

pub first_left : (g : KoreSignature) (l : TermLimit) (xs ys : List SymbolicState) → IsFirstPassed g xs l → IsFirstPassed g (xs ++ ys) l
first_left g l [] ys p = absurd p
first_left g l (x ∷ xs) ys (inl p) = inl p
first_left g l (x ∷ xs) ys (inr p) = inr (p.0, first_left g l xs ys p.1)

first_right : (g : KoreSignature) (l : TermLimit) (xs ys : List SymbolicState) → AllByRecursion (λ x. PassesNone g x) xs → IsFirstPassed g ys l → IsFirstPassed g (xs ++ ys) l
first_right g l [] ys n p = p
first_right g l (x ∷ xs) ys n p = inr (n.0, first_right g l xs ys n.1 p)

pub passed_by_rest : {E : Type 0} (r : Result (Option StepLimit) E) (g : KoreSignature) (xs ys : List SymbolicState) → AllByRecursion (λ x. PassesNone g x) xs → IfOk r (λ o. MatchOption o (AllByRecursion (λ x. PassesNone g x) ys) (λ l. IsFirstPassed g ys (limit_view l))) →
    IfOk r (λ o. MatchOption o (AllByRecursion (λ x. PassesNone g x) (xs ++ ys)) (λ l. IsFirstPassed g (xs ++ ys) (limit_view l)))
passed_by_rest (Ok None) g xs ys n h = all_append (λ x. PassesNone g x) xs ys n h
passed_by_rest (Ok (Some l)) g xs ys n h = first_right g (limit_view l) xs ys n h
passed_by_rest (Err e) g xs ys n h = tt
