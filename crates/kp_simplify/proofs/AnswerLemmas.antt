-- What is told of a state is one of its answers.
use Rattle.std.proofs.Common.{Vec, subst, ◌≡◌, refl, sym, ap, ◌∙◌, ℕ, List, Option, Some, None, Result, Ok, Err, IfOk}
use Rattle.std.specs.Prelude.{min}
use Rattle.std.specs.Option.{option_map}
use Rattle.std.specs.declared.alloc.Global.{Global}
use Rattle.kp_symbolic.specs.declared.clause.Clause.{Clause}
use Rattle.kp_limits.specs.declared.weight.Weighed as told_weight
use Rattle.kp_kore.specs.Syntax.{KorePattern}
use Rattle.kp_kore.specs.Signature.{KoreSignature}
use Rattle.kp_results.specs.View.{undecided_view}
use Rattle.kp_results.specs.declared.undecided.Undecided as told
use Rattle.kp_kore.specs.Implied.{state, nothing}
use Rattle.kp_symbolic.specs.States.{Literal, SymbolicState}
use Rattle.kp_symbolic.specs.Shown.{unknown_clauses, weight_passed, wide_number, deep, most_told}
use Rattle.kp_symbolic.specs.Verdicts.{Verdict, some_valuation, no_valuation, undecided, Weighed, IsRightVerdict}
use Rattle.kp_symbolic.specs.Writing.{InjectsWhereItStands, written_predicate, written_state}
use Rattle.kp_symbolic.specs.Endings.{answered, what_is_undecided}
use Rattle.kp_symbolic.specs.View.{clauses_view}
use Rattle.kp_satisfiability.specs.Answers as decide
use Rattle.kp_satisfiability.specs.Answers.{IsRightAnswer, IsWeighedAs}
use Rattle.kp_satisfiability.specs.declared.verdict.Verdict.TheVariants as code
use Rattle.kp_limits.specs.Wide.{WideCall, first_wide}
use Rattle.kp_outward.specs.Arranged.{AreArranged, with_clauses}
use Rattle.kp_outward.specs.Errors.{InjectsIfThere}
use Rattle.kp_simplify.specs.Answers.{IsArrangedPredicate, MayBeTrue, empty, wide, rough, heavy, deeper, some, first_deep, state_sides}
use Rattle.kp_simplify.specs.Spelled.{parts_of_cause}
use Rattle.kp_simplify.specs.Told.{IsAnswered, IsSpelledState, IsToldAs, ShowsPredicate, parts_of_call, WantsInjection}
use Rattle.kp_simplify.specs.declared.answer.Simplified.{Simplified}
use Rattle.kp_simplify.specs.declared.answer.Simplified.TheVariants as found

inside : {A : Type 0} {a b : A} → Some a ≡ Some b → a ≡ b
inside e = cc

pub if_ok : {A E : Type 0} (r : Result A E) (P Q : A → Type 0) → ((x : A) → P x → Q x) → IfOk r P → IfOk r Q
if_ok (Ok x) P Q f h = f x h
if_ok (Err e) P Q f h = tt

-- ---- answers

pub none_answered : (g : KoreSignature) (s : SymbolicState) → IsRightVerdict g s no_valuation → IsAnswered g s found.Nothing
none_answered g s h = record { answer = answered (nothing s.sort); is = empty h; is_told = tt; spelled = tt }

wide_here : (g : KoreSignature) (s : SymbolicState) (u : told.Undecided) (o : Option WideCall) → MayBeTrue g s → first_wide g s ≡ o → Some (undecided_view u) ≡ option_map parts_of_call o → IsAnswered g s (found.UndecidedStep u)
wide_here g s u (Some c) may f k = record { answer = what_is_undecided (wide_number c.symbol c.first c.second); is = wide c may f; is_told = inside k; spelled = tt }
wide_here g s u None may f k = absurd (cc)

pub wide_answered : (g : KoreSignature) (s : SymbolicState) (call : Option told.Undecided) (u : told.Undecided) → MayBeTrue g s → call ≡ Some u → option_map undecided_view call ≡ option_map parts_of_call (first_wide g s) → IsAnswered g s (found.UndecidedStep u)
wide_answered g s call u may is e = wide_here g s u (first_wide g s) may refl (sym (ap (option_map undecided_view) is) ∙ e)

no_wide : (o : Option WideCall) → None ≡ option_map parts_of_call o → o ≡ None
no_wide (Some c) k = absurd (cc)
no_wide None k = refl

pub none_wide : (g : KoreSignature) (s : SymbolicState) (call : Option told.Undecided) → call ≡ None → option_map undecided_view call ≡ option_map parts_of_call (first_wide g s) → first_wide g s ≡ None
none_wide g s call is e = no_wide (first_wide g s) (sym (ap (option_map undecided_view) is) ∙ e)

pub deep_answered : (g : KoreSignature) (s : SymbolicState) (n : ℕ) (u : told.Undecided) → (o : Option ℕ) → IsRightVerdict g s some_valuation → first_wide g s ≡ None → o ≡ Some n → o ≡ first_deep g (state_sides s) → undecided_view u ≡ parts_of_cause (deep n) → IsAnswered g s (found.UndecidedStep u)
deep_answered g s n u o right none is e k = record { answer = what_is_undecided (deep n); is = deeper n right none (sym e ∙ is); is_told = k; spelled = tt }

pub written_answered : (g : KoreSignature) (s : SymbolicState) (p : KorePattern) (a : Simplified) → IsToldAs (answered (state p)) a → IsRightVerdict g s some_valuation → first_wide g s ≡ None → first_deep g (state_sides s) ≡ None →
    (ds : List (List Literal)) × AreArranged g s.sort s.clauses ds × (p ≡ written_state g (with_clauses s ds)) → IsSpelledState g s p → IsAnswered g s a
written_answered g s p a is_told h w d is spelled = record { answer = answered (state p); is = some p h w d is; is_told = is_told; spelled = spelled }

-- where a right verdict says something else, the clauses may be true
pub may_by_some : (g : KoreSignature) (s : SymbolicState) → IsRightVerdict g s some_valuation → MayBeTrue g s
may_by_some g s right = (some_valuation, right, other)
  where
    other : some_valuation ≡ no_valuation → ⊥
    other e = cc

pub may_by_open : (g : KoreSignature) (s : SymbolicState) (cs : List (List Literal)) (h : Option Weighed) → IsRightVerdict g s (undecided cs h) → MayBeTrue g s
may_by_open g s cs h right = (undecided cs h, right, other)
  where
    other : undecided cs h ≡ no_valuation → ⊥
    other e = cc

-- ---- clauses that are shown

abbrev IsShownPredicate : KoreSignature → SymbolicState → List (List Literal) → KorePattern → Type 0
IsShownPredicate g s cs p = (ds : List (List Literal)) × AreArranged g s.sort cs ds × (Some p ≡ written_predicate g s.sort ds)

turned : (g : KoreSignature) (s : SymbolicState) (cs : List (List Literal)) (p : KorePattern) → IsShownPredicate g s cs p → IsArrangedPredicate g s.sort cs p
turned g s cs p (ds, arranged, is) = (ds, arranged, sym is)

pub shown_answered : (g : KoreSignature) (s : SymbolicState) (cs : List (List Literal)) (p : KorePattern) (a : Simplified) (h : Option Weighed) → ShowsPredicate p h a →
    IsRightVerdict g s (undecided cs h) → first_wide g s ≡ None → IsShownPredicate g s cs p → IsAnswered g s a
shown_answered g s cs p (found.UndecidedStep u) None e right n is = record { answer = what_is_undecided (unknown_clauses p); is = rough cs p right n (turned g s cs p is); is_told = e; spelled = tt }
shown_answered g s cs p (found.UndecidedStep u) (Some h) e right n is = record { answer = what_is_undecided (weight_passed p h.weight (min h.number most_told)); is = heavy cs h p right n (turned g s cs p is); is_told = e; spelled = tt }
shown_answered g s cs p found.Nothing h e right n is = absurd e
shown_answered g s cs p (found.State q) h e right n is = absurd e

-- ---- answers that want inj

pub state_wants : (g : KoreSignature) (s : SymbolicState) → (ds : List (List Literal)) × AreArranged g s.sort s.clauses ds × (InjectsWhereItStands g (written_state g (with_clauses s ds)) → ⊥) →
    IsRightVerdict g s some_valuation → first_wide g s ≡ None → first_deep g (state_sides s) ≡ None → WantsInjection g s
state_wants g s (ds, arranged, wants) h w d = record {
  answer = answered (state (written_state g (with_clauses s ds)));
  is = some (written_state g (with_clauses s ds)) h w d (ds, arranged, refl);
  wants = wants;
}

-- of some clauses that are shown
predicate_is_wanted : (g : KoreSignature) (s : SymbolicState) (cs : List (List Literal)) (h : Option Weighed) (p : KorePattern) → IsRightVerdict g s (undecided cs h) → first_wide g s ≡ None → IsArrangedPredicate g s.sort cs p → (InjectsWhereItStands g p → ⊥) → WantsInjection g s
predicate_is_wanted g s cs None p right n is wants = record { answer = what_is_undecided (unknown_clauses p); is = rough cs p right n is; wants = wants }
predicate_is_wanted g s cs (Some h) p right n is wants = record { answer = what_is_undecided (weight_passed p h.weight (min h.number most_told)); is = heavy cs h p right n is; wants = wants }

pub predicate_wants : (g : KoreSignature) (s : SymbolicState) (cs : List (List Literal)) → (ds : List (List Literal)) × AreArranged g s.sort cs ds × (InjectsIfThere g (written_predicate g s.sort ds) → ⊥) →
    first_wide g s ≡ None → (h : Option Weighed) → IsRightVerdict g s (undecided cs h) → WantsInjection g s
predicate_wants g s cs (ds, arranged, wants) n h right = by (written_predicate g s.sort ds) refl wants
  where
    by : (o : Option KorePattern) → written_predicate g s.sort ds ≡ o → (InjectsIfThere g o → ⊥) → WantsInjection g s
    by (Some p) e wanted = predicate_is_wanted g s cs h p right n (ds, arranged, e) wanted
    by None e wanted = absurd (wanted tt)

-- ---- what decide tells

told_none : (g : KoreSignature) (s : SymbolicState) (d : Verdict) → IsRightVerdict g s d → decide.IsToldAs d code.NoValuation → IsRightVerdict g s no_valuation
told_none g s no_valuation r t = r
told_none g s some_valuation r t = absurd t
told_none g s (undecided cs h) r t = absurd t

pub right_none : (g : KoreSignature) (s : SymbolicState) → IsRightAnswer g s code.NoValuation → IsRightVerdict g s no_valuation
right_none g s a = told_none g s a.verdict a.right a.is_told

told_some : (g : KoreSignature) (s : SymbolicState) (d : Verdict) → IsRightVerdict g s d → decide.IsToldAs d code.SomeValuation → IsRightVerdict g s some_valuation
told_some g s some_valuation r t = r
told_some g s no_valuation r t = absurd t
told_some g s (undecided cs h) r t = absurd t

pub right_some : (g : KoreSignature) (s : SymbolicState) → IsRightAnswer g s code.SomeValuation → IsRightVerdict g s some_valuation
right_some g s a = told_some g s a.verdict a.right a.is_told

-- the clauses and the weight that are told are those of a right verdict
pub record IsShownOf (g : KoreSignature) (s : SymbolicState) (shown : List (List Literal)) (over : Option told_weight.Weighed) : Type 0 where
  pub weight : Option Weighed
  pub right : IsRightVerdict g s (undecided shown weight)
  pub weighed : IsWeighedAs weight over

told_shown : (g : KoreSignature) (s : SymbolicState) (shown : Vec Clause Global) (over : Option told_weight.Weighed) (d : Verdict) → IsRightVerdict g s d → decide.IsToldAs d (code.Undecided shown over) → IsShownOf g s (clauses_view shown.items) over
told_shown g s shown over (undecided cs h) r t = record { weight = h; right = subst (λ x. IsRightVerdict g s (undecided x h)) t.0 r; weighed = t.1 }
told_shown g s shown over some_valuation r t = absurd t
told_shown g s shown over no_valuation r t = absurd t

pub shown_of : (g : KoreSignature) (s : SymbolicState) (shown : Vec Clause Global) (over : Option told_weight.Weighed) → IsRightAnswer g s (code.Undecided shown over) → IsShownOf g s (clauses_view shown.items) over
shown_of g s shown over a = told_shown g s shown over a.verdict a.right a.is_told
