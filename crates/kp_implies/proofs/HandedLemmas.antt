-- An answer that is handed on.
use Rattle.std.specs.Prelude.{List, Option, Result, Ok, Err, IfOk}
use Rattle.std.proofs.Common.{◌≡◌, ◌≤◌, subst, [], ◌∷◌, None}
use Rattle.kp_kore.specs.Syntax.{Text, KoreSort}
use Rattle.kp_kore.specs.Signature.{KoreSignature}
use Rattle.kp_step.specs.Counted.{most_for}
use Rattle.kp_symbolic.specs.Plain.{rough_clauses}
use Rattle.kp_symbolic.specs.States.{Literal, SymbolicState}
use Rattle.kp_symbolic.specs.Verdicts.{Weighed}
use Rattle.kp_symbolic.specs.View.{clauses_view}
use Rattle.kp_satisfiability.specs.Answers.{IsWeighedAs}
use Rattle.kp_goals.specs.Consequents.{Consequent, form_of_term}
use Rattle.kp_implies.specs.Steps.{IsSometimes, IsLeft, IsHeavyLeft, IsAnswered}
use Rattle.kp_implies.specs.Told.{ShowsClauses}
use Rattle.kp_implies.specs.declared.answer.Implication.{Implication}
use Rattle.kp_implies.specs.declared.shown.Open.{Open}
use Rattle.kp_implies.proofs.WayLemmas.{own_law, rough_law, heavy_law}

pub own_handed : {E : Type 0} (g : KoreSignature) (s : SymbolicState) (o : Open) (sort : KoreSort) (cs : List (List Literal)) (r : Result Implication E) → sort ≡ s.sort → cs ≡ clauses_view o.shown.items →
    IfOk r (λ a. (h : Option Weighed) → IsWeighedAs h o.over → ShowsClauses g sort cs h a) → IfOk r (λ a. (used : List Text) (k : Consequent) → IsLeft g s o → IsAnswered g used s k a)
own_handed g s o sort cs (Ok a) e d h = λ used k left. own_law g used s k o a left (λ w told. subst (λ z. ShowsClauses g z (clauses_view o.shown.items) w a) e (subst (λ z. ShowsClauses g sort z w a) d (h w told)))
own_handed g s o sort cs (Err x) e d h = tt

pub rough_handed : {E : Type 0} (g : KoreSignature) (s : SymbolicState) (sort : KoreSort) (cs : List (List Literal)) (r : Result Implication E) → sort ≡ s.sort → IfOk r (λ a. (h : Option Weighed) → IsWeighedAs h None → ShowsClauses g sort cs h a) →
    IfOk r (λ a. (used : List Text) (k : Consequent) → IsSometimes g s → cs ≡ rough_clauses g s → IsAnswered g used s k a)
rough_handed g s sort cs (Ok a) same h = λ used k some e. rough_law g used s k cs a some e (subst (λ z. ShowsClauses g z cs None a) same (h None tt))
rough_handed g s sort cs (Err x) same h = tt

pub heavy_handed : {E : Type 0} (g : KoreSignature) (s : SymbolicState) (k : Consequent) (o : Open) (sort : KoreSort) (cs : List (List Literal)) (r : Result Implication E) → sort ≡ s.sort → cs ≡ clauses_view o.shown.items → ¬ (o.over ≡ None) →
    o.compared ≤ most_for g s (form_of_term g k ∷ []) → IfOk r (λ a. (h : Option Weighed) → IsWeighedAs h o.over → ShowsClauses g sort cs h a) → IfOk r (λ a. (used : List Text) (q : SymbolicState) → IsLeft g q o → IsHeavyLeft g s k q → IsAnswered g used s k a)
heavy_handed g s k o sort cs (Ok a) e d some within h = λ used q left heavy. heavy_law g used s k q o a left some within heavy (λ w told. subst (λ z. ShowsClauses g z (clauses_view o.shown.items) w a) e (subst (λ z. ShowsClauses g sort z w a) d (h w told)))
heavy_handed g s k o sort cs (Err x) e d some within h = tt
