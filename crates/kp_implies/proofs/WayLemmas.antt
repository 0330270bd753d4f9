-- What is shown, as an answer.
use Rattle.std.specs.Prelude.{ℕ, ◌≤◌, List, Option, min}
use Rattle.std.proofs.Common.{◌≡◌, refl, sym, ◌∙◌, subst, [], ◌∷◌, Some, None}
use Rattle.kp_kore.specs.Syntax.{Text, KorePattern}
use Rattle.kp_kore.specs.Signature.{KoreSignature}
use Rattle.kp_symbolic.specs.Plain.{rough_clauses}
use Rattle.kp_symbolic.specs.States.{Literal, SymbolicState}
use Rattle.kp_symbolic.specs.Shown.{unknown_clauses, weight_passed, most_told}
use Rattle.kp_symbolic.specs.Verdicts.{Weighed, undecided, IsRightVerdict, IsTooHeavy}
use Rattle.kp_symbolic.specs.Endings.{what_is_undecided}
use Rattle.kp_symbolic.specs.View.{clauses_view}
use Rattle.kp_limits.specs.declared.weight.Weighed as code
use Rattle.kp_satisfiability.specs.Answers.{IsWeighedAs}
use Rattle.kp_step.specs.Counted.{most_for}
use Rattle.kp_goals.specs.Consequents.{Consequent, form_of_term}
use Rattle.kp_step.proofs.PlainLemmas.{plain_have}
use Rattle.kp_symbolic.specs.States.{IsClauseTrue}
use Rattle.kp_implies.specs.Open.{IsLeftOpen, own_clauses, own_weight}
use Rattle.kp_implies.specs.Steps.{IsSometimes, IsLeft, by_clauses, by_weight, IsAnswered, IsCompared, IsHeavyLeft}
use Rattle.kp_implies.specs.Told.{IsToldAs, ShowsClauses, ShowsPredicate}
use Rattle.kp_implies.specs.declared.answer.Implication.{Implication}
use Rattle.kp_implies.specs.declared.answer.Implication.TheVariants.{NotValid, Valid, Vacuous, Undecided}
use Rattle.kp_implies.specs.declared.shown.Open.{Open}
use Rattle.kp_implies.proofs.ToldLemmas.{some_shown}

pub clauses_told : (q : KorePattern) (r : Implication) → ShowsPredicate q None r → IsToldAs (what_is_undecided (unknown_clauses q)) r
clauses_told q (Undecided u) h = h
clauses_told q NotValid h = absurd h
clauses_told q (Valid k) h = absurd h
clauses_told q Vacuous h = absurd h

weight_told : (q : KorePattern) (h : Weighed) (r : Implication) → ShowsPredicate q (Some h) r → IsToldAs (what_is_undecided (weight_passed q h.weight (min h.number most_told))) r
weight_told q w (Undecided u) h = h
weight_told q w NotValid h = absurd h
weight_told q w (Valid k) h = absurd h
weight_told q w Vacuous h = absurd h

pub answered_clauses : (g : KoreSignature) (used : List Text) (s : SymbolicState) (k : Consequent) (cs : List (List Literal)) (r : Implication) → (¬ (cs ≡ []) → IsLeftOpen g s k cs None) → ShowsClauses g s.sort cs None r → IsAnswered g used s k r
answered_clauses g used s k cs r left h = record { answer = what_is_undecided (unknown_clauses h.0); is = by_clauses cs h.0 (left (some_shown g s.sort cs h.0 h.1)) h.1; is_told = clauses_told h.0 r h.2 }

pub answered_weight : (g : KoreSignature) (used : List Text) (s : SymbolicState) (k : Consequent) (cs : List (List Literal)) (w : Weighed) (r : Implication) → IsLeftOpen g s k cs (Some w) → ShowsClauses g s.sort cs (Some w) r → IsAnswered g used s k r
answered_weight g used s k cs w r left h = record { answer = what_is_undecided (weight_passed h.0 w.weight (min w.number most_told)); is = by_weight cs w h.0 left h.1; is_told = weight_told h.0 w r h.2 }

-- the state's own clauses
own_by : (g : KoreSignature) (used : List Text) (s : SymbolicState) (k : Consequent) (cs : List (List Literal)) (over : Option Weighed) (r : Implication) → IsRightVerdict g s (undecided cs over) → ShowsClauses g s.sort cs over r → IsAnswered g used s k r
own_by g used s k cs None r right h = answered_clauses g used s k cs r (λ some. subst (λ z. IsLeftOpen g s k z None) (sym right.shown_are) (own_clauses right.plain (λ none. some (right.shown_are ∙ none)))) h
own_by g used s k cs (Some w) r right h = answered_weight g used s k cs w r (subst (λ z. IsLeftOpen g s k z (Some w)) (sym right.shown_are) (own_weight w (subst (λ z. IsTooHeavy g s z w) right.shown_are right))) h

pub own_law : (g : KoreSignature) (used : List Text) (s : SymbolicState) (k : Consequent) (o : Open) (r : Implication) → IsLeft g s o → ((h : Option Weighed) → IsWeighedAs h o.over → ShowsClauses g s.sort (clauses_view o.shown.items) h r) → IsAnswered g used s k r
own_law g used s k o r left shows = own_by g used s k (clauses_view o.shown.items) left.over r left.right (shows left.over left.told)

pub rough_law : (g : KoreSignature) (used : List Text) (s : SymbolicState) (k : Consequent) (cs : List (List Literal)) (r : Implication) → IsSometimes g s → cs ≡ rough_clauses g s → ShowsClauses g s.sort cs None r → IsAnswered g used s k r
rough_law g used s k cs r some e h =
    answered_clauses g used s k cs r
    (λ not_none. subst (λ z. IsLeftOpen g s k z None) (sym e) (own_clauses (record { valuation = some.valuation; sorts = some.sorts; are_true = plain_have g (IsClauseTrue g some.valuation) s some.are_true }) (λ none. not_none (e ∙ none)))) h

-- a part's clauses over a weight
pub none_weighed : (w : Option code.Weighed) → IsWeighedAs None w → w ≡ None
none_weighed None h = refl
none_weighed (Some w) h = absurd h

heavy_by : (g : KoreSignature) (used : List Text) (s : SymbolicState) (k : Consequent) (q : SymbolicState) (cs : List (List Literal)) (n : ℕ) (over : Option Weighed) (w : Option code.Weighed) (r : Implication) → IsWeighedAs over w → IsRightVerdict g q (undecided cs over) → IsCompared g q over n →
    ¬ (w ≡ None) → n ≤ most_for g s (form_of_term g k ∷ []) → IsHeavyLeft g s k q → ShowsClauses g s.sort cs over r → IsAnswered g used s k r
heavy_by g used s k q cs n None w r weighed right compared some within heavy h = absurd (some (none_weighed w weighed))
heavy_by g used s k q cs n (Some x) w r weighed right compared some within heavy h = answered_weight g used s k cs x r (heavy cs x right (subst (λ z. z ≤ most_for g s (form_of_term g k ∷ [])) compared within)) h

pub heavy_law : (g : KoreSignature) (used : List Text) (s : SymbolicState) (k : Consequent) (q : SymbolicState) (o : Open) (r : Implication) → IsLeft g q o → ¬ (o.over ≡ None) → o.compared ≤ most_for g s (form_of_term g k ∷ []) → IsHeavyLeft g s k q →
    ((h : Option Weighed) → IsWeighedAs h o.over → ShowsClauses g s.sort (clauses_view o.shown.items) h r) → IsAnswered g used s k r
heavy_law g used s k q o r left some within heavy shows = heavy_by g used s k q (clauses_view o.shown.items) o.compared left.over o.over r left.told left.right left.compared some within heavy (shows left.over left.told)
