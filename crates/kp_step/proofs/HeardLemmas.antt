-- What is told of foreign rules, as the code asks for it.
use Rattle.std.proofs.Common.{◌≡◌, refl, sym, ap, subst, ◌∙◌, ℕ, List, [], ◌∷◌, Result, Ok, Err, IfOk}
use Rattle.kp_kore.specs.Syntax.{Text}
use Rattle.kp_kore.specs.Signature.{KoreSignature}
use Rattle.kp_kore.specs.Theory.{Theory}
use Rattle.kp_symbolic.specs.States.{SymbolicState}
use Rattle.kp_rules.specs.Skeletons.{Form, skeleton_view}
use Rattle.kp_rules.specs.declared.skeleton.Skeleton.{Skeleton}
use Rattle.kp_case_laws.specs.Parts.{StatePart, with_clauses, IsPartBelow, IsSortedPart}
use Rattle.kp_case_laws.specs.Cases.{MetPart}
use Rattle.kp_unify.specs.Narrowed.{NumberedPart}
use Rattle.kp_unify.specs.Way.{IsMeeting, IsAllApart}
use Rattle.kp_step.specs.Counted.{most_for, IsCounted}
use Rattle.kp_step.specs.declared.part_answers.UndecidedClauses.{UndecidedClauses}
use Rattle.kp_step.specs.Ready.{IsWholeReady}
use Rattle.kp_step.specs.Rules.{IsForeignAt}
use Rattle.kp_step.specs.Answers.{IsMetAnswer, IsForeignAnswer, TellsWhereMet, TellsForeign, TellsKnown}
use Rattle.kp_step.specs.RightSteps.{IsRightStep}
use Rattle.kp_step.specs.declared.part_answers.PartAnswer as answers
use Rattle.kp_step.specs.declared.part_answers.PartAnswer.TheVariants as answer
use Rattle.kp_step.proofs.AskedLemmas.{met_sorted, tells_met, tells_apart}
use Rattle.kp_step.proofs.MeetLemmas.{clauses_meet, met_answer}

-- what is answered of the part that is met
pub answered_met : (g : KoreSignature) (used : List Text) (s : SymbolicState) (left : Form) (q : NumberedPart) (m : MetPart) (next : ℕ) (apart : List NumberedPart) (r : StatePart) (a : answers.PartAnswer) → IsWholeReady g used s q → IsMeeting g used left q.part m next apart → r ≡ with_clauses m.part m.equations →
    TellsWhereMet g q.part.state r.state left a → IsMetAnswer g s (with_clauses m.part m.equations).state left a
answered_met g used s left q m next apart r a w met e told =
    let sorted = subst (λ p. IsSortedPart g p) w.is w.ready.sorted in
    let below = subst (λ p. IsPartBelow g p m.part) w.is met.cases.divided.below.0 in
    met_answer g g s q.part.state (with_clauses m.part m.equations).state r.state left a refl (ap (λ p. p.state) w.is) (ap (λ p. p.state) e) (met_sorted g used left q.part m next apart met)
    (clauses_meet g s left m.part m.equations m.equations m.bindings sorted.state below met.cases.is_met (λ v h. h)) told

-- where it is left open
pub foreign_open : (g : KoreSignature) (used : List Text) (s : SymbolicState) (left : Form) (q : NumberedPart) (r x : StatePart) (told o : UndecidedClauses) (most : ℕ) → IsWholeReady g used s q → r ≡ x → IsMetAnswer g s x.state left (answer.UndecidedClauses told) → most ≡ most_for g q.part.state (left ∷ []) → o ≡ told → IsCounted g r.state most o.over →
    IsForeignAnswer g s x.state left (answer.UndecidedClauses o)
foreign_open g used s left q r x told o most w e m is same counted = (
  subst (λ y. IsMetAnswer g s x.state left (answer.UndecidedClauses y)) (sym same) m,
  subst (λ n. IsCounted g x.state n o.over) (is ∙ ap (λ p. most_for g p.state (left ∷ [])) w.is) (subst (λ p. IsCounted g p.state most o.over) e counted),
)

-- tells of the rule
pub tells_answer : {E : Type 0} (t : Theory) (used : List Text) (s : SymbolicState) (place : ℕ) (k : Skeleton) (q : NumberedPart) (m : MetPart) (next : ℕ) (apart : List NumberedPart) (g : KoreSignature) (r : Result answers.PartAnswer E) → g ≡ t.signature → IsWholeReady g used s q → IsForeignAt t place k →
    IsMeeting g used (skeleton_view k) q.part m next apart → IfOk r (IsForeignAnswer g s (with_clauses m.part m.equations).state (skeleton_view k)) → IfOk r (TellsForeign t s place)
tells_answer t used s place k q m next apart g (Ok a) e w f met i = tells_met t used s place k q m next apart a (subst (λ h. IsWholeReady h used s q) e w) f (subst (λ h. IsMeeting h used (skeleton_view k) q.part m next apart) e met)
    (subst (λ h. IsForeignAnswer h s (with_clauses m.part m.equations).state (skeleton_view k) a) e i)
tells_answer t used s place k q m next apart g (Err x) e w f met i = tt

pub tells_all_apart : (t : Theory) (used : List Text) (s : SymbolicState) (place : ℕ) (k : Skeleton) (q : NumberedPart) (g : KoreSignature) → g ≡ t.signature → IsWholeReady g used s q → IsForeignAt t place k → IsAllApart g (skeleton_view k) q.part → TellsForeign t s place answer.Nothing
tells_all_apart t used s place k q g e w f apart = tells_apart t used s place k q (subst (λ h. IsWholeReady h used s q) e w) f (subst (λ h. IsAllApart h (skeleton_view k) q.part) e apart)
