-- What is answered of the part that a foreign rule's left side meets says whether the rule might rewrite an instance.
use Rattle.std.proofs.Common.{◌≡◌, refl, sym, subst, ℕ, List, [], ◌∷◌, Some, inr}
use Rattle.std.specs.List.{AllByRecursion}
use Rattle.kp_kore.specs.Syntax.{Text}
use Rattle.kp_kore.specs.Signature.{KoreSignature}
use Rattle.kp_kore.specs.Value.{HasSort}
use Rattle.kp_kore.specs.Sorted.{IsSorted}
use Rattle.kp_kore.specs.Rules.{rewrite, ForeignLeft, foreign_rule, RuleBody, RewriteRule}
use Rattle.kp_kore.specs.Theory.{Theory}
use Rattle.kp_kore.specs.Steps.{IsUnknownBy}
use Rattle.kp_symbolic.specs.Terms.{term_variables}
use Rattle.kp_symbolic.specs.States.{SymbolicState}
use Rattle.kp_symbolic.proofs.WellSorted.{term_sorted}
use Rattle.kp_symbolic_laws.specs.Runs.{HasOneSortEach}
use Rattle.kp_symbolic.specs.View.{clauses_view}
use Rattle.kp_rules.specs.Skeletons.{Form, skeleton_view}
use Rattle.kp_rules.specs.declared.skeleton.Skeleton.{Skeleton}
use Rattle.kp_overlap.specs.Overlaps.{MeetsForm}
use Rattle.kp_case_laws.specs.Parts.{StatePart, whole, with_clauses, IsSortedPart, OfEachInstance}
use Rattle.kp_case_laws.specs.Cases.{MetPart}
use Rattle.kp_case_laws.specs.Courses.{form_variables}
use Rattle.kp_case_laws.proofs.PartLemmas.{clauses_restrict}
use Rattle.kp_case_laws.specs.Firing.{AreWhere}
use Rattle.kp_case_laws.proofs.AtHandLemmas.{sorts_of_hand}
use Rattle.kp_unify.specs.Comes.{IsNarrowedFrom}
use Rattle.kp_unify.specs.Narrowed.{NumberedPart}
use Rattle.kp_unify.specs.Way.{IsPartOn, IsMeetable, IsMeeting, IsAllApart}
use Rattle.kp_satisfiability.specs.Read.{HasSortedClauses}
use Rattle.kp_step.specs.Comes.{IsFormOf, ComesFrom, narrowed, fires, itself}
use Rattle.kp_step.specs.ReadyParts.{IsReadyPart, HasInstance, parts_of}
use Rattle.kp_step.proofs.ComesLemmas.{clauses_of_foreign}
use Rattle.kp_step.proofs.ReadyLemmas.{equations_right}
use Rattle.kp_step.proofs.SilentLemmas.{right_ready, ready_on}
use Rattle.kp_step.specs.Counted.{most_for}
use Rattle.kp_step.specs.Meets.{MeetsRule}
use Rattle.kp_step.proofs.CountLemmas.{counted_for, most_of_one}
use Rattle.kp_step.specs.Remainders.{IsOneOf}
use Rattle.kp_step.specs.Places.{IsAt}
use Rattle.kp_step.specs.Ready.{IsWholeReady}
use Rattle.kp_step.specs.Rules.{IsForeignAt}
use Rattle.kp_step.specs.Answers.{IsRightAnswerOf, TellsForeign, IsForeignAnswer}
use Rattle.kp_step.specs.declared.part_answers.PartAnswer as answers
use Rattle.kp_step.specs.declared.part_answers.PartAnswer.TheVariants as answer
use Rattle.kp_step.proofs.DecideLemmas.{shown_of_instance}
use Rattle.kp_step.proofs.CauseLemmas.{open_foreign}
use Rattle.kp_step.proofs.MeetLemmas.{whole_sorted, instance_sort, instance_means, foreign_meets}
use Rattle.kp_step.proofs.ForeignLemmas.{unknown_where, unknown_nowhere, nothing_unknown, meets_foreign}
use Rattle.kp_step.proofs.FoundLemmas.{one_at, at_contains}
use Rattle.kp_step.proofs.SortedLemmas.{sorted_clauses}

pub meetable : (g : KoreSignature) (used : List Text) (left : Form) (q : NumberedPart) → IsReadyPart g used q → HasOneSortEach (form_variables left) → IsMeetable g used left q
meetable g used left q r one = record { told = r.told; sorted = r.sorted; formed = r.safe.formed; begun = r.begun; names = r.names; one = one }

-- the part that is met, with the equations, is one that can be decided
pub met_sorted : (g : KoreSignature) (used : List Text) (left : Form) (p : StatePart) (m : MetPart) (next : ℕ) (apart : List NumberedPart) → IsMeeting g used left p m next apart → HasSortedClauses g (with_clauses m.part m.equations).state
met_sorted g used left p m next apart met =
    let q : NumberedPart = record { part = m.part; next = next } in
    let r = right_ready g used q m.equations (ready_on g used left p q met.cases.divided.below.0 met.here) (equations_right g left m met.equations) in
    sorted_clauses g (with_clauses m.part m.equations).state r.safe.sorted

-- each instance of a part has a sort
each_sorted : (g : KoreSignature) (p : StatePart) → IsSortedPart g p → OfEachInstance g p (λ w c. IsSorted g c)
each_sorted g p k w c h i =
    let s = p.state in
    (s.sort, subst (λ u. HasSort g s.sort u) (sym i.term) (term_sorted g w s.sort s.term k.state.term (sorts_of_hand g w (term_variables s.term) s.variables k.state.term_at_hand h)))

all_sorted : (g : KoreSignature) (used : List Text) (left : Form) (p : StatePart) (qs : List NumberedPart) → AllByRecursion (IsPartOn g used left p) qs → AllByRecursion (λ q. OfEachInstance g q (λ w c. IsSorted g c)) (parts_of qs)
all_sorted g used left p [] h = tt
all_sorted g used left p (q ∷ qs) h = (each_sorted g q.part h.0.sorted, all_sorted g used left p qs h.1)

-- where it is met
met_where : (t : Theory) (used : List Text) (s : SymbolicState) (place : ℕ) (k : Skeleton) (q : NumberedPart) (m : MetPart) (next : ℕ) (apart : List NumberedPart) → IsWholeReady t.signature used s q → (f : IsForeignAt t place k) → IsMeeting t.signature used (skeleton_view k) q.part m next apart →
    AreWhere t.signature (λ c. IsUnknownBy t.signature f.rule.body c) (whole s) (with_clauses m.part m.equations ∷ [])
met_where t used s place k q m next apart w f met =
    let g = t.signature in
    let r = with_clauses m.part m.equations in
    subst (λ b. AreWhere g (λ c. IsUnknownBy g b c) (whole s) (r ∷ [])) (sym f.body)
    (subst (λ p. AreWhere g (λ c. IsUnknownBy g (foreign_rule f.left) c) p (r ∷ [])) w.is
    (unknown_where g f.left (skeleton_view k) q.part r m (parts_of apart) f.stands (each_sorted g m.part met.here.sorted) (all_sorted g used (skeleton_view k) q.part apart met.others) met.cases (clauses_restrict g m.part m.equations)))

-- the part that is met comes of the whole state
met_comes : (t : Theory) (used : List Text) (s : SymbolicState) (place : ℕ) (k : Skeleton) (q : NumberedPart) (m : MetPart) (next : ℕ) (apart : List NumberedPart) → IsWholeReady t.signature used s q → (f : IsForeignAt t place k) → IsMeeting t.signature used (skeleton_view k) q.part m next apart →
    ComesFrom t.signature (IsOneOf (Some f.rule) []) (whole s) (with_clauses m.part m.equations)
met_comes t used s place k q m next apart w f met =
    let g = t.signature in
    fires m.part (foreign_rule f.left) m.equations (narrowed (whole s) m.part (foreign_rule f.left) (skeleton_view k) itself (f.rule, inr refl, f.body) f.stands (subst (λ p. IsNarrowedFrom g (skeleton_view k) p m.part) w.is met.here.narrowed)) (f.rule, inr refl, f.body)
    (clauses_of_foreign g f.left (skeleton_view k) m f.stands met.cases.is_met met.equations)

pub instance_there : (g : KoreSignature) (p : StatePart) → HasInstance g (whole p.state) → HasInstance g p
instance_there g p i = record { valuation = i.valuation; configuration = i.configuration; sorts = i.sorts; met = i.met }

pub tells_met : (t : Theory) (used : List Text) (s : SymbolicState) (place : ℕ) (k : Skeleton) (q : NumberedPart) (m : MetPart) (next : ℕ) (apart : List NumberedPart) (a : answers.PartAnswer) → IsWholeReady t.signature used s q → IsForeignAt t place k → IsMeeting t.signature used (skeleton_view k) q.part m next apart →
    IsForeignAnswer t.signature s (with_clauses m.part m.equations).state (skeleton_view k) a → TellsForeign t s place a
tells_met t used s place k q m next apart answer.Instance w f met h =
    let i = h.0.right in
    let r = with_clauses m.part m.equations in
    (f.rule, f.at, meets_foreign t s f.rule r (at_contains t.rules place f.rule f.at) (met_where t used s place k q m next apart w f met) (instance_there t.signature r i))
tells_met t used s place k q m next apart answer.Nothing w f met h =
    let none = h.0.right in
    let r = with_clauses m.part m.equations in
    λ rule at. subst (λ x. OfEachInstance t.signature (whole s) (λ v c. ¬ IsUnknownBy t.signature x.body c)) (one_at t place f.rule rule f.at at)
    (nothing_unknown t.signature (λ c. IsUnknownBy t.signature f.rule.body c) (whole s) r (met_where t used s place k q m next apart w f met) none)
tells_met t used s place k q m next apart (answer.UndecidedClauses o) w f met h =
    let shows = h.0.right in
    let own = subst (MeetsRule t.signature s) (sym f.body) (foreign_meets t.signature s f.left k f.stands (h.0.meets (λ e. absurd (cc)))) in
    let left = skeleton_view k in
    let form : IsFormOf t.signature f.rule.body left = subst (λ b. IsFormOf t.signature b left) (sym f.body) f.stands in
    let compares = counted_for t.signature s (with_clauses m.part m.equations).state (f.rule ∷ []) (most_for t.signature s (left ∷ [])) shows.0 o.over (most_of_one t.signature s f.rule left form) h.1 shows.1 in
    let r = with_clauses m.part m.equations in
    let shown = shown_of_instance t.signature s r.state (clauses_view o.shown.items) shows.0 w.instance shows.2 in
    (f.rule, f.at, shows.0, shows.1, open_foreign t s f.rule f.left r (clauses_view o.shown.items) shows.0 f.body own (met_where t used s place k q m next apart w f met) (met_comes t used s place k q m next apart w f met) shown compares, f.left, f.body)

-- where nothing is met
pub tells_apart : (t : Theory) (used : List Text) (s : SymbolicState) (place : ℕ) (k : Skeleton) (q : NumberedPart) → IsWholeReady t.signature used s q → IsForeignAt t place k → IsAllApart t.signature (skeleton_view k) q.part → TellsForeign t s place answer.Nothing
tells_apart t used s place k q w f apart rule at =
    let g = t.signature in
    subst (λ x. OfEachInstance g (whole s) (λ v c. ¬ IsUnknownBy g x.body c)) (one_at t place f.rule rule f.at at)
    (subst (λ b. OfEachInstance g (whole s) (λ v c. ¬ IsUnknownBy g b c)) (sym f.body)
    (subst (λ p. OfEachInstance g p (λ v c. ¬ IsUnknownBy g (foreign_rule f.left) c)) w.is
    (unknown_nowhere g f.left (skeleton_view k) q.part (q.part ∷ []) f.stands (each_sorted g q.part w.ready.sorted, tt) apart)))

-- where its left side stands for no value that the state's term may have
pub tells_unmet : (t : Theory) (used : List Text) (s : SymbolicState) (place : ℕ) (k : Skeleton) (q : NumberedPart) (g : KoreSignature) → g ≡ t.signature → IsWholeReady g used s q → IsForeignAt t place k → ¬ MeetsForm g q.part.state.sort q.part.state.term (skeleton_view k) → TellsForeign t s place answer.Nothing
tells_unmet t used s place k q g same ready f unmet rule at =
    let h = t.signature in
    let w = subst (λ x. IsWholeReady x used s q) same ready in
    let none = subst (λ p. ¬ MeetsForm h p.state.sort p.state.term (skeleton_view k)) w.is (subst (λ x. ¬ MeetsForm x q.part.state.sort q.part.state.term (skeleton_view k)) same unmet) in
    let state = whole_sorted h used s q w in
    subst (λ x. OfEachInstance h (whole s) (λ v c. ¬ IsUnknownBy h x.body c)) (one_at t place f.rule rule f.at at)
    (subst (λ b. OfEachInstance h (whole s) (λ v c. ¬ IsUnknownBy h b c)) (sym f.body)
    (λ v c sorts met u.
    let own = instance_sort h s v c state sorts met in
    let a = (f.stands c (s.sort, own)).1 u in
    none (record { value = c; sort = own; of_state = v; is_term = instance_means h s v c state sorts met; of_rule = a.0; is_left = a.1 })))

-- and where the rule isn't foreign
pub tells_read : (t : Theory) (s : SymbolicState) (place : ℕ) → ((r : RewriteRule) (l : ForeignLeft) → IsAt t place r → ¬ (r.body ≡ foreign_rule l)) → TellsForeign t s place answer.Nothing
tells_read t s place none rule at w c h i u = by rule.body refl u
  where
    by : (b : RuleBody) → rule.body ≡ b → IsUnknownBy t.signature b c → ⊥
    by (rewrite m) e f = f
    by (foreign_rule l) e f = none rule l at e

-- of the part as the code has it
pub answer_by : (g : KoreSignature) (s : SymbolicState) (p r x : StatePart) (a : answers.PartAnswer) → p ≡ whole s → r ≡ x → HasSortedClauses g x.state → (HasSortedClauses g r.state → IsRightAnswerOf g p.state r.state a) → IsRightAnswerOf g s x.state a
answer_by g s p r x a e f sorted told =
    subst (λ q. IsRightAnswerOf g q.state x.state a) e (subst (λ q. IsRightAnswerOf g p.state q.state a) f (told (subst (λ q. HasSortedClauses g q.state) (sym f) sorted)))

-- over the setting's signature
pub tells_met_at : (t : Theory) (used : List Text) (s : SymbolicState) (g : KoreSignature) (place : ℕ) (k : Skeleton) (q : NumberedPart) (m : MetPart) (next : ℕ) (apart : List NumberedPart) (a : answers.PartAnswer) → g ≡ t.signature → IsWholeReady g used s q → IsForeignAt t place k → IsMeeting g used (skeleton_view k) q.part m next apart →
    IsForeignAnswer g s (with_clauses m.part m.equations).state (skeleton_view k) a → TellsForeign t s place a
tells_met_at t used s g place k q m next apart a e w f met right =
    tells_met t used s place k q m next apart a (subst (λ h. IsWholeReady h used s q) e w) f (subst (λ h. IsMeeting h used (skeleton_view k) q.part m next apart) e met) (subst (λ h. IsForeignAnswer h s (with_clauses m.part m.equations).state (skeleton_view k) a) e right)

pub tells_apart_at : (t : Theory) (used : List Text) (s : SymbolicState) (g : KoreSignature) (place : ℕ) (k : Skeleton) (q : NumberedPart) → g ≡ t.signature → IsWholeReady g used s q → IsForeignAt t place k → IsAllApart g (skeleton_view k) q.part → TellsForeign t s place answer.Nothing
tells_apart_at t used s g place k q e w f apart = tells_apart t used s place k q (subst (λ h. IsWholeReady h used s q) e w) f (subst (λ h. IsAllApart h (skeleton_view k) q.part) e apart)
