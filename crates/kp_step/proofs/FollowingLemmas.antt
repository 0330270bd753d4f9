-- What is made of a rule's right side and solved follows from the part.
use Rattle.std.proofs.Common.{◌≡◌, refl, sym, ap, subst, ◌∙◌, List, [], ◌∷◌, ◌++◌, map, Some}
use Rattle.std.specs.List.{AllByRecursion}
use Rattle.kp_kore.specs.Syntax.{Text, KoreSort}
use Rattle.kp_kore.specs.Signature.{KoreSignature}
use Rattle.kp_kore.specs.View.{view, sort_view, sorted_variable_view}
use Rattle.kp_kore.specs.Sorting.{sort_of_term}
use Rattle.kp_kore.specs.Value.{Value, HasSort}
use Rattle.kp_kore.specs.Rules.{Rewrite, rewrite}
use Rattle.kp_kore.specs.Steps.{Fires}
use Rattle.kp_kore.specs.Theory.{Theory}
use Rattle.kp_kore.proofs.ListLemmas.{all_map}
use Rattle.kp_symbolic.specs.Terms.{term_variables, Replaced}
use Rattle.kp_symbolic.specs.States.{SymbolicState}
use Rattle.kp_symbolic.specs.Solving.{Solving}
use Rattle.kp_symbolic.specs.WellFormed.{AreAtHand}
use Rattle.kp_symbolic_laws.specs.Runs.{OfEachKept}
use Rattle.kp_symbolic_laws.specs.Kept.{CanBeWritten}
use Rattle.kp_heads.specs.Heads.{HasValue}
use Rattle.kp_solving.specs.Further.{constrained}
use Rattle.kp_rules.specs.VerifiedSides.{AreVerifiedSides}
use Rattle.kp_rules.specs.declared.rule.Rewrite as code
use Rattle.kp_case_laws.specs.Parts.{StatePart, whole, OfEachInstance}
use Rattle.kp_case_laws.proofs.AtHandLemmas.{hand_in_hand}
use Rattle.kp_unify.specs.Narrowed.{NumberedPart}
use Rattle.kp_step.specs.Conditions.{condition_clauses, AreRight}
use Rattle.kp_step.proofs.Excluded.{condition_right, condition_says}
use Rattle.kp_step.specs.Remainders.{IsPartIn}
use Rattle.kp_step.specs.Found.{IsMetIn}
use Rattle.kp_step.specs.Follows.{IsNextOf, kept_bindings}
use Rattle.kp_step.specs.Rules.{IsReadBy}
use Rattle.kp_step.specs.RightSides.{ChosenNew, AreChosen, written_at, moved_state}
use Rattle.kp_step.proofs.EmptyLemmas.{nothing_next}
use Rattle.kp_step.proofs.MadeLemmas.{AreBoundRight, all_of, all_normal, all_ensured, made_ready}
use Rattle.kp_step.proofs.NewLemmas.{IsChosenFor, all_chosen}
use Rattle.kp_step.proofs.RightSideLemmas.{made_state, next_of_part}
use Rattle.kp_step.proofs.SettledLemmas.{settled_part}
use Rattle.kp_step.proofs.VerifiedLemmas.{over_both}

bound_right : (t : Theory) (used : List Text) (s m : StatePart) (q : NumberedPart) (rule : Rewrite) (bs : List Replaced) → IsMetIn t rule bs m → IsPartIn t.signature used s m q → AreBoundRight t.signature rule m q.part bs
bound_right t used s m q rule bs met i = record {
  placed = met.placed;
  bound = met.bound;
  at_hand = all_map (λ b. AreAtHand (term_variables b.term) m.state.variables) (λ b. AreAtHand (term_variables b.term) q.part.state.variables) bs
      (λ b h. hand_in_hand (term_variables b.term) m.state.variables q.part.state.variables h i.at_hand) met.at_hand;
  normal = met.normal;
}

-- the state that is made, by the sort that the right term is written at and the clauses of what the rule ensures
abbrev pub right_state : Theory → Rewrite → NumberedPart → List Replaced → ChosenNew → KoreSort → SymbolicState
right_state t rule q bs c own = made_state t.signature rule q.part bs c (written_at t.signature own q.part.state.sort) (condition_clauses t.signature (all_of rule bs c) rule.ensured)

pub following_is : (t : Theory) (used : List Text) (s m : StatePart) (q : NumberedPart) (rule : Rewrite) (bs : List Replaced) (c : ChosenNew) (own : KoreSort) (x : SymbolicState) → IsMetIn t rule bs m → IsPartIn t.signature used s m q →
    OfEachInstance t.signature q.part (λ w d. Fires t.signature (rewrite rule) d) → AreVerifiedSides t.signature rule → sort_of_term t.signature rule.right ≡ Some own → AllByRecursion (λ y. (u : Value) × HasSort t.signature y.sort u) rule.new_variables →
    AreChosen used rule.new_variables q.next c → OfEachKept t.signature (CanBeWritten t.signature) (right_state t rule q bs c own) → Solving t.signature (right_state t rule q bs c own) x → IsNextOf t.signature used s (rewrite rule) q.part x c.next
following_is t used s m q rule bs c own x met i fires v e values chosen kept run =
    let g = t.signature in
    let hand = q.part.state.variables ++ c.new in
    let rs = all_of rule bs c in
    let over = over_both g rule v in
    let k : IsChosenFor g used q.part.state.variables rule.new_variables c = all_chosen g used q.part.state.variables rule.new_variables q.next c i.ready.begun i.ready.names values chosen in
    let b = bound_right t used s m q rule bs met i in
    let cs = condition_clauses g rs rule.ensured in
    let verified = all_ensured g used rule m q.part bs c rule.ensured b k over.one_sort v.ensured v.ensured_of_both in
    let right : AreRight g hand cs = condition_right g hand rs rule.ensured (all_normal g used rule m q.part bs c b k) verified in
    let ready = made_ready g used rule m q bs c own cs b k over.one_sort v e i.ready right in
    next_of_part t used s m q rule bs c (written_at g own q.part.state.sort) cs x met i fires over values chosen (λ w h. condition_says g hand rs w rule.ensured verified h) refl
    (settled_part g used (record { part = whole (right_state t rule q bs c own); next = c.next }) x ready kept run)

-- ---- by what the code makes

pub values_of : (g : KoreSignature) (m : Rewrite) (w : code.Rewrite) → IsReadBy g m w → AllByRecursion (λ x. HasValue g x.sort) (map sorted_variable_view w.sides.new_variables.items) → AllByRecursion (λ x. HasValue g x.sort) m.new_variables
values_of g m w r h = subst (AllByRecursion (λ x. HasValue g x.sort)) r.sides.new_variables h

pub nothing_by : (g : KoreSignature) (used : List Text) (m : Rewrite) (w : code.Rewrite) (s p : StatePart) (q : NumberedPart) (x : SymbolicState) → IsReadBy g m w → IsPartIn g used s p q → x ≡ constrained q.part.state ([] ∷ []) → ¬ AllByRecursion (λ y. HasValue g y.sort) (map sorted_variable_view w.sides.new_variables.items) →
    IsNextOf g used s (rewrite m) q.part x q.next
nothing_by g used m w s p q x r i e none =
    subst (λ y. IsNextOf g used s (rewrite m) q.part y q.next) (sym e) (nothing_next g used s p q m i (λ h. none (subst (AllByRecursion (λ y. HasValue g y.sort)) (sym r.sides.new_variables) h)))

pub follow_by : (t : Theory) (used : List Text) (s m : StatePart) (g : KoreSignature) (q : NumberedPart) (rule : Rewrite) (w : code.Rewrite) (bs : List Replaced) (c : ChosenNew) (sort : KoreSort) (all : List Replaced) (made x : SymbolicState) → g ≡ t.signature → IsReadBy g rule w → IsMetIn t rule bs m → IsPartIn g used s m q →
    OfEachInstance g q.part (λ v d. Fires g (rewrite rule) d) → AllByRecursion (λ y. HasValue g y.sort) rule.new_variables → AreChosen used (map sorted_variable_view w.sides.new_variables.items) q.next c →
    all ≡ kept_bindings (map sorted_variable_view w.sides.new_variables.items) bs ++ c.bindings → sort ≡ written_at g (sort_view w.right_sort) q.part.state.sort →
    made ≡ constrained (moved_state g q.part all c.new sort (view w.sides.right)) (condition_clauses g all (map view w.sides.ensured.items)) → OfEachKept g (CanBeWritten g) made → Solving g made x → IsNextOf g used s (rewrite rule) q.part x c.next
follow_by t used s m g q rule w bs c sort all made x e r met i fires values chosen alle sorte madee kept run =
    subst (λ h. IsNextOf h used s (rewrite rule) q.part x c.next) (sym e)
    (following_is t used s m q rule bs c (sort_view w.right_sort) x met (at (λ h. IsPartIn h used s m q) i) (at (λ h. OfEachInstance h q.part (λ v d. Fires h (rewrite rule) d)) fires) (at (λ h. IsReadBy h rule w) r).verified (at (λ h. IsReadBy h rule w) r).right_sort
    (at (λ h. AllByRecursion (λ y. HasValue h y.sort) rule.new_variables) values) (subst (λ ys. AreChosen used ys q.next c) r.sides.new_variables chosen)
    (subst (OfEachKept t.signature (CanBeWritten t.signature)) is (at (λ h. OfEachKept h (CanBeWritten h) made) kept)) (subst (λ y. Solving t.signature y x) is (at (λ h. Solving h made x) run)))
  where
    at : (P : KoreSignature → Type 0) → P g → P t.signature
    at P k = subst P e k

    bindings : all ≡ kept_bindings rule.new_variables bs ++ c.bindings
    bindings = alle ∙ ap (λ ys. kept_bindings ys bs ++ c.bindings) r.sides.new_variables

    over : (h : KoreSignature) → g ≡ h → made ≡ made_state h rule q.part bs c (written_at h (sort_view w.right_sort) q.part.state.sort) (condition_clauses h (kept_bindings rule.new_variables bs ++ c.bindings) rule.ensured)
    over h d = madee ∙ ap (λ y. constrained (moved_state g q.part all c.new y (view w.sides.right)) (condition_clauses g all (map view w.sides.ensured.items))) sorte
        ∙ ap (λ y. constrained (moved_state g q.part y c.new (written_at g (sort_view w.right_sort) q.part.state.sort) (view w.sides.right)) (condition_clauses g y (map view w.sides.ensured.items))) bindings
        ∙ ap (λ y. constrained (moved_state g q.part (kept_bindings rule.new_variables bs ++ c.bindings) c.new (written_at g (sort_view w.right_sort) q.part.state.sort) y) (condition_clauses g (kept_bindings rule.new_variables bs ++ c.bindings) (map view w.sides.ensured.items))) r.sides.right
        ∙ ap (λ y. constrained (moved_state g q.part (kept_bindings rule.new_variables bs ++ c.bindings) c.new (written_at g (sort_view w.right_sort) q.part.state.sort) rule.right) (condition_clauses g (kept_bindings rule.new_variables bs ++ c.bindings) y)) r.sides.ensured
        ∙ ap (λ f. made_state f rule q.part bs c (written_at f (sort_view w.right_sort) q.part.state.sort) (condition_clauses f (kept_bindings rule.new_variables bs ++ c.bindings) rule.ensured)) d

    is : made ≡ right_state t rule q bs c (sort_view w.right_sort)
    is = over t.signature e
