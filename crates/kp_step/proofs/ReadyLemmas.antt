-- What a rule's variables stand for, and what the equations of its left side are, where the rule may be tried on a part.
use Rattle.std.proofs.Common.{◌≡◌, refl, sym, subst, ℕ, true, List, [], ◌∷◌, ◌++◌}
use Rattle.std.specs.List.{AllByRecursion, Contains}
use Rattle.kp_kore.specs.Syntax.{Text, KorePattern}
use Rattle.kp_kore.specs.Parts.{SortedName, free_variables}
use Rattle.kp_kore.specs.Signature.{KoreSignature}
use Rattle.kp_kore.specs.Rules.{Rewrite, rewrite}
use Rattle.kp_kore.proofs.TurnLemmas.{of_member}
use Rattle.kp_symbolic.specs.Terms.{term_variables, Replaced, replacement_for}
use Rattle.kp_symbolic.specs.States.{same, variables_for}
use Rattle.kp_symbolic.specs.WellFormed.{IsWellSorted, AreWellPlaced, AreAtHand}
use Rattle.kp_symbolic.specs.Folding.{term_for}
use Rattle.kp_symbolic.specs.Opening.{opened_same}
use Rattle.kp_symbolic.specs.Clauses.{distributed, is_too_large}
use Rattle.kp_symbolic.proofs.Distribution.{all_both}
use Rattle.kp_symbolic.proofs.Facts.{Good, clauses_have, opened_same_good}
use Rattle.kp_symbolic_laws.specs.Safe.{IsSoundQuote}
use Rattle.kp_symbolic_laws.proofs.FormedFacts.{same_formed}
use Rattle.kp_symbolic_laws.proofs.OpenedGood.{by_size}
use Rattle.kp_rules.specs.Skeletons.{Form}
use Rattle.kp_rules.specs.LeftForms.{left_form}
use Rattle.kp_rules.specs.LeftSides.{IsLeftSide, IsOverLeft}
use Rattle.kp_case_laws.specs.Parts.{StatePart}
use Rattle.kp_case_laws.specs.Cases.{MetPart}
use Rattle.kp_case_laws.specs.Courses.{Equality, equality_clauses, all_equality_clauses, form_variables, IsBoundTo, IsSortedEquality}
use Rattle.kp_unify.specs.Narrowed.{NumberedPart}
use Rattle.kp_unify.specs.Way.{IsNormalEquality, IsPlacedEquality, AreEquations, IsMeeting}
use Rattle.kp_step.specs.Conditions.{IsVerifiedOver, condition_clauses, AreRight}
use Rattle.kp_step.specs.ReadyParts.{parts_of}
use Rattle.kp_step.specs.Silent.{IsFiringOf}
use Rattle.kp_step.proofs.OpenedWith.{Sound, Right, both_facts}
use Rattle.kp_step.proofs.Excluded.{condition_right, fires_by_clauses}
use Rattle.kp_step.proofs.FiredRules.{IsConditionOf, IsReadyRule}

abbrev At : List SortedName → SortedName → Type 0
At hand x = Contains hand x

-- the cases of a part, where the left side's variables stand for terms of their sorts by their form
pub record IsMetRight (g : KoreSignature) (used : List Text) (left : Form) (p : StatePart) (m : MetPart) (next : ℕ) (apart : List NumberedPart) : Type 0 where
  pub met : IsMeeting g used left p m next apart
  pub bound : AreWellPlaced g m.bindings (form_variables left)

-- ---- equations

equality_right : (g : KoreSignature) (p : StatePart) (e : Equality) → IsPlacedEquality g e → IsNormalEquality g e → IsSortedEquality g p e → AllByRecursion (AllByRecursion (Right g p.state.variables)) (equality_clauses g e)
equality_right g p e w n o =
    let hand = p.state.variables in
    let f = opened_same g true true e.sort e.left e.right in
    by_size (AllByRecursion (Right g hand)) (is_too_large 0 f) ((record { holds = true; atom = same e.sort e.left e.right } ∷ []) ∷ []) (distributed f)
    (((((w.0, w.1), all_both (At hand) (term_variables e.left) (term_variables e.right) o.0.term.at_hand o.1.term.at_hand), n), tt), tt)
    (clauses_have (Right g hand) f
    (both_facts (Good g hand) (Sound g) f
    (opened_same_good g hand true true e.sort e.left e.right (w.0, o.0.term.at_hand) (w.1, o.1.term.at_hand))
    (same_formed g (IsSoundQuote g) true true e.sort e.left e.right n.0 n.1)))

equalities_right : (g : KoreSignature) (p : StatePart) (es : List Equality) → AllByRecursion (IsPlacedEquality g) es → AllByRecursion (IsNormalEquality g) es → AllByRecursion (IsSortedEquality g p) es → AllByRecursion (AllByRecursion (Right g p.state.variables)) (all_equality_clauses g es)
equalities_right g p [] w n o = tt
equalities_right g p (e ∷ es) w n o = all_both (AllByRecursion (Right g p.state.variables)) (equality_clauses g e) (all_equality_clauses g es) (equality_right g p e w.0 n.0 o.0) (equalities_right g p es w.1 n.1 o.1)

pub equations_right : (g : KoreSignature) (left : Form) (m : MetPart) → AreEquations g left m → AreRight g m.part.state.variables m.equations
equations_right g left m e = subst (AreRight g m.part.state.variables) (sym e.are) (equalities_right g m.part e.equalities e.placed e.normal e.of_sort)

-- ---- bindings

abbrev Each : List Replaced → List SortedName → SortedName → Type 0
Each bs hand x = AreAtHand (variables_for x (replacement_for bs x.name)) hand

abbrev Placed : KoreSignature → List Replaced → SortedName → Type 0
Placed g bs x = IsWellSorted g x.sort (term_for x (replacement_for bs x.name))

one_at_hand : (g : KoreSignature) (p : StatePart) (bs : List Replaced) (x : SortedName) → IsBoundTo g p bs x → Each bs p.state.variables x
one_at_hand g p bs x b = subst (λ o. AreAtHand (variables_for x o) p.state.variables) (sym b.bound) b.of_sort.term.at_hand

all_placed : (g : KoreSignature) (left : Form) (p : StatePart) (bs : List Replaced) (xs : List SortedName) → AreWellPlaced g bs (form_variables left) → AllByRecursion (IsBoundTo g p bs) (form_variables left) → AreAtHand xs (form_variables left) →
    AreWellPlaced g bs xs × AllByRecursion (Each bs p.state.variables) xs
all_placed g left p bs [] w b a = (tt, tt)
all_placed g left p bs (x ∷ xs) w b a =
    let rest = all_placed g left p bs xs w b a.1 in (
      (of_member (Placed g bs) (form_variables left) x w a.0, rest.0),
      (one_at_hand g p bs x (of_member (IsBoundTo g p bs) (form_variables left) x b a.0), rest.1),
    )

verified_over : (g : KoreSignature) (left : Form) (p : StatePart) (bs : List Replaced) (q : KorePattern) → AreWellPlaced g bs (form_variables left) → AllByRecursion (IsBoundTo g p bs) (form_variables left) → IsConditionOf g left q → IsVerifiedOver g p.state.variables bs q
verified_over g left p bs q w b c =
    let k = all_placed g left p bs (free_variables q) w b c.at_hand in
    record { place = c.verified.verified.place; verified = c.verified.verified.faultless; known = c.verified.verified.known; predicate = c.verified.predicate; placed = k.0; at_hand = k.1 }

all_verified : (g : KoreSignature) (left : Form) (p : StatePart) (bs : List Replaced) (qs : List KorePattern) → AreWellPlaced g bs (form_variables left) → AllByRecursion (IsBoundTo g p bs) (form_variables left) → AllByRecursion (IsConditionOf g left) qs →
    AllByRecursion (IsVerifiedOver g p.state.variables bs) qs
all_verified g left p bs [] w b c = tt
all_verified g left p bs (q ∷ qs) w b c = (verified_over g left p bs q w b c.0, all_verified g left p bs qs w b c.1)

-- ---- what was met, with the condition

pub met_fires : (g : KoreSignature) (used : List Text) (r : Rewrite) (left : Form) (p : StatePart) (m : MetPart) (next : ℕ) (apart : List NumberedPart) → IsMetRight g used left p m next apart → left ≡ left_form g r.left → IsLeftSide g r left → IsOverLeft r → IsReadyRule g r left →
    IsFiringOf g used (rewrite r) p (record { part = m.part; next = next }) (m.equations ++ condition_clauses g m.bindings r.condition) apart
met_fires g used r left p m next apart w form side over ready =
    let met = w.met in
    let verified = all_verified g left m.part m.bindings r.condition w.bound met.bound ready.condition in
    record {
      cases = fires_by_clauses g r left p m (parts_of apart) met.cases side over verified;
      here = met.here;
      others = met.others;
      right = all_both (AllByRecursion (Right g m.part.state.variables)) m.equations (condition_clauses g m.bindings r.condition) (equations_right g left m met.equations) (condition_right g m.part.state.variables m.bindings r.condition met.normal verified);
      of_rule = record { form = left; is_form = form; met = m; of_part = refl; is_met = met.cases.is_met; equalities = met.equations; are = refl };
    }
