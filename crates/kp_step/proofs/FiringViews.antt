-- What the code's firing, and what is met, are seen as.
use Rattle.std.proofs.Common.{◌≡◌, sym, ap₂, subst, ◌∙◌, ℕ, List, [], ◌∷◌, ◌++◌, map, None}
use Rattle.std.specs.List.{AllByRecursion}
use Rattle.kp_kore.specs.Syntax.{Text}
use Rattle.kp_kore.specs.Signature.{KoreSignature}
use Rattle.kp_kore.specs.View.{view}
use Rattle.kp_kore.specs.Rules.{Rewrite, rewrite}
use Rattle.kp_symbolic.proofs.Distribution.{all_first}
use Rattle.kp_rules.specs.Skeletons.{Form, skeleton_view}
use Rattle.kp_rules.specs.LeftForms.{left_form}
use Rattle.kp_rules.specs.LeftSides.{IsLeftSide, IsOverLeft}
use Rattle.kp_rules.specs.Sides.{AreSidesOf}
use Rattle.kp_rules.specs.declared.sides.ReadSides.{ReadSides}
use Rattle.kp_symbolic.specs.View.{clauses_view, replaced_view}
use Rattle.kp_case_laws.specs.Parts.{StatePart}
use Rattle.kp_unify.specs.Narrowed.{NumberedPart}
use Rattle.kp_unify.specs.Views.{part_view, numbered_view, met_view}
use Rattle.kp_case_laws.specs.Firing.{AreFiringCases}
use Rattle.kp_case_laws.proofs.FiringLemmas.{fires_nowhere_else}
use Rattle.kp_unify.specs.Way.{IsAllApart, IsMeetable}
use Rattle.kp_unify.specs.declared.part.Part.{Part}
use Rattle.kp_unify.specs.declared.part.Meeting.{Meeting}
use Rattle.kp_step.specs.Conditions.{condition_clauses}
use Rattle.kp_step.specs.ReadyParts.{IsReadyPart}
use Rattle.kp_step.specs.Silent.{IsFiringOf}
use Rattle.kp_step.specs.Firings.{numbered, met_of, FiresOn}
use Rattle.kp_step.specs.declared.firing.Firing.{Firing}
use Rattle.kp_step.proofs.OpenedWith.{Right}
use Rattle.kp_step.proofs.ReadyLemmas.{IsMetRight, met_fires}
use Rattle.kp_step.proofs.FiredRules.{IsReadyRule}
use Rattle.kp_step.proofs.SilentLemmas.{right_ready, firing_ready}

pub numbered_same : (p q : Part) → part_view p ≡ part_view q → p.next ≡ q.next → numbered_view p ≡ numbered_view q
numbered_same p q e n = ap₂ (λ a k. record { part = a; next = k }) e n

pub numbered_as : (q : Part) (p : StatePart) (next : ℕ) → part_view q ≡ p → q.next ≡ next → numbered_view q ≡ record { part = p; next = next }
numbered_as q p next e n = ap₂ (λ a k. record { part = a; next = k }) e n

-- what was met, and the clauses of the condition, are a firing
fires_so : (g : KoreSignature) (used : List Text) (r : Rewrite) (form : Form) (p : StatePart) (f : Firing) → IsMetRight g used form p (met_of f) f.part.next (numbered f.apart.items) → form ≡ left_form g r.left → IsLeftSide g r form → IsOverLeft r → IsReadyRule g r form →
    clauses_view f.condition.items ≡ condition_clauses g (met_of f).bindings r.condition → FiresOn g used r form p f
fires_so g used r form p f met spelled side over ready condition =
    let q = numbered_view f.part in
    let equations = clauses_view f.equations.items in
    let conditions = clauses_view f.condition.items in
    let firing : IsFiringOf g used (rewrite r) p q (equations ++ conditions) (numbered f.apart.items) =
    subst (λ cs. IsFiringOf g used (rewrite r) p q (equations ++ cs) (numbered f.apart.items)) (sym condition) (met_fires g used r form p (met_of f) f.part.next (numbered f.apart.items) met spelled side over ready) in
    let here = firing_ready g used (rewrite r) p q (equations ++ conditions) (numbered f.apart.items) firing in
    record {
      firing = firing;
      met = met.met;
      bound = met.bound;
      condition = condition;
      ready = here;
      where_met = right_ready g used q equations here (all_first (AllByRecursion (Right g q.part.state.variables)) equations conditions firing.right);
      where_it_fires = right_ready g used q (equations ++ conditions) here firing.right;
    }

-- as the code makes it of what was met
pub made_fires : (g : KoreSignature) (used : List Text) (r : Rewrite) (s : ReadSides) (p : StatePart) (m : Meeting) (f : Firing) → IsMetRight g used (skeleton_view s.left) p (met_view m.met) m.met.part.next (numbered m.apart.items) → AreSidesOf g r s → IsReadyRule g r (skeleton_view s.left) →
    clauses_view f.condition.items ≡ condition_clauses g (met_view m.met).bindings (map view s.condition.items) → f.part ≡ m.met.part → f.equations ≡ m.met.equations → f.bindings ≡ m.met.bindings → f.apart ≡ m.apart → FiresOn g used r (skeleton_view s.left) p f
made_fires g used r s p m f met sides ready condition part equations bindings apart =
    let form = skeleton_view s.left in
    fires_so g used r form p f
    (subst (λ q. IsMetRight g used form p (record { part = part_view q; equations = clauses_view f.equations.items; bindings = map replaced_view f.bindings.items }) q.next (numbered f.apart.items)) (sym part)
    (subst (λ es. IsMetRight g used form p (record { part = part_view m.met.part; equations = clauses_view es.items; bindings = map replaced_view f.bindings.items }) m.met.part.next (numbered f.apart.items)) (sym equations)
    (subst (λ bs. IsMetRight g used form p (record { part = part_view m.met.part; equations = clauses_view m.met.equations.items; bindings = map replaced_view bs.items }) m.met.part.next (numbered f.apart.items)) (sym bindings)
    (subst (λ xs. IsMetRight g used form p (met_view m.met) m.met.part.next (numbered xs.items)) (sym apart) met))))
    sides.form sides.left sides.over_left ready
    (condition ∙ ap₂ (λ bs ps. condition_clauses g (map replaced_view bs.items) ps) (sym bindings) sides.condition)

-- where nothing is met, the rule fires nowhere
pub apart_fires : (g : KoreSignature) (r : Rewrite) (form : Form) (p : StatePart) → IsAllApart g form p → IsLeftSide g r form → AreFiringCases g (rewrite r) p None (p ∷ [])
apart_fires g r form p all left = fires_nowhere_else g r form p (p ∷ []) all left

pub meetable : (g : KoreSignature) (used : List Text) (r : Rewrite) (form : Form) (q : NumberedPart) → IsReadyRule g r form → IsReadyPart g used q → IsMeetable g used form q
meetable g used r form q rule part = record { told = part.told; sorted = part.sorted; formed = part.safe.formed; begun = part.begun; names = part.names; one = rule.one }
