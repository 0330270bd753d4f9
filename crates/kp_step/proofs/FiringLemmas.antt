-- What the code finds of a rule that fires is what a step takes of it.
use Rattle.std.proofs.Common.{◌≡◌, refl, sym, ap, subst, ◌∙◌, ℕ, true, List, [], ◌∷◌, ◌++◌, map, Option, Some, None}
use Rattle.std.specs.List.{AllByRecursion}
use Rattle.kp_kore.specs.Syntax.{Text}
use Rattle.kp_kore.specs.Parts.{SortedName, free_variables}
use Rattle.kp_kore.specs.Signature.{KoreSignature}
use Rattle.kp_kore.specs.Instance.{is_named}
use Rattle.kp_kore.specs.Rules.{Rewrite, rewrite, RewriteRule}
use Rattle.kp_kore.specs.Theory.{Theory}
use Rattle.kp_kore.specs.Steps.{Fires, HasTurn}
use Rattle.kp_kore.proofs.TurnLemmas.{of_member}
use Rattle.kp_symbolic.specs.Terms.{SymbolicTerm, term_variables, Replaced, replacement_for}
use Rattle.kp_symbolic.specs.States.{SymbolicState}
use Rattle.kp_symbolic.specs.WellFormed.{AreAtHand, AreWellPlaced}
use Rattle.kp_symbolic.specs.View.{replaced_view}
use Rattle.kp_rules.specs.Skeletons.{skeleton_view}
use Rattle.kp_rules.specs.Sides.{AreSidesOf}
use Rattle.kp_rules.specs.VerifiedSides.{AreVerifiedSides}
use Rattle.kp_rules.specs.declared.sides.ReadSides.{ReadSides}
use Rattle.kp_case_laws.specs.Parts.{StatePart, whole, OfEachInstance, IsGrown}
use Rattle.kp_case_laws.specs.Courses.{IsBoundTo, form_variables}
use Rattle.kp_case_laws.proofs.PartLemmas.{below_itself}
use Rattle.kp_case_laws.specs.Firing.{AreFiringCases}
use Rattle.kp_case_laws.proofs.AtHandLemmas.{named_member}
use Rattle.kp_unify.specs.Comes.{IsNarrowedFrom}
use Rattle.kp_unify.specs.Way.{AreEquations}
use Rattle.kp_unify.specs.Narrowed.{NumberedPart}
use Rattle.kp_unify.specs.Views.{IsSetting}
use Rattle.kp_unify.specs.declared.part.Setting.{Setting}
use Rattle.kp_step.specs.Comes.{ComesFrom, narrowed, fires, itself}
use Rattle.kp_step.specs.ReadyParts.{IsReadyPart}
use Rattle.kp_step.specs.Firings.{met_of, FiresOn, IsFired}
use Rattle.kp_step.specs.declared.firing.Firing.{Firing}
use Rattle.kp_step.proofs.FiredRules.{left_variables}
use Rattle.kp_step.proofs.SilentLemmas.{fires_nowhere_there}
use Rattle.kp_step.specs.Places.{IsAt, IsReadAs}
use Rattle.kp_step.specs.Ready.{IsWholeReady}
use Rattle.kp_step.specs.Remainders.{IsPartIn}
use Rattle.kp_step.specs.Found.{IsMetIn}
use Rattle.kp_step.specs.Tries.{narrowed_of, IsFiringOf}
use Rattle.kp_step.specs.Answers.{firing_model}
use Rattle.kp_step.proofs.FoundLemmas.{one_at}
use Rattle.kp_step.proofs.RemainderLemmas.{itself_at_hand}

inside : {a b : SymbolicTerm} → Some a ≡ Some b → a ≡ b
inside e = cc

-- a term that stands for a variable of the left side is of variables at hand
one_at_hand : (g : KoreSignature) (m : StatePart) (all : List Replaced) (left : List SortedName) (b : Replaced) → AllByRecursion (IsBoundTo g m all) left → is_named b.name left ≡ true → replacement_for all b.name ≡ Some b.term → AreAtHand (term_variables b.term) m.state.variables
one_at_hand g m all left b bound n once =
    let x = named_member left b.name n in
    let t = of_member (IsBoundTo g m all) left x.member bound x.among in
    let same : t.term ≡ b.term = inside (sym t.bound ∙ ap (replacement_for all) x.name ∙ once) in
    subst (λ u. AreAtHand (term_variables u) m.state.variables) same t.of_sort.term.at_hand

all_at_hand : (g : KoreSignature) (m : StatePart) (all bs : List Replaced) (left : List SortedName) → AllByRecursion (IsBoundTo g m all) left → AllByRecursion (λ b. is_named b.name left ≡ true) bs → AllByRecursion (λ b. replacement_for all b.name ≡ Some b.term) bs →
    AllByRecursion (λ b. AreAtHand (term_variables b.term) m.state.variables) bs
all_at_hand g m all [] left bound n once = tt
all_at_hand g m all (b ∷ bs) left bound n once = (one_at_hand g m all left b bound n.0 once.0, all_at_hand g m all bs left bound n.1 once.1)

-- the bindings of what is met
is_met_in : (t : Theory) (used : List Text) (m : Rewrite) (sides : ReadSides) (p : StatePart) (f : Firing) → AreSidesOf t.signature m sides → AreVerifiedSides t.signature m → FiresOn t.signature used m (skeleton_view sides.left) p f →
    AllByRecursion (λ b. is_named b.name (form_variables (skeleton_view sides.left)) ≡ true) (firing_model f).bindings → IsMetIn t m (firing_model f).bindings (firing_model f).part.part
is_met_in t used m sides p f s v k named =
    let g = t.signature in
    let form = skeleton_view sides.left in
    let bs = (firing_model f).bindings in
    let q = (firing_model f).part.part in
    let same : form_variables form ≡ free_variables m.left = ap form_variables s.form ∙ left_variables g m.left v.left in
    record {
      form = form;
      left = s.left;
      over = s.over_left;
      equations = (firing_model f).equations;
      is_met = k.met.cases.is_met;
      laid = record { equations = (firing_model f).equations; laid = subst (λ x. AreEquations g x (met_of f)) s.form k.met.equations };
      bound = subst (λ xs. AllByRecursion (IsBoundTo g q bs) xs) same k.met.bound;
      at_hand = all_at_hand g q bs bs (form_variables form) k.met.bound named k.met.cases.is_met.once;
      placed = subst (λ xs. AreWellPlaced g bs xs) same k.bound;
      normal = k.met.normal;
    }

-- the part that is met, of the whole state
part_in : (t : Theory) (used : List Text) (s : SymbolicState) (q : NumberedPart) (m : Rewrite) (sides : ReadSides) (f : Firing) → IsWholeReady t.signature used s q → FiresOn t.signature used m (skeleton_view sides.left) q.part f → IsPartIn t.signature used (whole s) (firing_model f).part.part (firing_model f).part
part_in t used s q m sides f w k =
    let r = (firing_model f).part in
    let grown = k.met.here.grown in
    record {
      below = below_itself t.signature r.part k.ready.told;
      at_hand = itself_at_hand r.part.state.variables;
      grown = subst (λ p. IsGrown t.signature used p r.part) w.is grown;
      ready = k.ready;
    }

-- the part where it fires comes of the whole state
fires_from : (t : Theory) (used : List Text) (s : SymbolicState) (q : NumberedPart) (m : Rewrite) (sides : ReadSides) (f : Firing) → IsWholeReady t.signature used s q → FiresOn t.signature used m (skeleton_view sides.left) q.part f → ComesFrom t.signature (λ b. b ≡ rewrite m) (whole s) (narrowed_of (firing_model f)).part
fires_from t used s q m sides f w k =
    let r = (firing_model f).part.part in
    fires r (rewrite m) ((firing_model f).equations ++ (firing_model f).condition) (narrowed (whole s) r (rewrite m) k.firing.of_rule.form itself refl k.firing.of_rule.is_form (subst (λ p. IsNarrowedFrom t.signature k.firing.of_rule.form p r) w.is k.firing.here.narrowed)) refl k.firing.of_rule

pub is_firing : (t : Theory) (used : List Text) (s : SymbolicState) (place : ℕ) (q : NumberedPart) (m : Rewrite) (sides : ReadSides) (f : Firing) → IsWholeReady t.signature used s q → IsReadAs t place m → AreSidesOf t.signature m sides → AreVerifiedSides t.signature m → FiresOn t.signature used m (skeleton_view sides.left) q.part f →
    AllByRecursion (λ b. is_named b.name (form_variables (skeleton_view sides.left)) ≡ true) (firing_model f).bindings → IsFiringOf t used s place (firing_model f)
is_firing t used s place q m sides f w r s' v k named = record {
  rule = r.0;
  at = r.1;
  read = m;
  body = r.2;
  cases = subst (λ p. AreFiringCases t.signature (rewrite m) p (Some (record { part = (firing_model f).part.part; clauses = (firing_model f).equations ++ (firing_model f).condition })) (firing_model f).apart) w.is k.firing.cases;
  is_met = is_met_in t used m sides q.part f s' v k named;
  form = skeleton_view sides.left;
  left = s'.left;
  meets_so = k.met.cases.is_met;
  part = part_in t used s q m sides f w k;
  comes = fires_from t used s q m sides f w k;
  where_met = k.where_met;
  where_it_fires = k.where_it_fires;
}

-- what `fire` tells over the setting's signature
abbrev pub TellsFired : KoreSignature → List Text → Setting → Rewrite → ReadSides → NumberedPart → Option Firing → Type 0
TellsFired g used k m sides q o = IsSetting used k → AreSidesOf g m sides → AreVerifiedSides g m → IsReadyPart g used q → IsFired g used m (skeleton_view sides.left) q.part o

pub firing_at : (t : Theory) (used : List Text) (s : SymbolicState) (g : KoreSignature) (place : ℕ) (q : NumberedPart) (m : Rewrite) (sides : ReadSides) (o : Option Firing) {k : Setting} {f : Firing} → g ≡ t.signature → IsSetting used k → IsWholeReady t.signature used s q → IsReadAs t place m → AreSidesOf t.signature m sides → AreVerifiedSides t.signature m →
    TellsFired g used k m sides q o → o ≡ Some f → AllByRecursion (λ b. is_named b.name (form_variables (skeleton_view sides.left)) ≡ true) (map replaced_view f.bindings.items) → IsFiringOf t used s place (firing_model f)
firing_at t used s g place q m sides o {k} {f} e setting w read sidesof verified told is named =
    let here = subst (λ h. TellsFired h used k m sides q o) e told in
    is_firing t used s place q m sides f w read sidesof verified (subst (IsFired t.signature used m (skeleton_view sides.left) q.part) is (here setting sidesof verified w.ready)) named

pub no_turn_there : (t : Theory) (used : List Text) (s : SymbolicState) (g : KoreSignature) (place : ℕ) (q : NumberedPart) (m : Rewrite) (sides : ReadSides) (o : Option Firing) {k : Setting} → g ≡ t.signature → IsSetting used k → IsWholeReady t.signature used s q → IsReadAs t place m → AreSidesOf t.signature m sides → AreVerifiedSides t.signature m →
    TellsFired g used k m sides q o → o ≡ None → (r : RewriteRule) → IsAt t place r → OfEachInstance t.signature (whole s) (λ w c. ¬ HasTurn t r c)
no_turn_there t used s g place q m sides o {k} e setting w read sidesof verified told is r at =
    let here = subst (λ h. TellsFired h used k m sides q o) e told in
    let none = fires_nowhere_there t.signature (rewrite m) q.part (subst (IsFired t.signature used m (skeleton_view sides.left) q.part) is (here setting sidesof verified w.ready)) in
    let body : r.body ≡ rewrite m = subst (λ x. x.body ≡ rewrite m) (one_at t place read.0 r read.1 at) read.2 in
    λ v c h i turn. subst (λ p. OfEachInstance t.signature p (λ w c. ¬ Fires t.signature (rewrite m) c)) w.is none v c h i (subst (λ b. Fires t.signature b c) body turn.fires)
