-- What the parts of a rule read is bound by its left term.
use Rattle.std.proofs.Common.{◌≡◌, refl, sym, subst, Bool, true, false, ◌&&◌, List, [], Option, Some, None}
use Rattle.kp_kore.specs.Syntax.{Text, KorePattern}
use Rattle.kp_kore.specs.Parts.{free_variables}
use Rattle.kp_kore.specs.Signature.{KoreSignature}
use Rattle.kp_kore.specs.Rules as model
use Rattle.kp_ground.specs.Slots.{is_numbered, left_places, left_variables, term_reads, condition_reads}
use Rattle.kp_ground.specs.declared.left_side.CompiledLeft.{CompiledLeft}
use Rattle.kp_ground.specs.declared.term.CompiledTerm.{CompiledTerm}
use Rattle.kp_ground.specs.declared.condition.Condition.{Condition}
use Rattle.kp_compile.specs.Exact.{HasPlacesOf, are_named}
use Rattle.kp_compile.proofs.Reading.{both_so, left_named}
use Rattle.kp_rules.specs.Bodies.{IsChoiceOf}
use Rattle.kp_rules.specs.Bound.{tests_read, is_left_bound, is_right_bound}
use Rattle.kp_rules.specs.declared.right_side.RightSide.{RightSide}
use Rattle.kp_rules.specs.declared.rule.SortTest.{SortTest}

-- the names of a left term that is compiled are its variables'
pub named_by_left : (l : CompiledLeft) (p : KorePattern) (xs : List Text) → xs ≡ left_variables l → HasPlacesOf p l → are_named xs (free_variables p) ≡ true
named_by_left l p xs e places = subst (λ ys. are_named ys (free_variables p) ≡ true) (sym e) (left_named l p places)

pub bound_by_left : (l : CompiledLeft) (xs : List Text) (tests : List SortTest) (condition : Condition) → xs ≡ left_variables l → is_numbered [] (left_places l) ≡ true → tests_read xs tests ≡ true → condition_reads xs condition ≡ true →
    is_left_bound l tests condition ≡ true
bound_by_left l xs tests condition e numbered tested read = both_so _ _ numbered (subst (λ ys. tests_read ys tests && condition_reads ys condition ≡ true) e (both_so _ _ tested read))

-- a rule that chooses keeps its right side
pub right_by_left : (g : KoreSignature) (m : model.Rewrite) (l : CompiledLeft) (xs : List Text) (chooses : Bool) (o : Option RightSide) (t : CompiledTerm) → xs ≡ left_variables l → IsChoiceOf g m chooses o → (chooses ≡ false → term_reads xs t ≡ true) →
    is_right_bound l chooses o t ≡ true
right_by_left g m l xs true (Some s) t e choice reads = refl
right_by_left g m l xs true None t e choice reads = absurd choice
right_by_left g m l xs false (Some s) t e choice reads = absurd choice
right_by_left g m l xs false None t e choice reads = subst (λ ys. term_reads ys t ≡ true) e (reads refl)
