-- A course with a term in a variable's place.
use Rattle.std.proofs.Common.{◌≡◌, subst, ap, ap₂, ◌∙◌, List, map}
use Rattle.kp_kore.specs.Signature.{KoreSignature}
use Rattle.kp_symbolic.specs.Terms.{Replaced}
use Rattle.kp_symbolic.specs.Solving.{Equation, replacement}
use Rattle.kp_case_laws.specs.Parts.{StatePart}
use Rattle.kp_case_laws.specs.Courses.{FormPair, Equality, Course, replaced_course}
use Rattle.kp_unify.specs.Replaced.{binding_put, equality_put, pair_put}

abbrev made : StatePart → List Equality → List Replaced → List FormPair → Course
made p es bs ps = record { part = p; equalities = es; bindings = bs; pairs = ps }

pub replaced_is : (g : KoreSignature) (e : Equation) (p : StatePart) (k : Course) (by bs : List Replaced) (es : List Equality) (ps : List FormPair) → by ≡ replacement e →
    bs ≡ map (binding_put g by) k.bindings → es ≡ map (equality_put g by) k.equalities → ps ≡ map (pair_put g by) k.pairs → made p es bs ps ≡ replaced_course g e p k
replaced_is g e p k by bs es ps r b q s =
    ap (λ x. made p x bs ps) (subst (λ y. es ≡ map (equality_put g y) k.equalities) r q)
    ∙ ap₂ (λ x y. made p (map (equality_put g (replacement e)) k.equalities) x y) (subst (λ y. bs ≡ map (binding_put g y) k.bindings) r b) (subst (λ y. ps ≡ map (pair_put g y) k.pairs) r s)
