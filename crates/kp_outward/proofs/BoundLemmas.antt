-- What is written for lists of variables and predicates.
use Rattle.std.proofs.Common.{◌≡◌, refl, ap₂, List, [], ◌∷◌, map}
use Rattle.kp_kore.specs.Syntax.{next_pattern}
use Rattle.kp_kore.specs.Signature.{KoreSignature}
use Rattle.kp_kore.specs.View.{view, patterns_view}
use Rattle.kp_kore.specs.declared.pattern.Pattern.{Pattern}
use Rattle.kp_symbolic.specs.Terms.{Replaced}
use Rattle.kp_symbolic.specs.Writing.{variables_of, written_under, all_written_under}
use Rattle.kp_symbolic.specs.View.{variable_view}
use Rattle.kp_symbolic.specs.declared.variable.Variable.{Variable}
use Rattle.kp_outward.specs.Parts.{variable_pattern}

pub variables_are : (ps : List Pattern) (xs : List Variable) → map view ps ≡ map (λ x. variable_pattern (variable_view x)) xs → patterns_view ps ≡ variables_of (map variable_view xs)
variables_are [] [] e = refl
variables_are (p ∷ ps) (x ∷ xs) e = ap₂ next_pattern (cc) (variables_are ps xs (cc))
variables_are [] (x ∷ xs) e = absurd (cc)
variables_are (p ∷ ps) [] e = absurd (cc)

pub all_written : (g : KoreSignature) (rs : List Replaced) (qs ps : List Pattern) → map view qs ≡ map (λ p. written_under g rs (view p)) ps → patterns_view qs ≡ all_written_under g rs (patterns_view ps)
all_written g rs [] [] e = refl
all_written g rs (q ∷ qs) (p ∷ ps) e = ap₂ next_pattern (cc) (all_written g rs qs ps (cc))
all_written g rs [] (p ∷ ps) e = absurd (cc)
all_written g rs (q ∷ qs) [] e = absurd (cc)
