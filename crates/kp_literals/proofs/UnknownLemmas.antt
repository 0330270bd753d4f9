-- The unknowns of forms among the variables of literals.
use Rattle.std.proofs.Common.{◌≡◌, refl, sym, ap, subst, ◌∙◌, Bool, List, [], ◌∷◌, ◌++◌, Option, Some, None}
use Rattle.std.specs.List.{Contains}
use Rattle.kp_kore.specs.Parts.{SortedName}
use Rattle.kp_kore.specs.Signature.{KoreSignature}
use Rattle.kp_kore.proofs.TurnLemmas.{each_member}
use Rattle.kp_symbolic.specs.Terms.{SymbolicTerm, unknown, offset, known, headed, term_variables}
use Rattle.kp_symbolic.specs.WellFormed.{AreAtHand}
use Rattle.kp_literals.specs.Forms.{truth_known}
use Rattle.kp_literals.specs.Unknowns.{unknowns_of, IsSaidOfKind, IsSaidOf, IsSaidAmong}
use Rattle.kp_literals.specs.declared.form.LiteralForm.{LiteralForm}

pub nothing_behind : {X : Type 0} (xs : List X) → xs ++ [] ≡ xs
nothing_behind [] = refl
nothing_behind (x ∷ xs) = ap (λ ys. x ∷ ys) (nothing_behind xs)

-- a truth value has no variables
pub no_variables : (t : SymbolicTerm) (b : Bool) → Some b ≡ truth_known t → term_variables t ≡ []
no_variables (unknown x) b e = absurd (cc)
no_variables (offset x c) b e = absurd (cc)
no_variables (known u) b e = refl
no_variables (headed f ts) b e = absurd (cc)

-- where one of two lists is empty, the other is both
pub of_first : (xs ys : List SortedName) (o : Option LiteralForm) → ys ≡ [] → IsSaidOf xs o → IsSaidOf (xs ++ ys) o
of_first xs ys o e h = subst (λ zs. IsSaidOf zs o) (sym (ap (λ zs. xs ++ zs) e ∙ nothing_behind xs)) h

pub of_second : (xs ys : List SortedName) (o : Option LiteralForm) → xs ≡ [] → IsSaidOf ys o → IsSaidOf (xs ++ ys) o
of_second xs ys o e h = subst (λ zs. IsSaidOf (zs ++ ys) o) (sym e) h

-- what is said of these variables is said among them
pub said_among : (g : KoreSignature) (xs : List SortedName) (o : Option LiteralForm) → IsSaidOfKind g o → IsSaidOf xs o → IsSaidAmong g xs o
said_among g xs (Some f) k e = record { kinds = k; variables = subst (AreAtHand (unknowns_of f)) e (each_member (Contains (unknowns_of f)) (unknowns_of f) (λ x c. c)) }
said_among g xs None k e = record { kinds = tt; variables = tt }
