-- What is asked of the heads of variables.
use Rattle.std.specs.Prelude.{List, [], ◌∷◌, Option, Some, ⊤}
use Rattle.std.specs.List.{AllByRecursion, flat_map}
use Rattle.kp_kore.specs.Parts.{SortedName}
use Rattle.kp_kore.specs.Signature.{KoreSignature}
use Rattle.kp_kore.specs.Instance.{Valuation, GivesSorts}
use Rattle.kp_symbolic.specs.Plain.{Form, asks, ReadLiteral}
use Rattle.kp_clause_demands.specs.Saying.{Says}

-- the variable whose head is asked for
abbrev pub asked_of : Option Form → List SortedName
asked_of (Some (asks x test b)) = x ∷ []
asked_of f = []

abbrev pub asked_in : List (List ReadLiteral) → List SortedName
asked_in cs = flat_map (λ c. flat_map (λ l. asked_of l.form) c) cs

-- the head is as the literal asks, where it asks for one
abbrev pub IsHeadAsked : KoreSignature → Valuation → Option Form → Type 0
IsHeadAsked g v (Some (asks x test b)) = Says g v (asks x test b)
IsHeadAsked g v f = ⊤

abbrev pub AreHeadsAsked : KoreSignature → Valuation → List (List ReadLiteral) → Type 0
AreHeadsAsked g v = AllByRecursion (AllByRecursion (λ l. IsHeadAsked g v l.form))

-- some values of the variables have heads as all clauses ask
pub record CanHaveHeads (g : KoreSignature) (cs : List (List ReadLiteral)) : Type 0 where
  pub valuation : Valuation
  pub sorts : GivesSorts g valuation (asked_in cs)
  pub are_true : AreHeadsAsked g valuation cs
