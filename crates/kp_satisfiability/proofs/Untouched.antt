-- Under another value of a variable that doesn't stand in them, terms, literals and clauses say what they said.
use Rattle.std.proofs.Common.{◌≡◌, refl, subst, Bool, true, false, List, [], ◌∷◌}
use Rattle.std.specs.Prelude.{if◌then◌else◌}
use Rattle.std.specs.List.{AllByRecursion}
use Rattle.std.specs.Str.{bytes_eq}
use Rattle.std.proofs.lemmas.Slice.Eq.{bytes_eq-Decides}
use Rattle.kp_kore.specs.Parts.{SortedName}
use Rattle.kp_kore.specs.Signature.{KoreSignature}
use Rattle.kp_kore.specs.Value.{Value, HasSort}
use Rattle.kp_kore.specs.Instance.{Valuation, GivesSorts, AgreesOn, assigned}
use Rattle.kp_symbolic.specs.States.{Literal, IsLiteralTrue, IsClauseTrue, atom_variables, clause_variables}
use Rattle.kp_symbolic.proofs.Agreeing.{SameAt, literal_agrees}
use Rattle.kp_symbolic.proofs.Distribution.{all_first, all_second}

-- ---- clauses

none_before : (g : KoreSignature) (v w : Valuation) (c : List Literal) → AgreesOn (clause_variables c) v w → AllByRecursion (λ l. ¬ IsLiteralTrue g w l) c → AllByRecursion (λ l. ¬ IsLiteralTrue g v l) c
none_before g v w [] h none = tt
none_before g v w (l ∷ c) h none = (
  (λ t. none.0 (literal_agrees g v w l (all_first (SameAt v w) (atom_variables l.atom) (clause_variables c) h) t)),
  none_before g v w c (all_second (SameAt v w) (atom_variables l.atom) (clause_variables c) h) none.1,
)

pub clause_agrees : (g : KoreSignature) (v w : Valuation) (c : List Literal) → AgreesOn (clause_variables c) v w → IsClauseTrue g v c → IsClauseTrue g w c
clause_agrees g v w c h t none = t (none_before g v w c h none)

-- ---- a variable that isn't there

-- a value of the variable's sort leaves all variables at hand with values of their sorts
pub still_gives : (g : KoreSignature) (v : Valuation) (x : SortedName) (u : Value) (xs : List SortedName) → HasSort g x.sort u → AllByRecursion (λ y. x.name ≡ y.name → x.sort ≡ y.sort) xs → GivesSorts g v xs → GivesSorts g (assigned v x.name u) xs
still_gives g v x u [] s one h = tt
still_gives g v x u (y ∷ ys) s one h = (by (bytes_eq x.name y.name) refl, still_gives g v x u ys s one.1 h.1)
  where
    by : (b : Bool) → bytes_eq x.name y.name ≡ b → HasSort g y.sort (if b then u else v y.name)
    by true e = subst (λ s. HasSort g s u) (one.0 ((bytes_eq-Decides x.name y.name).0 e)) s
    by false e = h.0
