-- Terms that stand for variables, one of each equation: what they give where they are put, and that they change no value where each
-- variable is its term's instance.
use Rattle.std.specs.Prelude.{◌≡◌, Bool, true, false, List, [], ◌∷◌, Option, Some, if◌then◌else◌}
use Rattle.std.specs.List.{AllByRecursion, Contains}
use Rattle.std.specs.Str.{bytes_eq}
use Rattle.std.proofs.Common.{refl, sym, ◌∙◌, ap, subst}
use Rattle.std.proofs.lemmas.Slice.Eq.{bytes_eq-Decides}
use mathlib.Core.Path.{fun_ext}
use Rattle.kp_kore.specs.Syntax.{Text}
use Rattle.kp_kore.specs.Parts.{SortedName}
use Rattle.kp_kore.specs.Signature.{KoreSignature, itself}
use Rattle.kp_kore.specs.Instance.{Valuation, GivesSorts}
use Rattle.kp_symbolic.specs.Terms.{SymbolicTerm, term_variables, Replaced, replacement_for, under_replaced}
use Rattle.kp_symbolic.specs.States.{AreGiven, variables_for}
use Rattle.kp_symbolic.specs.WellFormed.{IsWellSorted, AreWellPlaced, AreAtHand}
use Rattle.kp_symbolic.specs.Folding.{term_for}
use Rattle.kp_symbolic.specs.Solving.{Equation}
use Rattle.kp_symbolic_laws.specs.Runs.{HasOneSortEach}
use Rattle.kp_symbolic_laws.specs.Safe.{IsNormal, PutNormal}
use Rattle.kp_symbolic_laws.proofs.RightEquations.{IsRightEquation}
use Rattle.kp_symbolic_laws.proofs.Step.{at_hand_given}
use Rattle.kp_goals.specs.Exact.{ArePut}

-- its variable is at hand, its term has the variable's sort, is of variables at hand and in normal form
pub record IsGoodEquation (g : KoreSignature) (hand : List SortedName) (e : Equation) : Type 0 where
  pub right : IsRightEquation g hand e
  pub normal : IsNormal g e.term

pub record IsPutBy (g : KoreSignature) (hand : List SortedName) (r : Replaced) : Type 0 where
  pub equation : Equation
  pub name : r.name ≡ equation.variable.name
  pub term : r.term ≡ equation.term
  pub good : IsGoodEquation g hand equation

pub put_good : (g : KoreSignature) (hand : List SortedName) (e : Equation) → IsGoodEquation g hand e → IsPutBy g hand (record { name = e.variable.name; term = e.term })
put_good g hand e h = record { equation = e; name = refl; term = refl; good = h }

-- ---- at their variables

pub record IsFor (g : KoreSignature) (hand : List SortedName) (x : SortedName) (o : Option SymbolicTerm) : Type 0 where
  pub sorted : IsWellSorted g x.sort (term_for x o)
  pub at_hand : AreAtHand (variables_for x o) hand

pub found : (g : KoreSignature) (hand : List SortedName) → HasOneSortEach hand → (x : SortedName) → Contains hand x → (qs : List Replaced) → AllByRecursion (IsPutBy g hand) qs → IsFor g hand x (replacement_for qs x.name)
found g hand one x has [] h = record { sorted = itself x.sort; at_hand = (has, tt) }
found g hand one x has (q ∷ qs) h = by (bytes_eq q.name x.name) refl (found g hand one x has qs h.1)
  where
    by : (b : Bool) → bytes_eq q.name x.name ≡ b → IsFor g hand x (replacement_for qs x.name) → IsFor g hand x (if b then Some q.term else replacement_for qs x.name)
    by true e rest =
        let k = h.0.good.right in
        let same = one h.0.equation.variable x k.variable has (sym h.0.name ∙ (bytes_eq-Decides q.name x.name).0 e) in
        record {
          sorted = subst (λ t. IsWellSorted g x.sort t) (sym h.0.term) (subst (λ s. IsWellSorted g s h.0.equation.term) same k.sorted);
          at_hand = subst (λ t. AreAtHand (term_variables t) hand) (sym h.0.term) k.at_hand;
        }
    by false e rest = rest

pub put_placed : (g : KoreSignature) (hand : List SortedName) → HasOneSortEach hand → (qs : List Replaced) → AllByRecursion (IsPutBy g hand) qs → (xs : List SortedName) → AreAtHand xs hand → AreWellPlaced g qs xs
put_placed g hand one qs h [] a = tt
put_placed g hand one qs h (x ∷ xs) a = ((found g hand one x a.0 qs h).sorted, put_placed g hand one qs h xs a.1)

pub put_at_hand : (g : KoreSignature) (hand : List SortedName) → HasOneSortEach hand → (qs : List Replaced) → AllByRecursion (IsPutBy g hand) qs → (xs : List SortedName) → AreAtHand xs hand → AllByRecursion (λ x. AreAtHand (variables_for x (replacement_for qs x.name)) hand) xs
put_at_hand g hand one qs h [] a = tt
put_at_hand g hand one qs h (x ∷ xs) a = ((found g hand one x a.0 qs h).at_hand, put_at_hand g hand one qs h xs a.1)

pub put_given : (g : KoreSignature) (hand : List SortedName) → HasOneSortEach hand → (qs : List Replaced) → AllByRecursion (IsPutBy g hand) qs → (v : Valuation) → GivesSorts g v hand → (xs : List SortedName) → AreAtHand xs hand → AreGiven g qs v xs
put_given g hand one qs h v sorts [] a = tt
put_given g hand one qs h v sorts (x ∷ xs) a = (at_hand_given g v hand (variables_for x (replacement_for qs x.name)) sorts (found g hand one x a.0 qs h).at_hand, put_given g hand one qs h v sorts xs a.1)

pub put_normal : (g : KoreSignature) (hand : List SortedName) (qs : List Replaced) → AllByRecursion (IsPutBy g hand) qs → PutNormal g qs
put_normal g hand [] h = tt
put_normal g hand (q ∷ qs) h = (subst (IsNormal g) (sym h.0.term) h.0.good.normal, put_normal g hand qs h.1)

-- ---- values

put_value : (g : KoreSignature) (x : Valuation) (qs : List Replaced) → ArePut g x qs → (y : Text) → under_replaced g qs x y ≡ x y
put_value g x [] h y = refl
put_value g x (q ∷ qs) h y = by (bytes_eq q.name y) refl (put_value g x qs h.1 y)
  where
    by : (b : Bool) → bytes_eq q.name y ≡ b → under_replaced g qs x y ≡ x y → under_replaced g (q ∷ qs) x y ≡ x y
    by true e rest = rw e (sym h.0 ∙ ap x ((bytes_eq-Decides q.name y).0 e))
    by false e rest = rw e rest

pub put_same : (g : KoreSignature) (x : Valuation) (qs : List Replaced) → ArePut g x qs → under_replaced g qs x ≡ x
put_same g x qs h = fun_ext (λ y. put_value g x qs h y)
