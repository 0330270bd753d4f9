-- What arcs keep of a claim: the values of its left side's variables.
use Rattle.std.proofs.Common.{◌≡◌, refl, sym, ◌∙◌, subst, Bool, true, false, List, [], ◌∷◌}
use Rattle.std.specs.List.{AllByRecursion}
use Rattle.std.specs.Str.{bytes_eq}
use Rattle.std.proofs.lemmas.Slice.Eq.{bytes_eq-Decides}
use Rattle.kp_kore.specs.Syntax.{Text, KorePattern}
use Rattle.kp_kore.specs.Parts.{SortedName, free_variables}
use Rattle.kp_kore.specs.Signature.{KoreSignature}
use Rattle.kp_kore.specs.Value.{Value, HasSort}
use Rattle.kp_kore.specs.Instance.{Valuation, GivesSorts, AgreesOff, AgreesOn, is_named}
use Rattle.kp_kore.specs.Claims.{ReachabilityClaim, IsReached, Misses}
use Rattle.kp_kore.specs.Replies.{IsFreshName, IsAbsent}
use Rattle.kp_kore.proofs.ListLemmas.{all_map}

-- a name that no member has
not_named : (x : Text) (ys : List SortedName) → ¬ IsFreshName x → AllByRecursion (λ y. IsFreshName y.name) ys → is_named x ys ≡ false
not_named x [] n a = refl
not_named x (y ∷ ys) n a = by_test (bytes_eq y.name x) refl (not_named x ys n a.1)
  where
    by_test : (b : Bool) → bytes_eq y.name x ≡ b → is_named x ys ≡ false → is_named x (y ∷ ys) ≡ false
    by_test true e rest = absurd (n (subst IsFreshName ((bytes_eq-Decides y.name x).0 e) a.0))
    by_test false e rest = rw e rest

-- valuations that agree off fresh names agree on names that aren't fresh
pub agree_on_left : (xs ys : List SortedName) (v w : Valuation) → AllByRecursion (λ x. ¬ IsFreshName x.name) xs → AllByRecursion (λ y. IsFreshName y.name) ys → AgreesOff ys v w → AgreesOn xs v w
agree_on_left [] ys v w n fresh off = tt
agree_on_left (x ∷ xs) ys v w n fresh off = (off x.name (not_named x.name ys n.0 fresh), agree_on_left xs ys v w n.1 fresh off)

-- values of their sorts stay so
pub sorts_stay : (g : KoreSignature) (xs : List SortedName) (v w : Valuation) → AgreesOn xs v w → GivesSorts g v xs → GivesSorts g w xs
sorts_stay g [] v w a s = tt
sorts_stay g (x ∷ xs) v w a s = (subst (HasSort g x.sort) (sym a.0) s.0, sorts_stay g xs v w a.1 s.1)

pub agrees_through : (xs : List SortedName) (u v w : Valuation) → AgreesOn xs u v → AgreesOn xs v w → AgreesOn xs u w
agrees_through [] u v w a b = tt
agrees_through (x ∷ xs) u v w a b = (b.0 ∙ a.0, agrees_through xs u v w a.1 b.1)

-- what is reached under w is reached under v, where both agree on the left's variables
pub reached_back : (g : KoreSignature) (claim : ReachabilityClaim) (v w : Valuation) (c : Value) → AgreesOn (free_variables claim.left) v w → IsReached g claim w c → IsReached g claim v c
reached_back g claim v w c a r = record {
  chosen = r.chosen;
  agrees = agrees_through (free_variables claim.left) v w r.chosen a r.agrees;
  sorts = r.sorts;
  met = r.met;
}

-- what a run misses under v it misses under w
pub missed_too : (g : KoreSignature) (claim : ReachabilityClaim) (v w : Valuation) (cs : List Value) → AgreesOn (free_variables claim.left) v w → Misses g claim v cs → Misses g claim w cs
missed_too g claim v w cs a m = all_map (λ c. ¬ IsReached g claim v c) (λ c. ¬ IsReached g claim w c) cs (λ c n r. n (reached_back g claim v w c a r)) m

pub fresh_of : (s : KorePattern) (ys : List SortedName) → AllByRecursion (λ y. IsFreshName y.name × IsAbsent y.name s) ys → AllByRecursion (λ y. IsFreshName y.name) ys
fresh_of s [] a = tt
fresh_of s (y ∷ ys) a = (a.0.0, fresh_of s ys a.1)
