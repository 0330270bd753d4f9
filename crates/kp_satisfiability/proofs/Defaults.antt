-- Where each variable's sort has a value, some values of all of them are of their sorts.
use Rattle.std.proofs.Common.{◌≡◌, sym, subst, true, List, [], ◌∷◌}
use Rattle.std.specs.List.{AllByRecursion, Contains}
use Rattle.std.proofs.lemmas.List.Elements.{Contains-append_left, Contains-append_right, Contains-push}
use Rattle.kp_kore.specs.Parts.{SortedName}
use Rattle.kp_kore.specs.Signature.{KoreSignature}
use Rattle.kp_kore.specs.Value.{truth, HasSort}
use Rattle.kp_kore.specs.Instance.{Valuation, GivesSorts, assigned}
use Rattle.kp_kore.proofs.ListLemmas.{all_map}
use Rattle.kp_heads.specs.Heads.{HasValue}
use Rattle.kp_symbolic.proofs.Agreeing.{itself_there}
use Rattle.kp_satisfiability.proofs.Untouched.{still_gives}

-- a value for the first variable of each name
abbrev given : (g : KoreSignature) (xs : List SortedName) → AllByRecursion (λ x. HasValue g x.sort) xs → Valuation
given g [] h = λ y. truth true
given g (x ∷ xs) h = assigned (given g xs h.1) x.name h.0.0

all_given : (g : KoreSignature) (hand xs : List SortedName) (h : AllByRecursion (λ x. HasValue g x.sort) xs) → ((x y : SortedName) → Contains hand x → Contains hand y → x.name ≡ y.name → x.sort ≡ y.sort) → AllByRecursion (Contains hand) xs → GivesSorts g (given g xs h) xs
all_given g hand [] h one at = tt
all_given g hand (x ∷ xs) h one at = (
  subst (λ u. HasSort g x.sort u) (sym (itself_there (given g xs h.1) x.name h.0.0)) h.0.1,
  still_gives g (given g xs h.1) x h.0.0 xs h.0.1 (all_map (Contains hand) (λ y. x.name ≡ y.name → x.sort ≡ y.sort) xs (λ y there. one x y at.0 there) at.1) (all_given g hand xs h.1 one at.1),
)

each_self : (xs : List SortedName) → AllByRecursion (Contains xs) xs
each_self [] = tt
each_self (x ∷ xs) = (Contains-append_left (x ∷ []) xs x (Contains-push [] x), all_map (Contains xs) (Contains (x ∷ xs)) xs (λ y h. Contains-append_right (x ∷ []) xs y h) (each_self xs))

pub some_values : (g : KoreSignature) (hand : List SortedName) → AllByRecursion (λ x. HasValue g x.sort) hand → ((x y : SortedName) → Contains hand x → Contains hand y → x.name ≡ y.name → x.sort ≡ y.sort) → (v : Valuation) × GivesSorts g v hand
some_values g hand h one = (given g hand h, all_given g hand hand h one (each_self hand))
