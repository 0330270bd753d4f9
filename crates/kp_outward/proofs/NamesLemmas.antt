-- The names that come in with several variables are those that come in with each.
use Rattle.std.proofs.Common.{◌≡◌, refl, ap, ◌∙◌, List, [], ◌∷◌, ◌++◌, map}
use Rattle.std.specs.List.{flat_map}
use Rattle.std.proofs.lemmas.List.{map-append}
use Rattle.kp_kore.specs.Parts.{SortedName}
use Rattle.kp_symbolic.specs.Terms.{Replaced, replacement_for}
use Rattle.kp_symbolic.specs.States.{variables_for}
use Rattle.kp_outward.specs.Parts.{names_for}

pub names_are : (rs : List Replaced) (xs : List SortedName) → map (λ y. y.name) (flat_map (λ x. variables_for x (replacement_for rs x.name)) xs) ≡ flat_map (names_for rs) xs
names_are rs [] = refl
names_are rs (x ∷ xs) =
    map-append (λ y. y.name) (variables_for x (replacement_for rs x.name)) (flat_map (λ z. variables_for z (replacement_for rs z.name)) xs)
    ∙ ap (λ l. names_for rs x ++ l) (names_are rs xs)
