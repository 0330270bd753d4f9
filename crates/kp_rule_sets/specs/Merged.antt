-- Two rows of places as one, by turn.
use Rattle.std.specs.Prelude.{ℕ, Bool, true, false, List, [], ◌∷◌, nat_lt, map, if◌then◌else◌}
use Rattle.kp_rule_sets.specs.declared.places.Ranked.{Ranked}
use Rattle.kp_rule_sets.specs.declared.places.Places.{Places}

-- the first of a row, with the others of its row behind it, among those of another row
abbrev pub put_in : (List Ranked → List Ranked) → Ranked → List Ranked → List Ranked
put_in behind x [] = x ∷ behind []
put_in behind x (y ∷ ys) = if nat_lt x.turn y.turn then x ∷ behind (y ∷ ys) else y ∷ put_in behind x ys

abbrev pub merged : List Ranked → List Ranked → List Ranked
merged [] ys = ys
merged (x ∷ xs) ys = put_in (merged xs) x ys

-- the first row is the one that goes on
abbrev pub goes_on : List Ranked → List Ranked → Bool
goes_on [] ys = false
goes_on (x ∷ xs) [] = true
goes_on (x ∷ xs) (y ∷ ys) = nat_lt x.turn y.turn

abbrev pub places_of : List Ranked → List ℕ
places_of = map (λ t. t.place)

-- the places that aren't taken yet
abbrev pub left_of : Places → List ℕ
left_of p = places_of (merged p.own.now p.any.now)
