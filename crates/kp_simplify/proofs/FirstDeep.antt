-- The first term that is too deep among the sides of literals, one after another.
use Rattle.std.proofs.Common.{◌≡◌, refl, sym, ap, ◌∙◌, ℕ, ◌+◌, ◌<◌, ◌≤◌, List, [], ◌∷◌, ◌++◌, map, length, get_or, Option, Some, None}
use Rattle.std.specs.List.{flat_map}
use Rattle.kp_kore.specs.Signature.{KoreSignature}
use Rattle.kp_symbolic.specs.View.{literal_view, clause_view, clauses_view}
use Rattle.kp_symbolic.specs.declared.clause.Literal.{Literal}
use Rattle.kp_symbolic.specs.declared.clause.Clause.{Clause}
use Rattle.kp_simplify.specs.Answers.{Side, atom_sides, clause_sides, depth_of, too_deep, first_number, first_deep}
use Rattle.kp_limits.proofs.FirstAlong.{IsFirst, Left, here, later, none, seen_flat}

first_behind : (a b c : Option ℕ) → first_number (first_number a b) c ≡ first_number a (first_number b c)
first_behind (Some n) b c = refl
first_behind None b c = refl

first_either : (g : KoreSignature) (xs ys : List Side) → first_deep g (xs ++ ys) ≡ first_number (first_deep g xs) (first_deep g ys)
first_either g [] ys = refl
first_either g (x ∷ xs) ys = ap (first_number (too_deep (depth_of g x))) (first_either g xs ys) ∙ sym (first_behind (too_deep (depth_of g x)) (first_deep g xs) (first_deep g ys))

deep_first : (g : KoreSignature) → IsFirst (first_deep g)
deep_first g = record { either = first_number; joined = first_either g; answered = λ n o. refl; passed = λ o. refl }

-- ---- literals

abbrev pub LiteralsLeft : KoreSignature → List Literal → ℕ → Type 0
LiteralsLeft g ls i = Left (first_deep g) (λ l. atom_sides (literal_view l).atom) ls i

pub literals_here : (g : KoreSignature) (ls : List Literal) (i : ℕ) (l : Literal) (n : ℕ) → i < length ls → l ≡ get_or ls i l → Some n ≡ first_deep g (atom_sides (literal_view l).atom) → LiteralsLeft g ls i → Some n ≡ first_deep g (flat_map (λ m. atom_sides m.atom) (map literal_view ls))
literals_here g ls i l n h e is left = here (first_deep g) (deep_first g) (λ m. atom_sides (literal_view m).atom) ls i l n h e is left ∙ ap (first_deep g) (seen_flat (λ m. atom_sides m.atom) literal_view ls)

pub literals_later : (g : KoreSignature) (ls : List Literal) (i : ℕ) (l : Literal) → i < length ls → l ≡ get_or ls i l → None ≡ first_deep g (atom_sides (literal_view l).atom) → LiteralsLeft g ls i → LiteralsLeft g ls (i + 1)
literals_later g ls i l h e is left = later (first_deep g) (deep_first g) (λ m. atom_sides (literal_view m).atom) ls i l h e is left

pub literals_none : (g : KoreSignature) (ls : List Literal) (i : ℕ) → length ls ≤ i → LiteralsLeft g ls i → None ≡ first_deep g (flat_map (λ m. atom_sides m.atom) (map literal_view ls))
literals_none g ls i h left = none (first_deep g) (λ m. atom_sides (literal_view m).atom) ls i refl h left ∙ ap (first_deep g) (seen_flat (λ m. atom_sides m.atom) literal_view ls)

-- ---- clauses

abbrev pub ClausesLeft : KoreSignature → List Clause → ℕ → Type 0
ClausesLeft g cs i = Left (first_deep g) (λ c. flat_map (λ m. atom_sides m.atom) (clause_view c)) cs i

pub clauses_here : (g : KoreSignature) (cs : List Clause) (i : ℕ) (d : Clause) (n : ℕ) → i < length cs → d ≡ get_or cs i d → Some n ≡ first_deep g (flat_map (λ m. atom_sides m.atom) (clause_view d)) → ClausesLeft g cs i → Some n ≡ first_deep g (clause_sides (clauses_view cs))
clauses_here g cs i d n h e is left = here (first_deep g) (deep_first g) (λ k. flat_map (λ m. atom_sides m.atom) (clause_view k)) cs i d n h e is left ∙ ap (first_deep g) (seen_flat (λ k. flat_map (λ m. atom_sides m.atom) k) clause_view cs)

pub clauses_later : (g : KoreSignature) (cs : List Clause) (i : ℕ) (d : Clause) → i < length cs → d ≡ get_or cs i d → None ≡ first_deep g (flat_map (λ m. atom_sides m.atom) (clause_view d)) → ClausesLeft g cs i → ClausesLeft g cs (i + 1)
clauses_later g cs i d h e is left = later (first_deep g) (deep_first g) (λ k. flat_map (λ m. atom_sides m.atom) (clause_view k)) cs i d h e is left

pub clauses_none : (g : KoreSignature) (cs : List Clause) (i : ℕ) → length cs ≤ i → ClausesLeft g cs i → None ≡ first_deep g (clause_sides (clauses_view cs))
clauses_none g cs i h left = none (first_deep g) (λ k. flat_map (λ m. atom_sides m.atom) (clause_view k)) cs i refl h left ∙ ap (first_deep g) (seen_flat (λ k. flat_map (λ m. atom_sides m.atom) k) clause_view cs)
