-- The sides of equalities, each a clause alone.
use Rattle.std.specs.Prelude.{List}
use Rattle.std.specs.List.{flat_map}
use Rattle.std.proofs.Common.{◌≡◌, refl, ap, ap₂, [], ◌∷◌, ◌++◌}
use Rattle.kp_symbolic.specs.States.{Atom}
use Rattle.kp_simplify.specs.Answers.{Side, atom_sides, clause_sides}
use Rattle.kp_implies.specs.Printed.{alone_clauses}

more_none : (xs : List Side) → xs ++ [] ≡ xs
more_none [] = refl
more_none (x ∷ xs) = ap (λ ys. x ∷ ys) (more_none xs)

pub alone_sides : (all : List Atom) → clause_sides (alone_clauses all) ≡ flat_map atom_sides all
alone_sides [] = refl
alone_sides (a ∷ later) = ap₂ (λ xs ys. xs ++ ys) (more_none (atom_sides a)) (alone_sides later)
