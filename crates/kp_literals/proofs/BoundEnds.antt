-- The ends and steps of walks over clauses and their bounds.
use Rattle.std.proofs.Common.{◌≡◌, refl, sym, ap, subst, ◌∙◌, ℕ, ◌+◌, ◌<◌, ◌≤◌, max, List, [], ◌∷◌, ◌++◌, map, length, drop, get_or, Vec}
use Rattle.std.specs.Prelude.{unsigned_abs}
use Rattle.std.specs.List.{flat_map}
use Rattle.std.specs.declared.alloc.Global.{Global}
use Rattle.std.proofs.lemmas.List.{drop_more}
use Rattle.kp_kore.proofs.ListLemmas.{none_left}
use Rattle.kp_symbolic.specs.Weights.{DifferenceBound, IsBitLength, largest, all_bounds}
use Rattle.kp_literals.specs.Bounds.{difference_view, clause_bounds}
use Rattle.kp_literals.specs.Readings.{clauses_view}
use Rattle.kp_literals.specs.declared.bounds.Difference.{Difference}
use Rattle.kp_literals.specs.declared.reading.ReadLiteral.{ReadLiteral}
use Rattle.kp_literals.proofs.BoundLemmas.{clause_by_clause}
use Rattle.kp_literals.proofs.LengthLemmas.{Longest, longest_more}

behind_none : {X : Type 0} (xs : List X) → xs ++ [] ≡ xs
behind_none [] = refl
behind_none (x ∷ xs) = ap (λ l. x ∷ l) (behind_none xs)

pub bounds_end : (cs : List (Vec ReadLiteral Global)) (i : ℕ) (bs : List DifferenceBound) → length cs ≤ i → bs ++ flat_map clause_bounds (clauses_view (drop i cs)) ≡ flat_map clause_bounds (clauses_view cs) → bs ≡ all_bounds (clauses_view cs)
bounds_end cs i bs h e = sym (behind_none bs) ∙ ap (λ ds. bs ++ flat_map clause_bounds (clauses_view ds)) (sym (none_left cs i h)) ∙ e ∙ clause_by_clause (clauses_view cs)

pub bound_more : (bs : List Difference) (all i a k : ℕ) (b : Difference) → i < length bs → b ≡ get_or bs i b → IsBitLength (unsigned_abs (difference_view b).most) k → Longest all (largest (map difference_view (drop i bs))) a → Longest all (largest (map difference_view (drop (i + 1) bs))) (max a k)
bound_more bs all i a k b h e l left = longest_more all (unsigned_abs (difference_view b).most) (largest (map difference_view (drop (i + 1) bs))) a k l
    (subst (λ (ds : List Difference). Longest all (largest (map difference_view ds)) a) (drop_more bs i b h ∙ ap (λ d. d ∷ drop (i + 1) bs) (sym e)) left)
