-- The bounds of clauses, clause by clause.
use Rattle.std.proofs.Common.{◌≡◌, refl, sym, ap, ◌∙◌, List, [], ◌∷◌, ◌++◌, Option, Some, None}
use Rattle.std.specs.List.{flat_map, filter_map}
use Rattle.kp_symbolic.specs.Plain.{Form, ReadLiteral}
use Rattle.kp_symbolic.specs.Weights.{bounds_of, forms_in, all_bounds}
use Rattle.kp_literals.specs.Bounds.{said_bounds, clause_bounds}

behind : {X : Type 0} (xs ys zs : List X) → (xs ++ ys) ++ zs ≡ xs ++ (ys ++ zs)
behind [] ys zs = refl
behind (x ∷ xs) ys zs = ap (λ l. x ∷ l) (behind xs ys zs)

flat_both : {X Y : Type 0} (f : X → List Y) (xs ys : List X) → flat_map f (xs ++ ys) ≡ flat_map f xs ++ flat_map f ys
flat_both f [] ys = refl
flat_both f (x ∷ xs) ys = ap (λ l. f x ++ l) (flat_both f xs ys) ∙ sym (behind (f x) (flat_map f xs) (flat_map f ys))

of_clause : (c : List ReadLiteral) → flat_map bounds_of (filter_map (λ l. l.form) c) ≡ clause_bounds c
of_clause [] = refl
of_clause (l ∷ c) = by l.form refl (of_clause c)
  where
    by : (o : Option Form) → l.form ≡ o → flat_map bounds_of (filter_map (λ l. l.form) c) ≡ clause_bounds c → flat_map bounds_of (filter_map (λ l. l.form) (l ∷ c)) ≡ said_bounds l.form ++ clause_bounds c
    by (Some f) e h = rw e (ap (λ bs. bounds_of f ++ bs) h)
    by None e h = rw e h

pub clause_by_clause : (cs : List (List ReadLiteral)) → flat_map clause_bounds cs ≡ all_bounds cs
clause_by_clause [] = refl
clause_by_clause (c ∷ cs) = ap (λ bs. bs ++ flat_map clause_bounds cs) (sym (of_clause c)) ∙ ap (λ bs. flat_map bounds_of (filter_map (λ l. l.form) c) ++ bs) (clause_by_clause cs)
    ∙ sym (flat_both bounds_of (filter_map (λ l. l.form) c) (forms_in cs))
