-- One next state alone is of one rule alone, which fires on each instance.
use Rattle.std.proofs.Common.{◌≡◌, refl, sym, ap, subst, ◌∙◌, List, [], ◌∷◌, ◌++◌}
use Rattle.std.specs.List.{AllByRecursion, AllZip}
use Rattle.kp_kore.specs.Syntax.{Text}
use Rattle.kp_kore.specs.Rules.{RewriteRule}
use Rattle.kp_kore.specs.Theory.{Theory}
use Rattle.kp_kore.specs.Steps.{Fires}
use Rattle.kp_symbolic.specs.States.{SymbolicState}
use Rattle.kp_case_laws.specs.Parts.{StatePart, whole, OfEachInstance}
use Rattle.kp_unify.specs.Narrowed.{NumberedPart}
use Rattle.kp_step.specs.Remainders.{AreKept, OneTakesAll}
use Rattle.kp_step.specs.Found.{PlacedTurn, IsTurnAt}
use Rattle.kp_step.specs.Follows.{PlacedNext, IsNextAt, AreNextsOf}
use Rattle.kp_step.specs.Tries.{OneFiresOnAll}
use Rattle.kp_step.proofs.RemainderLemmas.{none_kept}

-- where nothing of the whole state is kept, the one rule fires on all of it
pub one_fires : (t : Theory) (s : SymbolicState) (q : NumberedPart) (found : List RewriteRule) (left kept : List NumberedPart) → q.part ≡ whole s → OneTakesAll t.signature found (q ∷ []) left → AreKept t.signature left kept → OneFiresOnAll t s found kept
one_fires t s q [] left kept e o k = tt
one_fires t s q (r ∷ []) left [] e o k = subst (λ p. OfEachInstance t.signature p (λ w c. Fires t.signature r.body c)) e (o (none_kept t.signature left k)).0
one_fires t s q (r ∷ []) left (x ∷ kept) e o k = tt
one_fires t s q (r ∷ p ∷ found) left kept e o k = tt

-- ---- one next state

no_more : (n : PlacedNext) (xs ys : List PlacedNext) (x : PlacedNext) → n ∷ [] ≡ (x ∷ xs) ++ ys → (xs ++ ys ≡ []) × (n ≡ x)
no_more n xs ys x e = (sym (rest e), first e)
  where
    rest : n ∷ [] ≡ x ∷ (xs ++ ys) → [] ≡ xs ++ ys
    rest f = cc

    first : n ∷ [] ≡ x ∷ (xs ++ ys) → n ≡ x
    first f = cc

-- each turn has some next state
some_next : (t : Theory) (used : List Text) (s : StatePart) (k : PlacedTurn) (xs : List PlacedNext) → IsTurnAt t used s k → AllZip (IsNextAt t used s k) k.parts xs → (x : PlacedNext) × (rest : List PlacedNext) × (xs ≡ x ∷ rest) × (x.place ≡ k.place)
some_next t used s k xs i z = by k.parts xs refl z
  where
    by : (ps : List NumberedPart) (ys : List PlacedNext) → k.parts ≡ ps → AllZip (IsNextAt t used s k) ps ys → (x : PlacedNext) × (rest : List PlacedNext) × (ys ≡ x ∷ rest) × (x.place ≡ k.place)
    by [] [] e a = absurd (i.some e)
    by [] (y ∷ ys) e a = absurd a
    by (p ∷ ps) [] e a = absurd a
    by (p ∷ ps) (y ∷ ys) e a = (y, ys, refl, a.0.place)

no_turns : (t : Theory) (used : List Text) (s : StatePart) (turns : List PlacedTurn) (ns : List PlacedNext) → AllByRecursion (IsTurnAt t used s) turns → AreNextsOf t used s turns ns → ns ≡ [] → turns ≡ []
no_turns t used s [] ns h z e = refl
no_turns t used s (k ∷ turns) ns h z e = absurd (none (some_next t used s k z.0 h.0 z.3))
  where
    none : ((x : PlacedNext) × (rest : List PlacedNext) × (z.0 ≡ x ∷ rest) × (x.place ≡ k.place)) → ⊥
    none x = empty x.0 (x.1 ++ z.1) (sym e ∙ z.2 ∙ ap (λ xs. xs ++ z.1) x.2)
      where
        empty : (y : PlacedNext) (ys : List PlacedNext) → [] ≡ y ∷ ys → ⊥
        empty y ys f = cc

pub one_turn : (t : Theory) (used : List Text) (s : StatePart) (turns : List PlacedTurn) (n : PlacedNext) → AllByRecursion (IsTurnAt t used s) turns → AreNextsOf t used s turns (n ∷ []) → (k : PlacedTurn) × (turns ≡ k ∷ []) × (n.place ≡ k.place)
one_turn t used s [] n h z = absurd (cc)
one_turn t used s (k ∷ turns) n h z =
    let x = some_next t used s k z.0 h.0 z.3 in
    let f = no_more n x.1 z.1 x.0 (z.2 ∙ ap (λ xs. xs ++ z.1) x.2) in
    (k, ap (λ ks. k ∷ ks) (no_turns t used s turns z.1 h.1 z.4 (behind x.1 z.1 f.0)), ap (λ y. y.place) f.1 ∙ x.3)
  where
    behind : (xs ys : List PlacedNext) → xs ++ ys ≡ [] → ys ≡ []
    behind [] ys e = e
    behind (x ∷ xs) ys e = absurd (cc)
