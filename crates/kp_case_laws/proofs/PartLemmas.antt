-- A part of a part is a part; a division of which one part is divided further is a division.
use Rattle.std.proofs.Common.{refl, sym, ◌∙◌, ap, subst, List, [], ◌∷◌, ◌++◌, inl, inr}
use Rattle.std.specs.Prelude.{⊤}
use Rattle.std.specs.List.{AllByRecursion}
use Rattle.std.proofs.lemmas.List.{append_assoc, append-nil}
use Rattle.kp_kore.specs.Parts.{SortedName}
use Rattle.kp_kore.specs.Signature.{KoreSignature}
use Rattle.kp_kore.specs.Value.{Value}
use Rattle.kp_kore.specs.Instance.{Valuation, GivesSorts, AgreesOn}
use Rattle.kp_kore.specs.Cases.{OfOneAlone}
use Rattle.kp_kore.specs.Division.{IsPartOf, IsHeldBy}
use Rattle.kp_kore.proofs.Dividing.{divided_further, dropped}
use Rattle.kp_symbolic.specs.States.{Literal, IsClauseTrue, AreTrue, IsStateInstance}
use Rattle.kp_symbolic.proofs.Distribution.{all_both, all_first, all_second}
use Rattle.kp_symbolic.proofs.Leaf.{once_says}
use Rattle.kp_case_laws.specs.Parts.{StatePart, state_reading, OfEachInstance, IsPartBelow, IsDividedWhere, IsDivided, IsRestricted, with_clauses, IsTold}

pub agrees_itself : (xs : List SortedName) (v : Valuation) → AgreesOn xs v v
agrees_itself [] v = tt
agrees_itself (x ∷ xs) v = (refl, agrees_itself xs v)

-- ---- parts of parts

pub told_below : (g : KoreSignature) (p r : StatePart) → IsPartBelow g p r → IsTold g r
told_below g p r b w c sorts met = ((b.part.same w c sorts).0 met).1

added_before : (g : KoreSignature) (p r : StatePart) (w : Valuation) → IsPartBelow g p r → AreTrue g w r.added → AreTrue g w p.added
added_before g p r w b t = all_first (IsClauseTrue g w) p.added b.more (subst (λ cs. AreTrue g w cs) b.grown t)

pub below_below : (g : KoreSignature) (s p r : StatePart) → IsPartBelow g s p → IsPartBelow g p r → IsPartBelow g s r
below_below g s p r a b = record {
  part = record {
    within = record {
      sorts = λ w h. a.part.within.sorts w (b.part.within.sorts w h);
      agree = λ v w h. a.part.within.agree v w (b.part.within.agree v w h);
    };
    same = λ w c h. (
      (λ i. let k = (b.part.same w c h).0 i in (((a.part.same w c (b.part.within.sorts w h)).0 k.0).0, k.1)),
      (λ i. (b.part.same w c h).1 ((a.part.same w c (b.part.within.sorts w h)).1 (i.0, added_before g p r w b i.1), i.1)),
    );
    alone = λ w x h i e t u.
        b.part.alone w x h i (a.part.alone w x (b.part.within.sorts w h) (b.part.within.sorts x i) e (added_before g p r w b t) (added_before g p r x b u)) t u;
  };
  more = a.more ++ b.more;
  grown = b.grown ∙ ap (λ cs. cs ++ b.more) a.grown ∙ append_assoc s.added a.more b.more;
}

all_below : (g : KoreSignature) (s p : StatePart) (rs : List StatePart) → IsPartBelow g s p → AllByRecursion (IsPartBelow g p) rs → AllByRecursion (IsPartBelow g s) rs
all_below g s p [] a bs = tt
all_below g s p (r ∷ rs) a bs = (below_below g s p r a bs.0, all_below g s p rs a bs.1)

all_parts : (g : KoreSignature) (p : StatePart) (rs : List StatePart) → AllByRecursion (IsPartBelow g p) rs → AllByRecursion (IsPartOf (state_reading g) g p) rs
all_parts g p [] bs = tt
all_parts g p (r ∷ rs) bs = (bs.0.part, all_parts g p rs bs.1)

-- ---- divisions

pub divides_further_where : (g : KoreSignature) (Q R : Value → Type 0) (s p : StatePart) (ps qs rs : List StatePart) → IsDividedWhere g Q s (ps ++ p ∷ qs) → IsDividedWhere g R p rs → IsDividedWhere g (λ c. Q c × R c) s (ps ++ (rs ++ qs))
divides_further_where g Q R s p ps qs rs d e =
    let others : AllByRecursion (IsPartBelow g s) (p ∷ qs) = all_second (IsPartBelow g s) ps (p ∷ qs) d.below in
    record {
      below = all_both (IsPartBelow g s) ps (rs ++ qs) (all_first (IsPartBelow g s) ps (p ∷ qs) d.below) (all_both (IsPartBelow g s) rs qs (all_below g s p rs others.0 e.below) others.1);
      each = divided_further (state_reading g) g Q R s p ps qs rs d.each others.0.part (all_parts g p rs e.below) e.each;
    }

-- where less is asked, the same divide it
pub divides_of_these : (g : KoreSignature) (Q R : Value → Type 0) (p : StatePart) (parts : List StatePart) → ((c : Value) → R c → Q c) → IsDividedWhere g Q p parts → IsDividedWhere g R p parts
divides_of_these g Q R p parts f d = record { below = d.below; each = λ v c sorts met r. d.each v c sorts met (f c r) }

pub divides_further : (g : KoreSignature) (s p : StatePart) (ps qs rs : List StatePart) → IsDivided g s (ps ++ p ∷ qs) → IsDivided g p rs → IsDivided g s (ps ++ (rs ++ qs))
divides_further g s p ps qs rs d e = divides_of_these g (λ c. ⊤ × ⊤) (λ c. ⊤) s (ps ++ (rs ++ qs)) (λ c t. (tt, tt)) (divides_further_where g (λ c. ⊤) (λ c. ⊤) s p ps qs rs d e)

pub drops_where : (g : KoreSignature) (Q : Value → Type 0) (s p : StatePart) (ps qs : List StatePart) → IsDividedWhere g Q s (ps ++ p ∷ qs) →
    OfEachInstance g p (λ w c. ⊥) → IsDividedWhere g Q s (ps ++ qs)
drops_where g Q s p ps qs d n = record {
  below = all_both (IsPartBelow g s) ps qs (all_first (IsPartBelow g s) ps (p ∷ qs) d.below) (all_second (IsPartBelow g s) ps (p ∷ qs) d.below).1;
  each = λ v c sorts met t. dropped (λ r. IsHeldBy (state_reading g) g s r v c) ps qs p (λ h. n h.chosen c h.sorts h.met) (d.each v c sorts met t);
}

held_itself : (g : KoreSignature) (p : StatePart) (v : Valuation) (c : Value) → GivesSorts g v p.state.variables → IsStateInstance g v p.state c → IsHeldBy (state_reading g) g p p v c
held_itself g p v c sorts met = record { chosen = v; agrees = agrees_itself p.state.variables v; sorts = sorts; met = met }

pub below_itself : (g : KoreSignature) (p : StatePart) → IsTold g p → IsPartBelow g p p
below_itself g p told = record {
  part = record {
    within = record { sorts = λ w h. h; agree = λ v w h. h };
    same = λ w c h. ((λ i. (i, told w c h i)), (λ i. i.0));
    alone = λ w x h i e t u. e;
  };
  more = [];
  grown = sym (append-nil p.added);
}

pub undivided_where : (g : KoreSignature) (Q : Value → Type 0) (p : StatePart) → IsTold g p → IsDividedWhere g Q p (p ∷ [])
undivided_where g Q p told = record { below = (below_itself g p told, tt); each = λ v c sorts met q. inl (held_itself g p v c sorts met, tt) }

pub undivided : (g : KoreSignature) (p : StatePart) → IsTold g p → IsDivided g p (p ∷ [])
undivided g p told = undivided_where g (λ c. ⊤) p told

-- ---- what holds of all instances of the parts

-- the one part that holds an instance
pub of_one : {X : Type 0} {C : Type 0} (P : X → Type 0) (xs : List X) → AllByRecursion (λ x. P x → C) xs → OfOneAlone P xs → C
of_one P [] f h = absurd h
of_one P (x ∷ xs) f h = elim h [ inl a ↦ f.0 a.0 | inr b ↦ of_one P xs f.1 b.1 ]

-- what no part has, the divided part hasn't
pub none_has : (g : KoreSignature) (N : Value → Type 0) (p : StatePart) (parts : List StatePart) → IsDivided g p parts → AllByRecursion (λ r. OfEachInstance g r (λ w c. ¬ N c)) parts → OfEachInstance g p (λ w c. ¬ N c)
none_has g N p parts d h w c sorts met n = of_one (λ r. IsHeldBy (state_reading g) g p r w c) parts (each_of parts h) (d.each w c sorts met tt)
  where
    each_of : (rs : List StatePart) → AllByRecursion (λ r. OfEachInstance g r (λ w c. ¬ N c)) rs → AllByRecursion (λ r. IsHeldBy (state_reading g) g p r w c → ⊥) rs
    each_of [] k = tt
    each_of (r ∷ rs) k = ((λ i. k.0 i.chosen c i.sorts i.met n), each_of rs k.1)

-- what holds of each instance of a part holds of each instance of a part of it
pub of_part : (g : KoreSignature) (p r : StatePart) (P : Valuation → Value → Type 0) → IsPartBelow g p r → OfEachInstance g p P → OfEachInstance g r P
of_part g p r P b h w c sorts met = h w c (b.part.within.sorts w sorts) ((b.part.same w c sorts).0 met).0

pub clauses_restrict : (g : KoreSignature) (p : StatePart) (clauses : List (List Literal)) → IsRestricted g p clauses [] (with_clauses p clauses)
clauses_restrict g p clauses = record {
  variables = sym (append-nil p.state.variables);
  instances = λ w c sorts.
      let once = once_says g w (p.state.clauses ++ clauses) in (
        (λ i. let a = once.0 i.clauses in (record { term = i.term; clauses = all_first (IsClauseTrue g w) p.state.clauses clauses a }, all_second (IsClauseTrue g w) p.state.clauses clauses a)),
        (λ i. record { term = i.0.term; clauses = once.1 (all_both (IsClauseTrue g w) p.state.clauses clauses i.0.clauses i.1) }),
      );
  added = refl;
}
