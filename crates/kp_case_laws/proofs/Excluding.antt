-- Where a rule fires, and where it doesn't: the part that its left side meets is divided by clauses.
use Rattle.std.proofs.Common.{sym, subst, List, [], ◌∷◌, inl, inr}
use Rattle.std.specs.Prelude.{⊤}
use Rattle.std.specs.List.{AllByRecursion}
use Rattle.kp_kore.specs.Signature.{KoreSignature}
use Rattle.kp_kore.specs.Value.{Value, HasSort}
use Rattle.kp_kore.specs.Instance.{Valuation, GivesSorts}
use Rattle.kp_kore.specs.Cases.{OfOneAlone}
use Rattle.kp_kore.specs.Division.{IsHeldBy}
use Rattle.kp_symbolic.specs.States.{Literal, AreTrue}
use Rattle.kp_symbolic.proofs.Distribution.{all_both}
use Rattle.kp_case_laws.specs.Parts.{StatePart, state_reading, OfEachInstance, IsPartBelow, IsDividedWhere, IsDivided, IsRestricted, IsTold, HoldsWhere}
use Rattle.kp_case_laws.proofs.PartLemmas.{agrees_itself, told_below, below_below, divides_further_where, divides_of_these, of_one}
use Rattle.kp_case_laws.proofs.NarrowingLemmas.{restricted_below}
use Rattle.kp_case_laws.proofs.SortLemmas.{given_before}

pub restricted_alone : (g : KoreSignature) (p r : StatePart) (clauses : List (List Literal)) → IsTold g p → IsRestricted g p clauses [] r → IsPartBelow g p r
restricted_alone g p r clauses told i = restricted_below g p r [] clauses told i (λ w x h k e t u. tt)

-- an instance under which the clauses are true lies in the part by them
held_by : (g : KoreSignature) (p m r : StatePart) (clauses : List (List Literal)) (v : Valuation) (c : Value) → IsRestricted g m clauses [] r → (h : IsHeldBy (state_reading g) g p m v c) → AreTrue g h.chosen clauses → IsHeldBy (state_reading g) g p r v c
held_by g p m r clauses v c i h t =
    let sorts : GivesSorts g h.chosen r.state.variables = subst (λ xs. GivesSorts g h.chosen xs) (sym i.variables) (all_both (λ x. HasSort g x.sort (h.chosen x.name)) m.state.variables [] h.sorts tt) in
    record { chosen = h.chosen; agrees = h.agrees; sorts = sorts; met = (i.instances h.chosen c sorts).1 (h.met, t) }

-- the instances of which Q holds lie in the part by the clauses that say so
pub holding_part : (g : KoreSignature) (Q : Value → Type 0) (p m r : StatePart) (apart : List StatePart) (clauses : List (List Literal)) → IsDivided g p (m ∷ apart) → HoldsWhere g Q m clauses → AllByRecursion (λ x. OfEachInstance g x (λ w c. ¬ Q c)) apart →
    IsRestricted g m clauses [] r → IsDividedWhere g Q p (r ∷ [])
holding_part g Q p m r apart clauses d holds none i = record {
  below = (below_below g p m r d.below.0 (restricted_alone g m r clauses (told_below g p m d.below.0) i), tt);
  each = λ v c sorts met q. inl (by v c q (d.each v c sorts met tt), tt);
}
  where
    refuted : (v : Valuation) (c : Value) (xs : List StatePart) → Q c → AllByRecursion (λ x. OfEachInstance g x (λ w c. ¬ Q c)) xs → AllByRecursion (λ x. IsHeldBy (state_reading g) g p x v c → ⊥) xs
    refuted v c [] q n = tt
    refuted v c (x ∷ xs) q n = ((λ h. n.0 h.chosen c h.sorts h.met q), refuted v c xs q n.1)

    by : (v : Valuation) (c : Value) → Q c → OfOneAlone (λ x. IsHeldBy (state_reading g) g p x v c) (m ∷ apart) → IsHeldBy (state_reading g) g p r v c
    by v c q (inl a) = held_by g p m r clauses v c i a.0 ((holds a.0.chosen c a.0.sorts a.0.met).0 q)
    by v c q (inr b) = absurd (of_one (λ x. IsHeldBy (state_reading g) g p x v c) apart (refuted v c apart q none) b.1)

-- the others in the part by the opposite, and where the left side isn't met
pub other_parts : (g : KoreSignature) (Q : Value → Type 0) (p m r : StatePart) (apart : List StatePart) (clauses opposite : List (List Literal)) → IsDivided g p (m ∷ apart) → HoldsWhere g Q m clauses → OfEachInstance g m (λ w c. (¬ AreTrue g w clauses) → AreTrue g w opposite) →
    IsRestricted g m opposite [] r → IsDividedWhere g (λ c. ¬ Q c) p (r ∷ apart)
other_parts g Q p m r apart clauses opposite d holds opposed i = divides_of_these g (λ c. ⊤ × (¬ Q c)) (λ c. ¬ Q c) p (r ∷ apart) (λ c n. (tt, n)) (divides_further_where g (λ c. ⊤) (λ c. ¬ Q c) p m [] apart (r ∷ []) d (record {
  below = (restricted_alone g m r opposite (told_below g p m d.below.0) i, tt);
  each = λ v c sorts met n.
      inl (held_by g m m r opposite v c i (record { chosen = v; agrees = agrees_itself m.state.variables v; sorts = sorts; met = met }) (opposed v c sorts met (λ t. n ((holds v c sorts met).1 t))), tt);
}))

-- and Q holds of none of theirs
pub none_holds : (g : KoreSignature) (Q : Value → Type 0) (m r : StatePart) (clauses opposite : List (List Literal)) → HoldsWhere g Q m clauses → OfEachInstance g m (λ w c. AreTrue g w opposite → ¬ AreTrue g w clauses) → IsRestricted g m opposite [] r → OfEachInstance g r (λ w c. ¬ Q c)
none_holds g Q m r clauses opposite holds opposed i w c sorts met q =
    let f = (i.instances w c sorts).0 met in
    let before = given_before g m r [] opposite w i sorts in
    opposed w c before f.0 f.1 ((holds w c before f.0).0 q)
