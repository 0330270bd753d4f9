-- A rule fires on an instance of the part that its left side meets exactly where the equations and its condition are true.
use Rattle.std.proofs.Common.{sym, ◌∙◌, List, [], ◌∷◌, ◌++◌, Some, ◌↔◌}
use Rattle.std.specs.List.{AllByRecursion}
use Rattle.kp_kore.specs.Syntax.{KorePattern, sort_variable}
use Rattle.kp_kore.specs.Parts.{SortedName, free_variables}
use Rattle.kp_kore.specs.Signature.{KoreSignature}
use Rattle.kp_kore.specs.Instance.{Valuation, AgreesOn, IsTrueUnder}
use Rattle.kp_kore.specs.Rules.{Rewrite, rewrite}
use Rattle.kp_kore.specs.Steps.{Fires}
use Rattle.kp_kore.proofs.TruthLemmas.{same_truth}
use Rattle.kp_symbolic.specs.Terms.{Replaced, under_replaced}
use Rattle.kp_symbolic.specs.States.{Literal, IsClauseTrue, AreTrue}
use Rattle.kp_symbolic.proofs.Distribution.{all_both, all_first, all_second}
use Rattle.kp_symbolic.proofs.Folded.{for_instance}
use Rattle.kp_rules.specs.Skeletons.{Form}
use Rattle.kp_case_laws.specs.Parts.{StatePart, OfEachInstance, HoldsWhere}
use Rattle.kp_case_laws.specs.Cases.{IsBoundBy, MetPart, IsMetBy, IsApart, left_side, IsLeftOf, AreBoundIn}
use Rattle.kp_case_laws.proofs.RowLemmas.{bound_at}
use Rattle.kp_case_laws.proofs.CaseLemmas.{all_bound}

-- a valuation that the bindings give agrees with theirs on what is bound
agrees_bound : (g : KoreSignature) (w r : Valuation) (bs : List Replaced) (xs : List SortedName) → IsBoundBy g w bs r → AreBoundIn bs xs → AgreesOn xs r (under_replaced g bs w)
agrees_bound g w r bs [] h a = tt
agrees_bound g w r bs (x ∷ xs) h a =
    let t = a.0.0 in
    (sym (for_instance g bs w x.name (sort_variable []) (Some t) a.0.1) ∙ sym (bound_at g w r bs x.name t a.0.1 h), agrees_bound g w r bs xs h a.1)

same_conditions : (g : KoreSignature) (w r : Valuation) (bs : List Replaced) (ps : List KorePattern) → IsBoundBy g w bs r → AllByRecursion (λ p. AreBoundIn bs (free_variables p)) ps → AllByRecursion (IsTrueUnder g r) ps ↔ AllByRecursion (IsTrueUnder g (under_replaced g bs w)) ps
same_conditions g w r bs [] h a = ((λ t. tt), (λ t. tt))
same_conditions g w r bs (p ∷ ps) h a =
    let i = same_truth g p r (under_replaced g bs w) (agrees_bound g w r bs (free_variables p) h a.0) in
    let j = same_conditions g w r bs ps h a.1 in
    ((λ t. (i.0 t.0, j.0 t.1)), (λ t. (i.1 t.0, j.1 t.1)))

pub fires_where : (g : KoreSignature) (r : Rewrite) (left : Form) (m : MetPart) (cs : List (List Literal)) → IsLeftOf g left r m.part → IsMetBy g (left_side g left) m → AllByRecursion (λ p. AreBoundIn m.bindings (free_variables p)) r.condition →
    OfEachInstance g m.part (λ w c. AreTrue g w cs ↔ AllByRecursion (IsTrueUnder g (under_replaced g m.bindings w)) r.condition) → HoldsWhere g (Fires g (rewrite r)) m.part (m.equations ++ cs)
fires_where g r left m cs form i bound says w c sorts met = (
  (λ f.
      let h = (i.exactly w c sorts met f.0).0 ((form w c sorts met f.0).1 (f.1.matches, f.1.sorts)) in
      all_both (IsClauseTrue g w) m.equations cs h.0 ((says w c sorts met).1 ((same_conditions g w f.0 m.bindings r.condition h.1 bound).0 f.1.condition))),
  (λ t.
      let v : Valuation = under_replaced g m.bindings w in
      let b : IsBoundBy g w m.bindings v = all_bound g w m.bindings m.bindings i.once in
      let a = (form w c sorts met v).0 ((i.exactly w c sorts met v).1 (all_first (IsClauseTrue g w) m.equations cs t, b)) in
      (v, record { sorts = a.1; matches = a.0; condition = (says w c sorts met).0 (all_second (IsClauseTrue g w) m.equations cs t) })),
)

-- and on no instance of a part that is apart
pub fires_never : (g : KoreSignature) (r : Rewrite) (left : Form) (p : StatePart) → IsLeftOf g left r p → IsApart g (left_side g left) p → OfEachInstance g p (λ w c. ¬ Fires g (rewrite r) c)
fires_never g r left p form i w c sorts met f = i w c sorts met f.0 ((form w c sorts met f.0).1 (f.1.matches, f.1.sorts))
