-- Cases of a part are made of those of its parts; a case that is met gives the rule's valuation.
use Rattle.std.proofs.Common.{◌≡◌, refl, sym, subst, List, [], ◌∷◌, ◌++◌, Option, Some, None, ◌↔◌}
use Rattle.std.specs.List.{AllByRecursion}
use Rattle.kp_kore.specs.Syntax.{sort_variable}
use Rattle.kp_kore.specs.Signature.{KoreSignature}
use Rattle.kp_kore.specs.Value.{Value}
use Rattle.kp_kore.specs.Instance.{Valuation}
use Rattle.kp_symbolic.specs.Terms.{Replaced, replacement_for, under_replaced}
use Rattle.kp_symbolic.specs.States.{AreTrue}
use Rattle.kp_symbolic.proofs.Distribution.{all_both}
use Rattle.kp_symbolic.proofs.Folded.{for_instance}
use Rattle.kp_case_laws.specs.Parts.{StatePart, OfEachInstance, IsDivided, IsTold}
use Rattle.kp_case_laws.specs.Cases.{IsBoundBy, MetPart, IsMetBy, IsApart, with_met, AreCases}
use Rattle.kp_case_laws.proofs.PartLemmas.{divides_further, undivided}

joined : (met : Option MetPart) (apart others : List StatePart) → with_met met apart ++ others ≡ with_met met (apart ++ others)
joined (Some m) apart others = refl
joined None apart others = refl

pub cases_of_parts : (g : KoreSignature) (left : Valuation → Value → Type 0) (p q : StatePart) (others : List StatePart) (met : Option MetPart) (apart : List StatePart) → IsDivided g p (q ∷ others) → AllByRecursion (IsApart g left) others → AreCases g left q met apart → AreCases g left p met (apart ++ others)
cases_of_parts g left p q others met apart d a c = record {
  divided = subst (λ parts. IsDivided g p parts) (joined met apart others) (divides_further g p q [] others (with_met met apart) d c.divided);
  is_met = c.is_met;
  are_apart = all_both (IsApart g left) apart others c.are_apart a;
}

pub met_alone : (g : KoreSignature) (left : Valuation → Value → Type 0) (m : MetPart) → IsTold g m.part → IsMetBy g left m → AreCases g left m.part (Some m) []
met_alone g left m told i = record { divided = undivided g m.part told; is_met = i; are_apart = tt }

pub apart_alone : (g : KoreSignature) (left : Valuation → Value → Type 0) (p : StatePart) → IsTold g p → IsApart g left p → AreCases g left p None (p ∷ [])
apart_alone g left p told i = record { divided = undivided g p told; is_met = tt; are_apart = (i, tt) }

-- ---- the rule's valuation

pub all_bound : (g : KoreSignature) (w : Valuation) (all bindings : List Replaced) → AllByRecursion (λ b. replacement_for all b.name ≡ Some b.term) bindings → IsBoundBy g w bindings (under_replaced g all w)
all_bound g w all [] h = tt
all_bound g w all (b ∷ bindings) h = (sym (for_instance g all w b.name (sort_variable []) (Some b.term) h.0), all_bound g w all bindings h.1)

pub gives_valuation : (g : KoreSignature) (left : Valuation → Value → Type 0) (m : MetPart) → IsMetBy g left m → OfEachInstance g m.part (λ w c. AreTrue g w m.equations ↔ left (under_replaced g m.bindings w) c)
gives_valuation g left m i w c h k =
    let e = i.exactly w c h k (under_replaced g m.bindings w) in
    ((λ t. e.1 (t, all_bound g w m.bindings m.bindings i.once)), (λ l. (e.0 l).0))
