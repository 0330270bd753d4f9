-- Parts where something holds are divided one after the other; those without an instance fall away.
use Rattle.std.proofs.Common.{sym, subst, List, [], ◌∷◌, ◌++◌, ◌↔◌}
use Rattle.std.specs.Prelude.{⊤}
use Rattle.std.specs.List.{AllByRecursion}
use Rattle.std.proofs.lemmas.List.{append_assoc, append-nil}
use Rattle.kp_kore.specs.Signature.{KoreSignature}
use Rattle.kp_kore.specs.Value.{Value}
use Rattle.kp_kore.specs.Instance.{Valuation, GivesSorts}
use Rattle.kp_symbolic.specs.States.{IsStateInstance}
use Rattle.kp_symbolic.proofs.Distribution.{all_both, all_first, all_second}
use Rattle.kp_case_laws.specs.Parts.{StatePart, OfEachInstance, IsPartBelow, IsDividedWhere, IsTold}
use Rattle.kp_case_laws.proofs.PartLemmas.{divides_of_these, divides_further_where, drops_where, undivided}
use Rattle.kp_case_laws.specs.Firing.{HasNoInstance, AreWhere, AreDividedSoFar}

-- an instance of a part is one of what it is a part of
pub instance_above : (g : KoreSignature) (p r : StatePart) (w : Valuation) (c : Value) → IsPartBelow g p r → GivesSorts g w r.state.variables → IsStateInstance g w r.state c → IsStateInstance g w p.state c
instance_above g p r w c b sorts met = ((b.part.same w c sorts).0 met).0

abbrev OfParts : KoreSignature → (Value → Type 0) → StatePart → Type 0
OfParts g Q r = OfEachInstance g r (λ w c. Q c)

pub all_of_it : (g : KoreSignature) (p : StatePart) → IsTold g p → AreWhere g (λ c. ⊤) p (p ∷ [])
all_of_it g p told = record { divided = undivided g p told; only = ((λ w c h k. tt), tt) }

-- where the same holds of the instances
pub said_otherwise : (g : KoreSignature) (Q R : Value → Type 0) (p : StatePart) (parts : List StatePart) → OfEachInstance g p (λ w c. Q c ↔ R c) → AreWhere g Q p parts → AreWhere g R p parts
said_otherwise g Q R p parts same d = record {
  divided = record { below = d.divided.below; each = λ v c sorts met r. d.divided.each v c sorts met ((same v c sorts met).1 r) };
  only = each_part parts d.divided.below d.only;
}
  where
    each_part : (rs : List StatePart) → AllByRecursion (IsPartBelow g p) rs → AllByRecursion (OfParts g Q) rs → AllByRecursion (OfParts g R) rs
    each_part [] b o = tt
    each_part (r ∷ rs) b o = ((λ w c h k. (same w c (b.0.part.within.sorts w h) (instance_above g p r w c b.0 h k)).0 (o.0 w c h k)), each_part rs b.1 o.1)

pub drops_parts : (g : KoreSignature) (Q : Value → Type 0) (p q : StatePart) (ps qs : List StatePart) → HasNoInstance g q → AreWhere g Q p (ps ++ q ∷ qs) → AreWhere g Q p (ps ++ qs)
drops_parts g Q p q ps qs none d = record {
  divided = drops_where g Q p q ps qs d.divided none;
  only = all_both (OfParts g Q) ps qs (all_first (OfParts g Q) ps (q ∷ qs) d.only) (all_second (OfParts g Q) ps (q ∷ qs) d.only).1;
}

pub sets_out : (g : KoreSignature) (Q R : Value → Type 0) (p : StatePart) (parts : List StatePart) → AreWhere g Q p parts → AreDividedSoFar g Q R p [] parts
sets_out g Q R p parts d = record { divided = divides_of_these g Q (λ c. Q c × R c) p parts (λ c h. h.0) d.divided; of_done = tt; of_waiting = d.only }

pub goes_on : (g : KoreSignature) (Q R : Value → Type 0) (p q : StatePart) (done rest rs : List StatePart) → AreDividedSoFar g Q R p done (q ∷ rest) → AreWhere g R q rs → AreDividedSoFar g Q R p (done ++ rs) rest
goes_on g Q R p q done rest rs d e = record {
  divided = divides_of_these g (λ c. (Q c × R c) × R c) (λ c. Q c × R c) p ((done ++ rs) ++ rest) (λ c h. (h, h.1))
      (subst (IsDividedWhere g (λ c. (Q c × R c) × R c) p) (sym (append_assoc done rs rest)) (divides_further_where g (λ c. Q c × R c) R p q done rest rs d.divided e.divided));
  of_done = all_both (OfParts g (λ c. Q c × R c)) done rs d.of_done (both rs e.divided.below e.only);
  of_waiting = d.of_waiting.1;
}
  where
    both : (xs : List StatePart) → AllByRecursion (IsPartBelow g q) xs → AllByRecursion (OfParts g R) xs → AllByRecursion (OfParts g (λ c. Q c × R c)) xs
    both [] b o = tt
    both (x ∷ xs) b o = ((λ w c h k. (d.of_waiting.0 w c (b.0.part.within.sorts w h) (instance_above g q x w c b.0 h k), o.0 w c h k)), both xs b.1 o.1)

pub arrives : (g : KoreSignature) (Q R : Value → Type 0) (p : StatePart) (parts : List StatePart) → AreDividedSoFar g Q R p parts [] → AreWhere g (λ c. Q c × R c) p parts
arrives g Q R p parts d = record { divided = subst (IsDividedWhere g (λ c. Q c × R c) p) (append-nil parts) d.divided; only = d.of_done }
