-- What is left open of a part is a cause of the step's end.
use Rattle.std.proofs.Common.{◌≡◌, refl, sym, ap, subst, arith, ℕ, zero, suc, ◌<◌, get_or, List, [], ◌∷◌, Option, Some, None, inl, inr}
use Rattle.std.specs.List.{AllByRecursion, Contains}
use Rattle.std.proofs.lemmas.List.Elements.{Contains-push, Contains-append_left, Contains-append_right, Contains-append_cases}
use Rattle.kp_kore.specs.Syntax.{Text}
use Rattle.kp_kore.specs.Rules.{Rewrite, rewrite, ForeignLeft, foreign_rule, RewriteRule}
use Rattle.kp_kore.specs.Theory.{Theory}
use Rattle.kp_kore.specs.Steps.{Fires, IsUnknownBy}
use Rattle.kp_kore.proofs.TurnLemmas.{of_member}
use Rattle.kp_symbolic.specs.States.{Literal, SymbolicState}
use Rattle.kp_symbolic.specs.Verdicts.{Weighed}
use Rattle.kp_case_laws.specs.Parts.{StatePart, whole, IsTold}
use Rattle.kp_case_laws.specs.Firing.{AreWhere}
use Rattle.kp_case_laws.specs.Turns.{RemainsTo}
use Rattle.kp_case_laws.proofs.PartsWhere.{said_otherwise}
use Rattle.kp_case_laws.proofs.TurnsFound.{left_to_none}
use Rattle.kp_unify.specs.Narrowed.{NumberedPart}
use Rattle.kp_step.specs.Comes.{ComesFrom, itself}
use Rattle.kp_step.specs.ReadyParts.{parts_of}
use Rattle.kp_step.specs.Meets.{MeetsRule, AllMeet}
use Rattle.kp_step.specs.Counted.{ComparesWithin}
use Rattle.kp_step.proofs.MeetLemmas.{one_of_these_meets, only_it}
use Rattle.kp_step.specs.Remainders.{IsOneOf, IsOfThese, AreUntaken}
use Rattle.kp_step.specs.Causes.{MayRewrite, IsAsked, IsShownOf, AreAllBefore, IsUndecidedStep}

part_among : (ps : List NumberedPart) (q : NumberedPart) → Contains ps q → Contains (parts_of ps) q.part
part_among [] q c = let none = c.1 in absurd (omega (arith, none))
part_among (p ∷ ps) q c = elim (Contains-append_cases (p ∷ []) ps q c) [
  | inl h ↦ first (only h)
  | inr h ↦ Contains-append_right (p.part ∷ []) (parts_of ps) q.part (part_among ps q h)
]
  where
    only : Contains (p ∷ []) q → p ≡ q
    only (k, l, e) = by k l e
      where
        by : (j : ℕ) → j < 1 → get_or (p ∷ []) j q ≡ q → p ≡ q
        by zero l e = e
        by (suc j) l e = absurd (omega (arith, l))

    first : p ≡ q → Contains (p.part ∷ parts_of ps) q.part
    first e = subst (λ x. Contains (p.part ∷ parts_of ps) x) (ap (λ x. x.part) e) (Contains-append_left (p.part ∷ []) (parts_of ps) p.part (Contains-push [] p.part))

-- of the state itself
pub open_state : (t : Theory) (s : SymbolicState) (shown : List (List Literal)) (over : Option Weighed) → IsTold t.signature (whole s) → IsShownOf t.signature s s shown over → ComparesWithin t.signature s s [] over → IsUndecidedStep t s None shown over
open_state t s shown over told shows compares = record {
  turns = [];
  of_theory = tt;
  meets = one_of_these_meets t.signature s None [] (λ r e. absurd (cc)) tt;
  parts = whole s ∷ [];
  asked = left_to_none t.signature (whole s) told;
  part = whole s;
  first = inl (refl, refl);
  among = Contains-push [] (whole s);
  comes = itself;
  shows = shows;
  compares = compares;
}

-- of a part that rules leave to a rule, where those before it are all
pub undecided_rule : (t : Theory) (used : List Text) (s : SymbolicState) (m : StatePart) (r : RewriteRule) (read : Rewrite) (found : List RewriteRule) (parts : List NumberedPart) (q : NumberedPart) (shown : List (List Literal)) (over : Option Weighed) →
    r.body ≡ rewrite read → AllByRecursion (Contains t.rules) found → MeetsRule t.signature s r.body → AllMeet t.signature s found → AreUntaken t.signature used (Some r) found (whole s) m parts → Contains parts q → IsShownOf t.signature s q.part.state shown over → ComparesWithin t.signature s q.part.state (r ∷ found) over → AreAllBefore t s (Some r) found → IsUndecidedStep t s (Some r) shown over
undecided_rule t used s m r read found parts q shown over body members own all l c shows compares first = record {
  turns = found;
  of_theory = members;
  meets = one_of_these_meets t.signature s (Some r) found (only_it t.signature s r own) all;
  parts = parts_of parts;
  asked = said_otherwise t.signature (RemainsTo t.signature (Some r) found) (IsAsked t.signature (Some r) found) (whole s) (parts_of parts)
      (λ w d h k. ((λ f. (subst (λ b. MayRewrite t.signature b d) (sym body) (subst (λ b. Fires t.signature b d) body f.0), f.1)), (λ a. (subst (λ b. Fires t.signature b d) (sym body) (subst (λ b. MayRewrite t.signature b d) body a.0), a.1)))) l.left;
  part = q.part;
  first = inr first;
  among = part_among parts q c;
  comes = of_member (IsOfThese t.signature (Some r) found (whole s)) parts q l.comes c;
  shows = shows;
  compares = compares;
}

-- of a part that they leave to none, where they are all
pub open_remainder : (t : Theory) (used : List Text) (s : SymbolicState) (m : StatePart) (found : List RewriteRule) (parts : List NumberedPart) (q : NumberedPart) (shown : List (List Literal)) (over : Option Weighed) →
    AllByRecursion (Contains t.rules) found → AllMeet t.signature s found → AreUntaken t.signature used None found (whole s) m parts → Contains parts q → IsShownOf t.signature s q.part.state shown over → ComparesWithin t.signature s q.part.state found over → AreAllBefore t s None found → IsUndecidedStep t s None shown over
open_remainder t used s m found parts q shown over members all l c shows compares first = record {
  turns = found;
  of_theory = members;
  meets = one_of_these_meets t.signature s None found (λ r e. absurd (cc)) all;
  parts = parts_of parts;
  asked = l.left;
  part = q.part;
  first = inr first;
  among = part_among parts q c;
  comes = of_member (IsOfThese t.signature None found (whole s)) parts q l.comes c;
  shows = shows;
  compares = compares;
}

-- of the part where a foreign rule might rewrite
pub open_foreign : (t : Theory) (s : SymbolicState) (r : RewriteRule) (left : ForeignLeft) (p : StatePart) (shown : List (List Literal)) (over : Option Weighed) → r.body ≡ foreign_rule left → MeetsRule t.signature s r.body →
    AreWhere t.signature (λ c. IsUnknownBy t.signature r.body c) (whole s) (p ∷ []) → ComesFrom t.signature (IsOneOf (Some r) []) (whole s) p → IsShownOf t.signature s p.state shown over → ComparesWithin t.signature s p.state (r ∷ []) over → IsUndecidedStep t s (Some r) shown over
open_foreign t s r left p shown over body own d comes shows compares = record {
  turns = [];
  of_theory = tt;
  meets = one_of_these_meets t.signature s (Some r) [] (only_it t.signature s r own) tt;
  parts = p ∷ [];
  asked = said_otherwise t.signature (λ c. IsUnknownBy t.signature r.body c) (IsAsked t.signature (Some r) []) (whole s) (p ∷ [])
      (λ w e h k. ((λ u. (subst (λ b. MayRewrite t.signature b e) (sym body) (subst (λ b. IsUnknownBy t.signature b e) body u), tt)), (λ a. subst (λ b. IsUnknownBy t.signature b e) (sym body) (subst (λ b. MayRewrite t.signature b e) body a.0)))) d;
  part = p;
  first = inl (refl, left, body);
  among = Contains-push [] p;
  comes = comes;
  shows = shows;
  compares = compares;
}
