-- Where a foreign rule might rewrite an instance, and where it doesn't.
use Rattle.std.proofs.Common.{subst, List, [], ◌∷◌, Some, None, inl, inr, ◌↔◌}
use Rattle.std.specs.List.{AllByRecursion, Contains}
use Rattle.kp_kore.specs.Signature.{KoreSignature}
use Rattle.kp_kore.specs.Value.{Value}
use Rattle.kp_kore.specs.Sorted.{IsSorted}
use Rattle.kp_kore.specs.Instance.{Valuation, GivesSorts}
use Rattle.kp_kore.specs.Rules.{RewriteRule, ForeignLeft, foreign_rule}
use Rattle.kp_kore.specs.Foreign.{IsSkeletonInstance}
use Rattle.kp_kore.specs.Theory.{Theory}
use Rattle.kp_kore.specs.Steps.{IsUnknownBy, IsUnknown, AnyByRecursion}
use Rattle.kp_kore.proofs.TurnLemmas.{each_member}
use Rattle.kp_symbolic.specs.Terms.{under_replaced}
use Rattle.kp_symbolic.specs.States.{SymbolicState}
use Rattle.kp_rules.specs.Skeletons.{Form, Admits}
use Rattle.kp_case_laws.specs.Parts.{StatePart, whole, OfEachInstance, IsRestricted, HoldsWhere}
use Rattle.kp_case_laws.specs.Cases.{MetPart, IsMetBy, IsApart, AreCases, left_side}
use Rattle.kp_case_laws.proofs.CaseLemmas.{gives_valuation}
use Rattle.kp_case_laws.proofs.Excluding.{holding_part}
use Rattle.kp_case_laws.proofs.PartLemmas.{none_has}
use Rattle.kp_case_laws.specs.Firing.{HasNoInstance, AreWhere}
use Rattle.kp_case_laws.proofs.FiringLemmas.{same_hand}
use Rattle.kp_case_laws.proofs.PartsWhere.{instance_above}
use Rattle.kp_step.specs.ReadyParts.{HasInstance}
use Rattle.kp_step.specs.Causes.{MeetsForeign}

-- of the sorted values, the form stands for the foreign rule's
abbrev Stands : KoreSignature → ForeignLeft → Form → Type 0
Stands g l form = (c : Value) → IsSorted g c → ((v : Valuation) × Admits g v form c) ↔ IsSkeletonInstance g l c

abbrev AreSorted : KoreSignature → StatePart → Type 0
AreSorted g p = OfEachInstance g p (λ w c. IsSorted g c)

met_where : (g : KoreSignature) (l : ForeignLeft) (form : Form) (m : MetPart) → Stands g l form → AreSorted g m.part → IsMetBy g (left_side g form) m → HoldsWhere g (IsSkeletonInstance g l) m.part m.equations
met_where g l form m stands sorted met w c h k = (
  (λ q. let a = (stands c (sorted w c h k)).1 q in ((met.exactly w c h k a.0).0 a.1).0),
  (λ t. (stands c (sorted w c h k)).0 (under_replaced g m.bindings w, (gives_valuation g (left_side g form) m met w c h k).0 t)),
)

apart_never : (g : KoreSignature) (l : ForeignLeft) (form : Form) (q : StatePart) → Stands g l form → AreSorted g q → IsApart g (left_side g form) q → OfEachInstance g q (λ w c. ¬ IsSkeletonInstance g l c)
apart_never g l form q stands sorted apart w c h k u = let a = (stands c (sorted w c h k)).1 u in apart w c h k a.0 a.1

all_apart : (g : KoreSignature) (l : ForeignLeft) (form : Form) (qs : List StatePart) → Stands g l form → AllByRecursion (AreSorted g) qs → AllByRecursion (IsApart g (left_side g form)) qs → AllByRecursion (λ q. OfEachInstance g q (λ w c. ¬ IsSkeletonInstance g l c)) qs
all_apart g l form [] stands sorted apart = tt
all_apart g l form (q ∷ qs) stands sorted apart = (apart_never g l form q stands sorted.0 apart.0, all_apart g l form qs stands sorted.1 apart.1)

-- what is met is where the rule might rewrite
pub unknown_where : (g : KoreSignature) (l : ForeignLeft) (form : Form) (p r : StatePart) (m : MetPart) (apart : List StatePart) → Stands g l form → AreSorted g m.part → AllByRecursion (AreSorted g) apart → AreCases g (left_side g form) p (Some m) apart → IsRestricted g m.part m.equations [] r →
    AreWhere g (λ c. IsUnknownBy g (foreign_rule l) c) p (r ∷ [])
unknown_where g l form p r m apart stands sorted others cases i = record {
  divided = holding_part g (IsSkeletonInstance g l) p m.part r apart m.equations cases.divided (met_where g l form m stands sorted cases.is_met) (all_apart g l form apart stands others cases.are_apart) i;
  only = ((λ w c h k. let j = (i.instances w c h).0 k in (met_where g l form m stands sorted cases.is_met w c (subst (λ ys. GivesSorts g w ys) (same_hand g m.part r m.equations i) h) j.0).1 j.1), tt);
}

-- where nothing is met, it rewrites nothing
pub unknown_nowhere : (g : KoreSignature) (l : ForeignLeft) (form : Form) (p : StatePart) (apart : List StatePart) → Stands g l form → AllByRecursion (AreSorted g) apart → AreCases g (left_side g form) p None apart → OfEachInstance g p (λ w c. ¬ IsUnknownBy g (foreign_rule l) c)
unknown_nowhere g l form p apart stands others cases = none_has g (IsSkeletonInstance g l) p apart cases.divided (all_apart g l form apart stands others cases.are_apart)

-- nor where the part that is met has no instance
pub nothing_unknown : (g : KoreSignature) (Q : Value → Type 0) (p r : StatePart) → AreWhere g Q p (r ∷ []) → HasNoInstance g r → OfEachInstance g p (λ w c. ¬ Q c)
nothing_unknown g Q p r d none w c h k q = elim (d.divided.each w c h k q) [
  | inl a ↦ none a.0.chosen c a.0.sorts a.0.met
  | inr b ↦ b.1
]

-- one instance of it is enough
pub meets_foreign : (t : Theory) (s : SymbolicState) (rule : RewriteRule) (r : StatePart) → Contains t.rules rule → AreWhere t.signature (λ c. IsUnknownBy t.signature rule.body c) (whole s) (r ∷ []) → HasInstance t.signature r → MeetsForeign t s rule
meets_foreign t s rule r member d i = record {
  of_theory = member;
  valuation = i.valuation;
  configuration = i.configuration;
  sorts = d.divided.below.0.part.within.sorts i.valuation i.sorts;
  met = instance_above t.signature (whole s) r i.valuation i.configuration d.divided.below.0 i.sorts i.met;
  unknown = d.only.0 i.valuation i.configuration i.sorts i.met;
}

none_of_these : (t : Theory) (c : Value) (rules : List RewriteRule) → AllByRecursion (λ r. ¬ IsUnknownBy t.signature r.body c) rules → ¬ AnyByRecursion (λ r. IsUnknownBy t.signature r.body c) rules
none_of_these t c [] n a = a
none_of_these t c (r ∷ rules) n a = elim a [ inl u ↦ n.0 u | inr b ↦ none_of_these t c rules n.1 b ]

-- where no rule might rewrite an instance, each is known
pub all_known : (t : Theory) (p : StatePart) → ((r : RewriteRule) → Contains t.rules r → OfEachInstance t.signature p (λ w c. ¬ IsUnknownBy t.signature r.body c)) → OfEachInstance t.signature p (λ w c. ¬ IsUnknown t c)
all_known t p each w c h k = none_of_these t c t.rules (each_member (λ r. ¬ IsUnknownBy t.signature r.body c) t.rules (λ r member. each r member w c h k))
