-- A rule fires where its left side is met and its condition is true; the parts where it fires, and where it doesn't.
use Rattle.std.proofs.Common.{◌≡◌, refl, sym, ◌∙◌, subst, Bool, true, false, ◌&&◌, List, [], ◌∷◌, ◌++◌, Some, None, inl, inr, ◌↔◌}
use Rattle.std.specs.Prelude.{IsTrue, ⊤}
use Rattle.std.specs.List.{AllByRecursion, list_all}
use Rattle.std.proofs.lemmas.List.{append-nil}
use Rattle.kp_kore.specs.Parts.{SortedName, free_variables}
use Rattle.kp_kore.specs.Signature.{KoreSignature}
use Rattle.kp_kore.specs.Value.{Value}
use Rattle.kp_kore.specs.Instance.{Valuation, IsTrueUnder, GivesSorts, AgreesOn, is_named}
use Rattle.kp_kore.specs.Rules.{Rewrite, RuleBody, rewrite}
use Rattle.kp_kore.specs.Cases.{OfOneAlone}
use Rattle.kp_kore.specs.Division.{IsHeldBy}
use Rattle.kp_kore.specs.Steps.{Fires}
use Rattle.kp_kore.proofs.ListLemmas.{all_map}
use Rattle.kp_kore.proofs.NameLemmas.{by_name}
use Rattle.kp_kore.proofs.ClaimRuleLemmas.{all_true}
use Rattle.kp_symbolic.specs.Terms.{under_replaced}
use Rattle.kp_symbolic.specs.States.{Literal, IsClauseTrue, AreTrue}
use Rattle.kp_symbolic.proofs.Distribution.{all_both, all_first, all_second}
use Rattle.kp_rules.specs.Skeletons.{Form, Admits}
use Rattle.kp_case_laws.specs.Parts.{StatePart, state_reading, IsRestricted, IsTold, OfEachInstance}
use Rattle.kp_case_laws.specs.Cases.{MetPart, IsMetBy, IsApart, AreCases, left_side}
use Rattle.kp_case_laws.proofs.PartLemmas.{divides_of_these, undivided_where}
use Rattle.kp_case_laws.proofs.Excluding.{holding_part, other_parts, none_holds}
use Rattle.kp_case_laws.proofs.CaseLemmas.{gives_valuation}
use Rattle.kp_rules.specs.LeftSides.{IsLeftInstance, IsLeftSide, IsOverLeft}
use Rattle.kp_case_laws.specs.Firing.{SaysCondition, FiringPart, IsFiringPart, FiresNowhere, AreFiringCases, HasNoInstance, AreWhere, AreOpposites}

-- ---- where a rule fires

and_first : (a b : Bool) → a && b ≡ true → a ≡ true
and_first true b h = refl
and_first false b h = absurd (cc)

and_second : (a b : Bool) → a && b ≡ true → b ≡ true
and_second true b h = h
and_second false b h = absurd (cc)

agree_among : (left xs : List SortedName) (v w : Valuation) → AgreesOn left v w → IsTrue (list_all (λ x. is_named x.name left) xs) → AgreesOn xs v w
agree_among left [] v w a h = tt
agree_among left (x ∷ xs) v w a h = (
  by_name (λ y. w y ≡ v y) x.name left (and_first (is_named x.name left) (list_all (λ x. is_named x.name left) xs) h) a,
  agree_among left xs v w a (and_second (is_named x.name left) (list_all (λ x. is_named x.name left) xs) h),
)

-- valuations that agree on the left term's variables give the condition one truth
pub same_condition : (g : KoreSignature) (r : Rewrite) (v w : Valuation) → IsOverLeft r → AgreesOn (free_variables r.left) v w → AllByRecursion (IsTrueUnder g v) r.condition → AllByRecursion (IsTrueUnder g w) r.condition
same_condition g r v w over a t = all_true g v w r.condition
    (all_map (λ p. IsTrue (list_all (λ x. is_named x.name (free_variables r.left)) (free_variables p))) (λ p. AgreesOn (free_variables p) v w) r.condition
    (λ p h. agree_among (free_variables r.left) (free_variables p) v w a h) over) t

met_fires : (g : KoreSignature) (r : Rewrite) (form : Form) (m : MetPart) (clauses : List (List Literal)) → IsLeftSide g r form → IsOverLeft r → IsMetBy g (left_side g form) m → SaysCondition g r m clauses →
    IsFiringPart g (rewrite r) (record { part = m.part; clauses = m.equations ++ clauses })
met_fires g r form m clauses left over met condition w c sorts has =
    let own : Valuation = under_replaced g m.bindings w in
    let given : AreTrue g w m.equations ↔ Admits g own form c = gives_valuation g (left_side g form) m met w c sorts has in (
      (λ f.
          let v : Valuation = f.0 in
          let instance_of : IsLeftInstance g r v c = (f.1.sorts, f.1.matches) in
          let equal : AreTrue g w m.equations = ((met.exactly w c sorts has v).0 ((left.stands v c).1 instance_of)).0 in
          let own_instance : IsLeftInstance g r own c = (left.stands own c).0 (given.0 equal) in
          all_both (IsClauseTrue g w) m.equations clauses equal ((condition w c sorts has).1 (same_condition g r v own over (left.once v own c instance_of own_instance) f.1.condition))),
      (λ t.
          let own_instance : IsLeftInstance g r own c = (left.stands own c).0 (given.0 (all_first (IsClauseTrue g w) m.equations clauses t)) in (
            own,
            record {
              sorts = own_instance.0;
              matches = own_instance.1;
              condition = (condition w c sorts has).0 (all_second (IsClauseTrue g w) m.equations clauses t);
            },
          )),
    )

apart_never : (g : KoreSignature) (r : Rewrite) (form : Form) (q : StatePart) → IsLeftSide g r form → IsApart g (left_side g form) q → FiresNowhere g (rewrite r) q
apart_never g r form q left apart w c sorts has f = apart w c sorts has f.0 ((left.stands f.0 c).1 (f.1.sorts, f.1.matches))

all_apart : (g : KoreSignature) (r : Rewrite) (form : Form) (qs : List StatePart) → IsLeftSide g r form → AllByRecursion (IsApart g (left_side g form)) qs → AllByRecursion (FiresNowhere g (rewrite r)) qs
all_apart g r form qs left = all_map (IsApart g (left_side g form)) (FiresNowhere g (rewrite r)) qs (λ q h. apart_never g r form q left h)

pub fires_where_met : (g : KoreSignature) (r : Rewrite) (form : Form) (p : StatePart) (m : MetPart) (apart : List StatePart) (clauses : List (List Literal)) → AreCases g (left_side g form) p (Some m) apart → IsLeftSide g r form → IsOverLeft r → SaysCondition g r m clauses →
    AreFiringCases g (rewrite r) p (Some (record { part = m.part; clauses = m.equations ++ clauses })) apart
fires_where_met g r form p m apart clauses cases left over condition = record {
  divided = cases.divided;
  fires = met_fires g r form m clauses left over cases.is_met condition;
  elsewhere = all_apart g r form apart left cases.are_apart;
}

pub fires_nowhere_else : (g : KoreSignature) (r : Rewrite) (form : Form) (p : StatePart) (apart : List StatePart) → AreCases g (left_side g form) p None apart → IsLeftSide g r form → AreFiringCases g (rewrite r) p None apart
fires_nowhere_else g r form p apart cases left = record {
  divided = cases.divided;
  fires = tt;
  elsewhere = all_apart g r form apart left cases.are_apart;
}

-- ---- the parts where a rule fires, and where it doesn't

none_apart : (g : KoreSignature) (body : RuleBody) (p : StatePart) (v : Valuation) (c : Value) (qs : List StatePart) → AllByRecursion (FiresNowhere g body) qs → OfOneAlone (λ q. IsHeldBy (state_reading g) g p q v c) qs → ¬ Fires g body c
none_apart g body p v c [] none one f = one
none_apart g body p v c (q ∷ qs) none one f = elim one [
  | inl a ↦ none.0 a.0.chosen c a.0.sorts a.0.met f
  | inr b ↦ none_apart g body p v c qs none.1 b.1 f
]

-- a valuation of a part by clauses is one of the part
pub same_hand : (g : KoreSignature) (p r : StatePart) (clauses : List (List Literal)) → IsRestricted g p clauses [] r → r.state.variables ≡ p.state.variables
same_hand g p r clauses i = i.variables ∙ append-nil p.state.variables

pub firing_part : (g : KoreSignature) (body : RuleBody) (p r : StatePart) (m : FiringPart) (apart : List StatePart) → AreFiringCases g body p (Some m) apart → IsRestricted g m.part m.clauses [] r → AreWhere g (λ c. Fires g body c) p (r ∷ [])
firing_part g body p r m apart cases i = record {
  divided = holding_part g (λ c. Fires g body c) p m.part r apart m.clauses cases.divided cases.fires cases.elsewhere i;
  only = ((λ w c h k. let j = (i.instances w c h).0 k in (cases.fires w c (subst (λ ys. GivesSorts g w ys) (same_hand g m.part r m.clauses i) h) j.0).1 j.1), tt);
}

pub no_firing_part : (g : KoreSignature) (body : RuleBody) (p : StatePart) (apart : List StatePart) → AreFiringCases g body p None apart → AreWhere g (λ c. Fires g body c) p []
no_firing_part g body p apart cases = record {
  divided = record { below = tt; each = λ v c sorts met f. none_apart g body p v c apart cases.elsewhere (cases.divided.each v c sorts met tt) f };
  only = tt;
}

pub excluded_part : (g : KoreSignature) (body : RuleBody) (p q : StatePart) (m : FiringPart) (apart : List StatePart) (others : List (List Literal)) → AreFiringCases g body p (Some m) apart → AreOpposites g m.part m.clauses others → IsRestricted g m.part others [] q →
    AreWhere g (λ c. ¬ Fires g body c) p (q ∷ apart)
excluded_part g body p q m apart others cases opposite i = record {
  divided = other_parts g (λ c. Fires g body c) p m.part q apart m.clauses others cases.divided cases.fires (λ w c h k. (opposite w c h k).1) i;
  only = (none_holds g (λ c. Fires g body c) m.part q m.clauses others cases.fires (λ w c h k. (opposite w c h k).0) i, cases.elsewhere);
}

pub parts_apart : (g : KoreSignature) (body : RuleBody) (p : StatePart) (apart : List StatePart) → AreFiringCases g body p None apart → AreWhere g (λ c. ¬ Fires g body c) p apart
parts_apart g body p apart cases = record {
  divided = divides_of_these g (λ c. ⊤) (λ c. ¬ Fires g body c) p apart (λ c n. tt) cases.divided;
  only = cases.elsewhere;
}

pub untouched_part : (g : KoreSignature) (body : RuleBody) (p : StatePart) → IsTold g p → FiresNowhere g body p → AreWhere g (λ c. ¬ Fires g body c) p (p ∷ [])
untouched_part g body p told none = record { divided = undivided_where g (λ c. ¬ Fires g body c) p told; only = (none, tt) }

pub never_fires : (g : KoreSignature) (body : RuleBody) (p : StatePart) (m : FiringPart) (apart : List StatePart) → AreFiringCases g body p (Some m) apart → OfEachInstance g m.part (λ w c. ¬ AreTrue g w m.clauses) → FiresNowhere g body p
never_fires g body p m apart cases none v c sorts met f = elim (cases.divided.each v c sorts met tt) [
  | inl a ↦ none a.0.chosen c a.0.sorts a.0.met ((cases.fires a.0.chosen c a.0.sorts a.0.met).0 f)
  | inr b ↦ none_apart g body p v c apart cases.elsewhere b.1 f
]

-- ---- where nothing is left

stable_clauses : (g : KoreSignature) (w : Valuation) (cs : List (List Literal)) → ¬ ¬ AreTrue g w cs → AreTrue g w cs
stable_clauses g w [] n = tt
stable_clauses g w (c ∷ cs) n = ((λ f. n (λ t. t.0 f)), stable_clauses g w cs (λ k. n (λ t. k t.1)))

one_of_empty : (g : KoreSignature) (p : StatePart) (v : Valuation) (c : Value) (qs : List StatePart) → AllByRecursion (HasNoInstance g) qs → ¬ OfOneAlone (λ q. IsHeldBy (state_reading g) g p q v c) qs
one_of_empty g p v c [] none one = one
one_of_empty g p v c (q ∷ qs) none one = elim one [
  | inl a ↦ none.0 a.0.chosen c a.0.sorts a.0.met
  | inr b ↦ one_of_empty g p v c qs none.1 b.1
]

pub always_fires : (g : KoreSignature) (body : RuleBody) (p q : StatePart) (m : FiringPart) (apart : List StatePart) (others : List (List Literal)) → AreFiringCases g body p (Some m) apart → AreOpposites g m.part m.clauses others → IsRestricted g m.part others [] q →
    AllByRecursion (HasNoInstance g) (q ∷ apart) → OfEachInstance g p (λ w c. Fires g body c)
always_fires g body p q m apart others cases opposite i none v c sorts met = elim (cases.divided.each v c sorts met tt) [
  | inl a ↦
      let there : GivesSorts g a.0.chosen q.state.variables = subst (λ ys. GivesSorts g a.0.chosen ys) (sym (same_hand g m.part q others i)) a.0.sorts in
      (cases.fires a.0.chosen c a.0.sorts a.0.met).1 (stable_clauses g a.0.chosen m.clauses
      (λ n. none.0 a.0.chosen c there ((i.instances a.0.chosen c there).1 (a.0.met, (opposite a.0.chosen c a.0.sorts a.0.met).1 n))))
  | inr b ↦ absurd (one_of_empty g p v c apart none.1 b.1)
]
