-- What a step answers, by what its parts answer.
use Rattle.std.proofs.Common.{◌≡◌, sym, ap, subst, ◌∙◌, ℕ, true, false, List, [], Option, Some, None, inl, inr, string_bytes}
use Rattle.std.specs.Prelude.{◌⊎◌}
use Rattle.std.specs.List.{AllByRecursion}
use Rattle.kp_kore.specs.Syntax.{KoreSort, KorePattern}
use Rattle.kp_kore.specs.Signature.{KoreSignature}
use Rattle.kp_signature.specs.View.{signature_view}
use Rattle.kp_kore.specs.Value.{Value}
use Rattle.kp_kore.specs.Sorted.{IsSorted}
use Rattle.kp_kore.specs.Instance.{Valuation, instance}
use Rattle.kp_kore.specs.Numbers.{computes_wide}
use Rattle.kp_kore.specs.Theory.{Theory}
use Rattle.kp_kore.specs.Steps.{AnyByRecursion, HasTurn, IsUnknown}
use Rattle.kp_compile.specs.Verified.{IsVerifiedTerm}
use Rattle.kp_rule_sets.specs.RuleSets.{RunsAs}
use Rattle.kp_rule_sets.specs.declared.rule_set.RuleSet.{RuleSet}
use Rattle.kp_compile.specs.Spelled.{IsGroundState}
use Rattle.kp_run.specs.Causes.{HasWideCondition}
use Rattle.kp_run.specs.Runs.{IsFirstUnknown}
use Rattle.kp_run.specs.Turns.{BodyIsWide}
use Rattle.kp_successors.specs.Errors.{IsCausedBy, IsUnvalued, IsForeignBy}
use Rattle.kp_successors.specs.Refusals.{HasWideRule, IsRefusedFor}
use Rattle.kp_successors.specs.Successors.{AreSuccessors, HasWidePart, IsTooWide, wide_pattern, wide_condition, wide_right}
use Rattle.kp_successors.specs.Turns.{IsWideAt, IsLeast, AreNexts}
use Rattle.kp_successors.specs.declared.error.GroundError.{GroundError}
use Rattle.kp_successors.specs.declared.error.GroundError.TheVariants.{Memory, Number, Foreign, Unread, NoInjection}
use Rattle.kp_successors.proofs.Answered.{are_successors, no_successors, conditions_narrow, rights_narrow, no_turns, condition_wide, right_wide, split_any}
use Rattle.kp_successors.proofs.Refused.{caused_by}

-- ---- the rules over the signature that the code has

abbrev Here : RuleSet → KoreSignature
Here rules = signature_view rules.signature.value

pub least_there : (t : Theory) (rules : RuleSet) (u : Value) (o : Option ℕ) → RunsAs t rules → IsLeast (Here rules) u rules.rules.items o → IsLeast t.signature u rules.rules.items o
least_there t rules u o runs h = subst (λ g. IsLeast g u rules.rules.items o) runs.signature h

-- the patterns at the least number
pub nexts_are : (t : Theory) (rules : RuleSet) (u : Value) (n : ℕ) (ps : List KorePattern) → RunsAs t rules → IsSorted t.signature u → IsLeast (Here rules) u rules.rules.items (Some n) →
    AreNexts (Here rules) u n rules.rules.items ps → ¬ IsUnknown t u → AreSuccessors t u t.rules ps
nexts_are t rules u n ps runs s least nexts known =
    are_successors t rules u n ps runs s known (least_there t rules u (Some n) runs least) (subst (λ g. AreNexts g u n rules.rules.items ps) runs.signature nexts)

pub none_are : (t : Theory) (rules : RuleSet) (u : Value) → RunsAs t rules → IsSorted t.signature u → IsLeast (Here rules) u rules.rules.items None → AreSuccessors t u t.rules []
none_are t rules u runs s least = no_successors t rules u runs s (least_there t rules u None runs least)

abbrev NoWideCondition : KoreSignature → Value → RuleSet → Type 0
NoWideCondition g u rules = AllByRecursion (λ r. ¬ BodyIsWide g u r.body.value) rules.rules.items

conditions_there : (t : Theory) (rules : RuleSet) (u : Value) → RunsAs t rules → IsSorted t.signature u → NoWideCondition (Here rules) u rules → ¬ AnyByRecursion (λ m. HasWideCondition t.signature u m.body) t.rules
conditions_there t rules u runs s h = conditions_narrow t rules u runs s (subst (λ g. NoWideCondition g u rules) runs.signature h)

-- no rule is wide
pub nexts_narrow : (t : Theory) (rules : RuleSet) (u : Value) (n : ℕ) → RunsAs t rules → IsSorted t.signature u → IsLeast (Here rules) u rules.rules.items (Some n) → NoWideCondition (Here rules) u rules →
    AllByRecursion (λ r. ¬ IsWideAt (Here rules) u n r) rules.rules.items → ¬ HasWideRule t u
nexts_narrow t rules u n runs s least conditions rights (inl some) = conditions_there t rules u runs s conditions some
nexts_narrow t rules u n runs s least conditions rights (inr some) =
    rights_narrow t rules u n runs s (least_there t rules u (Some n) runs least) (subst (λ g. AllByRecursion (λ r. ¬ IsWideAt g u n r) rules.rules.items) runs.signature rights) some

pub none_narrow : (t : Theory) (rules : RuleSet) (u : Value) → RunsAs t rules → IsSorted t.signature u → IsLeast (Here rules) u rules.rules.items None → NoWideCondition (Here rules) u rules → ¬ HasWideRule t u
none_narrow t rules u runs s least conditions (inl some) = conditions_there t rules u runs s conditions some
none_narrow t rules u runs s least conditions (inr some) = no_turns t rules u runs s (least_there t rules u None runs least) some

-- some rule is
condition_there : (t : Theory) (rules : RuleSet) (u : Value) → RunsAs t rules → IsSorted t.signature u → AnyByRecursion (λ r. BodyIsWide (Here rules) u r.body.value) rules.rules.items → HasWideRule t u
condition_there t rules u runs s some = inl (condition_wide t rules u runs s (subst (λ g. AnyByRecursion (λ r. BodyIsWide g u r.body.value) rules.rules.items) runs.signature some))

pub least_refused : (t : Theory) (rules : RuleSet) (u : Value) (e : GroundError) → RunsAs t rules → IsSorted t.signature u → IsCausedBy (Here rules) (AnyByRecursion (λ r. BodyIsWide (Here rules) u r.body.value) rules.rules.items) e → IsCausedBy t.signature (HasWideRule t u) e
least_refused t rules u e runs s h =
    subst (λ g. IsCausedBy g (HasWideRule t u) e) runs.signature
    (caused_by (Here rules) (AnyByRecursion (λ r. BodyIsWide (Here rules) u r.body.value) rules.rules.items) (HasWideRule t u) e (condition_there t rules u runs s) h)

either_wide : (t : Theory) (rules : RuleSet) (u : Value) (n : ℕ) → RunsAs t rules → IsSorted t.signature u → IsLeast (Here rules) u rules.rules.items (Some n) →
    AnyByRecursion (λ r. BodyIsWide (Here rules) u r.body.value) rules.rules.items ⊎ AnyByRecursion (IsWideAt (Here rules) u n) rules.rules.items → HasWideRule t u
either_wide t rules u n runs s least (inl some) = condition_there t rules u runs s some
either_wide t rules u n runs s least (inr some) =
    inr (right_wide t rules u n runs s (least_there t rules u (Some n) runs least) (subst (λ g. AnyByRecursion (IsWideAt g u n) rules.rules.items) runs.signature some))

abbrev IsWideRuleHere : RuleSet → Value → ℕ → Type 0
IsWideRuleHere rules u n = AnyByRecursion (λ r. BodyIsWide (Here rules) u r.body.value ⊎ IsWideAt (Here rules) u n r) rules.rules.items

pub nexts_refused : (t : Theory) (rules : RuleSet) (u : Value) (n : ℕ) (e : GroundError) → RunsAs t rules → IsSorted t.signature u → IsLeast (Here rules) u rules.rules.items (Some n) → IsCausedBy (Here rules) (IsWideRuleHere rules u n) e →
    IsCausedBy t.signature (HasWideRule t u) e
nexts_refused t rules u n e runs s least h =
    subst (λ g. IsCausedBy g (HasWideRule t u) e) runs.signature
    (caused_by (Here rules) (IsWideRuleHere rules u n) (HasWideRule t u) e
    (λ some. either_wide t rules u n runs s least (split_any (λ r. BodyIsWide (Here rules) u r.body.value) (IsWideAt (Here rules) u n) rules.rules.items some)) h)

-- ---- the pattern's value

pub same_value : (t : Theory) (rules : RuleSet) (p : KorePattern) (s : KoreSort) (c u : Value) → RunsAs t rules → IsGroundState t.signature p s c → ((v : Valuation) → instance (Here rules) v p ≡ u) → c ≡ u
same_value t rules p s c u runs state meant =
    let v : Valuation = λ _. c in
    sym (state.meant v) ∙ sym (ap (λ g. instance g v p) runs.signature) ∙ meant v

pub has_sort : (t : Theory) (p : KorePattern) (s : KoreSort) (c u : Value) → IsGroundState t.signature p s c → c ≡ u → IsSorted t.signature u
has_sort t p s c u state same = subst (IsSorted t.signature) same (s, state.sorted)

pub not_too_wide : (t : Theory) (rules : RuleSet) (p : KorePattern) (c u : Value) → RunsAs t rules → c ≡ u → ((v : Valuation) → computes_wide (Here rules) v p ≡ false) → ¬ HasWideRule t u → ¬ IsTooWide t p c
not_too_wide t rules p c u runs same narrow none (wide_pattern h) =
    let v : Valuation = λ _. c in
    let wide : computes_wide t.signature v p ≡ true = h v in
    let isnt : computes_wide t.signature v p ≡ false = subst (λ g. computes_wide g v p ≡ false) runs.signature (narrow v) in
    absurd (cc)
not_too_wide t rules p c u runs same narrow none (wide_condition some) = none (inl (subst (λ w. AnyByRecursion (λ r. HasWideCondition t.signature w r.body) t.rules) same some))
not_too_wide t rules p c u runs same narrow none (wide_right some) = none (inr (subst (λ w. AnyByRecursion (λ r. HasTurn t r w × HasWidePart t.signature w r.body) t.rules) same some))

-- ---- refusals

pub refused_by_memory : (t : Theory) (p : KorePattern) (c : Value) (e : GroundError) → e ≡ Memory → IsRefusedFor t p c e
refused_by_memory t p c e h = subst (IsRefusedFor t p c) (sym h) tt

pub refused_value : (t : Theory) (rules : RuleSet) (p : KorePattern) (s : KoreSort) (c : Value) (e : GroundError) → RunsAs t rules → IsGroundState t.signature p s c → IsUnvalued (Here rules) p e → IsRefusedFor t p c e
refused_value t rules p s c Memory runs state h = tt
refused_value t rules p s c Number runs state h = wide_pattern (λ v. subst (λ g. computes_wide g v p ≡ true) runs.signature (h v))
refused_value t rules p s c (Foreign id) runs state h = absurd h
refused_value t rules p s c Unread runs state h = λ verified. h (subst (λ g. IsVerifiedTerm g p) (sym runs.signature) verified) state.closed
refused_value t rules p s c NoInjection runs state h = absurd h

too_wide_by : (t : Theory) (p : KorePattern) (c u : Value) → c ≡ u → HasWideRule t u → IsTooWide t p c
too_wide_by t p c u same (inl some) = wide_condition (subst (λ w. AnyByRecursion (λ r. HasWideCondition t.signature w r.body) t.rules) (sym same) some)
too_wide_by t p c u same (inr some) = wide_right (subst (λ w. AnyByRecursion (λ r. HasTurn t r w × HasWidePart t.signature w r.body) t.rules) (sym same) some)

pub refused_rule : (t : Theory) (p : KorePattern) (c u : Value) (e : GroundError) → c ≡ u → IsCausedBy t.signature (HasWideRule t u) e → IsRefusedFor t p c e
refused_rule t p c u Memory same h = tt
refused_rule t p c u Number same h = too_wide_by t p c u same h
refused_rule t p c u (Foreign id) same h = absurd h
refused_rule t p c u Unread same h = absurd h
refused_rule t p c u NoInjection same h = h

pub refused_foreign : (t : Theory) (p : KorePattern) (c u : Value) (n : List ℕ) (e : GroundError) → c ≡ u → ¬ IsTooWide t p c → IsFirstUnknown t u n → IsForeignBy n e → IsRefusedFor t p c e
refused_foreign t p c u n Memory same narrow first h = absurd h
refused_foreign t p c u n Number same narrow first h = absurd h
refused_foreign t p c u n (Foreign id) same narrow first h = (narrow, subst (λ w. IsFirstUnknown t w (string_bytes id)) (sym same) (subst (IsFirstUnknown t u) (sym h) first))
refused_foreign t p c u n Unread same narrow first h = absurd h
refused_foreign t p c u n NoInjection same narrow first h = absurd h
