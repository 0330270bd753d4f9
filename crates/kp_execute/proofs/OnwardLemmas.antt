-- What the cases of a step mean for a run.
use Rattle.std.proofs.Common.{rules, ◌≡◌, true≢false, refl, sym, ap, ◌∙◌, subst, ℕ, suc, ◌+◌, ◌<◌, ◌≤◌, ◌==◌, nat_eq, not, arith, length, Bool, true, false, List, [], ◌∷◌, ◌++◌, Some, None, slice_get, string_bytes}
use Rattle.std.specs.Prelude.{IsTrue, Vec}
use Rattle.std.specs.Vec.{vec_len}
use Rattle.std.specs.declared.alloc.Global.{Global}
use Rattle.std.specs.List.{AllByRecursion, AllZip}
use Rattle.kp_kore.specs.Syntax.{Text}
use Rattle.kp_kore.specs.Rules.{RewriteRule}
use Rattle.kp_kore.specs.Theory.{Theory}
use Rattle.kp_kore.specs.Steps.{AnyByRecursion, NoneFires}
use Rattle.kp_kore.specs.Executions.{Options, is_among}
use Rattle.kp_kore.proofs.TurnLemmas.{none_fires}
use Rattle.kp_symbolic.specs.States.{SymbolicState}
use Rattle.kp_symbolic.specs.View.{state_view}
use Rattle.kp_rules.specs.Bodies.{IsCodeOf}
use Rattle.kp_rules.specs.declared.rule.Rule.{Rule}
use Rattle.kp_rule_sets.specs.RuleSets.{RunsAs}
use Rattle.kp_rule_sets.specs.declared.rule_set.RuleSet.{RuleSet}
use Rattle.kp_case_laws.specs.Parts.{whole, IsGrown}
use Rattle.kp_case_laws.specs.Firing.{HasNoInstance}
use Rattle.kp_case_laws.specs.NextStates.{StepCase, AreStepCases, IsWithinHand}
use Rattle.kp_case_laws.specs.RunLaws.{IsAloneBy}
use Rattle.kp_case_laws.proofs.StepCases.{HoldsIn, RuleHolds, some_turn_case, some_case}
use Rattle.kp_unify.specs.declared.part.Part.{Part}
use Rattle.kp_step.specs.Places.{IsAt}
use Rattle.kp_step.specs.RightSteps.{IsCaseOf, IsRemainderOf, AreCasesOf}
use Rattle.kp_step.specs.declared.outcome.Next.{Next}
use Rattle.kp_step.proofs.FoundLemmas.{at_contains}
use Rattle.kp_step.proofs.PlaceLemmas.{zip_back}
use Rattle.kp_execute.specs.Endings.{AreOfTwo, AreSeveral}
use Rattle.kp_execute.specs.Onward.{IsTakenBy, StopsBehind, GoesOn}

-- ---- ids

-- the code's rule at a place has the id of the theory's
same_id : (t : Theory) (rules : RuleSet) (place : ℕ) (r : RewriteRule) (x : Rule) → RunsAs t rules → IsAt t place r → slice_get rules.rules.items place ≡ Some x → string_bytes x.id.value ≡ r.id
same_id t rules place r x runs at found =
    let y : (y : Rule) × (slice_get rules.rules.items place ≡ Some y) × IsCodeOf t.signature r y = zip_back (IsCodeOf t.signature) t.rules rules.rules.items place r runs.each at in
    subst (λ z. string_bytes z.id.value ≡ r.id) (inside (sym y.1 ∙ found)) y.2.id
  where
    inside : {X : Type 0} {a b : X} → Some a ≡ Some b → a ≡ b
    inside e = cc

-- and stands there
pub some_code : (t : Theory) (rules : RuleSet) (place : ℕ) (r : RewriteRule) → RunsAs t rules → IsAt t place r → ¬ (slice_get rules.rules.items place ≡ None)
some_code t rules place r runs at none =
    let y : (y : Rule) × (slice_get rules.rules.items place ≡ Some y) × IsCodeOf t.signature r y = zip_back (IsCodeOf t.signature) t.rules rules.rules.items place r runs.each at in
    none_is_some (sym none ∙ y.1)
  where
    none_is_some : {X : Type 0} {a : X} → None ≡ Some a → ⊥
    none_is_some e = cc

-- so what is told of the one id is told of the other
pub same_listed : (t : Theory) (rules : RuleSet) (place : ℕ) (r : RewriteRule) (x : Rule) (ids : List Text) (id : Text) (result : Bool) → RunsAs t rules → IsAt t place r → slice_get rules.rules.items place ≡ Some x → id ≡ string_bytes x.id.value → result ≡ is_among ids id → result ≡ is_among ids r.id
same_listed t rules place r x ids id result runs at found e told = told ∙ ap (is_among ids) (e ∙ same_id t rules place r x runs at found)

-- ---- no case

-- on an instance of a state that has no cases neither a rule has its turn nor fires none
no_case : (t : Theory) (s : SymbolicState) → AreStepCases t s [] → HasNoInstance t.signature (whole s)
no_case t s a w c sorts met =
    subst (AnyByRecursion (RuleHolds t s w c c None)) (sym a.of_turns) (some_case t s a.turns a.remainder w c c sorts met a.are_turns None (none, refl))
  where
    none : NoneFires t c
    none = none_fires t [] c (λ r m turn. absurd (subst (AnyByRecursion (λ j. (j.0 ≡ Some r) × HoldsIn t.signature s w c j.1)) (sym a.of_turns) (some_turn_case t s a.turns a.remainder w c r sorts met a.are_turns m turn))) tt

pub no_instance : (t : Theory) (used : List Text) (s : SymbolicState) → AreCasesOf t used s [] [] → HasNoInstance t.signature (whole s)
no_instance t used s c = by c.by_rules c.others c.each_next c.each_part c.are
  where
    by : (ks os : List StepCase) → AllZip (IsCaseOf t) [] ks → AllZip IsRemainderOf [] os → AreStepCases t s (ks ++ os) → HasNoInstance t.signature (whole s)
    by [] [] z y a = no_case t s a
    by [] (o ∷ os) z y a = absurd y
    by (k ∷ ks) os z y a = absurd z

-- ---- one case

-- the one case of a step, and its rule, which alone has its turn
pub record IsAlone (t : Theory) (used : List Text) (s : SymbolicState) (n : Next) : Type 0 where
  pub rule : RewriteRule
  pub at : IsAt t n.rule rule
  pub case : StepCase
  pub is : case.next ≡ state_view n.state
  pub alone : IsAloneBy t used s rule case

pub is_alone : (t : Theory) (used : List Text) (s : SymbolicState) (n : Next) → AreCasesOf t used s (n ∷ []) [] → IsAlone t used s n
is_alone t used s n c = by c.by_rules c.others c.each_next c.each_part c.are c.hand
  where
    one : (k : StepCase) → IsCaseOf t n k → AreStepCases t s (k ∷ []) → IsWithinHand t.signature s k → IsAlone t used s n
    one k h a hand =
        let next : k.next ≡ state_view n.state = ap (λ j. j.next) h.is in
        record {
          rule = h.rule;
          at = h.at;
          case = k;
          is = next;
          alone = record {
            cases = a;
            hand = hand;
            by_rule = ap (λ j. j.rule) h.is;
            of_theory = at_contains t.rules n.rule h.rule h.at;
            fires = c.alone h.rule h.at;
            grown = subst (λ x. IsGrown t.signature used (whole s) (whole x)) (sym next) c.each.0.grown;
          };
        }

    by : (ks os : List StepCase) → AllZip (IsCaseOf t) (n ∷ []) ks → AllZip IsRemainderOf [] os → AreStepCases t s (ks ++ os) → AllByRecursion (IsWithinHand t.signature s) (ks ++ os) → IsAlone t used s n
    by [] os z y a h = absurd z
    by (k ∷ j ∷ ks) os z y a h = absurd z.1
    by (k ∷ []) (o ∷ os) z y a h = absurd y
    by (k ∷ []) [] z y a h = one k z.0 a h.0

taken : (t : Theory) (o : Options) (used : List Text) (s : SymbolicState) (n : Next) → AreCasesOf t used s (n ∷ []) [] → (a : IsAlone t used s n) → is_among o.cut_points a.rule.id ≡ false → IsTakenBy t o used s a.rule (state_view n.state) n.next
taken t o used s n c a e = record { case = a.case; is = a.is; alone = a.alone; ready = c.each.0.ready; no_cut_point = e }

-- neither list has the rule, or the one to stop behind has it
pub goes_on : (t : Theory) (o : Options) (used : List Text) (s : SymbolicState) (n : Next) → AreCasesOf t used s (n ∷ []) [] → ((r : RewriteRule) → IsAt t n.rule r → false ≡ is_among o.cut_points r.id) → ((r : RewriteRule) → IsAt t n.rule r → false ≡ is_among o.terminals r.id) → GoesOn t o used s (state_view n.state) n.next
goes_on t o used s n c cut last =
    let a = is_alone t used s n c in
    record { rule = a.rule; taken = taken t o used s n c a (sym (cut a.rule a.at)); no_terminal = sym (last a.rule a.at) }

pub stops_behind : (t : Theory) (o : Options) (used : List Text) (s : SymbolicState) (n : Next) → AreCasesOf t used s (n ∷ []) [] → ((r : RewriteRule) → IsAt t n.rule r → false ≡ is_among o.cut_points r.id) → ((r : RewriteRule) → IsAt t n.rule r → true ≡ is_among o.terminals r.id) → StopsBehind t o used s n.rule (state_view n.state) n.next
stops_behind t o used s n c cut last =
    let a = is_alone t used s n c in
    record { rule = a.rule; at = a.at; taken = taken t o used s n c a (sym (cut a.rule a.at)); is_terminal = sym (last a.rule a.at) }

-- ---- several cases

pub several_with : (ns : List Next) (ps : List Part) → ¬ (ns ≡ []) → ¬ (ps ≡ []) → AreSeveral ns ps
several_with ns [] a b = absurd (b refl)
several_with ns (p ∷ ps) a b = a

pub several_of_two : (ns : List Next) (ps : List Part) → ps ≡ [] → AreOfTwo ns → AreSeveral ns ps
several_of_two ns ps e h = subst (AreSeveral ns) (sym e) h

pub are_of_two : (ns : List Next) (i j : ℕ) (one other : Next) → slice_get ns i ≡ Some one → slice_get ns j ≡ Some other → ¬ (one.rule ≡ other.rule) → AreOfTwo ns
are_of_two ns i j one other a b n = record { one = one; other = other; has_one = at_contains ns i one a; has_other = at_contains ns j other b; differ = n }

-- the last one of at most one is the one
pub the_one : (ns rest : List Next) (n : Next) → ns ≡ rest ++ n ∷ [] → length ns ≤ 1 → ns ≡ n ∷ []
the_one ns [] n e h = e
the_one ns (m ∷ rest) n e h = let more : 1 < length ns = subst (λ xs. 1 < length xs) (sym e) (long rest) in absurd (omega (arith, more, h))
  where
    long : (xs : List Next) → 1 < length (m ∷ (xs ++ n ∷ []))
    long [] = omega arith
    long (x ∷ xs) = omega arith

pub none_of : (ns : List Next) (n : ℕ) → n ≡ length ns → ¬ (0 < n) → ns ≡ []
none_of [] n e h = refl
none_of (m ∷ ns) n e h = absurd (h (more e))
  where
    more : n ≡ suc (length ns) → 0 < n
    more f = omega (arith, f)

pub nexts_len : (v : Vec Next Global) → vec_len v ≡ length v.items
nexts_len v = search rules

pub parts_len : (v : Vec Part Global) → vec_len v ≡ length v.items
parts_len v = search rules

pub nothing_left : (ps : List Part) → (length ps == 0) ≡ true → ps ≡ []
nothing_left [] e = refl
nothing_left (p ∷ ps) e = absurd (some (search (rules, e)))
  where
    some : suc (length ps) ≡ 0 → ⊥
    some z = omega (arith, z)

pub something_left : (ps : List Part) → (length ps == 0) ≡ false → ¬ (ps ≡ [])
something_left ps h e = true≢false (sym (ap (λ r. length r == 0) e) ∙ h)

pub differ : (a b : ℕ) → IsTrue (not (nat_eq a b)) → ¬ (a ≡ b)
differ a b h e = true≢false (sym (subst (λ x. IsTrue (not x)) (same e) h))
  where
    same : a ≡ b → nat_eq a b ≡ true
    same f = grind (arith, f)
