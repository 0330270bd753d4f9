-- Foreign rules asked in their turn: the first that might rewrite an instance, or what is left open of the first.
use Rattle.std.proofs.Common.{◌≡◌, refl, sym, subst, ◌∙◌, ℕ, ◌+◌, ◌<◌, ◌≤◌, List, [], ◌∷◌, ◌++◌, length, get_or, take, drop, Option, Some, None, inl, inr}
use Rattle.std.specs.Prelude.{MatchOption}
use Rattle.std.specs.List.{AllByRecursion}
use Rattle.kp_kore.specs.Syntax.{Text}
use Rattle.kp_kore.specs.Signature.{KoreSignature}
use Rattle.kp_kore.specs.Value.{Value}
use Rattle.kp_kore.specs.Rules.{rewrite, RewriteRule, RuleBody, ForeignLeft, foreign_rule}
use Rattle.kp_kore.specs.Theory.{Theory}
use Rattle.kp_kore.specs.Steps.{IsUnknownBy, IsUnknown}
use Rattle.kp_kore.proofs.ListLemmas.{all_append}
use Rattle.kp_kore.proofs.TurnLemmas.{of_member}
use Rattle.kp_symbolic.specs.States.{SymbolicState}
use Rattle.kp_symbolic.specs.View.{clauses_view}
use Rattle.kp_rule_sets.specs.RuleSets.{RunsAs}
use Rattle.kp_rule_sets.specs.declared.rule_set.RuleSet.{RuleSet}
use Rattle.kp_case_laws.specs.Parts.{whole, OfEachInstance}
use Rattle.kp_step.specs.Places.{IsAt}
use Rattle.kp_step.specs.Causes.{IsPassedBy, IsFirstMet, IsFirstOpen, IsUndecidedStep, GoesBefore}
use Rattle.kp_step.specs.Limits.{PassesNone}
use Rattle.kp_step.specs.Answers.{TellsForeign, TellsKnown, IsUndecidedAt, RewritesNone, IsFirstLeftOpen, TellsFirst}
use Rattle.kp_step.specs.declared.outcome.StepOutcome.{StepOutcome}
use Rattle.kp_step.specs.RightSteps.{IsBehindRule, IsToldUndecided, IsRightStep}
use Rattle.kp_step.specs.declared.part_answers.UndecidedClauses.{UndecidedClauses}
use Rattle.kp_step.specs.declared.part_answers.PartAnswer.TheVariants as answer
use Rattle.kp_step.specs.declared.foreign.UndecidedRule.{UndecidedRule}
use Rattle.kp_step.proofs.ForeignLemmas.{all_known}
use Rattle.kp_step.proofs.FoundLemmas.{one_at, contains_at}
use Rattle.kp_step.proofs.LoopLemmas.{taken, all_taken, split_there}
use Rattle.kp_step.proofs.OrderLemmas.{InTurn, each_is_there, stands_ahead}

abbrev pub Passed : Theory → SymbolicState → ℕ → Type 0
Passed t s i = (r : RewriteRule) → IsAt t i r → IsPassedBy t s r

-- a rule that might rewrite a configuration is foreign
foreign_left : (g : KoreSignature) (b : RuleBody) (c : Value) → IsUnknownBy g b c → (l : ForeignLeft) × (b ≡ foreign_rule l)
foreign_left g (rewrite m) c u = absurd u
foreign_left g (foreign_rule l) c u = (l, refl)

-- the first that might rewrite an instance
pub first_met : (t : Theory) (s : SymbolicState) (rules : RuleSet) (before after : List ℕ) (place : ℕ) → RunsAs t rules → InTurn rules (before ++ place ∷ after) → AllByRecursion (Passed t s) before → PassesNone t.signature s → TellsForeign t s place answer.Instance → IsFirstMet t s place
first_met t s rules before after place runs turn passed limits m =
    let l = foreign_left t.signature m.0.body m.2.configuration m.2.unknown in
    record {
      rule = m.0;
      at = m.1;
      meets = m.2;
      limits = limits;
      before = λ i q k at body goes. of_member (Passed t s) before i passed
          (stands_ahead t rules before after i place q m.0 k l.0 runs turn at m.1 body l.1 goes (λ e. one_at t place q m.0 (subst (λ j. IsAt t j q) e at) m.1)) q at;
    }

-- ---- one place more

pub passed_nothing : (t : Theory) (s : SymbolicState) (before : List ℕ) (place : ℕ) → AllByRecursion (Passed t s) before → TellsForeign t s place answer.Nothing → AllByRecursion (Passed t s) (before ++ place ∷ [])
passed_nothing t s before place p n = all_append (Passed t s) before (place ∷ []) p ((λ r at. inl (n r at)), tt)

pub unknown_nothing : (t : Theory) (s : SymbolicState) (before : List ℕ) (place : ℕ) → AllByRecursion (RewritesNone t s) before → TellsForeign t s place answer.Nothing → AllByRecursion (RewritesNone t s) (before ++ place ∷ [])
unknown_nothing t s before place p n = all_append (RewritesNone t s) before (place ∷ []) p (n, tt)

pub passed_open : (t : Theory) (s : SymbolicState) (before : List ℕ) (place : ℕ) (o : UndecidedClauses) → AllByRecursion (Passed t s) before → TellsForeign t s place (answer.UndecidedClauses o) → AllByRecursion (Passed t s) (before ++ place ∷ [])
passed_open t s before place o p x = all_append (Passed t s) before (place ∷ []) p
    ((λ r at. inr (clauses_view o.shown.items, x.2, subst (λ q. IsUndecidedStep t s (Some q) (clauses_view o.shown.items) x.2) (one_at t place x.0 r x.1 at) x.4)), tt)

pub open_at : (t : Theory) (s : SymbolicState) (o : UndecidedClauses) (place : ℕ) (x : UndecidedRule) → x.told ≡ o → x.place ≡ place → TellsForeign t s place (answer.UndecidedClauses o) → IsUndecidedAt t s x
open_at t s o place x e f k = subst (λ d. AtWith d x.place) (sym e) (subst (λ p. AtWith o p) (sym f) k)
  where
    AtWith : UndecidedClauses → ℕ → Type 0
    AtWith d p = TellsForeign t s p (answer.UndecidedClauses d)

-- ---- in the end

pub each_is_known : (t : Theory) (s : SymbolicState) (rules : RuleSet) (places : List ℕ) → RunsAs t rules → InTurn rules places → AllByRecursion (RewritesNone t s) places → OfEachInstance t.signature (whole s) (λ w c. ¬ IsUnknown t c)
each_is_known t s rules places runs turn h = all_known t (whole s) (λ r member. let p = contains_at t.rules r member in of_member (RewritesNone t s) places p.0 h (each_is_there t rules places p.0 r runs turn p.1) r p.1)

-- of the foreign rule of the place that is left open, where those at the places before it rewrite no instance
first_open : (t : Theory) (s : SymbolicState) (rules : RuleSet) (before after places : List ℕ) (place : ℕ) (r : RewriteRule) (l : ForeignLeft) → RunsAs t rules → InTurn rules (before ++ place ∷ after) → InTurn rules places → AllByRecursion (RewritesNone t s) before → AllByRecursion (Passed t s) places →
    IsAt t place r → r.body ≡ foreign_rule l → IsFirstOpen t s place r
first_open t s rules before after places place r l runs turn all none passed here body = record {
  before = λ i q k at is goes. of_member (RewritesNone t s) before i none
      (stands_ahead t rules before after i place q r k l runs turn at here is body goes (λ e. one_at t place q r (subst (λ j. IsAt t j q) e at) here)) q at;
  none_met = λ i q at. of_member (Passed t s) places i passed (each_is_there t rules places i q runs all at) q at;
}

behind_foreign : (t : Theory) (s : SymbolicState) (place : ℕ) (r : RewriteRule) (l : ForeignLeft) → r.body ≡ foreign_rule l → IsFirstOpen t s place r → IsBehindRule t s (Some place) r r.body
behind_foreign t s place r l body first = subst (IsBehindRule t s (Some place) r) (sym body) first

told_open : (t : Theory) (s : SymbolicState) (x : UndecidedRule) (k : IsUndecidedAt t s x) → PassesNone t.signature s → IsFirstOpen t s x.place k.0 → IsToldUndecided t s (clauses_view x.told.shown.items) x.told.over (Some x.place)
told_open t s x k limits first = record { rule = Some k.0; is_rule = k.1; weight = k.2; weighed = k.3; what_is_undecided = k.4; no_number = limits.0; behind = behind_foreign t s x.place k.0 k.5 k.6 first }

-- ---- as the loop goes

abbrev pub Asking : Theory → SymbolicState → List ℕ → ℕ → List UndecidedRule → Type 0
Asking t s places i opened = AllByRecursion (Passed t s) (take i places) × AllByRecursion (IsUndecidedAt t s) opened × IsFirstLeftOpen t s places i opened

still_first : (t : Theory) (s : SymbolicState) (places : List ℕ) (i place : ℕ) (opened : List UndecidedRule) → i < length places → place ≡ get_or places i place → TellsForeign t s place answer.Nothing → IsFirstLeftOpen t s places i opened → IsFirstLeftOpen t s places (i + 1) opened
still_first t s places i place [] h e n a = subst (AllByRecursion (RewritesNone t s)) (sym (taken places i place h e)) (unknown_nothing t s (take i places) place a n)
still_first t s places i place (x ∷ xs) h e n a = a

one_more_open : (t : Theory) (s : SymbolicState) (places : List ℕ) (i place : ℕ) (opened : List UndecidedRule) (x : UndecidedRule) → i < length places → place ≡ get_or places i place → x.place ≡ place → IsFirstLeftOpen t s places i opened → IsFirstLeftOpen t s places (i + 1) (opened ++ x ∷ [])
one_more_open t s places i place [] x h e p a = record { number = i; within = h; place = subst (λ n. n ≡ get_or places i n) (sym p) e; before = a }
one_more_open t s places i place (y ∷ ys) x h e p a = a

pub asks_none : (t : Theory) (s : SymbolicState) (places : List ℕ) (i place : ℕ) (opened : List UndecidedRule) → i < length places → place ≡ get_or places i place → TellsForeign t s place answer.Nothing → Asking t s places i opened → Asking t s places (i + 1) opened
asks_none t s places i place opened h e n a = (
  subst (AllByRecursion (Passed t s)) (sym (taken places i place h e)) (passed_nothing t s (take i places) place a.0 n),
  a.1,
  still_first t s places i place opened h e n a.2,
)

pub asks_open : (t : Theory) (s : SymbolicState) (places : List ℕ) (i place : ℕ) (opened new : List UndecidedRule) (x : UndecidedRule) (o : UndecidedClauses) → i < length places → place ≡ get_or places i place → new ≡ opened ++ x ∷ [] → x.told ≡ o → x.place ≡ place → TellsForeign t s place (answer.UndecidedClauses o) → Asking t s places i opened →
    Asking t s places (i + 1) new
asks_open t s places i place opened new x o h e n f p k a = (
  subst (AllByRecursion (Passed t s)) (sym (taken places i place h e)) (passed_open t s (take i places) place o a.0 k),
  subst (AllByRecursion (IsUndecidedAt t s)) (sym n) (all_append (IsUndecidedAt t s) opened (x ∷ []) a.1 (open_at t s o place x f p k, tt)),
  subst (IsFirstLeftOpen t s places (i + 1)) (sym n) (one_more_open t s places i place opened x h e p a.2),
)

pub asks_met : (t : Theory) (s : SymbolicState) (rules : RuleSet) (places : List ℕ) (i place : ℕ) (opened : List UndecidedRule) → RunsAs t rules → InTurn rules places → i < length places → place ≡ get_or places i place → PassesNone t.signature s → TellsForeign t s place answer.Instance → Asking t s places i opened → IsFirstMet t s place
asks_met t s rules places i place opened runs turn h e limits m a = first_met t s rules (take i places) (drop (i + 1) places) place runs (subst (InTurn rules) (split_there places i place h e) turn) a.0 limits m

pub asks_all : (t : Theory) (s : SymbolicState) (rules : RuleSet) (places : List ℕ) (i : ℕ) (opened : List UndecidedRule) → RunsAs t rules → InTurn rules places → length places ≤ i → opened ≡ [] → Asking t s places i opened → OfEachInstance t.signature (whole s) (λ w c. ¬ IsUnknown t c)
asks_all t s rules places i opened runs turn past none a = each_is_known t s rules places runs turn (subst (AllByRecursion (RewritesNone t s)) (all_taken places i past) (subst (IsFirstLeftOpen t s places i) none a.2))

tells_first : (t : Theory) (s : SymbolicState) (rules : RuleSet) (places : List ℕ) (i : ℕ) (opened : List UndecidedRule) → RunsAs t rules → InTurn rules places → length places ≤ i → PassesNone t.signature s → Asking t s places i opened → TellsFirst t s opened
tells_first t s rules places i [] runs turn past limits a = tt
tells_first t s rules places i (x ∷ xs) runs turn past limits a =
    let k = a.1.0 in
    let n = a.2.number in
    let there = subst (InTurn rules) (split_there places n x.place a.2.within a.2.place) turn in
    told_open t s x k limits (first_open t s rules (take n places) (drop (n + 1) places) places x.place k.0 k.5 runs there turn a.2.before (subst (AllByRecursion (Passed t s)) (all_taken places i past) a.0) k.1 k.6)

pub known_or_open : (t : Theory) (used : List Text) (s : SymbolicState) (rules : RuleSet) (places : List ℕ) (i : ℕ) (opened : List UndecidedRule) (o : Option StepOutcome) → RunsAs t rules → InTurn rules places → length places ≤ i → PassesNone t.signature s → Asking t s places i opened → (TellsFirst t s opened → MatchOption o (opened ≡ []) (IsRightStep t used s)) → TellsKnown t used s o
known_or_open t used s rules places i opened None runs turn past limits a told = asks_all t s rules places i opened runs turn past (told (tells_first t s rules places i opened runs turn past limits a)) a
known_or_open t used s rules places i opened (Some x) runs turn past limits a told = told (tells_first t s rules places i opened runs turn past limits a)

-- of those that are left open the first is told
pub told_first : (t : Theory) (s : SymbolicState) (all : List UndecidedRule) (o : Option UndecidedRule) (x : UndecidedRule) → o ≡ Some x → MatchOption o (all ≡ []) (λ y. (rest : List UndecidedRule) × (all ≡ y ∷ rest)) → TellsFirst t s all →
    IsToldUndecided t s (clauses_view x.told.shown.items) x.told.over (Some x.place)
told_first t s all o x e f first =
    let is : (rest : List UndecidedRule) × (all ≡ x ∷ rest) = subst (λ d. MatchOption d (all ≡ []) (λ y. (rest : List UndecidedRule) × (all ≡ y ∷ rest))) e f in
    subst (TellsFirst t s) is.1 first
