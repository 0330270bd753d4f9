-- One rule that is tried, and what follows in the parts of its turn.
use Rattle.std.proofs.Common.{◌≡◌, refl, sym, subst, ℕ, List, [], ◌∷◌, ◌++◌, Some, inl, inr}
use Rattle.std.specs.List.{AllByRecursion, AllZip, Contains}
use Rattle.kp_kore.specs.Syntax.{Text}
use Rattle.kp_kore.specs.Rules.{RewriteRule}
use Rattle.kp_kore.specs.Theory.{Theory}
use Rattle.kp_kore.specs.Steps.{Fires, HasTurn}
use Rattle.kp_symbolic.specs.States.{SymbolicState}
use Rattle.kp_symbolic.specs.View.{clauses_view}
use Rattle.kp_case_laws.specs.Parts.{StatePart, whole, with_clauses, OfEachInstance}
use Rattle.kp_case_laws.specs.Firing.{HasNoInstance, AreFiringCases}
use Rattle.kp_case_laws.specs.Turns.{FiresFirst}
use Rattle.kp_unify.specs.Narrowed.{NumberedPart}
use Rattle.kp_unify.specs.declared.part.Part.{Part}
use Rattle.kp_satisfiability.specs.Read.{HasSortedClauses}
use Rattle.kp_step.specs.ReadyParts.{HasInstance, parts_of}
use Rattle.kp_step.specs.Meets.{MeetsRule, AllMeet}
use Rattle.kp_step.specs.Comes.{ComesFrom}
use Rattle.kp_step.specs.Places.{IsAt}
use Rattle.kp_step.specs.Remainders.{IsPartIn, AreUntaken, falls_away, none_left}
use Rattle.kp_step.specs.Found.{PlacedTurn, IsRuleAt, IsTurnAt}
use Rattle.kp_step.specs.Limits.{TermLimit, Passes, PassesNone, HasNoWideCondition, IsPassed}
use Rattle.kp_step.specs.Tries.{PlacedFiring, narrowed_of, IsFiringOf, CanMeet, AreTurnParts}
use Rattle.kp_step.specs.Answers.{AreDecided, TellsParts}
use Rattle.kp_step.specs.Promises.{TellsNoNumber}
use Rattle.kp_step.specs.Views.{numbered_views}
use Rattle.kp_step.specs.declared.part_answers.Decided as decisions
use Rattle.kp_step.specs.declared.part_answers.Decided.TheVariants as decided
use Rattle.kp_step.proofs.AnswerLemmas.{MayBe}
use Rattle.kp_step.proofs.CauseLemmas.{undecided_rule}
use Rattle.kp_step.proofs.DecideLemmas.{shown_of_instance}
use Rattle.kp_step.proofs.FoundLemmas.{at_contains}
use Rattle.kp_step.proofs.RemainderLemmas.{kept_is_left, kept_have}
use Rattle.kp_step.proofs.SortedLemmas.{sorted_clauses}
use Rattle.kp_step.proofs.TryLemmas.{rules_in_theory, fires_there, nothing_for_it, no_turn_at}

-- ---- the part where the rule fires

pub narrowed_sorted : (t : Theory) (used : List Text) (s : SymbolicState) (place : ℕ) (f : PlacedFiring) → IsFiringOf t used s place f → HasSortedClauses t.signature (narrowed_of f).part.state
narrowed_sorted t used s place f i = sorted_clauses t.signature (narrowed_of f).part.state i.where_it_fires.safe.sorted

pub met_sorted : (t : Theory) (used : List Text) (s : SymbolicState) (place : ℕ) (f : PlacedFiring) → IsFiringOf t used s place f → HasSortedClauses t.signature (with_clauses f.part.part f.equations).state
met_sorted t used s place f i = sorted_clauses t.signature (with_clauses f.part.part f.equations).state i.where_met.safe.sorted

pub can_meet : (t : Theory) (s : SymbolicState) (place : ℕ) (f : PlacedFiring) → ((r : RewriteRule) → IsAt t place r → MeetsRule t.signature s r.body) → MayBe t.signature (with_clauses f.part.part f.equations).state → CanMeet t s place f
can_meet t s place f meets m = record { meets = meets; answer = m.verdict; right = m.right; may_be = m.not_none }

-- a limit of the condition is one of the step
pub passes_condition : (t : Theory) (used : List Text) (s : SymbolicState) (place : ℕ) (f : PlacedFiring) (x : SymbolicState) (l : TermLimit) → IsFiringOf t used s place f → CanMeet t s place f → PassesNone t.signature s → x ≡ (narrowed_of f).part.state → Passes t.signature x l → IsPassed t s l
passes_condition t used s place f x l i m limits e p = record {
  state = x;
  which = inr (inl (record {
    rule = i.rule;
    of_theory = at_contains t.rules place i.rule i.at;
    firing = record { part = f.part.part; clauses = f.equations ++ f.condition };
    apart = f.apart;
    cases = subst (λ b. AreFiringCases t.signature b (whole s) (Some (record { part = f.part.part; clauses = f.equations ++ f.condition })) f.apart) (sym i.body) i.cases;
    comes = subst (λ b. ComesFrom t.signature (λ d. d ≡ b) (whole s) (narrowed_of f).part) (sym i.body) i.comes;
    meets = m.meets i.rule i.at;
    equations = f.equations;
    condition = f.condition;
    are = refl;
    answer = m.answer;
    right = m.right;
    can_meet = m.may_be;
    is = e;
  }));
  own_first = inr limits;
  passes = p;
}

-- no number of the condition leaves 128 bits
pub no_wide_condition : (t : Theory) (used : List Text) (s : SymbolicState) (place : ℕ) (f : PlacedFiring) (i : IsFiringOf t used s place f) → TellsNoNumber t.signature f → HasNoWideCondition t s i.rule
no_wide_condition t used s place f i none = record {
  firing = record { part = f.part.part; clauses = f.equations ++ f.condition };
  apart = f.apart;
  cases = subst (λ b. AreFiringCases t.signature b (whole s) (Some (record { part = f.part.part; clauses = f.equations ++ f.condition })) f.apart) (sym i.body) i.cases;
  comes = subst (λ b. ComesFrom t.signature (λ d. d ≡ b) (whole s) (narrowed_of f).part) (sym i.body) i.comes;
  equations = f.equations;
  condition = f.condition;
  are = refl;
  none = none;
}

-- where it has no instance, nothing is left to the rule
pub nothing_there : (t : Theory) (used : List Text) (s : SymbolicState) (place : ℕ) (found : List RewriteRule) (f : PlacedFiring) → IsFiringOf t used s place f → HasNoInstance t.signature (narrowed_of f).part → AreTurnParts t used s place found f.part.part []
nothing_there t used s place found f i none =
    let g = t.signature in record {
      rule = i.rule;
      at = i.at;
      left = nothing_for_it g used i.rule found (whole s) f.part.part
          (kept_is_left g used (Some i.rule) [] (whole s) f.part.part (narrowed_of f ∷ []) [] (falls_away (narrowed_of f) [] [] none none_left) (fires_there t used s place f i));
      instances = tt;
    }

-- the parts that are left to it, as far as that is decided
pub parts_told : (t : Theory) (used : List Text) (s : SymbolicState) (place : ℕ) (found : List RewriteRule) (f : PlacedFiring) (i : IsFiringOf t used s place f) (turns : List PlacedTurn) (parts : List NumberedPart) (d : decisions.Decided) → HasInstance t.signature (whole s) → AllZip (IsRuleAt t) turns found → MeetsRule t.signature s i.rule.body → AllMeet t.signature s found →
    AreUntaken t.signature used (Some i.rule) found (whole s) f.part.part parts → AreDecided t.signature s (i.rule ∷ found) parts d → TellsParts t used s place found f.part.part d
parts_told t used s place found f i turns parts (decided.Parts ks) there z own all l k = record {
  rule = i.rule;
  at = i.at;
  left = kept_is_left t.signature used (Some i.rule) found (whole s) f.part.part parts (numbered_views ks.items) k l;
  instances = kept_have t.signature parts (numbered_views ks.items) k;
}
parts_told t used s place found f i turns parts (decided.UndecidedClauses o) there z own all l k =
    let shows = k.2 in
    let compares = k.3 shows.0 shows.1 in
    let shown = shown_of_instance t.signature s k.0.part.state (clauses_view o.shown.items) shows.0 there shows.2 in
    (i.rule, i.at, shows.0, shows.1, undecided_rule t used s f.part.part i.rule i.read found parts k.0 (clauses_view o.shown.items) shows.0 i.body (rules_in_theory t turns found z) own all l k.1 shown compares)

-- ---- the parts of a turn

-- each is one of the part that the rule meets, and the rule fires on each of its instances
pub record IsFiringPart (t : Theory) (used : List Text) (s m : StatePart) (rule : RewriteRule) (p : NumberedPart) : Type 0 where
  pub inside : IsPartIn t.signature used s m p
  pub fires : OfEachInstance t.signature p.part (λ w c. Fires t.signature rule.body c)

pub parts_fire : (t : Theory) (used : List Text) (s m : StatePart) (rule : RewriteRule) (before : List RewriteRule) (parts : List NumberedPart) → AllByRecursion (IsPartIn t.signature used s m) parts →
    AllByRecursion (λ p. OfEachInstance t.signature p (λ w c. FiresFirst t.signature before rule c)) (parts_of parts) → AllByRecursion (IsFiringPart t used s m rule) parts
parts_fire t used s m rule before [] i o = tt
parts_fire t used s m rule before (p ∷ parts) i o = (record { inside = i.0; fires = λ w c h k. (o.0 w c h k).0 }, parts_fire t used s m rule before parts i.1 o.1)

pub turn_fires : (t : Theory) (used : List Text) (s : StatePart) (k : PlacedTurn) (i : IsTurnAt t used s k) → AllByRecursion (IsFiringPart t used s i.met_part i.rule) k.parts
turn_fires t used s k i = parts_fire t used s i.met_part i.rule i.before k.parts i.left.each i.left.left.only

-- where there are no parts, the rule has no turn
pub no_turn_of : (t : Theory) (used : List Text) (s : SymbolicState) (place : ℕ) (found : List RewriteRule) (p : StatePart) (parts : List Part) → parts ≡ [] → AllByRecursion (Contains t.rules) found → AreTurnParts t used s place found p (numbered_views parts) → (r : RewriteRule) → IsAt t place r → OfEachInstance t.signature (whole s) (λ w c. ¬ HasTurn t r c)
no_turn_of t used s place found p parts e members a = no_turn_at t used s place found p members (subst (λ xs. AreTurnParts t used s place found p (numbered_views xs)) e a)
