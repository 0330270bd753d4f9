-- What is found, what follows and what remains are the outcome of a step.
use Rattle.std.proofs.Common.{◌≡◌, subst, ℕ, List, [], ◌∷◌, ◌++◌, map, None}
use Rattle.std.specs.List.{AllByRecursion, AllZip}
use Rattle.kp_kore.specs.Syntax.{Text}
use Rattle.kp_kore.specs.Rules.{RewriteRule}
use Rattle.kp_kore.specs.Theory.{Theory}
use Rattle.kp_kore.proofs.ListLemmas.{all_append}
use Rattle.kp_kore.specs.Steps.{Fires, IsUnknown}
use Rattle.kp_symbolic.specs.States.{SymbolicState}
use Rattle.kp_case_laws.specs.Parts.{whole, OfEachInstance}
use Rattle.kp_case_laws.specs.Turns.{rules_of}
use Rattle.kp_case_laws.specs.NextStates.{StepCase, AreStepCases, HaveOwnIds}
use Rattle.kp_unify.specs.declared.part.Part.{Part}
use Rattle.kp_step.specs.Places.{IsAt}
use Rattle.kp_step.specs.ReadyParts.{HasInstance}
use Rattle.kp_step.specs.Found.{PlacedTurn, IsRuleAt, IsTurnAt, IsTurnAmong, AreAllFound}
use Rattle.kp_step.specs.Follows.{AreNextsOf}
use Rattle.kp_step.specs.Tries.{OneFiresOnAll, AreRemaining}
use Rattle.kp_symbolic.specs.Solving.{Solving}
use Rattle.kp_kore.specs.Signature.{KoreSignature}
use Rattle.kp_case_laws.specs.Parts.{StatePart}
use Rattle.kp_unify.specs.Narrowed.{NumberedPart}
use Rattle.kp_step.specs.Limits.{PassesNone, IsCaseMade}
use Rattle.kp_step.specs.Views.{numbered_views, next_view, next_told, part_told}
use Rattle.kp_step.specs.Remainders.{IsPartIn}
use Rattle.kp_step.specs.RightSteps.{IsCaseOf, IsRemainderOf, GoesOnFrom, RemainsOf, FiresAlone, AreCasesOf}
use Rattle.kp_step.specs.declared.outcome.Next.{Next}
use Rattle.kp_step.proofs.FoundLemmas.{turns_of, one_at}
use Rattle.kp_step.proofs.TryLemmas.{rules_in_theory, found_rules}
use Rattle.kp_step.proofs.AloneLemmas.{one_turn}
use Rattle.kp_step.proofs.StepLemmas.{all_cases, rest_cases, step_cases, all_within_hand}
use Rattle.kp_step.proofs.ToldLemmas.{IsCaseAt, GoesOnAt, ComeOfTheory, rest_comes, all_told, rest_told, all_go_on, all_made, rest_made}
use Rattle.kp_step.proofs.MeetLemmas.{turns_meet}

cases_of : (t : Theory) (ns : List Next) (ks : List StepCase) → AllZip (IsCaseAt t) (map next_view ns) ks → AllZip (IsCaseOf t) ns ks
cases_of t [] [] z = tt
cases_of t [] (k ∷ ks) z = absurd z
cases_of t (n ∷ ns) [] z = absurd z
cases_of t (n ∷ ns) (k ∷ ks) z = (record { rule = z.0.0; at = z.0.1; is = z.0.2 }, cases_of t ns ks z.1)

remainders_of : (ps : List Part) (ks : List StepCase) → AllZip (λ q k. k ≡ record { rule = None; part = q.part; next = q.part.state }) (numbered_views ps) ks → AllZip IsRemainderOf ps ks
remainders_of [] [] z = tt
remainders_of [] (k ∷ ks) z = absurd z
remainders_of (p ∷ ps) [] z = absurd z
remainders_of (p ∷ ps) (k ∷ ks) z = (z.0, remainders_of ps ks z.1)

go_on_from : (t : Theory) (used : List Text) (s : SymbolicState) (ns : List Next) → AllByRecursion (GoesOnAt t used (whole s)) (map next_view ns) → AllByRecursion (λ x. PassesNone t.signature x) (map next_told ns) → AllByRecursion (GoesOnFrom t used s) ns
go_on_from t used s [] g l = tt
go_on_from t used s (n ∷ ns) g l = (record { comes = g.0.comes; sorted = g.0.sorted; grown = g.0.grown; ready = g.0.ready; limits = l.0 }, go_on_from t used s ns g.1 l.1)

pub turns_at : (t : Theory) (used : List Text) (s : SymbolicState) (all turns : List PlacedTurn) → AllByRecursion (IsTurnAmong t used (whole s) all) turns → AllByRecursion (IsTurnAt t used (whole s)) turns
turns_at t used s all [] h = tt
turns_at t used s all (k ∷ turns) h = (h.0.turn, turns_at t used s all turns h.1)

-- of one turn alone, the rule is found alone
alone_here : (t : Theory) (s : SymbolicState) (k : PlacedTurn) (place : ℕ) (found : List RewriteRule) → AllZip (IsRuleAt t) (k ∷ []) found → place ≡ k.place → OneFiresOnAll t s found [] → (r : RewriteRule) → IsAt t place r → OfEachInstance t.signature (whole s) (λ w c. Fires t.signature r.body c)
alone_here t s k place [] z e o r at = absurd z
alone_here t s k place (q ∷ []) z e o r at = subst (λ x. OfEachInstance t.signature (whole s) (λ w c. Fires t.signature x.body c)) (one_at t k.place q r z.0.0 (subst (λ i. IsAt t i r) e at)) o
alone_here t s k place (q ∷ p ∷ found) z e o r at = absurd z.1

fires_alone : (t : Theory) (used : List Text) (s : SymbolicState) (turns : List PlacedTurn) (found : List RewriteRule) (ns : List Next) (ps : List Part) → AllByRecursion (IsTurnAt t used (whole s)) turns → AreNextsOf t used (whole s) turns (map next_view ns) → AllZip (IsRuleAt t) turns found → OneFiresOnAll t s found (numbered_views ps) → FiresAlone t s ns ps
fires_alone t used s turns found [] ps h z f o = tt
fires_alone t used s turns found (n ∷ []) [] h z f o =
    let k = one_turn t used (whole s) turns (next_view n) h z in
    alone_here t s k.0 n.rule found (subst (λ ks. AllZip (IsRuleAt t) ks found) k.1 f) k.2 o
fires_alone t used s turns found (n ∷ []) (p ∷ ps) h z f o = tt
fires_alone t used s turns found (n ∷ m ∷ ns) ps h z f o = tt

-- a part's equations are solved
abbrev pub HasBeenSolved : KoreSignature → NumberedPart → Type 0
HasBeenSolved g r = (q : StatePart) × Solving g q.state r.part.state

remains_of : (t : Theory) (used : List Text) (s : SymbolicState) (ps : List Part) → AllByRecursion (IsPartIn t.signature used (whole s) (whole s)) (numbered_views ps) → ComeOfTheory t (whole s) (numbered_views ps) → AllByRecursion (HasBeenSolved t.signature) (numbered_views ps) → AllByRecursion (λ x. PassesNone t.signature x) (map part_told ps) →
    AllByRecursion (RemainsOf t used s) ps
remains_of t used s [] i c d l = tt
remains_of t used s (p ∷ ps) i c d l = (record { comes = c.0; grown = i.0.grown; ready = i.0.ready; solved = d.0; limits = l.0 }, remains_of t used s ps i.1 c.1 d.1 l.1)

-- the next states and the remainder are the cases of a step
pub cases_are : (t : Theory) (used : List Text) (s : SymbolicState) (turns : List PlacedTurn) (ns : List Next) (ps : List Part) (f : AreAllFound t used (whole s) turns) → AreNextsOf t used (whole s) turns (map next_view ns) → HaveOwnIds t.rules → OfEachInstance t.signature (whole s) (λ w c. ¬ IsUnknown t c) →
    AreRemaining t used s (rules_of (turns_of t used (whole s) turns turns f.each)) (numbered_views ps) → AllByRecursion (HasBeenSolved t.signature) (numbered_views ps) → PassesNone t.signature s → AllByRecursion (λ x. PassesNone t.signature x) (map next_told ns) → AllByRecursion (λ x. PassesNone t.signature x) (map part_told ps) → HasInstance t.signature (whole s) →
    AreCasesOf t used s ns ps
cases_are t used s turns ns ps f z own known r solved none limits rest_limits some = record {
  instance = some;
  own_limits = none;
  by_rules = all_cases t used (whole s) turns turns (map next_view ns) f.each z;
  others = rest_cases (numbered_views ps);
  each_next = cases_of t ns (all_cases t used (whole s) turns turns (map next_view ns) f.each z) (all_told t used (whole s) turns turns (map next_view ns) f.each z);
  each_part = remainders_of ps (rest_cases (numbered_views ps)) (rest_told (numbered_views ps));
  are = step_cases t used s turns (map next_view ns) (numbered_views ps) f z own known r.left;
  hand = all_within_hand t used s turns (map next_view ns) (numbered_views ps) f z r.left.each r.instances;
  each = go_on_from t used s ns (all_go_on t used (whole s) turns turns (map next_view ns) f.each z) limits;
  remains =
      let found = rules_of (turns_of t used (whole s) turns turns f.each) in
      remains_of t used s ps r.left.each (rest_comes t found (whole s) (numbered_views ps) (rules_in_theory t turns found (found_rules t used (whole s) turns turns f.each)) r.left.comes) solved rest_limits;
  alone = fires_alone t used s turns (rules_of (turns_of t used (whole s) turns turns f.each)) ns ps (turns_at t used s turns turns f.each) z (found_rules t used (whole s) turns turns f.each) r.alone;
}

-- and so, whatever limits are passed
pub record AreStepsOf (t : Theory) (s : SymbolicState) (nexts : List Next) (remainder : List Part) : Type 0 where
  pub by_rules : List StepCase
  pub others : List StepCase
  pub each_next : AllZip (IsCaseOf t) nexts by_rules
  pub each_part : AllZip IsRemainderOf remainder others
  pub are : AreStepCases t s (by_rules ++ others)
  pub made : AllByRecursion (IsCaseMade t s) (by_rules ++ others)

pub steps_are : (t : Theory) (used : List Text) (s : SymbolicState) (turns : List PlacedTurn) (ns : List Next) (ps : List Part) (f : AreAllFound t used (whole s) turns) → AreNextsOf t used (whole s) turns (map next_view ns) → HaveOwnIds t.rules → OfEachInstance t.signature (whole s) (λ w c. ¬ IsUnknown t c) →
    AreRemaining t used s (rules_of (turns_of t used (whole s) turns turns f.each)) (numbered_views ps) → AreStepsOf t s ns ps
steps_are t used s turns ns ps f z own known r = record {
  by_rules = all_cases t used (whole s) turns turns (map next_view ns) f.each z;
  others = rest_cases (numbered_views ps);
  each_next = cases_of t ns (all_cases t used (whole s) turns turns (map next_view ns) f.each z) (all_told t used (whole s) turns turns (map next_view ns) f.each z);
  each_part = remainders_of ps (rest_cases (numbered_views ps)) (rest_told (numbered_views ps));
  are = step_cases t used s turns (map next_view ns) (numbered_views ps) f z own known r.left;
  made =
      let found = rules_of (turns_of t used (whole s) turns turns f.each) in
      all_append (IsCaseMade t s) (all_cases t used (whole s) turns turns (map next_view ns) f.each z) (rest_cases (numbered_views ps)) (all_made t used s turns turns (map next_view ns) f.each z)
      (rest_made t used s found (numbered_views ps) (rules_in_theory t turns found (found_rules t used (whole s) turns turns f.each)) (turns_meet t used s turns turns f.each) r.left.comes);
}
