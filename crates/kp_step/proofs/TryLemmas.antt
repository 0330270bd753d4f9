-- A rule that is tried has a turn where the rules found before leave it a part with an instance.
use Rattle.std.proofs.Common.{◌≡◌, refl, sym, subst, ◌∙◌, ℕ, List, [], ◌∷◌, ◌++◌, Some, inr}
use Rattle.std.specs.List.{AllByRecursion, AllZip, Contains}
use Rattle.std.proofs.lemmas.List.Elements.{Contains-push, Contains-append_left, Contains-append_right}
use Rattle.kp_kore.specs.Syntax.{Text}
use Rattle.kp_kore.specs.Signature.{KoreSignature}
use Rattle.kp_kore.specs.Rules.{Rewrite, RuleBody, rewrite, foreign_rule, RewriteRule}
use Rattle.kp_kore.specs.Theory.{Theory}
use Rattle.kp_kore.specs.Steps.{Fires, HasTurn}
use Rattle.kp_kore.proofs.ListLemmas.{all_map}
use Rattle.kp_symbolic.specs.States.{SymbolicState}
use Rattle.kp_case_laws.specs.Parts.{StatePart, whole, OfEachInstance, with_clauses}
use Rattle.kp_case_laws.proofs.PartLemmas.{clauses_restrict, divides_of_these}
use Rattle.kp_case_laws.proofs.Excluding.{restricted_alone}
use Rattle.kp_case_laws.specs.Firing.{AreWhere}
use Rattle.kp_case_laws.specs.Turns.{FiresFirst}
use Rattle.kp_case_laws.proofs.FiringLemmas.{firing_part}
use Rattle.kp_step.specs.Places.{IsAt}
use Rattle.kp_step.specs.ReadyParts.{narrowed_by}
use Rattle.kp_step.proofs.ComesLemmas.{comes_by_more}
use Rattle.kp_step.specs.Remainders.{IsOneOf, AreUntaken}
use Rattle.kp_step.specs.Found.{PlacedTurn, IsRuleAt, IsTurnAmong}
use Rattle.kp_step.specs.Tries.{PlacedFiring, IsFiringOf, AreTurnParts}
use Rattle.kp_step.proofs.RemainderLemmas.{firing_is_left}
use Rattle.kp_step.proofs.FoundLemmas.{one_at, at_contains, nothing_left, turns_of}
use Rattle.kp_case_laws.specs.Turns.{rules_of}

-- ---- rules of turns

pub rules_in_theory : (t : Theory) (turns : List PlacedTurn) (found : List RewriteRule) → AllZip (IsRuleAt t) turns found → AllByRecursion (Contains t.rules) found
rules_in_theory t [] [] z = tt
rules_in_theory t [] (r ∷ found) z = absurd z
rules_in_theory t (k ∷ turns) [] z = absurd z
rules_in_theory t (k ∷ turns) (r ∷ found) z = (at_contains t.rules k.place r z.0.0, rules_in_theory t turns found z.1)

all_behind : (t : Theory) (r : RewriteRule) (found : List RewriteRule) (turns : List PlacedTurn) → AllByRecursion (λ n. (q : RewriteRule) → IsAt t n.place q → Contains found q) turns → AllByRecursion (λ n. (q : RewriteRule) → IsAt t n.place q → Contains (r ∷ found) q) turns
all_behind t r found turns = all_map (λ n. (q : RewriteRule) → IsAt t n.place q → Contains found q) (λ n. (q : RewriteRule) → IsAt t n.place q → Contains (r ∷ found) q) turns (λ n h q at. Contains-append_right (r ∷ []) found q (h q at))

pub rules_are_found : (t : Theory) (turns : List PlacedTurn) (found : List RewriteRule) → AllZip (IsRuleAt t) turns found → AllByRecursion (λ n. (q : RewriteRule) → IsAt t n.place q → Contains found q) turns
rules_are_found t [] [] z = tt
rules_are_found t [] (r ∷ found) z = absurd z
rules_are_found t (k ∷ turns) [] z = absurd z
rules_are_found t (k ∷ turns) (r ∷ found) z = (
  (λ q at. subst (λ x. Contains (r ∷ found) x) (one_at t k.place r q z.0.0 at) (Contains-append_left (r ∷ []) found r (Contains-push [] r))),
  all_behind t r found turns (rules_are_found t turns found z.1),
)

pub found_rules : (t : Theory) (used : List Text) (s : StatePart) (all turns : List PlacedTurn) (h : AllByRecursion (IsTurnAmong t used s all) turns) → AllZip (IsRuleAt t) turns (rules_of (turns_of t used s all turns h))
found_rules t used s all [] h = tt
found_rules t used s all (k ∷ turns) h = ((h.0.turn.at, h.0.turn.number, h.0.turn.read, h.0.turn.body), found_rules t used s all turns h.1)

-- ---- one rule

-- where it fires
pub fires_there : (t : Theory) (used : List Text) (s : SymbolicState) (place : ℕ) (f : PlacedFiring) (i : IsFiringOf t used s place f) → AreUntaken t.signature used (Some i.rule) [] (whole s) f.part.part (narrowed_by f.part (f.equations ++ f.condition) ∷ [])
fires_there t used s place f i =
    let clauses = f.equations ++ f.condition in
    let r = with_clauses f.part.part clauses in
    firing_is_left t.signature used i.rule (whole s) f.part.part (narrowed_by f.part clauses)
    (subst (λ b. AreWhere t.signature (λ c. Fires t.signature b c) (whole s) (r ∷ [])) (sym i.body)
    (firing_part t.signature (rewrite i.read) (whole s) r (record { part = f.part.part; clauses = clauses }) f.apart i.cases (clauses_restrict t.signature f.part.part clauses)))
    (record {
      below = restricted_alone t.signature f.part.part r clauses i.part.ready.told (clauses_restrict t.signature f.part.part clauses);
      at_hand = i.part.at_hand;
      grown = record { new = i.part.grown.new; variables = i.part.grown.variables; are_new = i.part.grown.are_new; each = i.part.grown.each };
      ready = i.where_it_fires;
    })
    (comes_by_more t.signature (λ b. b ≡ rewrite i.read) (IsOneOf (Some i.rule) []) (whole s) r (λ b e. (i.rule, inr refl, i.body ∙ sym e)) i.comes)

-- where it fires nowhere, nothing is left to it, whatever the rules found before take
pub nothing_for_it : (g : KoreSignature) (used : List Text) (r : RewriteRule) (found : List RewriteRule) (s m : StatePart) → AreUntaken g used (Some r) [] s m [] → AreUntaken g used (Some r) found s m []
nothing_for_it g used r found s m l = record {
  left = record { divided = divides_of_these g (FiresFirst g [] r) (FiresFirst g found r) s [] (λ c f. (f.0, tt)) l.left.divided; only = tt };
  each = tt;
  comes = tt;
}

-- where no parts are left to it, it has no turn
pub no_turn_at : (t : Theory) (used : List Text) (s : SymbolicState) (place : ℕ) (found : List RewriteRule) (p : StatePart) → AllByRecursion (Contains t.rules) found → AreTurnParts t used s place found p [] → (r : RewriteRule) → IsAt t place r → OfEachInstance t.signature (whole s) (λ w c. ¬ HasTurn t r c)
no_turn_at t used s place found p members a r at = subst (λ q. OfEachInstance t.signature (whole s) (λ w c. ¬ HasTurn t q c)) (one_at t place a.rule r a.at at) (nothing_left t used (whole s) p found a.rule members a.left)

-- a rule that isn't read has no turn
pub unread_no_turn : (t : Theory) (s : SymbolicState) (r : RewriteRule) → ((m : Rewrite) → ¬ (r.body ≡ rewrite m)) → OfEachInstance t.signature (whole s) (λ w c. ¬ HasTurn t r c)
unread_no_turn t s r none w c h k turn = by r.body refl turn.fires
  where
    by : (b : RuleBody) → r.body ≡ b → Fires t.signature b c → ⊥
    by (rewrite m) e f = none m e
    by (foreign_rule l) e f = f
