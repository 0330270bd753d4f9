-- A rule fires by the clauses of its condition, and doesn't by their opposite.
use Rattle.std.proofs.Common.{◌≡◌, true, List, [], ◌∷◌, ◌++◌, Some, ◌↔◌}
use Rattle.std.specs.List.{AllByRecursion}
use Rattle.kp_kore.specs.Syntax.{KorePattern}
use Rattle.kp_kore.specs.Parts.{SortedName, free_variables}
use Rattle.kp_kore.specs.Signature.{KoreSignature}
use Rattle.kp_kore.specs.Instance.{Valuation, GivesSorts, IsTrueUnder}
use Rattle.kp_kore.specs.Rules.{Rewrite, RuleBody, rewrite}
use Rattle.kp_kore.specs.Steps.{Fires}
use Rattle.kp_symbolic.specs.Terms.{Replaced, under_replaced}
use Rattle.kp_symbolic.specs.States.{Literal, AreTrue, SymbolicState}
use Rattle.kp_symbolic.specs.Clauses.{clauses_of_conjuncts, is_too_large, denied}
use Rattle.kp_symbolic.specs.Solving.{negated}
use Rattle.kp_symbolic.proofs.Facts.{Good}
use Rattle.kp_symbolic.proofs.Leaf.{conjuncts_say, once_says, then_says}
use Rattle.kp_symbolic.proofs.Read.{IsRead}
use Rattle.kp_symbolic_laws.specs.Safe.{PutNormal}
use Rattle.kp_symbolic_laws.proofs.Step.{each_given}
use Rattle.kp_rules.specs.Skeletons.{Form}
use Rattle.kp_case_laws.specs.Parts.{StatePart, OfEachInstance, with_clauses}
use Rattle.kp_case_laws.specs.Cases.{MetPart, AreCases, left_side}
use Rattle.kp_case_laws.proofs.PartLemmas.{clauses_restrict}
use Rattle.kp_symbolic_laws.specs.Kept.{CanBeWrittenAt}
use Rattle.kp_rules.specs.LeftSides.{IsLeftSide, IsOverLeft}
use Rattle.kp_case_laws.specs.Firing.{FiringPart, AreFiringCases, HasNoInstance, AreWhere}
use Rattle.kp_case_laws.proofs.FiringLemmas.{fires_where_met, excluded_part, always_fires}
use Rattle.kp_step.specs.Conditions.{IsVerifiedOver, condition_clauses, AreRight}
use Rattle.kp_step.specs.Laws.{opposite_of}
use Rattle.kp_step.proofs.OpenedWith.{Sound, IsAmong, predicates_have}
use Rattle.kp_step.proofs.Negated.{all_sound, negated_sorted, negated_right, negated_says}

-- ---- conditions

among : (g : KoreSignature) (hand : List SortedName) (rs : List Replaced) (p : KorePattern) → IsVerifiedOver g hand rs p → IsAmong g rs hand p
among g hand rs p h = record { stands = record { place = h.place; faultless = h.verified; meant = h.known; placed = h.placed }; predicate = h.predicate; at_hand = h.at_hand }

all_among : (g : KoreSignature) (hand : List SortedName) (rs : List Replaced) (ps : List KorePattern) → AllByRecursion (IsVerifiedOver g hand rs) ps → AllByRecursion (IsAmong g rs hand) ps
all_among g hand rs [] h = tt
all_among g hand rs (p ∷ ps) h = (among g hand rs p h.0, all_among g hand rs ps h.1)

all_read : (g : KoreSignature) (hand : List SortedName) (rs : List Replaced) (v : Valuation) (ps : List KorePattern) → GivesSorts g v hand → AllByRecursion (IsVerifiedOver g hand rs) ps → AllByRecursion (IsRead g rs v) ps
all_read g hand rs v [] gives h = tt
all_read g hand rs v (p ∷ ps) gives h = (
  record { stands = (among g hand rs p h.0).stands; predicate = h.0.predicate; given = each_given g v hand rs (free_variables p) gives h.0.at_hand },
  all_read g hand rs v ps gives h.1,
)

pub condition_says : (g : KoreSignature) (hand : List SortedName) (rs : List Replaced) (v : Valuation) (ps : List KorePattern) → AllByRecursion (IsVerifiedOver g hand rs) ps → GivesSorts g v hand →
    AreTrue g v (condition_clauses g rs ps) ↔ AllByRecursion (IsTrueUnder g (under_replaced g rs v)) ps
condition_says g hand rs v ps h gives = then_says (once_says g v (clauses_of_conjuncts g rs 0 ps)) (conjuncts_say g rs v 0 ps (all_read g hand rs v ps gives h))

pub condition_right : (g : KoreSignature) (hand : List SortedName) (rs : List Replaced) (ps : List KorePattern) → PutNormal g rs → AllByRecursion (IsVerifiedOver g hand rs) ps → AreRight g hand (condition_clauses g rs ps)
condition_right g hand rs ps n h = predicates_have g rs hand ps n (all_among g hand rs ps h)

pub fires_by_clauses : (g : KoreSignature) (r : Rewrite) (form : Form) (p : StatePart) (m : MetPart) (apart : List StatePart) → AreCases g (left_side g form) p (Some m) apart → IsLeftSide g r form → IsOverLeft r → AllByRecursion (IsVerifiedOver g m.part.state.variables m.bindings) r.condition →
    AreFiringCases g (rewrite r) p (Some (record { part = m.part; clauses = m.equations ++ condition_clauses g m.bindings r.condition })) apart
fires_by_clauses g r form p m apart cases left over h =
    fires_where_met g r form p m apart (condition_clauses g m.bindings r.condition) cases left over
    (λ w c sorts has. condition_says g m.part.state.variables m.bindings w r.condition h sorts)

-- ---- opposites

abbrev AreGood : KoreSignature → List SortedName → List (List Literal) → Type 0
AreGood g hand = AllByRecursion (AllByRecursion (Good g hand))

clause_good : (g : KoreSignature) (hand : List SortedName) (c : List Literal) → AllByRecursion (λ l. Good g hand l × Sound g l) c → AllByRecursion (Good g hand) c × AllByRecursion (Sound g) c
clause_good g hand [] h = (tt, tt)
clause_good g hand (l ∷ c) h = let i = clause_good g hand c h.1 in ((h.0.0, i.0), (h.0.1, i.1))

-- the sorts of places, and normal form
pub both_right : (g : KoreSignature) (hand : List SortedName) (cs : List (List Literal)) → AreRight g hand cs → AreGood g hand cs × AllByRecursion (AllByRecursion (Sound g)) cs
both_right g hand [] h = (tt, tt)
both_right g hand (c ∷ cs) h =
    let first = clause_good g hand c h.0 in
    let rest = both_right g hand cs h.1 in
    ((first.0, rest.0), (first.1, rest.1))

pub opposite_sorted : (g : KoreSignature) (s : SymbolicState) (cs : List (List Literal)) → AreRight g s.variables cs → AreGood g s.variables (negated g s.sort cs)
opposite_sorted g s cs h = let k = both_right g s.variables cs h in negated_sorted g s cs k.0 (all_sound g cs k.1)

pub opposite_right : (g : KoreSignature) (s : SymbolicState) (cs : List (List Literal)) → AreRight g s.variables cs → (is_too_large 0 (denied g cs) ≡ true → AllByRecursion (CanBeWrittenAt g s.sort) cs) → AreRight g s.variables (negated g s.sort cs)
opposite_right g s cs h room = let k = both_right g s.variables cs h in negated_right g s cs k.0 k.1 room

pub opposite_says : (g : KoreSignature) (v : Valuation) (s : SymbolicState) (cs : List (List Literal)) → GivesSorts g v s.variables → AreRight g s.variables cs → (is_too_large 0 (denied g cs) ≡ true → AllByRecursion (CanBeWrittenAt g s.sort) cs) →
    AreTrue g v (negated g s.sort cs) ↔ (¬ AreTrue g v cs)
opposite_says g v s cs gives h room = let k = both_right g s.variables cs h in negated_says g v s cs gives k.0 (all_sound g cs k.1) room

pub excluded_by_opposite : (g : KoreSignature) (body : RuleBody) (p : StatePart) (m : FiringPart) (apart : List StatePart) → AreFiringCases g body p (Some m) apart → AreRight g m.part.state.variables m.clauses →
    (is_too_large 0 (denied g m.clauses) ≡ true → AllByRecursion (CanBeWrittenAt g m.part.state.sort) m.clauses) →
    AreWhere g (λ c. ¬ Fires g body c) p (opposite_of g m ∷ apart) × (AllByRecursion (HasNoInstance g) (opposite_of g m ∷ apart) → OfEachInstance g p (λ w c. Fires g body c))
excluded_by_opposite g body p m apart cases right room =
    let others = negated g m.part.state.sort m.clauses in
    let q = with_clauses m.part others in (
      excluded_part g body p q m apart others cases (λ w c sorts has. opposite_says g w m.part.state m.clauses sorts right room) (clauses_restrict g m.part others),
      always_fires g body p q m apart others cases (λ w c sorts has. opposite_says g w m.part.state m.clauses sorts right room) (clauses_restrict g m.part others),
    )
