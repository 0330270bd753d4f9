-- A state that is easy is left undecided only for a number or a depth.
use Rattle.std.proofs.Common.{◌≡◌, refl, subst, List, [], Option, Some, None}
use Rattle.std.specs.List.{AllByRecursion}
use Rattle.kp_kore.specs.Syntax.{KorePattern}
use Rattle.kp_kore.specs.Signature.{KoreSignature}
use Rattle.kp_kore.specs.Implied.{Simplified}
use Rattle.kp_symbolic.specs.States.{clause_variables, Literal, SymbolicState}
use Rattle.kp_symbolic.specs.WellFormed.{AreAtHand}
use Rattle.kp_symbolic.specs.Solving.{IsReadAs}
use Rattle.kp_symbolic.specs.Verdicts.{Verdict, some_valuation, no_valuation, undecided, Weighed, IsRightVerdict, IsDecision, by_some, by_none}
use Rattle.kp_symbolic.specs.Shown.{IsEasy, Undecided, IsLimitOfTerms}
use Rattle.kp_symbolic.specs.Endings.{Result, what_is_undecided, IsSimplifyFloorKept}
use Rattle.kp_symbolic.proofs.ReadOnce.{read_once}
use Rattle.kp_symbolic_laws.proofs.Easy.{easy_decided}
use Rattle.kp_simplify.specs.Answers.{IsAnswer, empty, wide, rough, heavy, deeper, some}

not_open : (cs : List (List Literal)) (o : Option Weighed) → IsDecision (undecided cs o) → ⊥
not_open cs o d = by (undecided cs o) d refl
  where
    by : (a : Verdict) → IsDecision a → a ≡ undecided cs o → ⊥
    by some_valuation by_some e = absurd (cc)
    by no_valuation by_none e = absurd (cc)
    by (undecided _ _) d e = elim d [ ]

same_cause : (a b : Undecided) (r : Result Simplified) → r ≡ what_is_undecided a → r ≡ what_is_undecided b → a ≡ b
same_cause a b r p q = cc

-- the clauses of an easy state are decided
abbrev IsDecided : KoreSignature → SymbolicState → Type 0
IsDecided g s = (a : Verdict) → IsRightVerdict g s a → IsDecision a

only_limits : (g : KoreSignature) (s : SymbolicState) (r : Result Simplified) (u : Undecided) → IsDecided g s → IsAnswer g s r → r ≡ what_is_undecided u → IsLimitOfTerms u
only_limits g s r u decided (empty h) e = absurd (cc)
only_limits g s r u decided (wide c may h) e = subst IsLimitOfTerms (same_cause _ u _ refl e) tt
only_limits g s r u decided (rough cs p h n w) e = absurd (not_open cs None (decided (undecided cs None) h))
only_limits g s r u decided (heavy cs k p h n w) e = absurd (not_open cs (Some k) (decided (undecided cs (Some k)) h))
only_limits g s r u decided (deeper n h w d) e = subst IsLimitOfTerms (same_cause _ u _ refl e) tt
only_limits g s r u decided (some p h n d w) e = absurd (cc)

pub floor_is_kept : (g : KoreSignature) (p : KorePattern) (s : SymbolicState) (r : Result Simplified) → IsReadAs g p s → AllByRecursion (λ c. AreAtHand (clause_variables c) s.variables) s.clauses →
    IsAnswer g s r → IsSimplifyFloorKept g p r
floor_is_kept g p s r read hand answer easy u e =
    let here : IsEasy g s [] = subst (λ t. IsEasy g t []) (read_once g p easy.state s easy.read read) easy.easy in
    only_limits g s r u (λ a right. easy_decided g s [] a right here hand) answer e
