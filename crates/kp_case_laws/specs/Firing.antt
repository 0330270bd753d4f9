-- Where a rule fires on the instances of a part of a state, and where it doesn't.
-- Source: rules of the K framework (a left side and a condition); K's Haskell backend, where what no rule takes is the remainder.
use Rattle.std.specs.Prelude.{◌↔◌, List, ◌∷◌, ◌++◌, Option, Some, None, ⊤, MatchOption}
use Rattle.std.specs.List.{AllByRecursion}
use Rattle.kp_kore.specs.Signature.{KoreSignature}
use Rattle.kp_kore.specs.Value.{Value}
use Rattle.kp_kore.specs.Instance.{IsTrueUnder}
use Rattle.kp_kore.specs.Rules.{Rewrite, RuleBody}
use Rattle.kp_kore.specs.Steps.{Fires}
use Rattle.kp_symbolic.specs.Terms.{under_replaced}
use Rattle.kp_symbolic.specs.States.{Literal, AreTrue}
use Rattle.kp_case_laws.specs.Parts.{StatePart, OfEachInstance, IsDividedWhere, IsDivided, HoldsWhere}
use Rattle.kp_case_laws.specs.Cases.{MetPart}

-- ---- a rule's condition

-- with what the rule's variables stand for in the part, the clauses say what the condition says
abbrev pub SaysCondition : KoreSignature → Rewrite → MetPart → List (List Literal) → Type 0
SaysCondition g r m clauses = OfEachInstance g m.part (λ w c. AreTrue g w clauses ↔ AllByRecursion (IsTrueUnder g (under_replaced g m.bindings w)) r.condition)

-- ---- the cases of a part under a rule

-- a part, on whose instances the rule fires exactly where the clauses are true
pub record FiringPart : Type 0 where
  pub part : StatePart
  pub clauses : List (List Literal)

abbrev pub IsFiringPart : KoreSignature → RuleBody → FiringPart → Type 0
IsFiringPart g body m = HoldsWhere g (Fires g body) m.part m.clauses

-- the rule fires on no instance of the part
abbrev pub FiresNowhere : KoreSignature → RuleBody → StatePart → Type 0
FiresNowhere g body p = OfEachInstance g p (λ w c. ¬ Fires g body c)

abbrev pub with_firing : Option FiringPart → List StatePart → List StatePart
with_firing (Some m) parts = m.part ∷ parts
with_firing None parts = parts

-- each instance of p lies in one of these: where clauses say whether the rule fires, or where it doesn't
pub record AreFiringCases (g : KoreSignature) (body : RuleBody) (p : StatePart) (firing : Option FiringPart) (apart : List StatePart) : Type 0 where
  pub divided : IsDivided g p (with_firing firing apart)
  pub fires : MatchOption firing ⊤ (IsFiringPart g body)
  pub elsewhere : AllByRecursion (FiresNowhere g body) apart

-- ---- where something holds of the configuration

abbrev pub HasNoInstance : KoreSignature → StatePart → Type 0
HasNoInstance g p = OfEachInstance g p (λ w c. ⊥)

-- each instance of p of which Q holds lies in exactly one of the parts, and Q holds of each of theirs
pub record AreWhere (g : KoreSignature) (Q : Value → Type 0) (p : StatePart) (parts : List StatePart) : Type 0 where
  pub divided : IsDividedWhere g Q p parts
  pub only : AllByRecursion (λ r. OfEachInstance g r (λ w c. Q c)) parts

-- parts where Q holds, while they are divided further by R: those that are done, and those that still wait
pub record AreDividedSoFar (g : KoreSignature) (Q R : Value → Type 0) (p : StatePart) (done waiting : List StatePart) : Type 0 where
  pub divided : IsDividedWhere g (λ c. Q c × R c) p (done ++ waiting)
  pub of_done : AllByRecursion (λ r. OfEachInstance g r (λ w c. Q c × R c)) done
  pub of_waiting : AllByRecursion (λ r. OfEachInstance g r (λ w c. Q c)) waiting

-- the one list of clauses is true exactly where not all of the other are
abbrev pub AreOpposites : KoreSignature → StatePart → List (List Literal) → List (List Literal) → Type 0
AreOpposites g p clauses others = OfEachInstance g p (λ w c. AreTrue g w others ↔ (¬ AreTrue g w clauses))
