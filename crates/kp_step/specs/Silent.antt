-- The cases of a part under a rule, and the parts where the rule doesn't fire, with the names that are in use.
-- Source: rules of the K framework (a left side and a condition); K's Haskell backend, where what no rule takes is the remainder.
use Rattle.std.specs.Prelude.{◌≡◌, List, Some}
use Rattle.std.specs.List.{AllByRecursion}
use Rattle.kp_kore.specs.Syntax.{Text}
use Rattle.kp_kore.specs.Signature.{KoreSignature}
use Rattle.kp_kore.specs.Rules.{RuleBody}
use Rattle.kp_kore.specs.Steps.{Fires}
use Rattle.kp_symbolic.specs.States.{Literal}
use Rattle.kp_case_laws.specs.Parts.{StatePart, OfEachInstance, IsGrown}
use Rattle.kp_case_laws.specs.Firing.{AreFiringCases, HasNoInstance, AreWhere}
use Rattle.kp_unify.specs.Narrowed.{NumberedPart}
use Rattle.kp_unify.specs.Way.{IsPartOn}
use Rattle.kp_step.specs.Comes.{AreClausesOf, ComesFrom}
use Rattle.kp_step.specs.Conditions.{AreRight}
use Rattle.kp_step.specs.ReadyParts.{IsReadyPart, parts_of}

-- the rule fires on q where the clauses are true, those by which it does, and on none of those apart; each is narrowed where its left
-- side lies on it, has new variables of sorts with values, is well-sorted, and its names are in use
pub record IsFiringOf (g : KoreSignature) (used : List Text) (body : RuleBody) (p : StatePart) (q : NumberedPart) (clauses : List (List Literal)) (apart : List NumberedPart) : Type 0 where
  pub cases : AreFiringCases g body p (Some (record { part = q.part; clauses = clauses })) (parts_of apart)
  pub of_rule : AreClausesOf g body q.part clauses
  pub here : IsPartOn g used of_rule.form p q
  pub others : AllByRecursion (IsPartOn g used of_rule.form p) apart
  pub right : AreRight g q.part.state.variables clauses

-- a part that comes of p and of the rule, with new variables besides, that a rule can be tried on
pub record IsFurther (g : KoreSignature) (used : List Text) (body : RuleBody) (p : StatePart) (q : NumberedPart) : Type 0 where
  pub grown : IsGrown g used p q.part
  pub comes : ComesFrom g (λ b. b ≡ body) p q.part
  pub ready : IsReadyPart g used q

-- the parts of p where the rule doesn't fire; where none of them has an instance, it fires on each of p
pub record IsExcluded (g : KoreSignature) (used : List Text) (body : RuleBody) (p : StatePart) (parts : List NumberedPart) : Type 0 where
  pub silent : AreWhere g (λ c. ¬ Fires g body c) p (parts_of parts)
  pub each : AllByRecursion (IsFurther g used body p) parts
  pub everywhere : AllByRecursion (HasNoInstance g) (parts_of parts) → OfEachInstance g p (λ w c. Fires g body c)
