-- How a part of a state comes of the state and of rules, step by step: nothing else stands in it.
-- Source: narrowing; the K framework (rules, priorities); K's Haskell backend, where what no rule takes is the remainder.
use Rattle.std.specs.Prelude.{◌≡◌, ◌↔◌, List, [], ◌++◌}
use Rattle.kp_kore.specs.Signature.{KoreSignature}
use Rattle.kp_kore.specs.Value.{Value}
use Rattle.kp_kore.specs.Instance.{Valuation}
use Rattle.kp_kore.specs.Sorted.{IsSorted}
use Rattle.kp_kore.specs.Rules.{RuleBody, rewrite, foreign_rule}
use Rattle.kp_kore.specs.Foreign.{IsSkeletonInstance}
use Rattle.kp_symbolic.specs.Terms.{Replaced}
use Rattle.kp_symbolic.specs.States.{Literal}
use Rattle.kp_symbolic.specs.Solving.{negated, Solving}
use Rattle.kp_rules.specs.LeftForms.{left_form}
use Rattle.kp_rules.specs.Skeletons.{Form, Admits}
use Rattle.kp_case_laws.specs.Parts.{StatePart, with_clauses}
use Rattle.kp_case_laws.specs.Cases.{MetPart, IsMetBy, left_side}
use Rattle.kp_unify.specs.Comes.{IsNarrowedFrom}
use Rattle.kp_unify.specs.Way.{AreEquations}
use Rattle.kp_step.specs.Conditions.{condition_clauses}

-- the form is that of the rule's left term, or stands for what a foreign rule's may
abbrev pub IsFormOf : KoreSignature → RuleBody → Form → Type 0
IsFormOf g (rewrite m) form = form ≡ left_form g m.left
IsFormOf g (foreign_rule l) form = (u : Value) → IsSorted g u → ((v : Valuation) × Admits g v form u) ↔ IsSkeletonInstance g l u

-- the clauses of a rule's condition; of a foreign rule none are asked
abbrev pub asked_clauses : KoreSignature → RuleBody → List Replaced → List (List Literal)
asked_clauses g (rewrite m) bindings = condition_clauses g bindings m.condition
asked_clauses g (foreign_rule l) bindings = []

-- The clauses by which a rule fires on a part that its left side meets: equalities by which the left side matches the part's term, of
-- sorts that it asks for, and the condition with terms in the place of the rule's variables.
pub record AreClausesOf (g : KoreSignature) (body : RuleBody) (q : StatePart) (clauses : List (List Literal)) : Type 0 where
  pub form : Form
  pub is_form : IsFormOf g body form
  pub met : MetPart
  pub of_part : met.part ≡ q
  pub is_met : IsMetBy g (left_side g form) met
  pub equalities : AreEquations g form met
  pub are : clauses ≡ met.equations ++ asked_clauses g body met.bindings

-- variables are narrowed where one of these rules' left sides lies on the part; one of them fires, or doesn't; equations are solved
pub data ComesFrom (g : KoreSignature) (IsRule : RuleBody → Type 0) (p : StatePart) : StatePart → Type 0 where
  narrowed : (r q : StatePart) (body : RuleBody) (form : Form) → ComesFrom g IsRule p r → IsRule body → IsFormOf g body form → IsNarrowedFrom g form r q → ComesFrom g IsRule p q
  fires : (r : StatePart) (body : RuleBody) (clauses : List (List Literal)) → ComesFrom g IsRule p r → IsRule body → AreClausesOf g body r clauses → ComesFrom g IsRule p (with_clauses r clauses)
  excluded : (r : StatePart) (body : RuleBody) (clauses : List (List Literal)) → ComesFrom g IsRule p r → IsRule body → AreClausesOf g body r clauses →
      ComesFrom g IsRule p (with_clauses r (negated g r.state.sort clauses))
  solved : (r q : StatePart) → ComesFrom g IsRule p r → Solving g r.state q.state → q.added ≡ r.added → ComesFrom g IsRule p q
  itself : ComesFrom g IsRule p p
