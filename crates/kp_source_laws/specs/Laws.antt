-- What the laws of this crate say.
-- Source: this project.
use Rattle.std.specs.Prelude.{◌≡◌, ◌⊎◌, ⊤, ℕ, List, [], Option, Some, None}
use Rattle.std.specs.List.{AllByRecursion, Contains}
use Rattle.kp_kore.specs.Syntax.{Text}
use Rattle.kp_kore.specs.Parts.{SortedName}
use Rattle.kp_kore.specs.Signature.{KoreSignature, construction, meaning_of}
use Rattle.kp_kore.specs.Rules.{RuleBody, Rewrite, rewrite, RewriteRule}
use Rattle.kp_kore.specs.Theory.{Theory}
use Rattle.kp_symbolic.specs.Terms.{SymbolicTerm}
use Rattle.kp_symbolic.specs.States.{Atom, has_head, quoted, Literal, SymbolicState}
use Rattle.kp_symbolic.specs.Verdicts.{Weighed}
use Rattle.kp_limits.specs.declared.weight.Weighed as code
use Rattle.kp_symbolic.specs.Sources.{StandsIn}
use Rattle.kp_rules.specs.Skeletons.{Form}
use Rattle.kp_case_laws.specs.Parts.{StatePart, whole, with_clauses, IsGrown}
use Rattle.kp_case_laws.specs.NextStates.{StepCase}
use Rattle.kp_unify.specs.Views.{part_view}
use Rattle.kp_unify.specs.declared.part.Part.{Part}
use Rattle.kp_step.specs.Comes.{ComesFrom}
use Rattle.kp_step.specs.Remainders.{IsOneOf, IsOfTheory}
use Rattle.kp_step.specs.Causes.{IsUndecidedStep}
use Rattle.kp_step.specs.Limits.{IsConditionOf, IsRuleMet, IsCaseMade}
use Rattle.kp_step.specs.RightSteps.{GoesOnFrom, RemainsOf, IsToldUndecided}
use Rattle.kp_step.specs.declared.outcome.Next.{Next}
use Rattle.kp_source_laws.specs.Sourced.{IsLeftOfSome, IsSourcedTerm, IsSourcedAtom, AreSourcedClauses, IsAllSourced, OfNew}
use Rattle.kp_source_laws.specs.Symbols.{AvoidsTerm, AvoidsForm, AvoidsPattern, AvoidsAtom, ClausesAvoid}

-- a part that comes of the state and these rules is sourced in them
abbrev pub IsPartSourced : KoreSignature → (RuleBody → Type 0) → Type 0
IsPartSourced g IsRule = (s : SymbolicState) (q : StatePart) → ComesFrom g IsRule (whole s) q → OfNew s q.state.variables (λ new. IsAllSourced g IsRule new s q)

-- and so with its new variables, where they are known to have new names
abbrev pub IsGrownSourced : Theory → Type 0
IsGrownSourced t = (used : List Text) (s : SymbolicState) (q : StatePart) (k : IsGrown t.signature used (whole s) q) → ComesFrom t.signature (IsOfTheory t) (whole s) q →
    IsAllSourced t.signature (IsOfTheory t) k.new s q

-- where a step leaves something undecided, what is shown is sourced in the rule that is asked for, if there is one, and in those
-- that take from it
abbrev pub IsShownSourced : Theory → Type 0
IsShownSourced t = (s : SymbolicState) (rule : Option RewriteRule) (shown : List (List Literal)) (over : Option Weighed) (k : IsUndecidedStep t s rule shown over) →
    OfNew s k.part.state.variables (λ new. AreSourcedClauses t.signature (IsOneOf rule k.turns) new s shown)

-- the rule, if there is one, is the theory's
abbrev pub IsMaybeOf : Theory → Option RewriteRule → Type 0
IsMaybeOf t rule = (r : RewriteRule) → rule ≡ Some r → Contains t.rules r

-- the same of the theory's rules that meet the state
abbrev pub IsShownSourcedInTheory : Theory → Type 0
IsShownSourcedInTheory t = (s : SymbolicState) (rule : Option RewriteRule) (shown : List (List Literal)) (over : Option Weighed) → IsMaybeOf t rule → (k : IsUndecidedStep t s rule shown over) →
    OfNew s k.part.state.variables (λ new. AreSourcedClauses t.signature (IsRuleMet t s) new s shown)

-- ---- what a step tells

-- the part of a next state, made of the state and of the theory's rules
abbrev pub IsNextSourced : Theory → Type 0
IsNextSourced t = (used : List Text) (s : SymbolicState) (n : Next) → GoesOnFrom t used s n → OfNew s (part_view n.part).state.variables (λ new. IsAllSourced t.signature (IsOfTheory t) new s (part_view n.part))

-- a part that remains, with new variables of new names
abbrev pub IsRemainderSourced : Theory → Type 0
IsRemainderSourced t = (used : List Text) (s : SymbolicState) (p : Part) (k : RemainsOf t used s p) → IsAllSourced t.signature (IsOfTheory t) k.grown.new s (part_view p)

-- what is told as undecided, in the theory's rules that meet the state
abbrev pub IsUndecidedSourced : Theory → Type 0
IsUndecidedSourced t = (s : SymbolicState) (shown : List (List Literal)) (over : Option code.Weighed) (place : Option ℕ) (k : IsToldUndecided t s shown over place) →
    OfNew s k.what_is_undecided.part.state.variables (λ new. AreSourcedClauses t.signature (IsRuleMet t s) new s shown)

-- ---- where a limit is passed

-- the part on which a rule's condition passes it, in the theory's rules that meet the state
abbrev pub IsConditionSourced : Theory → Type 0
IsConditionSourced t = (s x : SymbolicState) (k : IsConditionOf t s x) → let part = with_clauses k.firing.part k.firing.clauses in
    (x ≡ part.state) × OfNew s part.state.variables (λ new. IsAllSourced t.signature (IsRuleMet t s) new s part)

-- the part of the case for which it is passed by what is written
abbrev pub IsCaseSourced : Theory → Type 0
IsCaseSourced t = (s : SymbolicState) (k : StepCase) → IsCaseMade t s k → OfNew s k.part.state.variables (λ new. IsAllSourced t.signature (IsRuleMet t s) new s k.part)

-- ---- what isn't sourced

-- where no clause stands in the state and there is no rule, no atom is sourced, and no term but the state's
abbrev pub NoneIsSourcedInNothing : KoreSignature → Type 0
NoneIsSourcedInNothing g = (new : List SortedName) (s : SymbolicState) → s.clauses ≡ [] → ((a : Atom) → ¬ IsSourcedAtom g (IsOneOf None []) new s a) × ((t : SymbolicTerm) → IsSourcedTerm g (IsOneOf None []) new s t → t ≡ s.term)

abbrev pub IsHeadTest : Atom → Type 0
IsHeadTest (has_head x test) = ⊤
IsHeadTest a = ⊥

abbrev pub IsQuotedAtom : Atom → Type 0
IsQuotedAtom (quoted p rs) = ⊤
IsQuotedAtom a = ⊥

-- where only tests of heads stand in the state's clauses and there is no rule, they alone are sourced, but for what is written for clauses
abbrev pub NoneIsSourcedBeside : KoreSignature → Type 0
NoneIsSourcedBeside g = (new : List SortedName) (s : SymbolicState) → AllByRecursion (AllByRecursion (λ l. IsHeadTest l.atom)) s.clauses → (a : Atom) → IsSourcedAtom g (IsOneOf None []) new s a → StandsIn s.clauses a ⊎ IsQuotedAtom a

-- a constructor that stands neither in the state, nor in the rules' left sides and conditions
pub record StandsNowhere (g : KoreSignature) (IsRule : RuleBody → Type 0) (s : SymbolicState) (f : Text) : Type 0 where
  pub constructs : meaning_of g f ≡ construction
  pub term : AvoidsTerm f s.term
  pub clauses : ClausesAvoid f s.clauses
  pub lefts : (left : Form) → IsLeftOfSome g IsRule left → AvoidsForm f left
  pub conditions : (m : Rewrite) → IsRule (rewrite m) → AllByRecursion (AvoidsPattern f) m.condition

-- it stands in no sourced atom and term, tests of heads and the text of quoted predicates aside
abbrev pub NowhereIsNoneSourced : KoreSignature → Type 0
NowhereIsNoneSourced g = (rule : Option RewriteRule) (turns : List RewriteRule) (new : List SortedName) (s : SymbolicState) (f : Text) → StandsNowhere g (IsOneOf rule turns) s f →
    ((a : Atom) → IsSourcedAtom g (IsOneOf rule turns) new s a → AvoidsAtom f a) × ((t : SymbolicTerm) → IsSourcedTerm g (IsOneOf rule turns) new s t → AvoidsTerm f t)
