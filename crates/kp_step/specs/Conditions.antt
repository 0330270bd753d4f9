-- A rule's condition, where terms of a part's variables stand for the rule's.
-- Source: rules of the K framework (requires); the K framework's Kore language (sorts of applications and of equalities).
use Rattle.std.specs.Prelude.{◌≡◌, true, List, None}
use Rattle.std.specs.List.{AllByRecursion}
use Rattle.kp_kore.specs.Syntax.{KorePattern}
use Rattle.kp_kore.specs.Parts.{SortedName, free_variables}
use Rattle.kp_kore.specs.Signature.{KoreSignature}
use Rattle.kp_kore.specs.Instance.{is_predicate}
use Rattle.kp_kore.specs.Foreign.{none_within, has_foreign_head}
use Rattle.kp_signature.specs.Places.{Place}
use Rattle.kp_signature.specs.Verify.{first_fault}
use Rattle.kp_symbolic.specs.Terms.{Replaced, replacement_for}
use Rattle.kp_symbolic.specs.States.{variables_for, Literal}
use Rattle.kp_symbolic.specs.WellFormed.{AreWellPlaced, AreAtHand}
use Rattle.kp_symbolic.specs.Clauses.{without_repeats, clauses_of_conjuncts}
use Rattle.kp_symbolic_laws.specs.Runs.{IsSortedLiteral}
use Rattle.kp_symbolic_laws.specs.Safe.{Formed, IsSoundQuote}

-- a verified predicate; the terms in the place of its variables have their sorts, and are of variables at hand
pub record IsVerifiedOver (g : KoreSignature) (hand : List SortedName) (bindings : List Replaced) (p : KorePattern) : Type 0 where
  pub place : Place
  pub verified : first_fault g place p ≡ None
  pub known : none_within (has_foreign_head g) p ≡ true
  pub predicate : is_predicate p ≡ true
  pub placed : AreWellPlaced g bindings (free_variables p)
  pub at_hand : AllByRecursion (λ x. AreAtHand (variables_for x (replacement_for bindings x.name)) hand) (free_variables p)

-- the clauses of a condition
abbrev pub condition_clauses : KoreSignature → List Replaced → List KorePattern → List (List Literal)
condition_clauses g bindings condition = without_repeats (clauses_of_conjuncts g bindings 0 condition)

-- each literal has the sorts of its places and is of variables at hand; its terms are in normal form, and what isn't opened is a
-- predicate that is written right where there is room for new names
abbrev pub AreRight : KoreSignature → List SortedName → List (List Literal) → Type 0
AreRight g hand = AllByRecursion (AllByRecursion (λ l. IsSortedLiteral g hand l × Formed g (IsSoundQuote g) l))
