-- The sides of a rule that is read, where its axiom has no verify fault.
-- Source: the K framework's Kore language (sorts of variables, \rewrites, new variables of a right side).
use Rattle.std.specs.Prelude.{◌≡◌, Bool, true, not, ◌&&◌, ◌||◌, List, Some}
use Rattle.std.specs.List.{list_all, AllByRecursion}
use Rattle.kp_kore.specs.Syntax.{KorePattern}
use Rattle.kp_kore.specs.Parts.{SortedName, free_variables}
use Rattle.kp_kore.specs.Signature.{KoreSignature}
use Rattle.kp_kore.specs.Instance.{is_predicate, is_named}
use Rattle.kp_kore.specs.Rules.{Rewrite}
use Rattle.kp_signature.specs.Places.{sort_in_scope}
use Rattle.kp_compile.specs.Verified.{IsVerified, IsVerifiedTerm, IsVerifiedLeftTerm, IsVerifiedPredicate}
use Rattle.kp_rules.specs.Known.{is_among}

-- a verified predicate
pub record IsVerifiedEnsured (g : KoreSignature) (p : KorePattern) : Type 0 where
  pub predicate : is_predicate p ≡ true
  pub verified : IsVerified g p

-- each variable of the pattern is the left term's, with its sort
abbrev pub IsOfLeft : List SortedName → KorePattern → Type 0
IsOfLeft left p = list_all (λ x. is_among x left) (free_variables p) ≡ true

-- a variable is new with its sort, or the left term's with its sort, and no new one has its name
abbrev pub is_old_or_new : List SortedName → List SortedName → SortedName → Bool
is_old_or_new left new x = is_among x new || (is_among x left && not (is_named x.name new))

-- each variable of the pattern is
abbrev pub IsOfBoth : List SortedName → List SortedName → KorePattern → Type 0
IsOfBoth left new p = list_all (is_old_or_new left new) (free_variables p) ≡ true

-- the terms and predicates are verified; each variable of the condition is the left term's, each on the right that or new; each
-- name among the new variables has one sort
pub record AreVerifiedSides (g : KoreSignature) (m : Rewrite) : Type 0 where
  pub left : IsVerifiedLeftTerm g m.left
  pub condition : AllByRecursion (IsVerifiedPredicate g) m.condition
  pub right : IsVerifiedTerm g m.right
  pub ensured : AllByRecursion (IsVerifiedEnsured g) m.ensured
  pub condition_of_left : AllByRecursion (IsOfLeft (free_variables m.left)) m.condition
  pub right_of_both : IsOfBoth (free_variables m.left) m.new_variables m.right
  pub ensured_of_both : AllByRecursion (IsOfBoth (free_variables m.left) m.new_variables) m.ensured
  pub one_sort : AllByRecursion (λ x. sort_in_scope x.name m.new_variables ≡ Some x.sort) m.new_variables
