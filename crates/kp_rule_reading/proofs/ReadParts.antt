-- What is asked of a rewrite axiom, from the parts of which the code asks it, and back.
use Rattle.std.proofs.Common.{◌≡◌, refl, sym, ap, ◌∙◌, Bool, true, false, ◌&&◌, not, List, [], ◌∷◌, nat_le, Some}
use Rattle.std.specs.Prelude.{IsTrue}
use Rattle.std.specs.List.{list_all, AllByRecursion}
use Rattle.kp_kore.specs.Syntax.{KorePattern, Statement}
use Rattle.kp_kore.specs.Parts.{SortedName, subpatterns, free_variables, term_depth}
use Rattle.kp_kore.specs.Signature.{KoreSignature}
use Rattle.kp_kore.specs.Instance.{is_named}
use Rattle.kp_kore.specs.Rules.{Rewrite, rewrite_of}
use Rattle.kp_kore.specs.Limits.{most_depth}
use Rattle.kp_kore.specs.Foreign.{IsRead, none_within, applies_foreign, has_interpreted_head, is_set_variable, is_wide_literal, is_quantifier, is_floor_of_term, repeats_literals_only}
use Rattle.kp_rule_reading.specs.ReadRules.{is_part_read, is_condition_part, is_predicate_read, is_left_read, IsLeftSideRead, IsStatementRead}

pub both_true : (a b : Bool) → a && b ≡ true → (a ≡ true) × (b ≡ true)
both_true true b h = (refl, h)
both_true false b h = absurd (cc)

pub and_true : (a b : Bool) → a ≡ true → b ≡ true → a && b ≡ true
and_true a b h k = ap (λ c. c && b) h ∙ k

swapped : (a b x y : Bool) → (a && b) && (x && y) ≡ (a && x) && (b && y)
swapped true true x y = refl
swapped true false true y = refl
swapped true false false y = refl
swapped false b x y = refl

-- all of a list pass two tests where all pass each
pub all_pair : (f h : KorePattern → Bool) (ps : List KorePattern) → list_all (λ p. f p && h p) ps ≡ list_all f ps && list_all h ps
all_pair f h [] = refl
all_pair f h (p ∷ ps) = ap (λ b. (f p && h p) && b) (all_pair f h ps) ∙ swapped (f p) (h p) (list_all f ps) (list_all h ps)

twice : (b : Bool) → not (not b) ≡ b
twice true = refl
twice false = refl

all_twice : (f : KorePattern → Bool) (ps : List KorePattern) → list_all (λ p. not (not (f p))) ps ≡ list_all f ps
all_twice f [] = refl
all_twice f (p ∷ ps) = ap (λ b. b && list_all (λ q. not (not (f q))) ps) (twice (f p)) ∙ ap (λ b. f p && b) (all_twice f ps)

-- ---- each part

abbrev no_foreign : KoreSignature → KorePattern → Bool
no_foreign g p = not (applies_foreign g p)

abbrev no_wide : KoreSignature → KorePattern → Bool
no_wide g p = not (is_wide_literal g p)

abbrev no_set : KoreSignature → KorePattern → Bool
no_set g p = not (is_set_variable p)

abbrev is_shallow : KoreSignature → KorePattern → Bool
is_shallow g p = nat_le (term_depth p) most_depth

parts_apart : (g : KoreSignature) (ps : List KorePattern) → list_all (is_part_read g) ps ≡ list_all (no_foreign g) ps && (list_all (no_set g) ps && (list_all (no_wide g) ps && list_all (is_shallow g) ps))
parts_apart g ps =
    all_pair (no_foreign g) (λ p. no_set g p && (no_wide g p && is_shallow g p)) ps
    ∙ ap (λ b. list_all (no_foreign g) ps && b) (all_pair (no_set g) (λ p. no_wide g p && is_shallow g p) ps ∙ ap (λ b. list_all (no_set g) ps && b) (all_pair (no_wide g) (is_shallow g) ps))

-- ---- the condition

conditions_read : (xs : List SortedName) (cs : List KorePattern) → list_all (is_predicate_read (λ y. is_named y xs)) cs ≡ true →
    AllByRecursion (λ c. IsTrue (list_all (λ x. is_named x.name xs) (free_variables c))) cs × AllByRecursion (λ c. IsTrue (none_within is_quantifier c)) cs × AllByRecursion (λ c. IsTrue (none_within is_floor_of_term c)) cs
conditions_read xs [] h = (tt, tt, tt)
conditions_read xs (c ∷ cs) h =
    let k = both_true (is_predicate_read (λ y. is_named y xs) c) (list_all (is_predicate_read (λ y. is_named y xs)) cs) h in
    let n = both_true (list_all is_condition_part (subpatterns c)) (list_all (λ x. is_named x.name xs) (free_variables c)) k.0 in
    let m = both_true (list_all (λ p. not (is_quantifier p)) (subpatterns c)) (list_all (λ p. not (is_floor_of_term p)) (subpatterns c)) (sym (all_pair (λ p. not (is_quantifier p)) (λ p. not (is_floor_of_term p)) (subpatterns c)) ∙ n.0) in
    let rest = conditions_read xs cs k.1 in
    ((n.1, rest.0), (m.0, rest.1), (m.1, rest.2))

conditions_pass : (xs : List SortedName) (cs : List KorePattern) → AllByRecursion (λ c. IsTrue (list_all (λ x. is_named x.name xs) (free_variables c))) cs → AllByRecursion (λ c. IsTrue (none_within is_quantifier c)) cs → AllByRecursion (λ c. IsTrue (none_within is_floor_of_term c)) cs →
    list_all (is_predicate_read (λ y. is_named y xs)) cs ≡ true
conditions_pass xs [] n q f = refl
conditions_pass xs (c ∷ cs) n q f =
    and_true (is_predicate_read (λ y. is_named y xs) c) (list_all (is_predicate_read (λ y. is_named y xs)) cs)
    (and_true (list_all is_condition_part (subpatterns c)) (list_all (λ x. is_named x.name xs) (free_variables c))
    (all_pair (λ p. not (is_quantifier p)) (λ p. not (is_floor_of_term p)) (subpatterns c) ∙ and_true (list_all (λ p. not (is_quantifier p)) (subpatterns c)) (list_all (λ p. not (is_floor_of_term p)) (subpatterns c)) q.0 f.0)
    n.0)
    (conditions_pass xs cs n.1 q.1 f.1)

-- ---- the whole

pub is_read : (g : KoreSignature) (a : Statement) (m : Rewrite) → IsStatementRead g a → rewrite_of a.pattern ≡ Some m → IsLeftSideRead g m.left m.condition → IsRead g a.parameters a.attributes a.pattern m
is_read g a m h e side =
    let ps = subpatterns a.pattern in
    let foreign = both_true (list_all (no_foreign g) ps) (list_all (no_set g) ps && (list_all (no_wide g) ps && list_all (is_shallow g) ps)) (sym (parts_apart g ps) ∙ h.parts) in
    let set = both_true (list_all (no_set g) ps) (list_all (no_wide g) ps && list_all (is_shallow g) ps) foreign.1 in
    let wide = both_true (list_all (no_wide g) ps) (list_all (is_shallow g) ps) set.1 in
    let s = both_true (is_left_read g m.left) (list_all (is_predicate_read (λ y. is_named y (free_variables m.left))) m.condition) side.side in
    let left = both_true (list_all (λ p. not (has_interpreted_head g p)) (subpatterns m.left)) (repeats_literals_only g (free_variables m.left)) s.0 in
    let condition = conditions_read (free_variables m.left) m.condition s.1 in
    record {
      shape = e;
      no_parameters = h.no_parameters;
      no_foreign_symbol = foreign.0;
      left_repeats = left.1;
      left_uninterpreted = left.0;
      condition_variables = condition.0;
      condition_quantifiers = condition.1;
      condition_floors = condition.2;
      literals = wide.0;
      depths = all_twice (λ p. nat_le (term_depth p) most_depth) ps ∙ wide.1;
      priority = h.priority;
      no_set_variable = set.0;
      injections = h.injections;
      lone_variable = side.lone_variable;
    }

pub statement_read : (g : KoreSignature) (a : Statement) (m : Rewrite) → IsRead g a.parameters a.attributes a.pattern m → IsStatementRead g a
statement_read g a m h =
    let ps = subpatterns a.pattern in
    record {
      no_parameters = h.no_parameters;
      priority = h.priority;
      parts = parts_apart g ps ∙ and_true (list_all (no_foreign g) ps) (list_all (no_set g) ps && (list_all (no_wide g) ps && list_all (is_shallow g) ps)) h.no_foreign_symbol
          (and_true (list_all (no_set g) ps) (list_all (no_wide g) ps && list_all (is_shallow g) ps) h.no_set_variable
          (and_true (list_all (no_wide g) ps) (list_all (is_shallow g) ps) h.literals (sym (all_twice (λ p. nat_le (term_depth p) most_depth) ps) ∙ h.depths)));
      injections = h.injections;
    }

pub side_read : (g : KoreSignature) (a : Statement) (m : Rewrite) → IsRead g a.parameters a.attributes a.pattern m → IsLeftSideRead g m.left m.condition
side_read g a m h = record {
  side = and_true (is_left_read g m.left) (list_all (is_predicate_read (λ y. is_named y (free_variables m.left))) m.condition)
      (and_true (list_all (λ p. not (has_interpreted_head g p)) (subpatterns m.left)) (repeats_literals_only g (free_variables m.left)) h.left_uninterpreted h.left_repeats)
      (conditions_pass (free_variables m.left) m.condition h.condition_variables h.condition_quantifiers h.condition_floors);
  lone_variable = h.lone_variable;
}
