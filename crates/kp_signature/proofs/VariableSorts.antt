-- Each variable of a verified term has the sort that its name has in scope.
use Rattle.std.proofs.Common.{◌≡◌, refl, sym, ap, subst, ◌∙◌, Bool, true, false, ◌||◌, cond, List, [], ◌∷◌, ◌++◌, length, Option, Some, None}
use Rattle.std.specs.List.{AllByRecursion}
use Rattle.std.specs.Str.{bytes_eq}
use Rattle.std.proofs.lemmas.Slice.Eq.{bytes_eq-Decides}
use Rattle.std.proofs.lemmas.List.{append_assoc}
use Rattle.kp_kore.specs.Syntax.{Text, KoreSort, KoreSorts, no_sorts, next_sort, KorePattern, variable, literal, application, KorePatterns, no_patterns, next_pattern}
use Rattle.kp_kore.specs.Parts.{SortedName, is_term, are_terms, free_variables, all_free_variables, sort_list, pattern_list}
use Rattle.kp_kore.specs.Signature.{KoreSignature}
use Rattle.kp_kore.specs.Value.{HasSort}
use Rattle.kp_kore.specs.Instance.{Valuation, GivesSorts, is_named}
use Rattle.kp_kore.proofs.InstanceLemmas.{first_true, second_true}
use Rattle.kp_signature.specs.Places.{Place, earlier, argument_sorts, argument_at, after, sort_in_scope}
use Rattle.kp_signature.specs.Verify.{difference, first_fault, fault_at, arguments_fault}
use Rattle.kp_signature.proofs.ScopeLemmas.{scope_append}
use Rattle.kp_signature.proofs.FaultLemmas.{nothing_earlier, nothing_later, keeps_rules, same_as_wanted}
use Rattle.kp_signature.proofs.ListLemmas.{all_weaker, all_append}
use Rattle.kp_signature.proofs.ApplicationLemmas.{as_many_arguments}
use Rattle.kp_signature.proofs.SortedInstances.{same_rest}

-- in this scope the variable's name has its sort
abbrev pub HasItsSort : List SortedName → SortedName → Type 0
HasItsSort scope x = sort_in_scope x.name scope ≡ Some x.sort

pub in_longer_scope : (x : Text) (t : KoreSort) (xs ys : List SortedName) → sort_in_scope x xs ≡ Some t → sort_in_scope x (xs ++ ys) ≡ Some t
in_longer_scope x t xs ys e = scope_append x xs ys ∙ ap (λ o. earlier o (sort_in_scope x ys)) e

pub one_variable : (x : Text) (t : KoreSort) (scope : List SortedName) → difference (sort_in_scope x scope) (Some t) ≡ None → sort_in_scope x (scope ++ record { name = x; sort = t } ∷ []) ≡ Some t
one_variable x t scope e = scope_append x scope (record { name = x; sort = t } ∷ []) ∙ by (sort_in_scope x scope) e
  where
    by : (o : Option KoreSort) → difference o (Some t) ≡ None → earlier o (cond (bytes_eq x x) (Some t) None) ≡ Some t
    by (Some u) d = ap Some (same_as_wanted u t d)
    by None d = ap (λ b. cond b (Some t) None) ((bytes_eq-Decides x x).1 refl)

mutual
  pub variables_have_sorts : (g : KoreSignature) (c : Place) (p : KorePattern) → first_fault g c p ≡ None → is_term p ≡ true → AllByRecursion (HasItsSort (c.scope ++ free_variables p)) (free_variables p)
  variables_have_sorts g c (variable x t) e term = (one_variable x t c.scope (keeps_rules g c (variable x t) e).scope, tt)
  variables_have_sorts g c (literal t text) e term = tt
  variables_have_sorts g c (application f ss ps) e term =
      arguments_have_sorts g c (argument_sorts g f ss) ps (nothing_later (fault_at g c (application f ss ps)) _ e)
      (as_many_arguments g f ss ps (keeps_rules g c (application f ss ps) (nothing_earlier _ _ e)).symbol) term
  variables_have_sorts g c _ e term = absurd (cc)

  arguments_have_sorts : (g : KoreSignature) (c : Place) (ss : KoreSorts) (ps : KorePatterns) → arguments_fault g c ss ps ≡ None → length (sort_list ss) ≡ length (pattern_list ps) → are_terms ps ≡ true →
      AllByRecursion (HasItsSort (c.scope ++ all_free_variables ps)) (all_free_variables ps)
  arguments_have_sorts g c ss no_patterns e n terms = tt
  arguments_have_sorts g c no_sorts (next_pattern p ps) e n terms = absurd (cc)
  arguments_have_sorts g c (next_sort s ss) (next_pattern p ps) e n terms =
      let xs = free_variables p in
      let ys = all_free_variables ps in
      let long = append_assoc c.scope xs ys in
      all_append (HasItsSort (c.scope ++ (xs ++ ys))) xs ys
      (all_weaker (HasItsSort (c.scope ++ xs)) (HasItsSort (c.scope ++ (xs ++ ys))) xs
      (λ x h. ap (sort_in_scope x.name) (sym long) ∙ in_longer_scope x.name x.sort (c.scope ++ xs) ys h)
      (variables_have_sorts g (argument_at c s) p (nothing_earlier _ _ e) (first_true (is_term p) (are_terms ps) terms)))
      (all_weaker (HasItsSort ((c.scope ++ xs) ++ ys)) (HasItsSort (c.scope ++ (xs ++ ys))) ys
      (λ x h. ap (sort_in_scope x.name) (sym long) ∙ h)
      (arguments_have_sorts g (after p c) ss ps (nothing_later (first_fault g (argument_at c s) p) _ e) (same_rest (length (sort_list ss)) (length (pattern_list ps)) n) (second_true (is_term p) (are_terms ps) terms)))

-- the value of a variable that is named among these has the sort that its name has in scope
pub record HasSortThere (g : KoreSignature) (v : Valuation) (scope : List SortedName) (y : Text) : Type 0 where
  pub sort : KoreSort
  pub there : sort_in_scope y scope ≡ Some sort
  pub has : HasSort g sort (v y)

pub named_has_sort : (g : KoreSignature) (v : Valuation) (scope xs : List SortedName) (y : Text) → is_named y xs ≡ true → AllByRecursion (HasItsSort scope) xs → GivesSorts g v xs → HasSortThere g v scope y
named_has_sort g v scope [] y e h given = absurd (cc)
named_has_sort g v scope (x ∷ xs) y e h given = by (bytes_eq x.name y) refl e (λ t. named_has_sort g v scope xs y t h.1 given.1)
  where
    by : (b : Bool) → bytes_eq x.name y ≡ b → b || is_named y xs ≡ true → (is_named y xs ≡ true → HasSortThere g v scope y) → HasSortThere g v scope y
    by true same t rest = subst (HasSortThere g v scope) ((bytes_eq-Decides x.name y).0 same) (record { sort = x.sort; there = h.0; has = given.0 })
    by false other t rest = rest t
