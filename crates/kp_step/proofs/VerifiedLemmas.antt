-- The right side of a rule that is read has no variables but the left term's and new ones.
use Rattle.std.proofs.Common.{◌≡◌, refl, sym, ap, ◌∙◌, Bool, true, false, not, ◌&&◌, ◌||◌, List, [], ◌∷◌, Some, inl, inr, ◌⊎◌}
use Rattle.std.specs.List.{AllByRecursion, list_all}
use Rattle.std.specs.Str.{bytes_eq}
use Rattle.kp_kore.specs.Syntax.{KoreSort}
use Rattle.kp_kore.specs.Attributes.{sorts_equal}
use Rattle.kp_kore.specs.Parts.{SortedName, free_variables}
use Rattle.kp_kore.specs.Signature.{KoreSignature}
use Rattle.kp_signature.specs.Places.{sort_in_scope}
use Rattle.kp_kore.specs.Instance.{is_named}
use Rattle.kp_kore.specs.Rules.{Rewrite}
use Rattle.kp_kore.proofs.ListLemmas.{all_map}
use Rattle.kp_kore.proofs.TurnLemmas.{of_member}
use Rattle.kp_symbolic_laws.specs.Runs.{HasOneSortEach}
use Rattle.kp_rules.specs.Known.{is_among}
use Rattle.kp_rules.specs.VerifiedSides.{IsOfBoth, is_old_or_new, AreVerifiedSides}
use Rattle.kp_step.specs.RightSides.{AreNamedIn, IsOverBoth}

-- a variable that is among others is named among them
named_among : (x : SortedName) (xs : List SortedName) → is_among x xs ≡ true → is_named x.name xs ≡ true
named_among x [] e = absurd (cc)
named_among x (y ∷ xs) e = by (bytes_eq y.name x.name) (sorts_equal y.sort x.sort) (named_among x xs) e
  where
    by : (b d : Bool) → (is_among x xs ≡ true → is_named x.name xs ≡ true) → (b && d) || is_among x xs ≡ true → b || is_named x.name xs ≡ true
    by true d rest f = refl
    by false d rest f = rest f

old_or_new : (left new : List SortedName) (x : SortedName) → is_old_or_new left new x ≡ true → (is_named x.name left ≡ true) ⊎ (is_named x.name new ≡ true)
old_or_new left new x e = by (is_among x new) (is_among x left) refl refl e
  where
    by : (b d : Bool) → is_among x new ≡ b → is_among x left ≡ d → b || (d && not (is_named x.name new)) ≡ true → (is_named x.name left ≡ true) ⊎ (is_named x.name new ≡ true)
    by true d n o f = inr (named_among x new n)
    by false true n o f = inl (named_among x left o)
    by false false n o f = absurd (cc)

of_both : (left new xs : List SortedName) → list_all (is_old_or_new left new) xs ≡ true → AreNamedIn left new xs
of_both left new [] e = tt
of_both left new (x ∷ xs) e = by (is_old_or_new left new x) refl (of_both left new xs) e
  where
    by : (b : Bool) → is_old_or_new left new x ≡ b → (list_all (is_old_or_new left new) xs ≡ true → AreNamedIn left new xs) → b && list_all (is_old_or_new left new) xs ≡ true → AreNamedIn left new (x ∷ xs)
    by true o rest f = (old_or_new left new x o, rest f)
    by false o rest f = absurd (cc)

inside : {a b : KoreSort} → Some a ≡ Some b → a ≡ b
inside e = cc

one_sort : (xs : List SortedName) → AllByRecursion (λ x. sort_in_scope x.name xs ≡ Some x.sort) xs → HasOneSortEach xs
one_sort xs h x y c d e =
    let at : SortedName → Type 0 = λ z. sort_in_scope z.name xs ≡ Some z.sort in
    inside (sym (of_member at xs x h c) ∙ ap (λ n. sort_in_scope n xs) e ∙ of_member at xs y h d)

pub over_both : (g : KoreSignature) (m : Rewrite) → AreVerifiedSides g m → IsOverBoth m
over_both g m v = record {
  right = of_both (free_variables m.left) m.new_variables (free_variables m.right) v.right_of_both;
  ensured = all_map (IsOfBoth (free_variables m.left) m.new_variables) (λ q. AreNamedIn (free_variables m.left) m.new_variables (free_variables q)) m.ensured (λ q e. of_both (free_variables m.left) m.new_variables (free_variables q) e) v.ensured_of_both;
  one_sort = one_sort m.new_variables v.one_sort;
}
