-- The new variables of a right side, by a set of names.
use Rattle.std.proofs.Common.{◌≡◌, refl, ap, ap₂, sym, ◌∙◌, Bool, true, false, not, cond, List, [], ◌∷◌, ◌++◌, map, String}
use Rattle.std.specs.Prelude.{Result, Ok, Err, IfOk}
use Rattle.std.specs.List.{filter}
use Rattle.std.specs.declared.alloc.Global.{Global}
use Rattle.std.proofs.lemmas.List.{append_assoc, map-append}
use Rattle.indexmap.specs.IndexSet.{IndexSet, contains_text}
use Rattle.kp_kore.specs.Syntax.{KorePattern}
use Rattle.kp_kore.specs.Parts.{SortedName, free_variables}
use Rattle.kp_kore.specs.View.{sorted_variable_view}
use Rattle.kp_kore.specs.declared.pattern_free.SortedVariable.{SortedVariable}
use Rattle.kp_kore.specs.Instance.{is_named}
use Rattle.kp_kore.specs.Rules.{top_binders, new_variables_of}
use Rattle.kp_rule_reading.specs.ReadRules.{Names}

same_filter : (f h : SortedName → Bool) → ((x : SortedName) → f x ≡ h x) → (xs : List SortedName) → filter f xs ≡ filter h xs
same_filter f h e [] = refl
same_filter f h e (x ∷ xs) = ap₂ (λ b l. cond b (x ∷ l) l) (e x) (same_filter f h e xs)

pub new_named : {S : Type 0} (names : IndexSet (String Global) S) (xs : List SortedName) (left right : KorePattern) → Names names xs → xs ≡ free_variables left →
    top_binders right ++ filter (λ x. not (contains_text names x.name)) (free_variables right) ≡ new_variables_of left right
new_named names xs left right n e =
    ap (λ l. top_binders right ++ l) (same_filter (λ x. not (contains_text names x.name)) (λ x. not (is_named x.name (free_variables left)))
    (λ x. ap not (n x.name ∙ ap (is_named x.name) e)) (free_variables right))

-- what was made is seen as the same list by its other name
pub seen_also : {A E : Type 0} (seen : A → List SortedName) (r : Result A E) (xs ys : List SortedName) → IfOk r (λ a. seen a ≡ xs) → xs ≡ ys → IfOk r (λ a. seen a ≡ ys)
seen_also seen (Ok a) xs ys told e = told ∙ e
seen_also seen (Err f) xs ys told e = tt

-- ---- one more variable

abbrev seen_as : List SortedVariable → List SortedName
seen_as = map sorted_variable_view

pub taken_along : (f : SortedName → Bool) (found' found : List SortedVariable) (x : SortedVariable) (old rest : List SortedVariable) (whole : List SortedName) → f (sorted_variable_view x) ≡ true →
    found' ≡ found ++ x ∷ [] → old ≡ x ∷ rest → seen_as found ++ filter f (seen_as old) ≡ whole → seen_as found' ++ filter f (seen_as rest) ≡ whole
taken_along f found' found x old rest whole e p o h =
    ap (λ l. seen_as l ++ filter f (seen_as rest)) p
    ∙ ap (λ l. l ++ filter f (seen_as rest)) (map-append sorted_variable_view found (x ∷ []))
    ∙ append_assoc (seen_as found) (sorted_variable_view x ∷ []) (filter f (seen_as rest))
    ∙ ap (λ b. seen_as found ++ cond b (sorted_variable_view x ∷ filter f (seen_as rest)) (filter f (seen_as rest))) (sym e)
    ∙ ap (λ l. seen_as found ++ filter f (seen_as l)) (sym o)
    ∙ h

pub left_out : (f : SortedName → Bool) (found : List SortedVariable) (x : SortedVariable) (old rest : List SortedVariable) (whole : List SortedName) → f (sorted_variable_view x) ≡ false →
    old ≡ x ∷ rest → seen_as found ++ filter f (seen_as old) ≡ whole → seen_as found ++ filter f (seen_as rest) ≡ whole
left_out f found x old rest whole e o h =
    ap (λ b. seen_as found ++ cond b (sorted_variable_view x ∷ filter f (seen_as rest)) (filter f (seen_as rest))) (sym e)
    ∙ ap (λ l. seen_as found ++ filter f (seen_as l)) (sym o)
    ∙ h
