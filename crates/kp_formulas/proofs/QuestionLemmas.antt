-- The arguments of an application that are bound variables, one by one, and what stands under inj.
use Rattle.std.proofs.Common.{◌≡◌, refl, sym, ap, ap₂, ◌∙◌, ℕ, zero, suc, ◌<◌, ◌≤◌, ◌+◌, Bool, true, false, not, ◌&&◌, List, [], ◌∷◌, map, drop, length, get_or, string_bytes, Option, Some, None, arith}
use Rattle.std.specs.Str.{bytes_eq}
use Rattle.kp_kore.specs.Attributes.{sorts_equal}
use Rattle.kp_kore.specs.Parts.{SortedName}
use Rattle.kp_kore.specs.Signature.{KoreSignature, meaning_of}
use Rattle.kp_kore.specs.Syntax.{Text, KoreSort, KoreSorts, no_sorts, next_sort, KorePattern, KorePatterns, variable, application, no_patterns, next_pattern}
use Rattle.kp_kore.specs.View.{view, patterns_view, sort_view, sorts_view}
use Rattle.kp_kore.specs.declared.pattern.Pattern.{Pattern}
use Rattle.kp_kore.specs.declared.sort.Sort.{Sort}
use Rattle.kp_kore.specs.Instance.{is_named}
use Rattle.kp_symbolic.specs.Opening.{HeadQuestion, are_variables, question_if, asked_constructor, asked_under_inj, asked_variable, asked_of_variable, under_injection, question_of_sides}
use Rattle.kp_symbolic.specs.States.{head_of_sort}
use Rattle.kp_formulas.specs.Answers.{is_variable_at, asked_sort}
use Rattle.kp_formulas.specs.LeafView.{bound_view}
use Rattle.kp_formulas.specs.declared.bound_variables.BoundVariable.{BoundVariable}

grouped : (a b c d e : Bool) → (a && b && c && d && e) ≡ ((a && b && c) && d && e)
grouped true true c d e = refl
grouped true false c d e = refl
grouped false b c d e = refl

one_variable : (x : SortedName) (xs : List SortedName) (s : KoreSort) (ss : KoreSorts) (p : KorePattern) (ps : KorePatterns) →
    are_variables (x ∷ xs) (next_sort s ss) (next_pattern p ps) ≡ (is_variable_at x s p && not (is_named x.name xs) && are_variables xs ss ps)
one_variable x xs s ss (variable y t) ps = grouped (bytes_eq x.name y) (sorts_equal x.sort t) (sorts_equal x.sort s) (not (is_named x.name xs)) (are_variables xs ss ps)
one_variable x xs s ss p ps = refl

-- the variables, sorts and arguments from a place on
abbrev pub from_place : ℕ → List BoundVariable → List Sort → List Pattern → Bool
from_place i xs ss ps = are_variables (map bound_view (drop i xs)) (sorts_view (drop i ss)) (patterns_view (drop i ps))

abbrev pub at_place : BoundVariable → Sort → Pattern → Bool
at_place x s p = is_variable_at (bound_view x) (sort_view s) (view p)

one_more : (xs : List BoundVariable) (ss : List Sort) (ps : List Pattern) (i : ℕ) (x : BoundVariable) (s : Sort) (p : Pattern) → i < length xs → i < length ss → i < length ps → x ≡ get_or xs i x → s ≡ get_or ss i s → p ≡ get_or ps i p →
    from_place i xs ss ps ≡ (at_place x s p && not (is_named (string_bytes x.name.now) (map bound_view (drop (suc i) xs))) && from_place (suc i) xs ss ps)
one_more [] ss ps i x s p h j k e d c = absurd (omega (arith, h))
one_more (a ∷ xs) [] ps i x s p h j k e d c = absurd (omega (arith, j))
one_more (a ∷ xs) (b ∷ ss) [] i x s p h j k e d c = absurd (omega (arith, k))
one_more (a ∷ xs) (b ∷ ss) (q ∷ ps) zero x s p h j k e d c = one_variable (bound_view a) (map bound_view xs) (sort_view b) (sorts_view ss) (view q) (patterns_view ps)
    ∙ (let m = e in let n = d in let o = c in cc)
one_more (a ∷ xs) (b ∷ ss) (q ∷ ps) (suc i) x s p h j k e d c = one_more xs ss ps i x s p (omega (arith, h)) (omega (arith, j)) (omega (arith, k)) e d c

first_no : (a b c : Bool) → a ≡ false → (a && b && c) ≡ false
first_no true b c e = absurd (cc)
first_no false b c e = refl

second_no : (a b c : Bool) → b ≡ true → (a && not b && c) ≡ false
second_no true true c e = refl
second_no false true c e = refl
second_no a false c e = absurd (cc)

both_yes : (a b c : Bool) → a ≡ true → b ≡ false → (a && not b && c) ≡ c
both_yes true false c e d = refl
both_yes true true c e d = absurd (cc)
both_yes false b c e d = absurd (cc)

pub other_variable : (xs : List BoundVariable) (ss : List Sort) (ps : List Pattern) (i : ℕ) (x : BoundVariable) (s : Sort) (p : Pattern) → i < length xs → i < length ss → i < length ps → x ≡ get_or xs i x → s ≡ get_or ss i s → p ≡ get_or ps i p →
    at_place x s p ≡ false → from_place i xs ss ps ≡ false
other_variable xs ss ps i x s p h j k e d c not_it = one_more xs ss ps i x s p h j k e d c ∙ first_no (at_place x s p) _ _ not_it

pub named_again : (xs : List BoundVariable) (ss : List Sort) (ps : List Pattern) (i : ℕ) (x : BoundVariable) (s : Sort) (p : Pattern) → i < length xs → i < length ss → i < length ps → x ≡ get_or xs i x → s ≡ get_or ss i s → p ≡ get_or ps i p →
    is_named (string_bytes x.name.now) (map bound_view (drop (suc i) xs)) ≡ true → from_place i xs ss ps ≡ false
named_again xs ss ps i x s p h j k e d c again = one_more xs ss ps i x s p h j k e d c ∙ second_no (at_place x s p) _ _ again

pub next_variable : (xs : List BoundVariable) (ss : List Sort) (ps : List Pattern) (i : ℕ) (x : BoundVariable) (s : Sort) (p : Pattern) → i < length xs → i < length ss → i < length ps → x ≡ get_or xs i x → s ≡ get_or ss i s → p ≡ get_or ps i p →
    at_place x s p ≡ true → is_named (string_bytes x.name.now) (map bound_view (drop (suc i) xs)) ≡ false → from_place i xs ss ps ≡ from_place (suc i) xs ss ps
next_variable xs ss ps i x s p h j k e d c is once = one_more xs ss ps i x s p h j k e d c ∙ both_yes (at_place x s p) _ _ is once

last_no : (a b c : Bool) → c ≡ false → (a && b && c) ≡ false
last_no true true c e = e
last_no true false c e = refl
last_no false b c e = refl

pub sorts_differ : (xs : List BoundVariable) (ss : List Sort) (ps : List Pattern) → (length xs ≡ length ss → ⊥) → from_place 0 xs ss ps ≡ false
sorts_differ [] [] ps n = absurd (n refl)
sorts_differ [] (s ∷ ss) [] n = refl
sorts_differ [] (s ∷ ss) (p ∷ ps) n = refl
sorts_differ (x ∷ xs) [] ps n = refl
sorts_differ (x ∷ xs) (s ∷ ss) [] n = refl
sorts_differ (x ∷ xs) (s ∷ ss) (p ∷ ps) n = one_variable (bound_view x) (map bound_view xs) (sort_view s) (sorts_view ss) (view p) (patterns_view ps)
    ∙ last_no (at_place x s p) _ _ (sorts_differ xs ss ps (λ e. n (ap suc e)))

pub arguments_differ : (xs : List BoundVariable) (ss : List Sort) (ps : List Pattern) → (length xs ≡ length ps → ⊥) → from_place 0 xs ss ps ≡ false
arguments_differ [] ss [] n = absurd (n refl)
arguments_differ [] [] (p ∷ ps) n = refl
arguments_differ [] (s ∷ ss) (p ∷ ps) n = refl
arguments_differ (x ∷ xs) [] ps n = refl
arguments_differ (x ∷ xs) (s ∷ ss) [] n = refl
arguments_differ (x ∷ xs) (s ∷ ss) (p ∷ ps) n = one_variable (bound_view x) (map bound_view xs) (sort_view s) (sorts_view ss) (view p) (patterns_view ps)
    ∙ last_no (at_place x s p) _ _ (arguments_differ xs ss ps (λ e. n (ap suc e)))

pub no_more_variables : (xs : List BoundVariable) (ss : List Sort) (ps : List Pattern) (i : ℕ) → length xs ≡ length ss → length xs ≡ length ps → length xs ≤ i → from_place i xs ss ps ≡ true
no_more_variables [] [] [] zero e d h = refl
no_more_variables [] [] [] (suc i) e d h = refl
no_more_variables [] (s ∷ ss) ps i e d h = absurd (cc)
no_more_variables [] [] (p ∷ ps) i e d h = absurd (cc)
no_more_variables (x ∷ xs) ss ps zero e d h = absurd (omega (arith, h))
no_more_variables (x ∷ xs) [] ps (suc i) e d h = absurd (cc)
no_more_variables (x ∷ xs) (s ∷ ss) [] (suc i) e d h = absurd (cc)
no_more_variables (x ∷ xs) (s ∷ ss) (p ∷ ps) (suc i) e d h = no_more_variables xs ss ps i (omega (arith, e)) (omega (arith, d)) (omega (arith, h))

-- ---- under inj

pub not_one_bound : (xs : List BoundVariable) (p : KorePattern) (ss : KoreSorts) (q : KorePattern) → (length xs ≡ 1 → ⊥) → None ≡ asked_sort (map bound_view xs) p ss q
not_one_bound [] p ss q n = refl
not_one_bound (x ∷ []) p ss q n = absurd (n refl)
not_one_bound (x ∷ y ∷ xs) p ss q n = refl

pub no_sort_given : (xs : List BoundVariable) (p : KorePattern) (ss : List Sort) (q : KorePattern) → length ss ≡ 0 → None ≡ asked_sort (map bound_view xs) p (sorts_view ss) q
no_sort_given xs p (s ∷ ss) q e = absurd (cc)
no_sort_given [] p [] q e = refl
no_sort_given (x ∷ []) p [] q e = refl
no_sort_given (x ∷ y ∷ xs) p [] q e = refl

abbrev at_place_of : BoundVariable → Sort → KorePattern → Bool
at_place_of x s q = is_variable_at (bound_view x) (sort_view s) q

asked_by : (xs : List BoundVariable) (p : KorePattern) (ss : List Sort) (q : KorePattern) (x : BoundVariable) (s : Sort) → length xs ≡ 1 → (length ss ≡ 0 → ⊥) → x ≡ get_or xs 0 x → s ≡ get_or ss 0 s →
    question_if (at_place_of x s q) p (head_of_sort (sort_view s)) ≡ asked_sort (map bound_view xs) p (sorts_view ss) q
asked_by [] p ss q x s e n d c = absurd (cc)
asked_by (y ∷ z ∷ xs) p ss q x s e n d c = absurd (cc)
asked_by (y ∷ []) p [] q x s e n d c = absurd (n refl)
asked_by (y ∷ []) p (t ∷ ss) q x s e n d c = ap₂ (λ a b. question_if (at_place_of a b q) p (head_of_sort (sort_view b))) d c

pub sort_asked : (xs : List BoundVariable) (p : KorePattern) (ss : List Sort) (q : KorePattern) (x : BoundVariable) (s : Sort) → length xs ≡ 1 → (length ss ≡ 0 → ⊥) → x ≡ get_or xs 0 x → s ≡ get_or ss 0 s → is_variable_at (bound_view x) (sort_view s) q ≡ true →
    Some (record { subject = p; test = head_of_sort (sort_view s) }) ≡ asked_sort (map bound_view xs) p (sorts_view ss) q
sort_asked xs p ss q x s e n d c is = sym (ap (λ b. question_if b p (head_of_sort (sort_view s))) is) ∙ asked_by xs p ss q x s e n d c

pub sort_not_asked : (xs : List BoundVariable) (p : KorePattern) (ss : List Sort) (q : KorePattern) (x : BoundVariable) (s : Sort) → length xs ≡ 1 → (length ss ≡ 0 → ⊥) → x ≡ get_or xs 0 x → s ≡ get_or ss 0 s → is_variable_at (bound_view x) (sort_view s) q ≡ false →
    None ≡ asked_sort (map bound_view xs) p (sorts_view ss) q
sort_not_asked xs p ss q x s e n d c is = sym (ap (λ b. question_if b p (head_of_sort (sort_view s))) is) ∙ asked_by xs p ss q x s e n d c

pub variable_asked : (xs : List BoundVariable) (p q : KorePattern) (x : BoundVariable) (s : Sort) → length xs ≡ 1 → x ≡ get_or xs 0 x → is_variable_at (bound_view x) (sort_view s) q ≡ true →
    Some (record { subject = p; test = head_of_sort (sort_view s) }) ≡ asked_sort (map bound_view xs) p (next_sort (sort_view s) no_sorts) q
variable_asked xs p q x s e d is = sort_asked xs p (s ∷ []) q x s e (λ n. absurd (cc)) d refl is

pub variable_not_asked : (xs : List BoundVariable) (p q : KorePattern) (x : BoundVariable) (s : Sort) → length xs ≡ 1 → x ≡ get_or xs 0 x → is_variable_at (bound_view x) (sort_view s) q ≡ false →
    None ≡ asked_sort (map bound_view xs) p (next_sort (sort_view s) no_sorts) q
variable_not_asked xs p q x s e d is = sort_not_asked xs p (s ∷ []) q x s e (λ n. absurd (cc)) d refl is

abbrev pub is_application : KorePattern → Bool
is_application (application f ts ps) = true
is_application p = false

with_both : (a : Bool) → a ≡ (a && true && true)
with_both true = refl
with_both false = refl

variable_under : (g : KoreSignature) (x : SortedName) (p : KorePattern) (t : KoreSort) (ss : KoreSorts) (q : KorePattern) → is_application q ≡ false →
    question_if (are_variables (x ∷ []) (next_sort t no_sorts) (next_pattern q no_patterns)) p (head_of_sort t) ≡ asked_under_inj g (x ∷ []) p (next_sort t ss) (next_pattern q no_patterns)
variable_under g x p t ss (application f ts ps) e = absurd (cc)
variable_under g x p t ss q e = refl

pub no_application : (g : KoreSignature) (xs : List SortedName) (p : KorePattern) (ss : KoreSorts) (q : KorePattern) → is_application q ≡ false → asked_sort xs p ss q ≡ asked_under_inj g xs p ss (next_pattern q no_patterns)
no_application g xs p ss (application f ts ps) e = absurd (cc)
no_application g (x ∷ []) p (next_sort t ss) q e = ap (λ b. question_if b p (head_of_sort t)) (with_both (is_variable_at x t q) ∙ sym (one_variable x [] t no_sorts q no_patterns)) ∙ variable_under g x p t ss q e
no_application g xs p ss q e = refl

pub one_argument : (g : KoreSignature) (xs : List SortedName) (p : KorePattern) (ss : KoreSorts) (qs : List Pattern) (q : Pattern) → length qs ≡ 1 → q ≡ get_or qs 0 q →
    asked_under_inj g xs p ss (next_pattern (view q) no_patterns) ≡ asked_under_inj g xs p ss (patterns_view qs)
one_argument g xs p ss [] q e d = absurd (cc)
one_argument g xs p ss (a ∷ []) q e d = ap (λ x. asked_under_inj g xs p ss (next_pattern (view x) no_patterns)) d
one_argument g xs p ss (a ∷ b ∷ qs) q e d = absurd (cc)

two_under : (g : KoreSignature) (x : SortedName) (p : KorePattern) (t : KoreSort) (ss : KoreSorts) (q r : KorePattern) (rs : KorePatterns) →
    question_if (are_variables (x ∷ []) (next_sort t no_sorts) (next_pattern q (next_pattern r rs))) p (head_of_sort t) ≡ asked_under_inj g (x ∷ []) p (next_sort t ss) (next_pattern q (next_pattern r rs))
two_under g x p t ss (application f ts ps) r rs = refl
two_under g x p t ss q r rs = refl

two_arguments : (g : KoreSignature) (xs : List SortedName) (p : KorePattern) (ss : KoreSorts) (q r : KorePattern) (rs : KorePatterns) → None ≡ asked_under_inj g xs p ss (next_pattern q (next_pattern r rs))
two_arguments g (x ∷ []) p (next_sort t ss) q r rs = ap (λ b. question_if b p (head_of_sort t)) (sym (one_variable x [] t no_sorts q (next_pattern r rs) ∙ last_no (is_variable_at x t q) true false refl)) ∙ two_under g x p t ss q r rs
two_arguments g xs p ss (application f ts ps) r rs = refl
two_arguments g xs p ss q r rs = refl

no_arguments : (g : KoreSignature) (xs : List SortedName) (p : KorePattern) (ss : KoreSorts) → None ≡ asked_under_inj g xs p ss no_patterns
no_arguments g (x ∷ []) p (next_sort t ss) = refl
no_arguments g xs p ss = refl

pub not_one_argument : (g : KoreSignature) (xs : List SortedName) (p : KorePattern) (ss : KoreSorts) (qs : List Pattern) → (length qs ≡ 1 → ⊥) → None ≡ asked_under_inj g xs p ss (patterns_view qs)
not_one_argument g xs p ss [] n = no_arguments g xs p ss
not_one_argument g xs p ss (a ∷ []) n = absurd (n refl)
not_one_argument g xs p ss (a ∷ b ∷ qs) n = two_arguments g xs p ss (view a) (view b) (patterns_view qs)

-- ---- the other side

pub same_variable : (xs : List SortedName) (p : KorePattern) (z : Text) (t : KoreSort) → asked_sort xs p (next_sort t no_sorts) (variable z t) ≡ asked_variable xs p z t
same_variable [] p z t = refl
same_variable (x ∷ []) p z t = ap (λ b. question_if b p (head_of_sort t)) (with_both (is_variable_at x t (variable z t)) ∙ sym (one_variable x [] t no_sorts (variable z t) no_patterns))
same_variable (x ∷ y ∷ xs) p z t = refl

pub one_injected : (g : KoreSignature) (xs : List SortedName) (f : Text) (ss : KoreSorts) (qs : List Pattern) (q : Pattern) (r : KorePattern) → length qs ≡ 1 → q ≡ get_or qs 0 q →
    under_injection (meaning_of g f) (asked_of_variable g xs (view q) r) ≡ question_of_sides g xs (application f ss (patterns_view qs)) r
one_injected g xs f ss [] q r e d = absurd (cc)
one_injected g xs f ss (a ∷ []) q r e d = ap (λ x. under_injection (meaning_of g f) (asked_of_variable g xs (view x) r)) d
one_injected g xs f ss (a ∷ b ∷ qs) q r e d = absurd (cc)

pub not_one_injected : (g : KoreSignature) (xs : List SortedName) (f : Text) (ss : KoreSorts) (qs : List Pattern) (r : KorePattern) → (length qs ≡ 1 → ⊥) → None ≡ question_of_sides g xs (application f ss (patterns_view qs)) r
not_one_injected g xs f ss [] r n = refl
not_one_injected g xs f ss (a ∷ []) r n = absurd (n refl)
not_one_injected g xs f ss (a ∷ b ∷ qs) r n = refl
