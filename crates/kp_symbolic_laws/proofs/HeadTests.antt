-- What is written for a test of a head is read as that question, and so says what the test says.
use Rattle.std.proofs.Common.{◌≡◌, refl, sym, ◌∙◌, ap, subst, inl, inr, arith, ◌<◌, ◌+◌, ◌^◌, Bool, true, false, not, ◌||◌, List, [], ◌∷◌, ◌++◌, length, Some, ◌↔◌}
use Rattle.std.specs.Prelude.{if◌then◌else◌, cond, unwrap_or}
use Rattle.std.specs.List.{AllByRecursion, list_any}
use Rattle.std.specs.Str.{bytes_eq}
use Rattle.std.proofs.lemmas.Slice.Eq.{bytes_eq-Decides}
use Rattle.kp_kore.specs.Syntax.{Text, KoreSort, no_sorts, next_sort, KorePattern, variable, application, exists, equals}
use Rattle.kp_kore.specs.Attributes.{sorts_equal}
use Rattle.kp_kore.specs.Parts.{SortedName, sort_list, free_variables, all_free_variables, without_name, subpatterns}
use Rattle.kp_kore.specs.Signature.{KoreSignature, construction, meaning_of, IsHeadOf}
use Rattle.kp_kore.specs.Sorting.{result_sort}
use Rattle.kp_kore.specs.Value.{Value, whole, truth, token, constructed, HasSort, head_of}
use Rattle.kp_kore.specs.Instance.{Valuation, is_named, assigned, IsTrueUnder}
use Rattle.kp_kore.proofs.SameLemmas.{sorts_equal-Decides}
use Rattle.kp_compile.specs.Spelled.{placed, places_of, injected}
use Rattle.kp_compile.proofs.SpelledMeaning.{InjectsWell}
use Rattle.kp_symbolic.specs.States.{HeadTest, one_head, head_of_sort, has_head, PassesHead}
use Rattle.kp_symbolic.specs.Opening.{are_variables, HeadQuestion, head_question}
use Rattle.kp_symbolic.specs.Writing.{least_fresh, new_variables, under_exists, variables_of, written_test, IsSaid}
use Rattle.kp_symbolic.proofs.HeadQuestions.{bound_of, body_of, question_of_body, question_says, all_weaker}
use Rattle.kp_symbolic.proofs.Written.{injects_right}
use Rattle.kp_symbolic_laws.proofs.OpenedGood.{turned_test}
use Rattle.kp_symbolic_laws.proofs.NewNames.{new_apart, new_are_variables}
use Rattle.kp_symbolic_laws.proofs.WrittenUnder.{Well, well_behind}

-- ---- free variables

either_true : (a b : Bool) → b ≡ true → a || b ≡ true
either_true true b e = refl
either_true false b e = e

both_false : (a b : Bool) → a ≡ false → b ≡ false → a || b ≡ false
both_false true b e f = absurd (cc)
both_false false b e f = f

-- what holds of each that a binder doesn't bind holds of each that is free under it
pub bound_all : (Q : SortedName → Type 0) (x : Text) (ys : List SortedName) → AllByRecursion (λ z. bytes_eq z.name x ≡ false → Q z) ys → AllByRecursion Q (without_name x ys)
bound_all Q x [] a = tt
bound_all Q x (y ∷ ys) a = by (bytes_eq y.name x) a.0 (bound_all Q x ys a.1)
  where
    by : (b : Bool) → (b ≡ false → Q y) → AllByRecursion Q (without_name x ys) → AllByRecursion Q (cond (not b) (y ∷ without_name x ys) (without_name x ys))
    by true f k = k
    by false f k = (f refl, k)

under_all : (Q : SortedName → Type 0) (sort : KoreSort) (xs : List SortedName) (p : KorePattern) → AllByRecursion (λ z. is_named z.name xs ≡ false → Q z) (free_variables p) → AllByRecursion Q (free_variables (under_exists sort xs p))
under_all Q sort [] p a = all_weaker (λ z. false ≡ false → Q z) Q (free_variables p) (λ z f. f refl) a
under_all Q sort (x ∷ xs) p a = bound_all Q x.name (free_variables (under_exists sort xs p)) (under_all (λ z. bytes_eq z.name x.name ≡ false → Q z) sort xs p
    (all_weaker (λ z. is_named z.name (x ∷ xs) ≡ false → Q z) (λ z. is_named z.name xs ≡ false → bytes_eq z.name x.name ≡ false → Q z) (free_variables p)
    (λ z f n e. f (both_false (bytes_eq x.name z.name) (is_named z.name xs) (turned_test z.name x.name e) n)) a))

all_named : (xs : List SortedName) → AllByRecursion (λ z. is_named z.name xs ≡ true) (all_free_variables (variables_of xs))
all_named [] = tt
all_named (x ∷ xs) = (
  rw ((bytes_eq-Decides x.name x.name).1 refl) refl,
  all_weaker (λ z. is_named z.name xs ≡ true) (λ z. is_named z.name (x ∷ xs) ≡ true) (all_free_variables (variables_of xs)) (λ z e. either_true (bytes_eq x.name z.name) (is_named z.name xs) e) (all_named xs),
)

true_false : true ≡ false → ⊥
true_false e = cc

variables_bound : (Q : SortedName → Type 0) (xs : List SortedName) → AllByRecursion (λ z. is_named z.name xs ≡ false → Q z) (all_free_variables (variables_of xs))
variables_bound Q xs = all_weaker (λ z. is_named z.name xs ≡ true) (λ z. is_named z.name xs ≡ false → Q z) (all_free_variables (variables_of xs)) (λ z e n. absurd (true_false (sym e ∙ n))) (all_named xs)

nothing_behind : (Q : SortedName → Type 0) (xs : List SortedName) → AllByRecursion Q xs → AllByRecursion Q (xs ++ [])
nothing_behind Q [] a = tt
nothing_behind Q (x ∷ xs) a = (a.0, nothing_behind Q xs a.1)

pub placed_variables : (Q : SortedName → Type 0) (own s : KoreSort) (p : KorePattern) → AllByRecursion Q (free_variables p) → AllByRecursion Q (free_variables (placed own s p))
placed_variables Q own s p a = by (sorts_equal own s)
  where
    by : (b : Bool) → AllByRecursion Q (free_variables (if b then p else injected own s p))
    by true = a
    by false = nothing_behind Q (free_variables p) a

pub test_variables : (g : KoreSignature) (Q : SortedName → Type 0) (sort : KoreSort) (x : SortedName) (test : HeadTest) → Q x → AllByRecursion Q (free_variables (written_test g sort x test))
test_variables g Q sort x (one_head c) q =
    let xs = new_variables (x.name ∷ []) (places_of g c) in
    let own = unwrap_or (result_sort g c no_sorts) x.sort in
    under_all Q sort xs (equals x.sort sort (variable x.name x.sort) (placed own x.sort (application c no_sorts (variables_of xs))))
    ((λ n. q), placed_variables (λ z. is_named z.name xs ≡ false → Q z) own x.sort (application c no_sorts (variables_of xs)) (variables_bound Q xs))
test_variables g Q sort x (head_of_sort s) q =
    let y = least_fresh (x.name ∷ []) in
    bound_all Q y (record { name = x.name; sort = x.sort } ∷ free_variables (placed s x.sort (variable y s)))
    ((λ n. q), placed_variables (λ z. bytes_eq z.name y ≡ false → Q z) s x.sort (variable y s) ((λ n. absurd (true_false (sym ((bytes_eq-Decides y y).1 refl) ∙ n))), tt))

-- ---- the question

bound_under : (sort a s : KoreSort) (xs : List SortedName) (q r : KorePattern) → bound_of (under_exists sort xs (equals a s q r)) ≡ xs
bound_under sort a s [] q r = refl
bound_under sort a s (x ∷ xs) q r = ap (λ ys. x ∷ ys) (bound_under sort a s xs q r)

body_under : (sort a s : KoreSort) (xs : List SortedName) (q r : KorePattern) → body_of (under_exists sort xs (equals a s q r)) ≡ equals a s q r
body_under sort a s [] q r = refl
body_under sort a s (x ∷ xs) q r = body_under sort a s xs q r

abbrev question : SortedName → HeadTest → HeadQuestion
question x test = record { subject = variable x.name x.sort; test = test }

constructor_asked : (g : KoreSignature) (sort : KoreSort) (x : SortedName) (c : Text) (xs : List SortedName) (own : KoreSort) (b : Bool) → InjectsWell g (subpatterns (if b then application c no_sorts (variables_of xs) else injected own x.sort (application c no_sorts (variables_of xs)))) → meaning_of g c ≡ construction → is_named x.name xs ≡ false → are_variables xs (places_of g c) (variables_of xs) ≡ true
    → head_question g xs (equals x.sort sort (variable x.name x.sort) (if b then application c no_sorts (variables_of xs) else injected own x.sort (application c no_sorts (variables_of xs)))) ≡ Some (question x (one_head c))
constructor_asked g sort x c xs own true i m n a = rw (n, m, a) refl
constructor_asked g sort x c xs own false (inl i) m n a = rw (n, i, m, a) refl
constructor_asked g sort x c xs own false (inr e) m n a = absurd (cc)

one_used : (x : Text) → list_any (bytes_eq x) (x ∷ []) ≡ true
one_used x = rw ((bytes_eq-Decides x x).1 refl) refl

-- inj is what it should be, or stands nowhere, also in what is bound, and in the right side
exists_well : (g : KoreSignature) (sort : KoreSort) (xs : List SortedName) (p : KorePattern) → Well g (under_exists sort xs p) → Well g p
exists_well g sort [] p j = j
exists_well g sort (x ∷ xs) p j = exists_well g sort xs p (well_behind g (exists sort x.name x.sort (under_exists sort xs p)) (subpatterns (under_exists sort xs p)) j)

right_well : (g : KoreSignature) (a sort : KoreSort) (q r : KorePattern) → Well g (equals a sort q r) → Well g r
right_well g a sort q r j = injects_right g (subpatterns q) (subpatterns r) (well_behind g (equals a sort q r) (subpatterns q ++ subpatterns r) j)

pub constructor_read : (g : KoreSignature) (sort : KoreSort) (x : SortedName) (c : Text) → Well g (written_test g sort x (one_head c)) → meaning_of g c ≡ construction → 1 + length (sort_list (places_of g c)) < 2 ^ 64 → head_question g [] (written_test g sort x (one_head c)) ≡ Some (question x (one_head c))
constructor_read g sort x c i m b =
    let xs = new_variables (x.name ∷ []) (places_of g c) in
    let own = unwrap_or (result_sort g c no_sorts) x.sort in
    let right = placed own x.sort (application c no_sorts (variables_of xs)) in
    let left = variable x.name x.sort in
    let asked : head_question g xs (equals x.sort sort left right) ≡ Some (question x (one_head c)) = constructor_asked g sort x c xs own (sorts_equal own x.sort) (right_well g x.sort sort left right (exists_well g sort xs (equals x.sort sort left right) i)) m (new_apart (x.name ∷ []) (places_of g c) x.name b (one_used x.name)) (new_are_variables (x.name ∷ []) (places_of g c) b) in
    question_of_body g [] (under_exists sort xs (equals x.sort sort left right))
    ∙ ap (λ ys. head_question g ys (body_of (under_exists sort xs (equals x.sort sort left right)))) (bound_under sort x.sort sort xs left right)
    ∙ ap (head_question g xs) (body_under sort x.sort sort xs left right)
    ∙ asked

sort_asked : (g : KoreSignature) (sort s : KoreSort) (x : SortedName) (y : Text) (b : Bool) → b ≡ false → InjectsWell g (subpatterns (if b then variable y s else injected s x.sort (variable y s))) → bytes_eq y x.name ≡ false
    → head_question g (record { name = y; sort = s } ∷ []) (equals x.sort sort (variable x.name x.sort) (if b then variable y s else injected s x.sort (variable y s))) ≡ Some (question x (head_of_sort s))
sort_asked g sort s x y true e i n = absurd (cc)
sort_asked g sort s x y false e (inr k) n = absurd (cc)
sort_asked g sort s x y false e (inl i) n = rw (n, i, (bytes_eq-Decides y y).1 refl, (sorts_equal-Decides s s).1 refl) refl

few : 1 + 1 < 2 ^ 64
few = omega arith

first_false : (a b : Bool) → a || b ≡ false → a ≡ false
first_false true b e = absurd (cc)
first_false false b e = refl

new_differs : (x : SortedName) (s : KoreSort) → bytes_eq (least_fresh (x.name ∷ [])) x.name ≡ false
new_differs x s = first_false (bytes_eq (least_fresh (x.name ∷ [])) x.name) false (new_apart (x.name ∷ []) (next_sort s no_sorts) x.name few (one_used x.name))

pub sort_read : (g : KoreSignature) (sort s : KoreSort) (x : SortedName) → Well g (written_test g sort x (head_of_sort s)) → sorts_equal s x.sort ≡ false → head_question g [] (written_test g sort x (head_of_sort s)) ≡ Some (question x (head_of_sort s))
sort_read g sort s x i e =
    let y = least_fresh (x.name ∷ []) in
    let left = variable x.name x.sort in
    let right = placed s x.sort (variable y s) in
    sort_asked g sort s x y (sorts_equal s x.sort) e (right_well g x.sort sort left right (well_behind g (exists sort y s (equals x.sort sort left right)) (subpatterns (equals x.sort sort left right)) i)) (new_differs x s)

-- ---- what is written says it

asked_says : (g : KoreSignature) (v : Valuation) (p : KorePattern) (x : SortedName) (test : HeadTest) → head_question g [] p ≡ Some (question x test) → AllByRecursion (λ z. HasSort g z.sort (v z.name)) (free_variables p) → IsTrueUnder g v p ↔ (¬ ¬ PassesHead g test (head_of (v x.name)))
asked_says g v p x test e h =
    let a = question_says g v (λ z. HasSort g z.sort (v z.name)) p (question x test) (λ z q. q) e h in
    subst (λ y. IsTrueUnder g v p ↔ (¬ ¬ PassesHead g test (head_of (v y)))) (same_name a.subject) a.says
  where
    same_name : {y z : Text} {s t : KoreSort} → variable z s ≡ variable y t → y ≡ z
    same_name q = cc

pub constructor_said : (g : KoreSignature) (v : Valuation) (sort : KoreSort) (x : SortedName) (c : Text) → HasSort g x.sort (v x.name) → Well g (written_test g sort x (one_head c)) → meaning_of g c ≡ construction → 1 + length (sort_list (places_of g c)) < 2 ^ 64 → IsSaid g v sort (has_head x (one_head c))
constructor_said g v sort x c h i m b = asked_says g v (written_test g sort x (one_head c)) x (one_head c) (constructor_read g sort x c i m b) (test_variables g (λ z. HasSort g z.sort (v z.name)) sort x (one_head c) h)

head_has : (g : KoreSignature) (s : KoreSort) (u : Value) → HasSort g s u → IsHeadOf g s (head_of u)
head_has g s (whole n) h = h
head_has g s (truth b) h = h
head_has g s (token t x) h = h
head_has g s (constructed c us) h = h.0

-- of the variable's own sort the test is true, and so is what is written
own_said : (g : KoreSignature) (v : Valuation) (s : KoreSort) (x : SortedName) (y : Text) → HasSort g x.sort (v x.name) → s ≡ x.sort → bytes_eq y x.name ≡ false → (¬ ((u : Value) → HasSort g s u → ¬ (assigned v y u x.name ≡ assigned v y u y))) ↔ (¬ ¬ IsHeadOf g s (head_of (v x.name)))
own_said g v s x y h e n = (
  (λ t f. f (subst (λ z. IsHeadOf g z (head_of (v x.name))) (sym e) (head_has g x.sort (v x.name) h))),
  (λ m f. f (v x.name) (subst (λ z. HasSort g z (v x.name)) (sym e) h) (rw (n, (bytes_eq-Decides y y).1 refl) refl)),
)

by_sort : (g : KoreSignature) (v : Valuation) (sort s : KoreSort) (x : SortedName) (b : Bool) → sorts_equal s x.sort ≡ b → HasSort g x.sort (v x.name) → Well g (written_test g sort x (head_of_sort s)) → IsSaid g v sort (has_head x (head_of_sort s))
by_sort g v sort s x true e h i = rw e (own_said g v s x (least_fresh (x.name ∷ [])) h ((sorts_equal-Decides s x.sort).0 e) (new_differs x s))
by_sort g v sort s x false e h i = asked_says g v (written_test g sort x (head_of_sort s)) x (head_of_sort s) (sort_read g sort s x i e) (test_variables g (λ z. HasSort g z.sort (v z.name)) sort x (head_of_sort s) h)

pub sort_said : (g : KoreSignature) (v : Valuation) (sort s : KoreSort) (x : SortedName) → HasSort g x.sort (v x.name) → Well g (written_test g sort x (head_of_sort s)) → IsSaid g v sort (has_head x (head_of_sort s))
sort_said g v sort s x h i = by_sort g v sort s x (sorts_equal s x.sort) refl h i
