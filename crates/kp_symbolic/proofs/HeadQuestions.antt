-- A question for a head says what its predicate said; an opened test says what the term's head is.
use Rattle.std.proofs.Common.{◌≡◌, refl, sym, ◌∙◌, ap, ap₂, subst, Bool, true, false, not, cond, ◌&&◌, ◌||◌, List, [], ◌∷◌, ◌++◌, Option, Some, None, ◌↔◌}
use Rattle.std.specs.Prelude.{if◌then◌else◌}
use Rattle.std.specs.Bool.{beq}
use Rattle.std.specs.List.{AllByRecursion}
use Rattle.std.specs.Str.{bytes_eq}
use Rattle.std.proofs.lemmas.List.{append_assoc, append-nil}
use Rattle.std.proofs.lemmas.Slice.Eq.{bytes_eq-Decides}
use Rattle.kp_kore.specs.Syntax.{Text, KoreSort, KoreSorts, no_sorts, next_sort, KorePattern, KorePatterns, variable, application, negation, exists, forall, equals, membership, no_patterns, next_pattern}
use Rattle.kp_kore.specs.Attributes.{sorts_equal}
use Rattle.kp_kore.specs.Hooks.{Hook, addition, whole_arithmetic, whole_comparison, truth_connective, truth_negation, values_equal, values_different}
use Rattle.kp_kore.specs.Parts.{SortedName, free_variables, without_name}
use Rattle.kp_kore.specs.Signature.{KoreSignature, SymbolMeaning, injection, construction, interpretation, foreign, meaning_of, Head, integers, booleans, constructor_of, IsHeadOf, is_number_sort, is_truth_sort, are_two, are_one, fits_hook}
use Rattle.kp_kore.specs.Value.{Value, whole, truth, token, constructed, Values, no_values, next_value, head_of, HasSort, HaveSorts, ArgumentSorts}
use Rattle.kp_kore.specs.Forms.{two}
use Rattle.kp_kore.specs.Interpretation.{interpreted}
use Rattle.kp_kore.specs.Instance.{Valuation, GivesSorts, assigned, is_named, instance, instances, applied, IsTrueUnder}
use Rattle.kp_kore.proofs.InstanceLemmas.{first_true, second_true}
use Rattle.kp_kore.proofs.SameLemmas.{sorts_equal-Decides}
use Rattle.kp_kore.proofs.TruthLemmas.{stable_truth}
use Rattle.kp_signature.proofs.NumberLemmas.{number_value, truth_value}
use Rattle.kp_compile.specs.Spelled.{places_of}
use Rattle.kp_symbolic.specs.Terms.{SymbolicTerm, unknown, offset, known, headed, term_instance, term_instances, term_variables}
use Rattle.kp_symbolic.specs.Formulas.{Formula}
use Rattle.kp_symbolic.specs.States.{HeadTest, one_head, head_of_sort, PassesHead, Literal}
use Rattle.kp_symbolic.specs.WellFormed.{stands_in_terms, IsWellSorted}
use Rattle.kp_symbolic.specs.Heads.{passes_head, head_answer}
use Rattle.kp_symbolic.specs.Opening.{HeadQuestion, are_variables, question_if, asked_constructor, asked_under_inj, asked_of, asked_variable, asked_side, asked_of_variable, under_injection, question_of_sides, first_question, head_question, denied_question, head_of_call, opened_test, fixed}
use Rattle.kp_symbolic.proofs.Distribution.{all_first, all_second}
use Rattle.kp_symbolic.proofs.SeenLemmas.{Says}
use Rattle.kp_symbolic.proofs.SideLemmas.{decided_says}
use Rattle.kp_symbolic.proofs.HeadLemmas.{passes-Decides, head_answer_is, head_from_sort}
use Rattle.kp_symbolic.proofs.Denied.{head_literal}
use Rattle.kp_symbolic.proofs.WellSorted.{plain_symbol, applied_has_sort, terms_sorted, IsPlainSymbol}
use Rattle.kp_symbolic.proofs.SortedFolding.{symbol_fits}

some_inside : {A : Type 0} {a b : A} → Some a ≡ Some b → a ≡ b
some_inside e = cc

-- ---- under \exists, of values for all bound variables

abbrev pub bound_of : KorePattern → List SortedName
bound_of (exists s x t p) = record { name = x; sort = t } ∷ bound_of p
bound_of p = []

abbrev pub body_of : KorePattern → KorePattern
body_of (exists s x t p) = body_of p
body_of p = p

abbrev pub sorts_of : List SortedName → KoreSorts
sorts_of [] = no_sorts
sorts_of (x ∷ xs) = next_sort x.sort (sorts_of xs)

abbrev pub assigned_all : Valuation → List SortedName → Values → Valuation
assigned_all w (x ∷ xs) (next_value u us) = assigned_all (assigned w x.name u) xs us
assigned_all w xs us = w

abbrev NoneMakesTrue : KoreSignature → Valuation → List SortedName → KorePattern → Type 0
NoneMakesTrue g w xs p = (us : Values) → HaveSorts g (sorts_of xs) us → ¬ IsTrueUnder g (assigned_all w xs us) p

first_bound : (g : KoreSignature) (w : Valuation) (x : SortedName) (xs : List SortedName) (p : KorePattern) → ((u : Value) → HasSort g x.sort u → NoneMakesTrue g (assigned w x.name u) xs p) → NoneMakesTrue g w (x ∷ xs) p
first_bound g w x xs p h (next_value u us) s = h u s.0 us s.1
first_bound g w x xs p h no_values s = absurd s

pub exists_says : (g : KoreSignature) (w : Valuation) (p : KorePattern) → (IsTrueUnder g w p → ¬ NoneMakesTrue g w (bound_of p) (body_of p)) × ((¬ IsTrueUnder g w p) → NoneMakesTrue g w (bound_of p) (body_of p))
exists_says g w (exists s x t p) = (
  (λ h k. h (λ u i a. (exists_says g (assigned w x u) p).0 a (λ us j. k (next_value u us) (i, j)))),
  (λ n. first_bound g w (record { name = x; sort = t }) (bound_of p) (body_of p) (λ u i. (exists_says g (assigned w x u) p).1 (λ a. n (λ k. k u i a)))),
)
exists_says g w _ = ((λ h k. k no_values tt h), (λ n us s. n))

-- the question is one of the body, under all bound variables
pub question_of_body : (g : KoreSignature) (xs : List SortedName) (p : KorePattern) → head_question g xs p ≡ head_question g (xs ++ bound_of p) (body_of p)
question_of_body g xs (exists s x t p) = question_of_body g (xs ++ record { name = x; sort = t } ∷ []) p ∙ ap (λ ys. head_question g ys (body_of p)) (append_assoc xs (record { name = x; sort = t } ∷ []) (bound_of p))
question_of_body g xs p = ap (λ ys. head_question g ys p) (sym (append-nil xs))

-- ---- names

same_turned : (x y : Text) (b : Bool) → bytes_eq x y ≡ b → bytes_eq y x ≡ b
same_turned x y true e = (bytes_eq-Decides y x).1 (sym ((bytes_eq-Decides x y).0 e))
same_turned x y false e = by (bytes_eq y x) refl
  where
    by : (c : Bool) → bytes_eq y x ≡ c → c ≡ false
    by true f = absurd (cc (sym e ∙ (bytes_eq-Decides x y).1 (sym ((bytes_eq-Decides y x).0 f))))
    by false f = refl

either_false : (a b : Bool) → a || b ≡ false → (a ≡ false) × (b ≡ false)
either_false true b e = absurd (cc)
either_false false b e = (refl, e)

-- a value for another name
pub off_names : (w : Valuation) (xs : List SortedName) (us : Values) (y : Text) → is_named y xs ≡ false → assigned_all w xs us y ≡ w y
off_names w [] us y n = refl
off_names w (x ∷ xs) no_values y n = refl
off_names w (x ∷ xs) (next_value u us) y n = let e = either_false (bytes_eq x.name y) (is_named y xs) n in off_names (assigned w x.name u) xs us y e.1 ∙ ap (λ b. if b then u else w y) e.0

-- what holds of each free variable holds of those of the body that aren't bound
pub without_all : (Q : SortedName → Type 0) (x : Text) (ys : List SortedName) → AllByRecursion Q (without_name x ys) → AllByRecursion (λ z. bytes_eq z.name x ≡ false → Q z) ys
without_all Q x [] a = tt
without_all Q x (y ∷ ys) a = by (bytes_eq y.name x) (without_all Q x ys) a
  where
    by : (b : Bool) → (AllByRecursion Q (without_name x ys) → AllByRecursion (λ z. bytes_eq z.name x ≡ false → Q z) ys) → AllByRecursion Q (cond (not b) (y ∷ without_name x ys) (without_name x ys)) → (b ≡ false → Q y) × AllByRecursion (λ z. bytes_eq z.name x ≡ false → Q z) ys
    by true k a = ((λ f. absurd (cc)), k a)
    by false k a = ((λ f. a.0), k a.1)

pub all_weaker : (P Q : SortedName → Type 0) (xs : List SortedName) → ((x : SortedName) → P x → Q x) → AllByRecursion P xs → AllByRecursion Q xs
all_weaker P Q [] f h = tt
all_weaker P Q (x ∷ xs) f h = (f x h.0, all_weaker P Q xs f h.1)

pub free_in_body : (Q : SortedName → Type 0) (p : KorePattern) → AllByRecursion Q (free_variables p) → AllByRecursion (λ z. is_named z.name (bound_of p) ≡ false → Q z) (free_variables (body_of p))
free_in_body Q (exists s x t p) a = all_weaker (λ z. is_named z.name (bound_of p) ≡ false → bytes_eq z.name x ≡ false → Q z) (λ z. is_named z.name (bound_of (exists s x t p)) ≡ false → Q z) (free_variables (body_of p))
    (λ z f n. let e = either_false (bytes_eq x z.name) (is_named z.name (bound_of p)) n in f e.1 (same_turned x z.name false e.0))
    (free_in_body (λ z. bytes_eq z.name x ≡ false → Q z) p (without_all Q x (free_variables p) a))
free_in_body Q p a = all_weaker Q (λ z. false ≡ false → Q z) (free_variables p) (λ z q n. q) a

-- ---- arguments that are the bound variables

variables_sorts : (xs : List SortedName) (ss : KoreSorts) (ps : KorePatterns) → are_variables xs ss ps ≡ true → sorts_of xs ≡ ss
variables_sorts [] no_sorts no_patterns e = refl
variables_sorts (x ∷ xs) (next_sort s ss) (next_pattern (variable y t) ps) e =
    let a = bytes_eq x.name y in
    let b = sorts_equal x.sort t in
    let c = sorts_equal x.sort s in
    let d = not (is_named x.name xs) in
    ap₂ next_sort ((sorts_equal-Decides x.sort s).0 (second_true (a && b) c (first_true (a && b && c) d (first_true (a && b && c && d) (are_variables xs ss ps) e)))) (variables_sorts xs ss ps (second_true (a && b && c && d) (are_variables xs ss ps) e))
variables_sorts _ _ _ e = absurd (cc)

not_true : (b : Bool) → not b ≡ true → b ≡ false
not_true true e = absurd (cc)
not_true false e = refl

variables_values : (g : KoreSignature) (w : Valuation) (xs : List SortedName) (ss : KoreSorts) (ps : KorePatterns) (us : Values) → are_variables xs ss ps ≡ true → HaveSorts g (sorts_of xs) us → instances g (assigned_all w xs us) ps ≡ us
variables_values g w [] no_sorts no_patterns no_values e h = refl
variables_values g w [] no_sorts no_patterns (next_value u us) e h = absurd h
variables_values g w (x ∷ xs) (next_sort s ss) (next_pattern (variable y t) ps) no_values e h = absurd h
variables_values g w (x ∷ xs) (next_sort s ss) (next_pattern (variable y t) ps) (next_value u us) e h =
    let a = bytes_eq x.name y in
    let b = sorts_equal x.sort t in
    let c = sorts_equal x.sort s in
    let d = not (is_named x.name xs) in
    let four = first_true (a && b && c && d) (are_variables xs ss ps) e in
    let n = not_true (is_named x.name xs) (second_true (a && b && c) d four) in
    let i : x.name ≡ y = (bytes_eq-Decides x.name y).0 (first_true a b (first_true (a && b) c (first_true (a && b && c) d four))) in
    ap₂ next_value
    (ap (assigned_all (assigned w x.name u) xs us) (sym i) ∙ off_names (assigned w x.name u) xs us x.name n ∙ ap (λ z. if z then u else w x.name) ((bytes_eq-Decides x.name x.name).1 refl))
    (variables_values g (assigned w x.name u) xs ss ps us (second_true (a && b && c && d) (are_variables xs ss ps) e) h.1)
variables_values g w _ _ _ us e h = absurd (cc)

-- ---- the question is right

-- the body's equation gives the head, and the head gives values for the bound variables that make it true
pub record IsRightQuestion (g : KoreSignature) (w : Valuation) (xs : List SortedName) (u : Value) (p : KorePattern) (test : HeadTest) : Type 0 where
  pub gives : (us : Values) → HaveSorts g (sorts_of xs) us → u ≡ instance g (assigned_all w xs us) p → PassesHead g test (head_of u)
  pub given : PassesHead g test (head_of u) → (us : Values) × HaveSorts g (sorts_of xs) us × (u ≡ instance g (assigned_all w xs us) p)

pub sort_from_head : (g : KoreSignature) (s t : KoreSort) (u : Value) → HasSort g s u → IsHeadOf g t (head_of u) → HasSort g t u
sort_from_head g s t (whole n) h i = i
sort_from_head g s t (truth b) h i = i
sort_from_head g s t (token a x) h i = i
sort_from_head g s t (constructed c us) h i = (i, h.1, h.2, h.3)

declared_places : (g : KoreSignature) (c : Text) (ss : KoreSorts) → ArgumentSorts g c ss → places_of g c ≡ ss
declared_places g c ss k = rw k.1 k.2

arguments_sorted : (g : KoreSignature) (s : KoreSort) (c : Text) (us : Values) → HasSort g s (constructed c us) → HaveSorts g (places_of g c) us
arguments_sorted g s c us h = subst (λ ss. HaveSorts g ss us) (sym (declared_places g c h.1 h.2)) h.3

head_is : (u : Value) (f : Text) → head_of u ≡ constructor_of f → (us : Values) × (u ≡ constructed f us)
head_is (constructed c us) f e = (us, ap (λ x. constructed x us) (name_inside e))
  where
    name_inside : constructor_of c ≡ constructor_of f → c ≡ f
    name_inside k = cc
head_is (whole n) f e = absurd (cc)
head_is (truth b) f e = absurd (cc)
head_is (token s x) f e = absurd (cc)

question_inside : (b : Bool) (p : KorePattern) (test : HeadTest) (q : HeadQuestion) → question_if b p test ≡ Some q → (b ≡ true) × (q.subject ≡ p) × (q.test ≡ test)
question_inside true p test q e = (refl, cc, cc)
question_inside false p test q e = absurd (cc)

constructor_right : (g : KoreSignature) (w : Valuation) (xs : List SortedName) (s : KoreSort) (u : Value) (f : Text) (ss : KoreSorts) (ps : KorePatterns) → meaning_of g f ≡ construction → are_variables xs (places_of g f) ps ≡ true → HasSort g s u → IsRightQuestion g w xs u (application f ss ps) (one_head f)
constructor_right g w xs s u f ss ps m a h = record {
  gives = λ us k e. ap head_of (e ∙ ap (λ n. applied n f (instances g (assigned_all w xs us) ps)) m);
  given = λ e. let c = head_is u f e in
      let k : HaveSorts g (sorts_of xs) c.0 = subst (λ zs. HaveSorts g zs c.0) (sym (variables_sorts xs (places_of g f) ps a)) (arguments_sorted g s f c.0 (subst (HasSort g s) c.1 h)) in
      (c.0, k, c.1 ∙ ap (constructed f) (sym (variables_values g w xs (places_of g f) ps c.0 a k)) ∙ sym (ap (λ n. applied n f (instances g (assigned_all w xs c.0) ps)) m));
}

abbrev IsRightOf : KoreSignature → Valuation → List SortedName → Value → KorePattern → KorePattern → HeadQuestion → Type 0
IsRightOf g w xs u y p q = (q.subject ≡ y) × IsRightQuestion g w xs u p q.test

asked_right : (g : KoreSignature) (w : Valuation) (xs : List SortedName) (s : KoreSort) (u : Value) (y : KorePattern) (m : SymbolMeaning) (f : Text) (ss : KoreSorts) (ps : KorePatterns) (q : HeadQuestion) → meaning_of g f ≡ m → HasSort g s u → asked_constructor g xs y m f ps ≡ Some q → IsRightOf g w xs u y (application f ss ps) q
asked_right g w xs s u y construction f ss ps q m h e =
    let k = question_inside (are_variables xs (places_of g f) ps) y (one_head f) q e in
    (k.1, subst (IsRightQuestion g w xs u (application f ss ps)) (sym k.2) (constructor_right g w xs s u f ss ps m k.0 h))
asked_right g w xs s u y injection f ss ps q m h e = absurd (cc)
asked_right g w xs s u y (interpretation i) f ss ps q m h e = absurd (cc)
asked_right g w xs s u y foreign f ss ps q m h e = absurd (cc)

under_inj : (g : KoreSignature) (w : Valuation) (f : Text) (ss : KoreSorts) (p : KorePattern) → meaning_of g f ≡ injection → instance g w (application f ss (next_pattern p no_patterns)) ≡ instance g w p
under_inj g w f ss p m = ap (λ n. applied n f (next_value (instance g w p) no_values)) m

right_under_inj : (g : KoreSignature) (w : Valuation) (xs : List SortedName) (u : Value) (f : Text) (ss : KoreSorts) (p : KorePattern) (test : HeadTest) → meaning_of g f ≡ injection → IsRightQuestion g w xs u p test → IsRightQuestion g w xs u (application f ss (next_pattern p no_patterns)) test
right_under_inj g w xs u f ss p test m r = record {
  gives = λ us k e. r.gives us k (e ∙ under_inj g (assigned_all w xs us) f ss p m);
  given = λ h. let k = r.given h in (k.0, k.1, k.2 ∙ sym (under_inj g (assigned_all w xs k.0) f ss p m));
}

first_sort : {a b : KoreSort} → next_sort a no_sorts ≡ next_sort b no_sorts → a ≡ b
first_sort e = cc

abbrev first_or : Value → Values → Value
first_or u (next_value a us) = a
first_or u no_values = u

one_passes : (g : KoreSignature) (a t : KoreSort) (u : Value) (us : Values) → a ≡ t → HaveSorts g (next_sort a no_sorts) us → u ≡ first_or u us → IsHeadOf g t (head_of u)
one_passes g a t u (next_value b us) e k i = subst (λ s. IsHeadOf g s (head_of u)) e (head_from_sort g a u (subst (HasSort g a) (sym i) k.0))
one_passes g a t u no_values e k i = absurd k

variable_right : (g : KoreSignature) (w : Valuation) (x : SortedName) (s : KoreSort) (u : Value) (t : KoreSort) (z : Text) (o : KoreSort) → are_variables (x ∷ []) (next_sort t no_sorts) (next_pattern (variable z o) no_patterns) ≡ true → HasSort g s u → IsRightQuestion g w (x ∷ []) u (variable z o) (head_of_sort t)
variable_right g w x s u t z o a h =
    let ps = next_pattern (variable z o) no_patterns in
    let same : x.sort ≡ t = first_sort (variables_sorts (x ∷ []) (next_sort t no_sorts) ps a) in
    record {
      gives = λ us k e. one_passes g x.sort t u us same k (e ∙ ap (first_or u) (variables_values g w (x ∷ []) (next_sort t no_sorts) ps us a k));
      given = λ i. let k : HasSort g x.sort u = subst (λ b. HasSort g b u) (sym same) (sort_from_head g s t u h i) in (next_value u no_values, (k, tt), sym (ap (first_or u) (variables_values g w (x ∷ []) (next_sort t no_sorts) ps (next_value u no_values) a (k, tt))));
    }

record IsOneVariable (ps : KorePatterns) : Type 0 where
  name : Text
  sort : KoreSort
  is : ps ≡ next_pattern (variable name sort) no_patterns

one_variable : (x : SortedName) (t : KoreSort) (ps : KorePatterns) → are_variables (x ∷ []) (next_sort t no_sorts) ps ≡ true → IsOneVariable ps
one_variable x t (next_pattern (variable z o) no_patterns) a = record { name = z; sort = o; is = refl }
one_variable x t (next_pattern (variable z o) (next_pattern p ps)) a = absurd (not_both (bytes_eq x.name z && sorts_equal x.sort o && sorts_equal x.sort t && not false) a)
  where
    not_both : (b : Bool) → b && false ≡ true → ⊥
    not_both true h = cc
    not_both false h = cc
one_variable x t _ a = absurd (cc)

variables_right : (g : KoreSignature) (w : Valuation) (x : SortedName) (s : KoreSort) (u : Value) (f : Text) (ss : KoreSorts) (t : KoreSort) (ps : KorePatterns) → meaning_of g f ≡ injection → are_variables (x ∷ []) (next_sort t no_sorts) ps ≡ true → HasSort g s u → IsRightQuestion g w (x ∷ []) u (application f ss ps) (head_of_sort t)
variables_right g w x s u f ss t ps m a h =
    let k = one_variable x t ps a in
    subst (λ qs. IsRightQuestion g w (x ∷ []) u (application f ss qs) (head_of_sort t)) (sym k.is)
    (right_under_inj g w (x ∷ []) u f ss (variable k.name k.sort) (head_of_sort t) m (variable_right g w x s u t k.name k.sort (subst (λ qs. are_variables (x ∷ []) (next_sort t no_sorts) qs ≡ true) k.is a) h))

none_is_some : {A : Type 0} {a : A} → None ≡ Some a → ⊥
none_is_some e = cc

injection_right : (g : KoreSignature) (w : Valuation) (xs : List SortedName) (s : KoreSort) (u : Value) (y : KorePattern) (f : Text) (ss : KoreSorts) (ps : KorePatterns) (q : HeadQuestion) → meaning_of g f ≡ injection → HasSort g s u → asked_under_inj g xs y ss ps ≡ Some q → IsRightOf g w xs u y (application f ss ps) q
injection_right g w xs s u y f ss (next_pattern (application k ts ps) no_patterns) q m h e =
    let r = asked_right g w xs s u y (meaning_of g k) k ts ps q refl h e in (r.0, right_under_inj g w xs u f ss (application k ts ps) q.test m r.1)
injection_right g w (x ∷ []) s u y f (next_sort t ss) ps q m h e =
    let k = question_inside (are_variables (x ∷ []) (next_sort t no_sorts) ps) y (head_of_sort t) q e in
    (k.1, subst (IsRightQuestion g w (x ∷ []) u (application f (next_sort t ss) ps)) (sym k.2) (variables_right g w x s u f (next_sort t ss) t ps m k.0 h))
injection_right g w [] s u y f ss ps q m h e = absurd (none_is_some e)
injection_right g w (x ∷ []) s u y f no_sorts ps q m h e = absurd (none_is_some e)
injection_right g w (x ∷ z ∷ xs) s u y f ss ps q m h e = absurd (none_is_some e)

of_right : (g : KoreSignature) (w : Valuation) (xs : List SortedName) (s : KoreSort) (u : Value) (y : KorePattern) (m : SymbolMeaning) (f : Text) (ss : KoreSorts) (ps : KorePatterns) (q : HeadQuestion) → meaning_of g f ≡ m → HasSort g s u → asked_of g xs y m f ss ps ≡ Some q → IsRightOf g w xs u y (application f ss ps) q
of_right g w xs s u y injection f ss ps q m h e = injection_right g w xs s u y f ss ps q m h e
of_right g w xs s u y construction f ss ps q m h e = asked_right g w xs s u y construction f ss ps q m h e
of_right g w xs s u y (interpretation i) f ss ps q m h e = absurd (cc)
of_right g w xs s u y foreign f ss ps q m h e = absurd (cc)

-- ---- the other side, and the variable that it asks of

bound_right : (g : KoreSignature) (w : Valuation) (xs : List SortedName) (s : KoreSort) (u : Value) (y : KorePattern) (z : Text) (t : KoreSort) (q : HeadQuestion) → HasSort g s u → asked_variable xs y z t ≡ Some q → IsRightOf g w xs u y (variable z t) q
bound_right g w (x ∷ []) s u y z t q h e =
    let k = question_inside (are_variables (x ∷ []) (next_sort t no_sorts) (next_pattern (variable z t) no_patterns)) y (head_of_sort t) q e in
    (k.1, subst (IsRightQuestion g w (x ∷ []) u (variable z t)) (sym k.2) (variable_right g w x s u t z t k.0 h))
bound_right g w [] s u y z t q h e = absurd (none_is_some e)
bound_right g w (x ∷ v ∷ xs) s u y z t q h e = absurd (none_is_some e)

side_right : (g : KoreSignature) (w : Valuation) (xs : List SortedName) (s : KoreSort) (u : Value) (y r : KorePattern) (q : HeadQuestion) → HasSort g s u → asked_side g xs y r ≡ Some q → IsRightOf g w xs u y r q
side_right g w xs s u y (application f ss ps) q h e = of_right g w xs s u y (meaning_of g f) f ss ps q refl h e
side_right g w xs s u y (variable z t) q h e = bound_right g w xs s u y z t q h e
side_right g w xs s u y r q h e = absurd (none_is_some e)

-- the one side is a variable that isn't bound, as it stands or under inj
pub record IsAskedOf (g : KoreSignature) (xs : List SortedName) (p r : KorePattern) (q : HeadQuestion) : Type 0 where
  pub asked : SortedName
  pub unbound : is_named asked.name xs ≡ false
  pub variables : free_variables p ≡ asked ∷ []
  pub is : (w : Valuation) → instance g w p ≡ w asked.name
  pub from : asked_side g xs (variable asked.name asked.sort) r ≡ Some q

variable_asked : (g : KoreSignature) (xs : List SortedName) (p r : KorePattern) (q : HeadQuestion) → asked_of_variable g xs p r ≡ Some q → IsAskedOf g xs p r q
variable_asked g xs (variable y t) r q e = by (is_named y xs) refl e
  where
    by : (b : Bool) → is_named y xs ≡ b → (if b then None else asked_side g xs (variable y t) r) ≡ Some q → IsAskedOf g xs (variable y t) r q
    by true i c = absurd (none_is_some c)
    by false i c = record { asked = record { name = y; sort = t }; unbound = i; variables = refl; is = λ w. refl; from = c }
variable_asked g xs p r q e = absurd (none_is_some e)

injected_asked : (g : KoreSignature) (xs : List SortedName) (f : Text) (ss : KoreSorts) (p r : KorePattern) (q : HeadQuestion) (m : SymbolMeaning) → meaning_of g f ≡ m → under_injection m (asked_of_variable g xs p r) ≡ Some q → IsAskedOf g xs (application f ss (next_pattern p no_patterns)) r q
injected_asked g xs f ss p r q injection m e =
    let a = variable_asked g xs p r q e in
    record { asked = a.asked; unbound = a.unbound; variables = append-nil (free_variables p) ∙ a.variables; is = λ w. under_inj g w f ss p m ∙ a.is w; from = a.from }
injected_asked g xs f ss p r q construction m e = absurd (none_is_some e)
injected_asked g xs f ss p r q (interpretation i) m e = absurd (none_is_some e)
injected_asked g xs f ss p r q foreign m e = absurd (none_is_some e)

pub asked_of_sides : (g : KoreSignature) (xs : List SortedName) (p r : KorePattern) (q : HeadQuestion) → question_of_sides g xs p r ≡ Some q → IsAskedOf g xs p r q
asked_of_sides g xs (application f ss (next_pattern p no_patterns)) r q e = injected_asked g xs f ss p r q (meaning_of g f) refl e
asked_of_sides g xs p r q e = variable_asked g xs p r q e

-- ---- what the question asks of a variable that isn't bound

record IsBase (g : KoreSignature) (w : Valuation) (Q : SortedName → Type 0) (xs : List SortedName) (body : KorePattern) (q : HeadQuestion) : Type 0 where
  asked : SortedName
  subject : q.subject ≡ variable asked.name asked.sort
  holds : Q asked
  gives : (us : Values) → HaveSorts g (sorts_of xs) us → IsTrueUnder g (assigned_all w xs us) body → PassesHead g q.test (head_of (w asked.name))
  given : PassesHead g q.test (head_of (w asked.name)) → (us : Values) × HaveSorts g (sorts_of xs) us × IsTrueUnder g (assigned_all w xs us) body

-- of one side, where it is a variable that isn't bound, as it stands or under inj
record IsSideBase (g : KoreSignature) (w : Valuation) (Q : SortedName → Type 0) (xs : List SortedName) (p r : KorePattern) (q : HeadQuestion) : Type 0 where
  asked : SortedName
  subject : q.subject ≡ variable asked.name asked.sort
  holds : Q asked
  gives : (us : Values) → HaveSorts g (sorts_of xs) us → instance g (assigned_all w xs us) p ≡ instance g (assigned_all w xs us) r → PassesHead g q.test (head_of (w asked.name))
  given : PassesHead g q.test (head_of (w asked.name)) → (us : Values) × HaveSorts g (sorts_of xs) us × (instance g (assigned_all w xs us) p ≡ instance g (assigned_all w xs us) r)

side_base : (g : KoreSignature) (w : Valuation) (Q : SortedName → Type 0) (xs : List SortedName) (p r : KorePattern) (q : HeadQuestion) → ((x : SortedName) → Q x → HasSort g x.sort (w x.name)) → question_of_sides g xs p r ≡ Some q → AllByRecursion (λ z. is_named z.name xs ≡ false → Q z) (free_variables p) → IsSideBase g w Q xs p r q
side_base g w Q xs p r q k e h =
    let a = asked_of_sides g xs p r q e in
    let x = a.asked in
    let o : Q x = (subst (AllByRecursion (λ z. is_named z.name xs ≡ false → Q z)) a.variables h).0 a.unbound in
    let m = side_right g w xs x.sort (w x.name) (variable x.name x.sort) r q (k x o) a.from in
    record {
      asked = x;
      subject = m.0;
      holds = o;
      gives = λ us j z. m.1.gives us j (sym (a.is (assigned_all w xs us) ∙ off_names w xs us x.name a.unbound) ∙ z);
      given = λ z. let n = m.1.given z in (n.0, n.1, (a.is (assigned_all w xs n.0) ∙ off_names w xs n.0 x.name a.unbound) ∙ n.2);
    }

-- of the body that is the equality of two sides, in either order
of_sides : (g : KoreSignature) (w : Valuation) (Q : SortedName → Type 0) (xs : List SortedName) (body p r : KorePattern) (q : HeadQuestion) → ((z : Valuation) → IsTrueUnder g z body → instance g z p ≡ instance g z r) → ((z : Valuation) → instance g z p ≡ instance g z r → IsTrueUnder g z body) → IsSideBase g w Q xs p r q → IsBase g w Q xs body q
of_sides g w Q xs body p r q to back b = record {
  asked = b.asked;
  subject = b.subject;
  holds = b.holds;
  gives = λ us j z. b.gives us j (to (assigned_all w xs us) z);
  given = λ z. let n = b.given z in (n.0, n.1, back (assigned_all w xs n.0) n.2);
}

equality_base : (g : KoreSignature) (w : Valuation) (Q : SortedName → Type 0) (xs : List SortedName) (body p r : KorePattern) (q : HeadQuestion) → ((x : SortedName) → Q x → HasSort g x.sort (w x.name)) → ((z : Valuation) → IsTrueUnder g z body → instance g z p ≡ instance g z r) → ((z : Valuation) → instance g z p ≡ instance g z r → IsTrueUnder g z body) →
    first_question (question_of_sides g xs p r) (question_of_sides g xs r p) ≡ Some q → AllByRecursion (λ z. is_named z.name xs ≡ false → Q z) (free_variables p ++ free_variables r) → IsBase g w Q xs body q
equality_base g w Q xs body p r q k to back e h = by (question_of_sides g xs p r) refl e
  where
    N : SortedName → Type 0
    N = λ z. is_named z.name xs ≡ false → Q z

    by : (o : Option HeadQuestion) → question_of_sides g xs p r ≡ o → first_question o (question_of_sides g xs r p) ≡ Some q → IsBase g w Q xs body q
    by (Some m) i c = of_sides g w Q xs body p r q to back (side_base g w Q xs p r q k (i ∙ c) (all_first N (free_variables p) (free_variables r) h))
    by None i c = of_sides g w Q xs body r p q (λ z t. sym (to z t)) (λ z t. back z (sym t)) (side_base g w Q xs r p q k c (all_second N (free_variables p) (free_variables r) h))

base_question : (g : KoreSignature) (w : Valuation) (Q : SortedName → Type 0) (xs : List SortedName) (body : KorePattern) (q : HeadQuestion) → ((x : SortedName) → Q x → HasSort g x.sort (w x.name)) → bound_of body ≡ [] → head_question g xs body ≡ Some q → AllByRecursion (λ z. is_named z.name xs ≡ false → Q z) (free_variables body) → IsBase g w Q xs body q
base_question g w Q xs (equals a s p r) q k n e h = equality_base g w Q xs (equals a s p r) p r q k (λ z t. t) (λ z t. t) e h
base_question g w Q xs (membership a s p r) q k n e h = equality_base g w Q xs (membership a s p r) p r q k (λ z t. t) (λ z t. t) e h
base_question g w Q xs (exists s x t p) q k n e h = absurd (cc)
base_question g w Q xs body q k n e h = absurd (none_is_some e)

no_more_bound : (p : KorePattern) → bound_of (body_of p) ≡ []
no_more_bound (exists s x t p) = no_more_bound p
no_more_bound _ = refl

pub record IsAsked (g : KoreSignature) (w : Valuation) (Q : SortedName → Type 0) (p : KorePattern) (q : HeadQuestion) : Type 0 where
  pub asked : SortedName
  pub subject : q.subject ≡ variable asked.name asked.sort
  pub holds : Q asked
  pub says : IsTrueUnder g w p ↔ (¬ ¬ PassesHead g q.test (head_of (w asked.name)))

pub question_says : (g : KoreSignature) (w : Valuation) (Q : SortedName → Type 0) (p : KorePattern) (q : HeadQuestion) → ((x : SortedName) → Q x → HasSort g x.sort (w x.name)) → head_question g [] p ≡ Some q → AllByRecursion Q (free_variables p) → IsAsked g w Q p q
question_says g w Q p q k e h =
    let base = base_question g w Q (bound_of p) (body_of p) q k (no_more_bound p) (sym (question_of_body g [] p) ∙ e) (free_in_body Q p h) in
    record {
      asked = base.asked;
      subject = base.subject;
      holds = base.holds;
      says = (
        (λ t n. (exists_says g w p).0 t (λ us s b. n (base.gives us s b))),
        (λ m. stable_truth g p w (λ n. m (λ z. let j = base.given z in (exists_says g w p).1 n j.0 j.1 j.2))),
      );
    }

-- ---- \forall of the opposite

-- what is denied, as a question
abbrev pub denied_body : KorePattern → KorePattern
denied_body (forall s x t p) = exists s x t (denied_body p)
denied_body (negation s p) = p
denied_body p = p

pub denied_asks : (g : KoreSignature) (xs : List SortedName) (p : KorePattern) (q : HeadQuestion) → denied_question g xs p ≡ Some q → head_question g xs (denied_body p) ≡ Some q
denied_asks g xs (forall s x t p) q e = denied_asks g (xs ++ record { name = x; sort = t } ∷ []) p q e
denied_asks g xs (negation s p) q e = e
denied_asks g xs p q e = absurd (none_is_some e)

pub denied_variables : (p : KorePattern) → free_variables (denied_body p) ≡ free_variables p
denied_variables (forall s x t p) = ap (without_name x) (denied_variables p)
denied_variables (negation s p) = refl
denied_variables p = refl

pub denied_says : (g : KoreSignature) (w : Valuation) (xs : List SortedName) (p : KorePattern) (q : HeadQuestion) → denied_question g xs p ≡ Some q → IsTrueUnder g w p ↔ (¬ IsTrueUnder g w (denied_body p))
denied_says g w xs (forall s x t p) q e = (
  (λ h n. n (λ u k z. (denied_says g (assigned w x u) (xs ++ record { name = x; sort = t } ∷ []) p q e).0 (h u k) z)),
  (λ n u k. (denied_says g (assigned w x u) (xs ++ record { name = x; sort = t } ∷ []) p q e).1 (λ z. n (λ all. all u k z))),
)
denied_says g w xs (negation s p) q e = ((λ h. h), (λ h. h))
denied_says g w xs p q e = absurd (none_is_some e)

-- ---- an opened test

known_head : (g : KoreSignature) (v : Valuation) (b : Bool) (test : HeadTest) (h : Head) (u : Value) → head_of u ≡ h → Says g v b (fixed (beq (passes_head g test h) b)) (¬ ¬ PassesHead g test (head_of u))
known_head g v b test h u e = decided_says g v b (passes_head g test h) (¬ ¬ PassesHead g test (head_of u))
    (λ t n. n (subst (PassesHead g test) (sym e) ((passes-Decides g test h).0 t)))
    (λ t n. n (λ p. absurd (false_true (sym t ∙ (passes-Decides g test h).1 (subst (PassesHead g test) e p)))))
  where
    false_true : false ≡ true → ⊥
    false_true h = cc

number_head : (g : KoreSignature) (s : KoreSort) (u : Value) → is_number_sort g s ≡ true → HasSort g s u → head_of u ≡ integers
number_head g s u i h = ap head_of (number_value g s u i h).1

truth_head : (g : KoreSignature) (s : KoreSort) (u : Value) → is_truth_sort g s ≡ true → HasSort g s u → head_of u ≡ booleans
truth_head g s u i h = ap head_of (truth_value g s u i h).1

pub call_head : (g : KoreSignature) (h : Hook) (ss : KoreSorts) (s : KoreSort) (u : Value) → fits_hook g h ss s ≡ true → HasSort g s u → head_of u ≡ head_of_call h
call_head g (whole_arithmetic a) ss s u e h = number_head g s u (second_true (are_two (is_number_sort g) ss) (is_number_sort g s) e) h
call_head g (whole_comparison c) ss s u e h = truth_head g s u (second_true (are_two (is_number_sort g) ss) (is_truth_sort g s) e) h
call_head g (truth_connective c) ss s u e h = truth_head g s u (second_true (are_two (is_truth_sort g) ss) (is_truth_sort g s) e) h
call_head g truth_negation ss s u e h = truth_head g s u (second_true (are_one (is_truth_sort g) ss) (is_truth_sort g s) e) h
call_head g values_equal ss s u e h = truth_head g s u (second_true (are_two (λ t. true) ss) (is_truth_sort g s) e) h
call_head g values_different ss s u e h = truth_head g s u (second_true (are_two (λ t. true) ss) (is_truth_sort g s) e) h

abbrev opened_by : KoreSignature → Bool → HeadTest → Formula Literal → Text → SymbolMeaning → Formula Literal
opened_by g b test kept f construction = fixed (beq (passes_head g test (constructor_of f)) b)
opened_by g b test kept f (interpretation h) = fixed (beq (passes_head g test (head_of_call h)) b)
opened_by g b test kept f injection = kept
opened_by g b test kept f foreign = kept

headed_test : (g : KoreSignature) (v : Valuation) (b : Bool) (test : HeadTest) (kept : Formula Literal) (f : Text) (us : Values) (k : IsPlainSymbol g f) (m : SymbolMeaning) → meaning_of g f ≡ m → stands_in_terms m ≡ true → HaveSorts g (places_of g f) us → Says g v b (opened_by g b test kept f m) (¬ ¬ PassesHead g test (head_of (applied m f us)))
headed_test g v b test kept f us k construction m i w = known_head g v b test (constructor_of f) (constructed f us) refl
headed_test g v b test kept f us k (interpretation h) m i w = known_head g v b test (head_of_call h) (interpreted h us) (call_head g h k.declaration.arguments k.declaration.result (interpreted h us) (symbol_fits g f k h m) (applied_has_sort g f us k (interpretation h) m refl w))
headed_test g v b test kept f us k injection m i w = absurd (cc)
headed_test g v b test kept f us k foreign m i w = absurd (cc)

pub test_says : (g : KoreSignature) (v : Valuation) (b : Bool) (test : HeadTest) (kept : Formula Literal) (s : KoreSort) (t : SymbolicTerm) → IsWellSorted g s t → GivesSorts g v (term_variables t) → Says g v b (opened_test g b test kept t) (¬ ¬ PassesHead g test (head_of (term_instance g v t)))
test_says g v b test kept s (unknown x) w h = head_literal g v b x test (head_answer g x.sort test) (λ c e. head_answer_is g x.sort test (v x.name) c h.0 e)
test_says g v b test kept s (offset x c) w h = known_head g v b test integers (interpreted (whole_arithmetic addition) (two (v x.name) (whole c))) (ap (λ u. head_of (interpreted (whole_arithmetic addition) (two u (whole c)))) (number_value g x.sort (v x.name) w.0 h.0).1)
test_says g v b test kept s (known u) w h = known_head g v b test (head_of u) u refl
test_says g v b test kept s (headed f ts) w h = headed_test g v b test kept f (term_instances g v ts) (plain_symbol g f w.0) (meaning_of g f) refl w.0 (terms_sorted g v (places_of g f) ts w.2 h)
