-- Each literal that an equality opens to is well-sorted, and its variables are at hand.
use Rattle.std.proofs.Common.{◌≡◌, refl, sym, ◌∙◌, ap, subst, Bool, true, false, not, ◌&&◌, List, [], ◌∷◌, map, Option, Some, None}
use Rattle.std.specs.Prelude.{if◌then◌else◌, ⊤}
use Rattle.std.specs.Bool.{beq}
use Rattle.std.specs.List.{AllByRecursion, Contains}
use Rattle.std.specs.Str.{bytes_eq}
use Rattle.std.proofs.lemmas.Slice.Eq.{bytes_eq-Decides}
use Rattle.kp_kore.specs.Syntax.{Text, KoreSort, sort_variable, KoreSorts, no_sorts, next_sort}
use Rattle.kp_kore.specs.Attributes.{sorts_equal}
use Rattle.kp_kore.specs.Hooks.{Connective, both, either, implies, same as same_truth, other, Hook, whole_arithmetic, whole_comparison, truth_connective, truth_negation, values_equal, values_different, equal}
use Rattle.kp_kore.specs.Parts.{SortedName}
use Rattle.kp_kore.specs.Signature.{KoreSignature, SymbolMeaning, injection, construction, interpretation, foreign, meaning_of, boolean_sort, is_boolean_sort, has_only_truths, is_the, is_truth_sort, are_one, are_two, fits_hook, itself}
use Rattle.kp_kore.specs.Value.{Value, whole, truth, token, constructed, Values, no_values, next_value, HasSort, HaveSorts, ArgumentSorts}
use Rattle.kp_kore.proofs.InstanceLemmas.{first_true, second_true}
use Rattle.kp_kore.proofs.SameLemmas.{sorts_equal-Decides}
use Rattle.kp_signature.proofs.SortLemmas.{is_that_sort, boolean_is_plain}
use Rattle.kp_compile.specs.Spelled.{places_of, NumbersFit, AllNumbersFit}
use Rattle.kp_symbolic.specs.Terms.{SymbolicTerm, unknown, offset, known, headed, SymbolicTerms, no_terms, next_term, term_variables, all_term_variables}
use Rattle.kp_symbolic.specs.Formulas.{Formula, fact, all_of, one_of, Formulas, no_formulas, next_formula, crossed, joined, formula_clauses, joined_clauses, crossed_clauses}
use Rattle.kp_symbolic.specs.States.{Literal, atom_variables}
use Rattle.kp_symbolic.specs.WellFormed.{IsWellSorted, AreWellSorted, IsWellSortedAtom, AreAtHand}
use Rattle.kp_symbolic.specs.Alike.{terms_same, literals_same}
use Rattle.kp_symbolic.specs.Folding.{sum_of}
use Rattle.kp_symbolic.specs.Heads.{is_construction}
use Rattle.kp_symbolic.specs.Opening.{fixed, all_if, pair, truth_sort, is_true, equality_fact, compared_at_once, fixed_or, is_never, unconstructed, is_kept_truth, Seen, seen, Seens, none_seen, next_seen, asked, opened_agreement, opened_truths, opened_sides, sorts_of_members, opened_seen, opened_members, common_sort, opened_call, constructor_if, seen_value, seen_values, seen_term, seen_terms, opened_same}
use Rattle.kp_symbolic.proofs.Distribution.{all_both, all_first, all_second, joined_both, kept_are}
use Rattle.kp_symbolic.proofs.WellSorted.{plain_symbol, places_are}
use Rattle.kp_symbolic.proofs.SortedFolding.{symbol_fits}

-- ---- what holds of each literal of a formula holds of those of its clauses

abbrev mutual
  pub AllFacts : (Literal → Type 0) → Formula Literal → Type 0
  AllFacts P (fact l) = P l
  AllFacts P (all_of fs) = AllIn P fs
  AllFacts P (one_of fs) = AllIn P fs

  pub AllIn : (Literal → Type 0) → Formulas Literal → Type 0
  AllIn P no_formulas = ⊤
  AllIn P (next_formula f fs) = AllFacts P f × AllIn P fs

row_has : (P : Literal → Type 0) (c : List Literal) (ds : List (List Literal)) → AllByRecursion P c → AllByRecursion (AllByRecursion P) ds → AllByRecursion (AllByRecursion P) (map (joined literals_same c) ds)
row_has P c [] a b = tt
row_has P c (d ∷ ds) a b = (joined_both literals_same P c d a b.0, row_has P c ds a b.1)

rows_have : (P : Literal → Type 0) (cs ds : List (List Literal)) → AllByRecursion (AllByRecursion P) cs → AllByRecursion (AllByRecursion P) ds → AllByRecursion (AllByRecursion P) (crossed literals_same cs ds)
rows_have P [] ds a b = tt
rows_have P (c ∷ cs) ds a b = all_both (AllByRecursion P) (map (joined literals_same c) ds) (crossed literals_same cs ds) (row_has P c ds a.0 b) (rows_have P cs ds a.1 b)

mutual
  pub clauses_have : (P : Literal → Type 0) (f : Formula Literal) → AllFacts P f → AllByRecursion (AllByRecursion P) (formula_clauses literals_same f)
  clauses_have P (fact l) a = ((a, tt), tt)
  clauses_have P (all_of fs) a = joined_have P fs a
  clauses_have P (one_of fs) a = crossed_have P fs a

  joined_have : (P : Literal → Type 0) (fs : Formulas Literal) → AllIn P fs → AllByRecursion (AllByRecursion P) (joined_clauses literals_same fs)
  joined_have P no_formulas a = tt
  joined_have P (next_formula f fs) a = all_both (AllByRecursion P) (formula_clauses literals_same f) (joined_clauses literals_same fs) (clauses_have P f a.0) (joined_have P fs a.1)

  crossed_have : (P : Literal → Type 0) (fs : Formulas Literal) → AllIn P fs → AllByRecursion (AllByRecursion P) (crossed_clauses literals_same fs)
  crossed_have P no_formulas a = (tt, tt)
  crossed_have P (next_formula f fs) a = kept_are literals_same (AllByRecursion P) [] 0 (crossed literals_same (formula_clauses literals_same f) (crossed_clauses literals_same fs)) (rows_have P (formula_clauses literals_same f) (crossed_clauses literals_same fs) (clauses_have P f a.0) (crossed_have P fs a.1))

-- ---- formulas

pub fixed_good : (P : Literal → Type 0) (b : Bool) → AllFacts P (fixed b)
fixed_good P true = tt
fixed_good P false = tt

pub if_good : (P : Literal → Type 0) (b : Bool) (fs : Formulas Literal) → AllIn P fs → AllFacts P (all_if b fs)
if_good P true fs a = a
if_good P false fs a = a

pub choose : (P : Literal → Type 0) (c : Bool) (f h : Formula Literal) → AllFacts P f → AllFacts P h → AllFacts P (if c then f else h)
choose P true f h a b = a
choose P false f h a b = b

pub fixed_or_good : (P : Literal → Type 0) (o : Option Bool) (b : Bool) (f : Formula Literal) → AllFacts P f → AllFacts P (fixed_or o b f)
fixed_or_good P (Some c) b f a = fixed_good P (beq c b)
fixed_or_good P None b f a = a

-- ---- terms that are seen

-- the literal is well-sorted and its variables are at hand
abbrev pub Good : KoreSignature → List SortedName → Literal → Type 0
Good g hand l = IsWellSortedAtom g l.atom × AreAtHand (atom_variables l.atom) hand

abbrev pub GoodTerm : KoreSignature → List SortedName → KoreSort → SymbolicTerm → Type 0
GoodTerm g hand s t = IsWellSorted g s t × AreAtHand (term_variables t) hand

abbrev GoodOpening : KoreSignature → List SortedName → (Bool → Bool → Formula Literal → Formula Literal) → Type 0
GoodOpening g hand p = (alone b : Bool) (kept : Formula Literal) → AllFacts (Good g hand) kept → AllFacts (Good g hand) (p alone b kept)

abbrev mutual
  IsGoodSeen : KoreSignature → List SortedName → KoreSort → Seen → Type 0
  IsGoodSeen g hand s (seen t p c ms) = GoodTerm g hand s t × GoodOpening g hand p × AreGoodSeen g hand (sorts_of_members g c) ms

  AreGoodSeen : KoreSignature → List SortedName → KoreSorts → Seens → Type 0
  AreGoodSeen g hand ss none_seen = ⊤
  AreGoodSeen g hand no_sorts (next_seen m ms) = ⊤
  AreGoodSeen g hand (next_sort s ss) (next_seen m ms) = IsGoodSeen g hand s m × AreGoodSeen g hand ss ms

equality_good : (g : KoreSignature) (hand : List SortedName) (b : Bool) (s : KoreSort) (t u : SymbolicTerm) → GoodTerm g hand s t → GoodTerm g hand s u → AllFacts (Good g hand) (equality_fact b s t u)
equality_good g hand b s t u i j = ((i.0, j.0), all_both (λ x. Contains hand x) (term_variables t) (term_variables u) i.1 j.1)

truth_sort_is : (g : KoreSignature) (s : KoreSort) → boolean_sort g ≡ Some s → truth_sort g ≡ s
truth_sort_is g s e = rw e refl

truth_sort_meant : (g : KoreSignature) (s : KoreSort) → is_truth_sort g s ≡ true → boolean_sort g ≡ Some s
truth_sort_meant g s e = is_that_sort (boolean_sort g) s (first_true (is_boolean_sort g s) (has_only_truths g s) e)

true_good : (g : KoreSignature) (hand : List SortedName) (b : Bool) (s : KoreSort) (t : SymbolicTerm) → boolean_sort g ≡ Some s → GoodTerm g hand s t → AllFacts (Good g hand) (is_true g b t)
true_good g hand b s t e i = subst (λ a. AllFacts (Good g hand) (equality_fact b a t (known (truth true)))) (sym (truth_sort_is g s e)) (equality_good g hand b s t (known (truth true)) i (((s, e, itself s), tt), tt))

asked_good : (g : KoreSignature) (hand : List SortedName) (alone b : Bool) (s : KoreSort) (m : Seen) → boolean_sort g ≡ Some s → IsGoodSeen g hand s m → AllFacts (Good g hand) (asked g alone b m)
asked_good g hand alone b s (seen t p c ms) e h = h.1 alone b (is_true g b t) (true_good g hand b s t e h.0)

agreement_good : (g : KoreSignature) (hand : List SortedName) (b : Bool) (s : KoreSort) (m n : Seen) → boolean_sort g ≡ Some s → IsGoodSeen g hand s m → IsGoodSeen g hand s n → AllFacts (Good g hand) (opened_agreement g b m n)
agreement_good g hand b s m n e i j = (
  (asked_good g hand false false s m e i, (asked_good g hand false b s n e j, tt)),
  ((asked_good g hand false true s m e i, (asked_good g hand false (not b) s n e j, tt)), tt),
)

truths_good : (g : KoreSignature) (hand : List SortedName) (alone b : Bool) (s : KoreSort) (kept : Formula Literal) (m n : Seen) → boolean_sort g ≡ Some s → IsGoodSeen g hand s m → IsGoodSeen g hand s n → AllFacts (Good g hand) kept → AllFacts (Good g hand) (opened_truths g alone b kept m n)
truths_good g hand alone b s kept (seen t p c ms) (seen (known (truth a)) q d ns) e i j k = i.1 alone (beq a b) kept k
truths_good g hand alone b s kept (seen (known (truth a)) p c ms) (seen u q d ns) e i j k = j.1 alone (beq a b) kept k
truths_good g hand alone b s kept (seen t p c ms) (seen u q d ns) e i j k =
    choose (Good g hand) (alone && b && is_kept_truth t u) kept (opened_agreement g b (seen t p c ms) (seen u q d ns)) k (agreement_good g hand b s (seen t p c ms) (seen u q d ns) e i j)

unconstructed_good : (g : KoreSignature) (P : Literal → Type 0) (b : Bool) (kept : Formula Literal) (t u : SymbolicTerm) → AllFacts P kept → AllFacts P (unconstructed g b kept t u)
unconstructed_good g P b kept (known u) (known w) k = fixed_good P (not b)
unconstructed_good g P b kept t u k = fixed_or_good P (compared_at_once equal (sum_of g t) (sum_of g u)) b kept k

one_name : (P : Literal → Type 0) (b s : Bool) (fs : Formulas Literal) → (s ≡ true → AllIn P fs) → AllFacts P (if s then all_if b fs else fixed (not b))
one_name P b true fs a = if_good P b fs (a refl)
one_name P b false fs a = fixed_good P (not b)

pub sides_good : (g : KoreSignature) (P : Literal → Type 0) (b : Bool) (kept : Formula Literal) (t u : SymbolicTerm) (c d : Option Text) (fs : Formulas Literal) → ((k : Text) → c ≡ Some k → d ≡ Some k → AllIn P fs) → AllFacts P kept → AllFacts P (opened_sides g b kept t u c d fs)
sides_good g P b kept t u (Some k) (Some l) fs a h = one_name P b (bytes_eq k l) fs (λ e. a k refl (ap Some (sym ((bytes_eq-Decides k l).0 e))))
sides_good g P b kept t u (Some k) None fs a h = choose P (is_never g t u) (fixed (not b)) kept (fixed_good P (not b)) h
sides_good g P b kept t u None (Some l) fs a h = choose P (is_never g u t) (fixed (not b)) kept (fixed_good P (not b)) h
sides_good g P b kept t u None None fs a h = unconstructed_good g P b kept t u h

by_form : (P : Literal → Type 0) (b c d : Bool) (truths sides : Formula Literal) → (d ≡ true → AllFacts P truths) → AllFacts P sides → AllFacts P (if c then fixed b else if d then truths else sides)
by_form P b true d truths sides i j = fixed_good P b
by_form P b false true truths sides i j = i refl
by_form P b false false truths sides i j = j

mutual
  seen_good : (g : KoreSignature) (hand : List SortedName) (alone b : Bool) (s x y : KoreSort) (kept : Formula Literal) (m n : Seen) → IsGoodSeen g hand x m → IsGoodSeen g hand y n → (is_truth_sort g s ≡ true → (x ≡ s) × (y ≡ s)) → AllFacts (Good g hand) kept → AllFacts (Good g hand) (opened_seen g alone b s kept m n)
  seen_good g hand alone b s x y kept (seen t p c ms) (seen u q d ns) i j o k =
      by_form (Good g hand) b (terms_same t u) (is_truth_sort g s) (opened_truths g alone b kept (seen t p c ms) (seen u q d ns)) (opened_sides g b kept t u c d (opened_members g (alone && b) b (sorts_of_members g c) ms ns))
      (λ e. truths_good g hand alone b s kept (seen t p c ms) (seen u q d ns) (truth_sort_meant g s e) (subst (λ z. IsGoodSeen g hand z (seen t p c ms)) (o e).0 i) (subst (λ z. IsGoodSeen g hand z (seen u q d ns)) (o e).1 j) k)
      (sides_good g (Good g hand) b kept t u c d (opened_members g (alone && b) b (sorts_of_members g c) ms ns)
      (λ l e f. members_good g hand (alone && b) b (sorts_of_members g c) ms ns i.2 (subst (λ z. AreGoodSeen g hand (sorts_of_members g z) ns) (f ∙ sym e) j.2)) k)

  members_good : (g : KoreSignature) (hand : List SortedName) (alone b : Bool) (ss : KoreSorts) (ms ns : Seens) → AreGoodSeen g hand ss ms → AreGoodSeen g hand ss ns → AllIn (Good g hand) (opened_members g alone b ss ms ns)
  members_good g hand alone b (next_sort s ss) (next_seen (seen t p c ms) rest) (next_seen (seen u q d ns) others) i j = (
    seen_good g hand alone b s s s (equality_fact b s t u) (seen t p c ms) (seen u q d ns) i.0 j.0 (λ e. (refl, refl)) (equality_good g hand b s t u i.0.0 j.0.0),
    members_good g hand alone b ss rest others i.1 j.1,
  )
  members_good g hand alone b no_sorts ms ns i j = tt
  members_good g hand alone b (next_sort s ss) none_seen ns i j = tt
  members_good g hand alone b (next_sort s ss) (next_seen (seen t p c ms) rest) none_seen i j = tt

-- ---- calls

no_variable : (o : Option KoreSort) → ((s : KoreSort) → o ≡ Some s → sorts_equal s (sort_variable []) ≡ false) → is_the o (sort_variable []) ≡ true → ⊥
no_variable (Some s) f e = false_true (sym (f s refl) ∙ e)
  where
    false_true : false ≡ true → ⊥
    false_true h = cc
no_variable None f e = cc

common_good : (g : KoreSignature) (a b : KoreSort) → is_truth_sort g (common_sort (next_sort a (next_sort b no_sorts))) ≡ true → (a ≡ common_sort (next_sort a (next_sort b no_sorts))) × (b ≡ common_sort (next_sort a (next_sort b no_sorts)))
common_good g a b e = by (sorts_equal a b) (sorts_equal-Decides a b).0 e
  where
    by : (c : Bool) → (c ≡ true → a ≡ b) → is_truth_sort g (if c then a else sort_variable []) ≡ true → (a ≡ (if c then a else sort_variable [])) × (b ≡ (if c then a else sort_variable []))
    by true i h = (refl, sym (i refl))
    by false i h = absurd (no_variable (boolean_sort g) (boolean_is_plain g) (first_true (is_boolean_sort g (sort_variable [])) (has_only_truths g (sort_variable [])) h))

connected_good : (g : KoreSignature) (hand : List SortedName) (k : Connective) (ss : KoreSorts) (m n : Seen) (alone b : Bool) (s : KoreSort) (kept : Formula Literal) → boolean_sort g ≡ Some s → IsGoodSeen g hand s m → IsGoodSeen g hand s n → AllFacts (Good g hand) (opened_call g ss (interpretation (truth_connective k)) (next_seen m (next_seen n none_seen)) alone b kept)
connected_good g hand both ss m n alone b s kept e i j = if_good (Good g hand) b (pair (asked g (alone && b) b m) (asked g (alone && b) b n)) (asked_good g hand (alone && b) b s m e i, (asked_good g hand (alone && b) b s n e j, tt))
connected_good g hand either ss m n alone b s kept e i j = if_good (Good g hand) (not b) (pair (asked g (alone && not b) b m) (asked g (alone && not b) b n)) (asked_good g hand (alone && not b) b s m e i, (asked_good g hand (alone && not b) b s n e j, tt))
connected_good g hand implies ss m n alone b s kept e i j = if_good (Good g hand) (not b) (pair (asked g (alone && not b) (not b) m) (asked g (alone && not b) b n)) (asked_good g hand (alone && not b) (not b) s m e i, (asked_good g hand (alone && not b) b s n e j, tt))
connected_good g hand same_truth ss m n alone b s kept e i j = agreement_good g hand b s m n e i j
connected_good g hand other ss m n alone b s kept e i j = agreement_good g hand (not b) s m n e i j

-- two sorts that pass a test, or one
two_of : (test : KoreSort → Bool) (P : KoreSorts → Type 0) (ss : KoreSorts) → are_two test ss ≡ true → ((a b : KoreSort) → test a ≡ true → test b ≡ true → P (next_sort a (next_sort b no_sorts))) → P ss
two_of test P no_sorts e all = absurd (cc)
two_of test P (next_sort a no_sorts) e all = absurd (cc)
two_of test P (next_sort a (next_sort b (next_sort c ss))) e all = absurd (cc)
two_of test P (next_sort a (next_sort b no_sorts)) e all = all a b (first_true (test a) (test b) e) (second_true (test a) (test b) e)

one_of_sorts : (test : KoreSort → Bool) (P : KoreSorts → Type 0) (ss : KoreSorts) → are_one test ss ≡ true → ((a : KoreSort) → test a ≡ true → P (next_sort a no_sorts)) → P ss
one_of_sorts test P no_sorts e all = absurd (cc)
one_of_sorts test P (next_sort a (next_sort b ss)) e all = absurd (cc)
one_of_sorts test P (next_sort a no_sorts) e all = all a e

abbrev CallGood : KoreSignature → List SortedName → Hook → Seens → Bool → Bool → Formula Literal → KoreSorts → Type 0
CallGood g hand h ms alone b kept ss = AreGoodSeen g hand ss ms → AllFacts (Good g hand) (opened_call g ss (interpretation h) ms alone b kept)

call_good : (g : KoreSignature) (hand : List SortedName) (h : Hook) (ss : KoreSorts) (s : KoreSort) (ms : Seens) (alone b : Bool) (kept : Formula Literal) → fits_hook g h ss s ≡ true → AllFacts (Good g hand) kept → CallGood g hand h ms alone b kept ss
call_good g hand truth_negation ss s (next_seen m none_seen) alone b kept e k = one_of_sorts (is_truth_sort g) (CallGood g hand truth_negation (next_seen m none_seen) alone b kept) ss (first_true (are_one (is_truth_sort g) ss) (is_truth_sort g s) e)
    (λ x i a. asked_good g hand alone (not b) x m (truth_sort_meant g x i) a.0)
call_good g hand truth_negation ss s none_seen alone b kept e k = λ a. k
call_good g hand truth_negation ss s (next_seen m (next_seen n ms)) alone b kept e k = λ a. k
call_good g hand (truth_connective c) ss s (next_seen m (next_seen n none_seen)) alone b kept e k = two_of (is_truth_sort g) (CallGood g hand (truth_connective c) (next_seen m (next_seen n none_seen)) alone b kept) ss (first_true (are_two (is_truth_sort g) ss) (is_truth_sort g s) e)
    (λ x y i j a. connected_good g hand c (next_sort x (next_sort y no_sorts)) m n alone b x kept (truth_sort_meant g x i) a.0 (subst (λ z. IsGoodSeen g hand z n) (one_sort (boolean_sort g) y x (truth_sort_meant g y j) (truth_sort_meant g x i)) a.1.0))
  where
    one_sort : (o : Option KoreSort) (y x : KoreSort) → o ≡ Some y → o ≡ Some x → y ≡ x
    one_sort o y x p q = cc
call_good g hand (truth_connective c) ss s none_seen alone b kept e k = λ a. k
call_good g hand (truth_connective c) ss s (next_seen m none_seen) alone b kept e k = λ a. k
call_good g hand (truth_connective c) ss s (next_seen m (next_seen n (next_seen o ms))) alone b kept e k = λ a. k
call_good g hand (whole_comparison o) ss s (next_seen (seen t p c ms) (next_seen (seen u q d ns) none_seen)) alone b kept e k = λ a. fixed_or_good (Good g hand) (compared_at_once o (sum_of g t) (sum_of g u)) b kept k
call_good g hand (whole_comparison o) ss s none_seen alone b kept e k = λ a. k
call_good g hand (whole_comparison o) ss s (next_seen (seen t p c ns) none_seen) alone b kept e k = λ a. k
call_good g hand (whole_comparison o) ss s (next_seen (seen t p c ks) (next_seen (seen u q d ns) (next_seen i ms))) alone b kept e k = λ a. k
call_good g hand values_equal ss s (next_seen m (next_seen n none_seen)) alone b kept e k = two_of (λ x. true) (CallGood g hand values_equal (next_seen m (next_seen n none_seen)) alone b kept) ss (first_true (are_two (λ x. true) ss) (is_truth_sort g s) e)
    (λ x y i j a. seen_good g hand alone b (common_sort (next_sort x (next_sort y no_sorts))) x y kept m n a.0 a.1.0 (common_good g x y) k)
call_good g hand values_equal ss s none_seen alone b kept e k = λ a. k
call_good g hand values_equal ss s (next_seen m none_seen) alone b kept e k = λ a. k
call_good g hand values_equal ss s (next_seen m (next_seen n (next_seen o ms))) alone b kept e k = λ a. k
call_good g hand values_different ss s (next_seen m (next_seen n none_seen)) alone b kept e k = two_of (λ x. true) (CallGood g hand values_different (next_seen m (next_seen n none_seen)) alone b kept) ss (first_true (are_two (λ x. true) ss) (is_truth_sort g s) e)
    (λ x y i j a. seen_good g hand alone (not b) (common_sort (next_sort x (next_sort y no_sorts))) x y kept m n a.0 a.1.0 (common_good g x y) k)
call_good g hand values_different ss s none_seen alone b kept e k = λ a. k
call_good g hand values_different ss s (next_seen m none_seen) alone b kept e k = λ a. k
call_good g hand values_different ss s (next_seen m (next_seen n (next_seen o ms))) alone b kept e k = λ a. k
call_good g hand (whole_arithmetic o) ss s ms alone b kept e k = λ a. k

-- ---- terms are seen well

no_sorts_good : (g : KoreSignature) (hand : List SortedName) (ms : Seens) → AreGoodSeen g hand no_sorts ms
no_sorts_good g hand none_seen = tt
no_sorts_good g hand (next_seen m ms) = tt

declared_places : (g : KoreSignature) (c : Text) (ss : KoreSorts) → ArgumentSorts g c ss → places_of g c ≡ ss
declared_places g c ss k = rw k.1 k.2

mutual
  value_good : (g : KoreSignature) (hand : List SortedName) (s : KoreSort) (u : Value) → HasSort g s u → NumbersFit u → IsGoodSeen g hand s (seen_value u)
  value_good g hand s (constructed c us) h f = (((h, f), tt), (λ alone b kept k. k), values_good g hand (places_of g c) us (subst (λ ss. HaveSorts g ss us) (sym (declared_places g c h.1 h.2)) h.3) f)
  value_good g hand s (truth a) h f = (((h, f), tt), (λ alone b kept k. fixed_good (Good g hand) (beq a b)), tt)
  value_good g hand s (whole n) h f = (((h, f), tt), (λ alone b kept k. k), tt)
  value_good g hand s (token t x) h f = (((h, f), tt), (λ alone b kept k. k), tt)

  values_good : (g : KoreSignature) (hand : List SortedName) (ss : KoreSorts) (us : Values) → HaveSorts g ss us → AllNumbersFit us → AreGoodSeen g hand ss (seen_values us)
  values_good g hand no_sorts no_values h f = tt
  values_good g hand (next_sort s ss) (next_value u us) h f = (value_good g hand s u h.0 f.0, values_good g hand ss us h.1 f.1)
  values_good g hand no_sorts (next_value u us) h f = absurd h
  values_good g hand (next_sort s ss) no_values h f = absurd h

headed_opening : (g : KoreSignature) (hand : List SortedName) (f : Text) (ms : Seens) (m : SymbolMeaning) → meaning_of g f ≡ m → AreGoodSeen g hand (places_of g f) ms → GoodOpening g hand (opened_call g (places_of g f) m ms)
headed_opening g hand f ms (interpretation h) m a =
    let k = plain_symbol g f (rw m refl) in
    λ alone b kept i. call_good g hand h (places_of g f) k.declaration.result ms alone b kept (subst (λ ss. fits_hook g h ss k.declaration.result ≡ true) (sym (places_are g f k)) (symbol_fits g f k h m)) i a
headed_opening g hand f ms construction m a = λ alone b kept i. i
headed_opening g hand f ms injection m a = λ alone b kept i. i
headed_opening g hand f ms foreign m a = λ alone b kept i. i

members_if : (g : KoreSignature) (hand : List SortedName) (b : Bool) (f : Text) (ms : Seens) → AreGoodSeen g hand (places_of g f) ms → AreGoodSeen g hand (sorts_of_members g (constructor_if b f)) ms
members_if g hand true f ms a = a
members_if g hand false f ms a = no_sorts_good g hand ms

mutual
  pub term_good : (g : KoreSignature) (hand : List SortedName) (s : KoreSort) (t : SymbolicTerm) → GoodTerm g hand s t → IsGoodSeen g hand s (seen_term g t)
  term_good g hand s (unknown x) i = (i, (λ alone b kept k. k), tt)
  term_good g hand s (offset x c) i = (i, (λ alone b kept k. k), tt)
  term_good g hand s (known u) i = value_good g hand s u i.0.0 i.0.1
  term_good g hand s (headed f ts) i =
      let a = terms_good g hand (places_of g f) ts i.0.2 i.1 in
      (i, headed_opening g hand f (seen_terms g ts) (meaning_of g f) refl a, members_if g hand (is_construction (meaning_of g f)) f (seen_terms g ts) a)

  terms_good : (g : KoreSignature) (hand : List SortedName) (ss : KoreSorts) (ts : SymbolicTerms) → AreWellSorted g ss ts → AreAtHand (all_term_variables ts) hand → AreGoodSeen g hand ss (seen_terms g ts)
  terms_good g hand no_sorts no_terms w h = tt
  terms_good g hand (next_sort s ss) (next_term t ts) w h = (
    term_good g hand s t (w.0, all_first (λ x. Contains hand x) (term_variables t) (all_term_variables ts) h),
    terms_good g hand ss ts w.1 (all_second (λ x. Contains hand x) (term_variables t) (all_term_variables ts) h),
  )
  terms_good g hand no_sorts (next_term t ts) w h = absurd w
  terms_good g hand (next_sort s ss) no_terms w h = absurd w

pub opened_same_good : (g : KoreSignature) (hand : List SortedName) (alone b : Bool) (s : KoreSort) (t u : SymbolicTerm) → GoodTerm g hand s t → GoodTerm g hand s u → AllFacts (Good g hand) (opened_same g alone b s t u)
opened_same_good g hand alone b s t u i j = seen_good g hand alone b s s s (equality_fact b s t u) (seen_term g t) (seen_term g u) (term_good g hand s t i) (term_good g hand s u j) (λ e. (refl, refl)) (equality_good g hand b s t u i j)
