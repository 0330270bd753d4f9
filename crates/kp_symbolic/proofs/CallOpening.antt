-- Opened Boolean expressions say that they are true, by their sign; terms are seen as they are.
use Rattle.std.proofs.Common.{◌≡◌, refl, sym, ◌∙◌, ap, ap₂, subst, ℤ, ◌+ℤ◌, Bool, true, false, not, ◌&&◌, ◌||◌, [], Option, Some, None, ◌↔◌}
use Rattle.std.specs.Prelude.{if◌then◌else◌}
use Rattle.std.specs.Bool.{beq, Decides}
use Rattle.kp_kore.specs.Syntax.{Text, KoreSort, sort_variable, KoreSorts, no_sorts, next_sort, SymbolDeclaration}
use Rattle.kp_kore.specs.Attributes.{sorts_equal}
use Rattle.kp_kore.specs.Hooks.{Comparison, Connective, both, either, implies, same as same_truth, other, Hook, whole_arithmetic, whole_comparison, truth_connective, truth_negation, values_equal, values_different}
use Rattle.kp_kore.specs.Signature.{KoreSignature, SymbolMeaning, injection, construction, interpretation, foreign, meaning_of, symbol_meaning, symbol_declared, is_identity, is_constructor, is_plain, fits_hook, fitting_hook, boolean_sort, is_the, is_boolean_sort, has_only_truths, is_number_sort, is_truth_sort, are_one, are_two}
use Rattle.kp_kore.specs.Value.{Value, whole, truth, token, constructed, Values, no_values, next_value, values_same, HasSort, HaveSorts}
use Rattle.kp_kore.specs.Interpretation.{compared, connected, interpreted}
use Rattle.kp_kore.specs.Instance.{Valuation, GivesSorts, applied}
use Rattle.kp_kore.proofs.InstanceLemmas.{first_true, second_true}
use Rattle.kp_kore.proofs.SameLemmas.{sorts_equal-Decides, same_values_decide, equal_call}
use Rattle.kp_signature.proofs.MeaningLemmas.{an_interpretation, it_fits}
use Rattle.kp_signature.proofs.SortLemmas.{boolean_is_plain}
use Rattle.kp_compile.specs.Spelled.{places_of}
use Rattle.kp_symbolic.specs.Terms.{SymbolicTerm, unknown, offset, known, headed, SymbolicTerms, no_terms, next_term, term_instance, term_instances, term_variables, all_term_variables}
use Rattle.kp_symbolic.specs.Formulas.{Formula, all_of, one_of, Holds}
use Rattle.kp_symbolic.specs.States.{Literal, IsLiteralTrue}
use Rattle.kp_symbolic.specs.WellFormed.{IsGivenSorts, AreGivenSorts}
use Rattle.kp_symbolic.specs.Folding.{sum_of}
use Rattle.kp_symbolic.specs.Heads.{is_construction}
use Rattle.kp_symbolic.specs.Opening.{signed, all_if, fixed, pair, agreeing, Seen, seen, Seens, none_seen, next_seen, asked, opened_agreement, common_sort, opened_call, opened_seen, constructor_if, seen_value, seen_values, seen_term, seen_terms, equality_fact, opened_same, opened_truth}
use Rattle.kp_symbolic.proofs.Distribution.{all_first, all_second}
use Rattle.kp_symbolic.proofs.Folded.{sum_is}
use Rattle.kp_symbolic.proofs.SeenLemmas.{Says, says_the_same, equality_says, SaysTruth, SaysHead, IsRight, AreRight, IsTruth, seen_instance, seen_instances, asked_says}
use Rattle.kp_symbolic.proofs.Shifts.{compared_shift}
use Rattle.kp_symbolic.proofs.SideLemmas.{construction_is_meant, decided_says, with_sums}
use Rattle.kp_symbolic.proofs.EqualityLemmas.{seen_says, is_truth}

-- ---- formulas of truth values that are known

-- the formula holds where the test is true, and doesn't where it is false
record Stands (g : KoreSignature) (v : Valuation) (f : Formula Literal) (c : Bool) : Type 0 where
  holds : c ≡ true → Holds (IsLiteralTrue g v) f
  fails : c ≡ false → ¬ Holds (IsLiteralTrue g v) f

stands_all : (g : KoreSignature) (v : Valuation) (f h : Formula Literal) (x y : Bool) → Stands g v f x → Stands g v h y → Stands g v (all_of (pair f h)) (x && y)
stands_all g v f h true true i j = record { holds = λ e. (i.holds refl, (j.holds refl, tt)); fails = λ e. absurd (cc) }
stands_all g v f h true false i j = record { holds = λ e. absurd (cc); fails = λ e k. j.fails refl k.1.0 }
stands_all g v f h false y i j = record { holds = λ e. absurd (cc); fails = λ e k. i.fails refl k.0 }

stands_one : (g : KoreSignature) (v : Valuation) (f h : Formula Literal) (x y : Bool) → Stands g v f x → Stands g v h y → Stands g v (one_of (pair f h)) (x || y)
stands_one g v f h true y i j = record { holds = λ e n. n.0 (i.holds refl); fails = λ e. absurd (cc) }
stands_one g v f h false true i j = record { holds = λ e n. n.1.0 (j.holds refl); fails = λ e. absurd (cc) }
stands_one g v f h false false i j = record { holds = λ e. absurd (cc); fails = λ e k. k (i.fails refl, (j.fails refl, tt)) }

stands_if : (g : KoreSignature) (v : Valuation) (f : Formula Literal) (c d : Bool) → c ≡ d → Stands g v f c → Stands g v f d
stands_if g v f c d e s = subst (Stands g v f) e s

-- a value that is true or false, and the sign
to_stand : (g : KoreSignature) (v : Valuation) (b a : Bool) (f : Formula Literal) → Says g v b f (truth a ≡ truth true) → Stands g v f (beq a b)
to_stand g v true true f s = record { holds = λ e. s.1 refl; fails = λ e. absurd (cc) }
to_stand g v true false f s = record { holds = λ e. absurd (cc); fails = λ e h. absurd (not_true (s.0 h)) }
  where
    not_true : truth false ≡ truth true → ⊥
    not_true e = cc
to_stand g v false true f s = record { holds = λ e. absurd (cc); fails = λ e h. s.0 h refl }
to_stand g v false false f s = record { holds = λ e. s.1 (λ h. cc); fails = λ e. absurd (cc) }

from_stand : (g : KoreSignature) (v : Valuation) (b a : Bool) (f : Formula Literal) → Stands g v f (beq a b) → Says g v b f (truth a ≡ truth true)
from_stand g v true true f s = ((λ h. refl), (λ e. s.holds refl))
from_stand g v true false f s = ((λ h. absurd (s.fails refl h)), (λ e. absurd (cc)))
from_stand g v false true f s = ((λ h. absurd (s.fails refl h)), (λ n. absurd (n refl)))
from_stand g v false false f s = ((λ h e. cc), (λ n. s.holds refl))

-- ---- the connectives

both_is : (a c : Bool) (b : Bool) (g : KoreSignature) (v : Valuation) (f h : Formula Literal) → Stands g v f (beq a b) → Stands g v h (beq c b) → Stands g v (all_if b (pair f h)) (beq (a && c) b)
both_is a c true g v f h i j = stands_if g v (all_of (pair f h)) (beq a true && beq c true) (beq (a && c) true) (same a c) (stands_all g v f h (beq a true) (beq c true) i j)
  where
    same : (a c : Bool) → beq a true && beq c true ≡ beq (a && c) true
    same true true = refl
    same true false = refl
    same false c = refl
both_is a c false g v f h i j = stands_if g v (one_of (pair f h)) (beq a false || beq c false) (beq (a && c) false) (same a c) (stands_one g v f h (beq a false) (beq c false) i j)
  where
    same : (a c : Bool) → beq a false || beq c false ≡ beq (a && c) false
    same true true = refl
    same true false = refl
    same false c = refl

either_is : (a c : Bool) (b : Bool) (g : KoreSignature) (v : Valuation) (f h : Formula Literal) → Stands g v f (beq a b) → Stands g v h (beq c b) → Stands g v (all_if (not b) (pair f h)) (beq (a || c) b)
either_is a c true g v f h i j = stands_if g v (one_of (pair f h)) (beq a true || beq c true) (beq (a || c) true) (same a c) (stands_one g v f h (beq a true) (beq c true) i j)
  where
    same : (a c : Bool) → beq a true || beq c true ≡ beq (a || c) true
    same true c = refl
    same false true = refl
    same false false = refl
either_is a c false g v f h i j = stands_if g v (all_of (pair f h)) (beq a false && beq c false) (beq (a || c) false) (same a c) (stands_all g v f h (beq a false) (beq c false) i j)
  where
    same : (a c : Bool) → beq a false && beq c false ≡ beq (a || c) false
    same true c = refl
    same false true = refl
    same false false = refl

opposite_is : (a b : Bool) → beq a (not b) ≡ beq (not a) b
opposite_is true true = refl
opposite_is true false = refl
opposite_is false true = refl
opposite_is false false = refl

agreeing_is : (a c b : Bool) (g : KoreSignature) (v : Valuation) (p not_p q not_q : Formula Literal) → Stands g v p (beq a true) → Stands g v not_p (beq a false) → Stands g v q (beq c b) → Stands g v not_q (beq c (not b)) → Stands g v (agreeing p not_p q not_q) (beq (beq a c) b)
agreeing_is a c b g v p not_p q not_q i i' j j' = stands_if g v (agreeing p not_p q not_q) ((beq a false || beq c b) && (beq a true || beq c (not b))) (beq (beq a c) b) (same a c b)
    (stands_all g v (one_of (pair not_p q)) (one_of (pair p not_q)) (beq a false || beq c b) (beq a true || beq c (not b)) (stands_one g v not_p q (beq a false) (beq c b) i' j) (stands_one g v p not_q (beq a true) (beq c (not b)) i j'))
  where
    same : (a c b : Bool) → (beq a false || beq c b) && (beq a true || beq c (not b)) ≡ beq (beq a c) b
    same true true true = refl
    same true true false = refl
    same true false true = refl
    same true false false = refl
    same false true true = refl
    same false true false = refl
    same false false true = refl
    same false false false = refl

-- what is asked of a Boolean expression whose value is known
asked_stands : (g : KoreSignature) (v : Valuation) (alone b a : Bool) (m : Seen) → IsRight g v m → seen_instance g v m ≡ truth a → Stands g v (asked g alone b m) (beq a b)
asked_stands g v alone b a m r e = to_stand g v b a (asked g alone b m) (subst (λ u. Says g v b (asked g alone b m) (u ≡ truth true)) e (asked_says g v alone b m r))

-- two expressions under a connective
connective_says : (g : KoreSignature) (v : Valuation) (k : Connective) (ss : KoreSorts) (m n : Seen) (alone b a c : Bool) (kept : Formula Literal) → IsRight g v m → IsRight g v n → seen_instance g v m ≡ truth a → seen_instance g v n ≡ truth c → Stands g v (opened_call g ss (interpretation (truth_connective k)) (next_seen m (next_seen n none_seen)) alone b kept) (beq (connected k a c) b)
connective_says g v both ss m n alone b a c kept r q i j = both_is a c b g v (asked g (alone && b) b m) (asked g (alone && b) b n) (asked_stands g v (alone && b) b a m r i) (asked_stands g v (alone && b) b c n q j)
connective_says g v either ss m n alone b a c kept r q i j = either_is a c b g v (asked g (alone && not b) b m) (asked g (alone && not b) b n) (asked_stands g v (alone && not b) b a m r i) (asked_stands g v (alone && not b) b c n q j)
connective_says g v implies ss m n alone b a c kept r q i j = either_is (not a) c b g v (asked g (alone && not b) (not b) m) (asked g (alone && not b) b n) (stands_if g v (asked g (alone && not b) (not b) m) (beq a (not b)) (beq (not a) b) (opposite_is a b) (asked_stands g v (alone && not b) (not b) a m r i)) (asked_stands g v (alone && not b) b c n q j)
connective_says g v same_truth ss m n alone b a c kept r q i j = agreeing_is a c b g v (asked g false true m) (asked g false false m) (asked g false b n) (asked g false (not b) n) (asked_stands g v false true a m r i) (asked_stands g v false false a m r i) (asked_stands g v false b c n q j) (asked_stands g v false (not b) c n q j)
connective_says g v other ss m n alone b a c kept r q i j = stands_if g v (opened_agreement g (not b) m n) (beq (beq a c) (not b)) (beq (not (beq a c)) b) (opposite_is (beq a c) b)
    (agreeing_is a c (not b) g v (asked g false true m) (asked g false false m) (asked g false (not b) n) (asked g false (not (not b)) n) (asked_stands g v false true a m r i) (asked_stands g v false false a m r i) (asked_stands g v false (not b) c n q j) (asked_stands g v false (not (not b)) c n q j))

-- ---- what a hook is given

abbrev pub meaning_by : KoreSignature → Option SymbolDeclaration → SymbolMeaning
meaning_by g (Some d) = symbol_meaning g d
meaning_by g None = foreign

abbrev pub Fits : KoreSignature → Hook → KoreSorts → Type 0
Fits g h ss = (result : KoreSort) × (fits_hook g h ss result ≡ true)

pub fits_places : (g : KoreSignature) (f : Text) (h : Hook) → meaning_of g f ≡ interpretation h → Fits g h (places_of g f)
fits_places g f h m = by (symbol_declared g f) refl
  where
    by : (o : Option SymbolDeclaration) → symbol_declared g f ≡ o → Fits g h (places_of g f)
    by None e = absurd (cc (sym (ap (meaning_by g) e) ∙ m))
    by (Some d) e = (d.result, rw e (it_fits g d h (an_interpretation (is_identity d) (is_constructor d) (is_plain d) (fitting_hook g d) h (sym (ap (meaning_by g) e) ∙ m)).1))

-- two terms, or one, of these sorts
two_seen : (g : KoreSignature) (v : Valuation) (P : KoreSorts → Seens → Type 0) (test : KoreSort → Bool) (ss : KoreSorts) (ms : Seens) → are_two test ss ≡ true → HaveSorts g ss (seen_instances g v ms) → AreRight g v ms
    → ((a b : KoreSort) (m n : Seen) → test a ≡ true → test b ≡ true → HasSort g a (seen_instance g v m) → HasSort g b (seen_instance g v n) → IsRight g v m → IsRight g v n → P (next_sort a (next_sort b no_sorts)) (next_seen m (next_seen n none_seen))) → P ss ms
two_seen g v P test no_sorts ms e h r all = absurd (cc)
two_seen g v P test (next_sort a no_sorts) ms e h r all = absurd (cc)
two_seen g v P test (next_sort a (next_sort b (next_sort c ss))) ms e h r all = absurd (cc)
two_seen g v P test (next_sort a (next_sort b no_sorts)) none_seen e h r all = absurd h
two_seen g v P test (next_sort a (next_sort b no_sorts)) (next_seen m none_seen) e h r all = absurd h.1
two_seen g v P test (next_sort a (next_sort b no_sorts)) (next_seen m (next_seen n (next_seen o ms))) e h r all = absurd h.1.1
two_seen g v P test (next_sort a (next_sort b no_sorts)) (next_seen m (next_seen n none_seen)) e h r all =
    all a b m n (first_true (test a) (test b) e) (second_true (test a) (test b) e) h.0 h.1.0 r.0 r.1.0

one_seen : (g : KoreSignature) (v : Valuation) (P : KoreSorts → Seens → Type 0) (test : KoreSort → Bool) (ss : KoreSorts) (ms : Seens) → are_one test ss ≡ true → HaveSorts g ss (seen_instances g v ms) → AreRight g v ms
    → ((a : KoreSort) (m : Seen) → test a ≡ true → HasSort g a (seen_instance g v m) → IsRight g v m → P (next_sort a no_sorts) (next_seen m none_seen)) → P ss ms
one_seen g v P test no_sorts ms e h r all = absurd (cc)
one_seen g v P test (next_sort a (next_sort b ss)) ms e h r all = absurd (cc)
one_seen g v P test (next_sort a no_sorts) none_seen e h r all = absurd h
one_seen g v P test (next_sort a no_sorts) (next_seen m (next_seen n ms)) e h r all = absurd h.1
one_seen g v P test (next_sort a no_sorts) (next_seen m none_seen) e h r all = all a m e h.0 r.0

-- ---- calls

abbrev CallSays : KoreSignature → Valuation → Hook → Bool → Bool → Formula Literal → KoreSorts → Seens → Type 0
CallSays g v h alone b kept ss ms = Says g v b kept (interpreted h (seen_instances g v ms) ≡ truth true) → Says g v b (opened_call g ss (interpretation h) ms alone b kept) (interpreted h (seen_instances g v ms) ≡ truth true)

truth_inside : {a c : Bool} → truth a ≡ truth c → a ≡ c
truth_inside e = cc

compared_sums : (g : KoreSignature) (v : Valuation) (b : Bool) (o : Comparison) (t u : SymbolicTerm) (n c d : ℤ) → term_instance g v t ≡ whole (n +ℤ c) → term_instance g v u ≡ whole (n +ℤ d) → Says g v b (fixed (beq (compared o c d) b)) (interpreted (whole_comparison o) (next_value (term_instance g v t) (next_value (term_instance g v u) no_values)) ≡ truth true)
compared_sums g v b o t u n c d p q =
    let A : Value → Value → Type 0 = λ x y. interpreted (whole_comparison o) (next_value x (next_value y no_values)) ≡ truth true in
    subst (λ x. Says g v b (fixed (beq (compared o c d) b)) (A x (term_instance g v u))) (sym p) (subst (λ y. Says g v b (fixed (beq (compared o c d) b)) (A (whole (n +ℤ c)) y)) (sym q)
    (decided_says g v b (compared o c d) (truth (compared o (n +ℤ c) (n +ℤ d)) ≡ truth true)
    (λ e. ap truth (compared_shift o n c d ∙ e))
    (λ e h. absurd (false_true (sym e ∙ sym (compared_shift o n c d) ∙ truth_inside h)))))
  where
    false_true : false ≡ true → ⊥
    false_true h = cc

kept_truths : (g : KoreSignature) (a b : KoreSort) (m n : Value) → HasSort g a m → HasSort g b n → (c : Bool) → sorts_equal a b ≡ c → is_truth_sort g (if c then a else sort_variable []) ≡ true → IsTruth m × IsTruth n
kept_truths g a b m n h k true e i = (is_truth g a m i h, is_truth g a n i (subst (λ s. HasSort g s n) (sym ((sorts_equal-Decides a b).0 e)) k))
kept_truths g a b m n h k false e i = absurd (no_variable (boolean_sort g) (boolean_is_plain g) (first_true (is_boolean_sort g (sort_variable [])) (has_only_truths g (sort_variable [])) i))
  where
    no_variable : (o : Option KoreSort) → ((s : KoreSort) → o ≡ Some s → sorts_equal s (sort_variable []) ≡ false) → is_the o (sort_variable []) ≡ true → ⊥
    no_variable (Some s) f e = false_true (sym (f s refl) ∙ e)
      where
        false_true : false ≡ true → ⊥
        false_true h = cc
    no_variable None f e = cc

opposite_call : (b : Bool) (u w : Value) → signed (not b) (u ≡ w) ↔ signed b (truth (not (values_same u w)) ≡ truth true)
opposite_call b u w = by b (values_same u w) (same_values_decide u w)
  where
    by : (b s : Bool) → Decides s (u ≡ w) → signed (not b) (u ≡ w) ↔ signed b (truth (not s) ≡ truth true)
    by true true d = ((λ n. absurd (n (d.0 refl))), (λ e. absurd (cc)))
    by true false d = ((λ n. refl), (λ e h. absurd (false_true (d.1 h))))
      where
        false_true : false ≡ true → ⊥
        false_true h = cc
    by false true d = ((λ e h. cc), (λ n. d.0 refl))
    by false false d = ((λ e. absurd (false_true (d.1 e))), (λ n. absurd (n refl)))
      where
        false_true : false ≡ true → ⊥
        false_true h = cc

call_says : (g : KoreSignature) (v : Valuation) (h : Hook) (alone b : Bool) (kept : Formula Literal) (ss : KoreSorts) (ms : Seens) → Fits g h ss → HaveSorts g ss (seen_instances g v ms) → AreRight g v ms → CallSays g v h alone b kept ss ms
call_says g v truth_negation alone b kept ss ms f s a = one_seen g v (CallSays g v truth_negation alone b kept) (is_truth_sort g) ss ms (first_true (are_one (is_truth_sort g) ss) (is_truth_sort g f.0) f.1) s a
    (λ x m p i q k. denied m q (is_truth g x (seen_instance g v m) p i))
  where
    denied : (m : Seen) → IsRight g v m → IsTruth (seen_instance g v m) → Says g v b (asked g alone (not b) m) (interpreted truth_negation (next_value (seen_instance g v m) no_values) ≡ truth true)
    denied m q i = subst (λ u. Says g v b (asked g alone (not b) m) (interpreted truth_negation (next_value u no_values) ≡ truth true)) (sym i.1)
        (from_stand g v b (not i.0) (asked g alone (not b) m) (stands_if g v (asked g alone (not b) m) (beq i.0 (not b)) (beq (not i.0) b) (opposite_is i.0 b) (asked_stands g v alone (not b) i.0 m q i.1)))
call_says g v (truth_connective c) alone b kept ss ms f s a = two_seen g v (CallSays g v (truth_connective c) alone b kept) (is_truth_sort g) ss ms (first_true (are_two (is_truth_sort g) ss) (is_truth_sort g f.0) f.1) s a
    (λ x y m n p o i j q w k. of x y m n q w (is_truth g x (seen_instance g v m) p i) (is_truth g y (seen_instance g v n) o j))
  where
    of : (x y : KoreSort) (m n : Seen) → IsRight g v m → IsRight g v n → IsTruth (seen_instance g v m) → IsTruth (seen_instance g v n) → Says g v b (opened_call g (next_sort x (next_sort y no_sorts)) (interpretation (truth_connective c)) (next_seen m (next_seen n none_seen)) alone b kept) (interpreted (truth_connective c) (next_value (seen_instance g v m) (next_value (seen_instance g v n) no_values)) ≡ truth true)
    of x y m n q w i j =
        let F = opened_call g (next_sort x (next_sort y no_sorts)) (interpretation (truth_connective c)) (next_seen m (next_seen n none_seen)) alone b kept in
        subst (λ u. Says g v b F (interpreted (truth_connective c) (next_value u (next_value (seen_instance g v n) no_values)) ≡ truth true)) (sym i.1)
        (subst (λ u. Says g v b F (interpreted (truth_connective c) (next_value (truth i.0) (next_value u no_values)) ≡ truth true)) (sym j.1)
        (from_stand g v b (connected c i.0 j.0) F (connective_says g v c (next_sort x (next_sort y no_sorts)) m n alone b i.0 j.0 kept q w i.1 j.1)))
call_says g v (whole_comparison o) alone b kept ss ms f s a = two_seen g v (CallSays g v (whole_comparison o) alone b kept) (is_number_sort g) ss ms (first_true (are_two (is_number_sort g) ss) (is_truth_sort g f.0) f.1) s a
    (λ x y m n p w i j q z k. of x y m n q z k)
  where
    of : (x y : KoreSort) (m n : Seen) → IsRight g v m → IsRight g v n → CallSays g v (whole_comparison o) alone b kept (next_sort x (next_sort y no_sorts)) (next_seen m (next_seen n none_seen))
    of x y (seen t p c ms) (seen u q d ns) i j k = with_sums g v b o kept (interpreted (whole_comparison o) (next_value (term_instance g v t) (next_value (term_instance g v u) no_values)) ≡ truth true) t u (sum_of g t) (sum_of g u) (λ z. sum_is g v t z i.0.given) (λ z. sum_is g v u z j.0.given) (compared_sums g v b o t u) k
call_says g v (whole_arithmetic o) alone b kept ss ms f s a = λ k. k
call_says g v values_equal alone b kept ss ms f s a = two_seen g v (CallSays g v values_equal alone b kept) (λ x. true) ss ms (first_true (are_two (λ x. true) ss) (is_truth_sort g f.0) f.1) s a
    (λ x y m n p o i j q w k. says_the_same g v b (opened_seen g alone b (common_sort (next_sort x (next_sort y no_sorts))) kept m n) (seen_instance g v m ≡ seen_instance g v n) (truth (values_same (seen_instance g v m) (seen_instance g v n)) ≡ truth true) (swapped (equal_call (seen_instance g v m) (seen_instance g v n)))
    (seen_says g v alone b (common_sort (next_sort x (next_sort y no_sorts))) x y kept m n q w i j (kept_truths g x y (seen_instance g v m) (seen_instance g v n) i j (sorts_equal x y) refl)
    (says_the_same g v b kept (truth (values_same (seen_instance g v m) (seen_instance g v n)) ≡ truth true) (seen_instance g v m ≡ seen_instance g v n) (equal_call (seen_instance g v m) (seen_instance g v n)) k)))
  where
    swapped : {A B : Type 0} → A ↔ B → B ↔ A
    swapped e = (e.1, e.0)
call_says g v values_different alone b kept ss ms f s a = two_seen g v (CallSays g v values_different alone b kept) (λ x. true) ss ms (first_true (are_two (λ x. true) ss) (is_truth_sort g f.0) f.1) s a
    (λ x y m n p o i j q w k.
    let e = opposite_call b (seen_instance g v m) (seen_instance g v n) in
    let z : Says g v (not b) (opened_seen g alone (not b) (common_sort (next_sort x (next_sort y no_sorts))) kept m n) (seen_instance g v m ≡ seen_instance g v n) = seen_says g v alone (not b) (common_sort (next_sort x (next_sort y no_sorts))) x y kept m n q w i j (kept_truths g x y (seen_instance g v m) (seen_instance g v n) i j (sorts_equal x y) refl) ((λ h. e.1 (k.0 h)), (λ h. k.1 (e.0 h))) in
    ((λ h. e.0 (z.0 h)), (λ h. z.1 (e.1 h))))

-- ---- terms are seen as they are

kept_is : (g : KoreSignature) (v : Valuation) (t : SymbolicTerm) → SaysTruth g v t (λ alone b kept. kept)
kept_is g v t = λ alone b kept k. k

mutual
  pub value_right : (g : KoreSignature) (v : Valuation) (u : Value) → IsRight g v (seen_value u)
  value_right g v (constructed c us) = (record { truth_is = kept_is g v (known (constructed c us)); head_is = (tt, ap (constructed c) (sym (values_seen g v us))); given = tt }, values_right g v us)
  value_right g v (truth a) = (record { truth_is = λ alone b kept k. decided_says g v b a (truth a ≡ truth true) (λ e. ap truth e) (λ e h. absurd (false_true (sym e ∙ truth_inside h))); head_is = tt; given = tt }, tt)
    where
      false_true : false ≡ true → ⊥
      false_true h = cc
  value_right g v (whole n) = (record { truth_is = kept_is g v (known (whole n)); head_is = tt; given = tt }, tt)
  value_right g v (token s x) = (record { truth_is = kept_is g v (known (token s x)); head_is = tt; given = tt }, tt)

  pub values_right : (g : KoreSignature) (v : Valuation) (us : Values) → AreRight g v (seen_values us)
  values_right g v no_values = tt
  values_right g v (next_value u us) = (value_right g v u, values_right g v us)

  pub value_seen : (g : KoreSignature) (v : Valuation) (u : Value) → seen_instance g v (seen_value u) ≡ u
  value_seen g v (constructed c us) = refl
  value_seen g v (truth a) = refl
  value_seen g v (whole n) = refl
  value_seen g v (token s x) = refl

  pub values_seen : (g : KoreSignature) (v : Valuation) (us : Values) → seen_instances g v (seen_values us) ≡ us
  values_seen g v no_values = refl
  values_seen g v (next_value u us) = ap₂ next_value (value_seen g v u) (values_seen g v us)

headed_truth : (g : KoreSignature) (v : Valuation) (f : Text) (ts : SymbolicTerms) (m : SymbolMeaning) → meaning_of g f ≡ m → HaveSorts g (places_of g f) (term_instances g v ts) → seen_instances g v (seen_terms g ts) ≡ term_instances g v ts → AreRight g v (seen_terms g ts)
    → SaysTruth g v (headed f ts) (opened_call g (places_of g f) m (seen_terms g ts))
headed_truth g v f ts (interpretation h) m s e a = λ alone b kept k.
    let F = opened_call g (places_of g f) (interpretation h) (seen_terms g ts) alone b kept in
    let same : term_instance g v (headed f ts) ≡ interpreted h (seen_instances g v (seen_terms g ts)) = ap (λ n. applied n f (term_instances g v ts)) m ∙ ap (interpreted h) (sym e) in
    subst (λ u. Says g v b F (u ≡ truth true)) (sym same)
    (call_says g v h alone b kept (places_of g f) (seen_terms g ts) (fits_places g f h m) (subst (HaveSorts g (places_of g f)) (sym e) s) a
    (subst (λ u. Says g v b kept (u ≡ truth true)) same k))
headed_truth g v f ts injection m s e a = kept_is g v (headed f ts)
headed_truth g v f ts construction m s e a = kept_is g v (headed f ts)
headed_truth g v f ts foreign m s e a = kept_is g v (headed f ts)

headed_head : (g : KoreSignature) (v : Valuation) (f : Text) (ts : SymbolicTerms) (c : Bool) → is_construction (meaning_of g f) ≡ c → seen_instances g v (seen_terms g ts) ≡ term_instances g v ts → SaysHead g v (headed f ts) (constructor_if c f) (seen_terms g ts)
headed_head g v f ts true c e = (tt, ap (λ m. applied m f (term_instances g v ts)) (construction_is_meant (meaning_of g f) c) ∙ ap (constructed f) (sym e))
headed_head g v f ts false c e = tt

mutual
  pub term_right : (g : KoreSignature) (v : Valuation) (t : SymbolicTerm) → GivesSorts g v (term_variables t) → IsGivenSorts g v t → IsRight g v (seen_term g t)
  term_right g v (unknown x) h s = (record { truth_is = kept_is g v (unknown x); head_is = tt; given = h }, tt)
  term_right g v (offset x c) h s = (record { truth_is = kept_is g v (offset x c); head_is = tt; given = h }, tt)
  term_right g v (known u) h s = value_right g v u
  term_right g v (headed f ts) h s = (
    record {
      truth_is = headed_truth g v f ts (meaning_of g f) refl s.0 (terms_seen g v ts) (terms_right g v ts h s.1);
      head_is = headed_head g v f ts (is_construction (meaning_of g f)) refl (terms_seen g v ts);
      given = h;
    },
    terms_right g v ts h s.1,
  )

  pub terms_right : (g : KoreSignature) (v : Valuation) (ts : SymbolicTerms) → GivesSorts g v (all_term_variables ts) → AreGivenSorts g v ts → AreRight g v (seen_terms g ts)
  terms_right g v no_terms h s = tt
  terms_right g v (next_term t ts) h s = (term_right g v t (all_first (λ x. HasSort g x.sort (v x.name)) (term_variables t) (all_term_variables ts) h) s.0, terms_right g v ts (all_second (λ x. HasSort g x.sort (v x.name)) (term_variables t) (all_term_variables ts) h) s.1)

  pub term_seen : (g : KoreSignature) (v : Valuation) (t : SymbolicTerm) → seen_instance g v (seen_term g t) ≡ term_instance g v t
  term_seen g v (unknown x) = refl
  term_seen g v (offset x c) = refl
  term_seen g v (known u) = value_seen g v u
  term_seen g v (headed f ts) = refl

  pub terms_seen : (g : KoreSignature) (v : Valuation) (ts : SymbolicTerms) → seen_instances g v (seen_terms g ts) ≡ term_instances g v ts
  terms_seen g v no_terms = refl
  terms_seen g v (next_term t ts) = ap₂ next_value (term_seen g v t) (terms_seen g v ts)

-- ---- equalities and Boolean expressions

pub opened_same_says : (g : KoreSignature) (v : Valuation) (alone b : Bool) (s : KoreSort) (t u : SymbolicTerm) → GivesSorts g v (term_variables t) → GivesSorts g v (term_variables u) → IsGivenSorts g v t → IsGivenSorts g v u → HasSort g s (term_instance g v t) → HasSort g s (term_instance g v u) → Says g v b (opened_same g alone b s t u) (term_instance g v t ≡ term_instance g v u)
opened_same_says g v alone b s t u i j m n h k =
    let p = term_seen g v t in
    let q = term_seen g v u in
    subst (λ x. Says g v b (opened_same g alone b s t u) (x ≡ term_instance g v u)) p
    (subst (λ y. Says g v b (opened_same g alone b s t u) (seen_instance g v (seen_term g t) ≡ y)) q
    (seen_says g v alone b s s s (equality_fact b s t u) (seen_term g t) (seen_term g u) (term_right g v t i m) (term_right g v u j n) (subst (HasSort g s) (sym p) h) (subst (HasSort g s) (sym q) k)
    (λ e. (is_truth g s (seen_instance g v (seen_term g t)) e (subst (HasSort g s) (sym p) h), is_truth g s (seen_instance g v (seen_term g u)) e (subst (HasSort g s) (sym q) k)))
    (subst (λ x. Says g v b (equality_fact b s t u) (x ≡ seen_instance g v (seen_term g u))) (sym p) (subst (λ y. Says g v b (equality_fact b s t u) (term_instance g v t ≡ y)) (sym q) (equality_says g v b s t u)))))

pub opened_truth_says : (g : KoreSignature) (v : Valuation) (alone b : Bool) (t : SymbolicTerm) → GivesSorts g v (term_variables t) → IsGivenSorts g v t → Says g v b (opened_truth g alone b t) (term_instance g v t ≡ truth true)
opened_truth_says g v alone b t i m = subst (λ x. Says g v b (opened_truth g alone b t) (x ≡ truth true)) (term_seen g v t) (asked_says g v alone b (seen_term g t) (term_right g v t i m))
