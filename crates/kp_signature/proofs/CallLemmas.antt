-- A call of an interpreted symbol on values of its arguments' sorts has the symbol's result sort.
use Rattle.std.proofs.Common.{◌≡◌, sym, subst, Bool, true, not, ℤ}
use Rattle.kp_kore.specs.Syntax.{KoreSort, KoreSorts, no_sorts, next_sort}
use Rattle.kp_kore.specs.Hooks.{Hook, whole_arithmetic, whole_comparison, truth_connective, truth_negation, values_equal, values_different}
use Rattle.kp_kore.specs.Signature.{KoreSignature, integer_sort, boolean_sort, is_integer_sort, is_boolean_sort, has_only_numbers, has_only_truths, is_number_sort, is_truth_sort, are_two, are_one, fits_hook, itself}
use Rattle.kp_kore.specs.Value.{Value, whole, truth, Values, no_values, next_value, HasSort, HaveSorts, values_same}
use Rattle.kp_kore.specs.Interpretation.{computed, compared, connected, interpreted}
use Rattle.kp_kore.proofs.InstanceLemmas.{first_true, second_true}
use Rattle.kp_signature.proofs.SortLemmas.{is_that_sort}
use Rattle.kp_signature.proofs.NumberLemmas.{number_value, truth_value}

-- what holds of each two values of two sorts that pass a test
two_values : (g : KoreSignature) (P : Values → Type 0) (test : KoreSort → Bool) (ss : KoreSorts) (us : Values) → are_two test ss ≡ true → HaveSorts g ss us →
    ((a b : KoreSort) (u w : Value) → test a ≡ true → test b ≡ true → HasSort g a u → HasSort g b w → P (next_value u (next_value w no_values))) → P us
two_values g P test no_sorts us e h all = absurd (cc)
two_values g P test (next_sort a no_sorts) us e h all = absurd (cc)
two_values g P test (next_sort a (next_sort b (next_sort c ss))) us e h all = absurd (cc)
two_values g P test (next_sort a (next_sort b no_sorts)) no_values e h all = absurd h
two_values g P test (next_sort a (next_sort b no_sorts)) (next_value u no_values) e h all = absurd h.1
two_values g P test (next_sort a (next_sort b no_sorts)) (next_value u (next_value w (next_value x us))) e h all = absurd h.1.1
two_values g P test (next_sort a (next_sort b no_sorts)) (next_value u (next_value w no_values)) e h all =
    all a b u w (first_true (test a) (test b) e) (second_true (test a) (test b) e) h.0 h.1.0

one_value : (g : KoreSignature) (P : Values → Type 0) (test : KoreSort → Bool) (ss : KoreSorts) (us : Values) → are_one test ss ≡ true → HaveSorts g ss us →
    ((a : KoreSort) (u : Value) → test a ≡ true → HasSort g a u → P (next_value u no_values)) → P us
one_value g P test no_sorts us e h all = absurd (cc)
one_value g P test (next_sort a (next_sort b ss)) us e h all = absurd (cc)
one_value g P test (next_sort a no_sorts) no_values e h all = absurd h
one_value g P test (next_sort a no_sorts) (next_value u (next_value w us)) e h all = absurd h.1
one_value g P test (next_sort a no_sorts) (next_value u no_values) e h all = all a u e h.0

number_of_its_sort : (g : KoreSignature) (s : KoreSort) (n : ℤ) → is_number_sort g s ≡ true → HasSort g s (whole n)
number_of_its_sort g s n e = (s, is_that_sort (integer_sort g) s (first_true (is_integer_sort g s) (has_only_numbers g s) e), itself s)

truth_of_its_sort : (g : KoreSignature) (s : KoreSort) (b : Bool) → is_truth_sort g s ≡ true → HasSort g s (truth b)
truth_of_its_sort g s b e = (s, is_that_sort (boolean_sort g) s (first_true (is_boolean_sort g s) (has_only_truths g s) e), itself s)

-- each number, and each truth value, gives what holds of each value of the sort
at_number : (g : KoreSignature) (P : Value → Type 0) (s : KoreSort) (u : Value) → is_number_sort g s ≡ true → HasSort g s u → ((n : ℤ) → P (whole n)) → P u
at_number g P s u e h all = let n = number_value g s u e h in subst P (sym n.1) (all n.0)

at_truth : (g : KoreSignature) (P : Value → Type 0) (s : KoreSort) (u : Value) → is_truth_sort g s ≡ true → HasSort g s u → ((b : Bool) → P (truth b)) → P u
at_truth g P s u e h all = let b = truth_value g s u e h in subst P (sym b.1) (all b.0)

abbrev GivesResult : KoreSignature → Hook → KoreSort → Values → Type 0
GivesResult g h result us = HasSort g result (interpreted h us)

pub call_is_sorted : (g : KoreSignature) (h : Hook) (ss : KoreSorts) (result : KoreSort) (us : Values) → fits_hook g h ss result ≡ true → HaveSorts g ss us → HasSort g result (interpreted h us)
call_is_sorted g (whole_arithmetic k) ss result us e h =
    two_values g (GivesResult g (whole_arithmetic k) result) (is_number_sort g) ss us (first_true (are_two (is_number_sort g) ss) (is_number_sort g result) e) h (λ a b u w p q i j.
    at_number g (λ x. GivesResult g (whole_arithmetic k) result (next_value x (next_value w no_values))) a u p i (λ m.
    at_number g (λ y. GivesResult g (whole_arithmetic k) result (next_value (whole m) (next_value y no_values))) b w q j (λ n.
    number_of_its_sort g result (computed k m n) (second_true (are_two (is_number_sort g) ss) (is_number_sort g result) e))))
call_is_sorted g (whole_comparison k) ss result us e h =
    two_values g (GivesResult g (whole_comparison k) result) (is_number_sort g) ss us (first_true (are_two (is_number_sort g) ss) (is_truth_sort g result) e) h (λ a b u w p q i j.
    at_number g (λ x. GivesResult g (whole_comparison k) result (next_value x (next_value w no_values))) a u p i (λ m.
    at_number g (λ y. GivesResult g (whole_comparison k) result (next_value (whole m) (next_value y no_values))) b w q j (λ n.
    truth_of_its_sort g result (compared k m n) (second_true (are_two (is_number_sort g) ss) (is_truth_sort g result) e))))
call_is_sorted g (truth_connective k) ss result us e h =
    two_values g (GivesResult g (truth_connective k) result) (is_truth_sort g) ss us (first_true (are_two (is_truth_sort g) ss) (is_truth_sort g result) e) h (λ a b u w p q i j.
    at_truth g (λ x. GivesResult g (truth_connective k) result (next_value x (next_value w no_values))) a u p i (λ m.
    at_truth g (λ y. GivesResult g (truth_connective k) result (next_value (truth m) (next_value y no_values))) b w q j (λ n.
    truth_of_its_sort g result (connected k m n) (second_true (are_two (is_truth_sort g) ss) (is_truth_sort g result) e))))
call_is_sorted g truth_negation ss result us e h =
    one_value g (GivesResult g truth_negation result) (is_truth_sort g) ss us (first_true (are_one (is_truth_sort g) ss) (is_truth_sort g result) e) h (λ a u p i.
    at_truth g (λ x. GivesResult g truth_negation result (next_value x no_values)) a u p i (λ m.
    truth_of_its_sort g result (not m) (second_true (are_one (is_truth_sort g) ss) (is_truth_sort g result) e)))
call_is_sorted g values_equal ss result us e h =
    two_values g (GivesResult g values_equal result) (λ s. true) ss us (first_true (are_two (λ s. true) ss) (is_truth_sort g result) e) h (λ a b u w p q i j.
    truth_of_its_sort g result (values_same u w) (second_true (are_two (λ s. true) ss) (is_truth_sort g result) e))
call_is_sorted g values_different ss result us e h =
    two_values g (GivesResult g values_different result) (λ s. true) ss us (first_true (are_two (λ s. true) ss) (is_truth_sort g result) e) h (λ a b u w p q i j.
    truth_of_its_sort g result (not (values_same u w)) (second_true (are_two (λ s. true) ss) (is_truth_sort g result) e))
