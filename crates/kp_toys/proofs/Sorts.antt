-- Which values have which sorts in the example.
use Rattle.std.proofs.Common.{◌≡◌, refl, sym, ◌∙◌, ap, subst, Bool, true, false, not, ◌&&◌, List, [], ◌∷◌, ℤ, ◌↔◌, arith}
use Rattle.std.specs.Prelude.{codes, Some}
use Rattle.std.specs.List.{Contains, find, list_all}
use Rattle.std.specs.Str.{bytes_eq}
use Rattle.kp_kore.specs.Syntax.{Text, KoreSort, SymbolDeclaration}
use Rattle.kp_kore.specs.Attributes.{sorts_equal}
use Rattle.kp_kore.specs.Signature.{IsBelow, itself, through, SymbolMeaning, symbol_meaning, construction, integer_sort, boolean_sort, is_token_sort}
use Rattle.kp_kore.specs.Value.{no_values, next_value, Value, whole, truth, token, constructed, Values, HasSort}
use Rattle.kp_kore.proofs.SameLemmas.{same_sorts_decide}
use Rattle.kp_kore.proofs.InstanceLemmas.{first_true, second_true}
use Rattle.kp_kore.proofs.TurnLemmas.{of_member}
use Rattle.kp_kore.specs.Instance.{Valuation}
use Rattle.kp_kore.specs.Steps.{Fires, NoneFires}
use Rattle.kp_toys.specs.ToysTheory.{toys, num_rule}
use Rattle.kp_toys.specs.ToysValues.{num_value, nil_value}
use Rattle.kp_toys.proofs.Matching.{differ, other_head}
use Rattle.kp_toys.specs.Toys.{sort_int, sort_s, sort_e, sort_bool, plain_sort}
use Rattle.kp_toys.specs.ToysTheory.{toys_signature}

false_true : false ≡ true → ⊥
false_true e = cc

sorts_differ : (s t : KoreSort) → sorts_equal s t ≡ false → s ≡ t → ⊥
sorts_differ s t h e = false_true (sym h ∙ (same_sorts_decide s t).1 e)

-- the one pair of the example: SortInt below SortE
pub the_pair : (a b : KoreSort) → Contains toys_signature.subsorts (a, b) → (a ≡ sort_int) × (b ≡ sort_e)
the_pair a b c = of_member (λ (p : KoreSort × KoreSort). (p.0 ≡ sort_int) × (p.1 ≡ sort_e)) toys_signature.subsorts (a, b) ((refl, refl), tt) c

-- nothing is below a sort other than SortE but itself
below_itself : (a b : KoreSort) → sorts_equal b sort_e ≡ false → IsBelow toys_signature.subsorts a b → a ≡ b
below_itself a b h (itself s) = refl
below_itself a b h (through s c u pair rest) =
    let e : c ≡ u = below_itself c u h rest in
    absurd (sorts_differ u sort_e h (sym e ∙ (the_pair s c pair).1))

-- ---- what a search found

found_passes : {X : Type 0} (p q : X → Bool) (xs : List X) (x : X) → list_all p xs ≡ true → find q xs ≡ Some x → p x ≡ true
found_passes p q [] x h e = absurd (cc)
found_passes p q (y ∷ ys) x h e = by_test (q y) refl (found_passes p q ys x (second_true (p y) (list_all p ys) h))
  where
    by_test : (b : Bool) → q y ≡ b → (find q ys ≡ Some x → p x ≡ true) → p x ≡ true
    by_test true t rest = let f : Some y ≡ Some x = rw t at e in subst (λ z. p z ≡ true) (some_inside f) (first_true (p y) (list_all p ys) h)
      where
        some_inside : Some y ≡ Some x → y ≡ x
        some_inside f = cc
    by_test false t rest = rest (rw t at e)

-- ---- the values of SortInt

abbrev is_construction : SymbolMeaning → Bool
is_construction construction = true
is_construction _ = false

-- a constructor of another result sort, or no constructor
abbrev makes_no : KoreSort → SymbolDeclaration → Bool
makes_no s d = not (is_construction (symbol_meaning toys_signature d) && sorts_equal d.result s)

not_both : (a b : Bool) → not (a && b) ≡ true → a ≡ true → b ≡ true → ⊥
not_both true true n e f = false_true n
not_both true false n e f = false_true f
not_both false b n e f = false_true e

-- no symbol makes whole numbers
none_makes_int : list_all (makes_no sort_int) toys_signature.symbols ≡ true
none_makes_int = refl

pub int_values : (u : Value) → HasSort toys_signature sort_int u → (k : ℤ) × (u ≡ whole k)
int_values (whole k) h = (k, refl)
int_values (truth b) h = absurd (sorts_differ sort_bool sort_int refl (some_inside sort_bool h.0 h.1 ∙ below_itself h.0 sort_int refl h.2))
  where
    some_inside : (s t : KoreSort) → boolean_sort toys_signature ≡ Some t → sort_bool ≡ t
    some_inside s t e = cc
int_values (token t x) h = absurd (false_true (subst (λ s. is_token_sort toys_signature s ≡ true) (below_itself h.0 sort_int refl h.2) h.1.1))
int_values (constructed c us) h =
    let own : KoreSort = h.0.0 in
    let d : SymbolDeclaration = h.0.1.0 in
    absurd (not_both (is_construction (symbol_meaning toys_signature d)) (sorts_equal d.result sort_int)
    (found_passes (makes_no sort_int) (λ e. bytes_eq e.name c) toys_signature.symbols d none_makes_int h.0.1.1)
    (ap is_construction h.0.1.2)
    ((same_sorts_decide d.result sort_int).1 (h.0.1.3 ∙ below_itself own sort_int refl h.0.2)))

pub int_values_exactly : (u : Value) → HasSort toys_signature sort_int u ↔ ((k : ℤ) × (u ≡ whole k))
int_values_exactly u = (int_values u, (λ p. subst (HasSort toys_signature sort_int) (sym p.1) (sort_int, refl, itself sort_int)))

-- ---- what a value hasn't

-- a whole number is no SortS, and done no SortInt
pub int_is_no_state : (k : ℤ) → ¬ HasSort toys_signature sort_s (whole k)
int_is_no_state k h = sorts_differ sort_int sort_s refl (int_inside h.0 h.1 ∙ below_itself h.0 sort_s refl h.2)
  where
    int_inside : (t : KoreSort) → integer_sort toys_signature ≡ Some t → sort_int ≡ t
    int_inside t e = cc

pub made_is_no_int : (c : Text) (us : Values) → ¬ HasSort toys_signature sort_int (constructed c us)
made_is_no_int c us h = no_whole (int_values (constructed c us) h)
  where
    no_whole : ((k : ℤ) × (constructed c us ≡ whole k)) → ⊥
    no_whole p = differ (constructed c us) (whole p.0) refl p.1

-- a whole number is a SortE
pub int_is_expression : (k : ℤ) → HasSort toys_signature sort_e (whole k)
int_is_expression k = (sort_int, refl, through sort_int sort_e sort_e (0, omega arith, refl) (itself sort_e))

-- nothing has a sort that isn't declared

pub undeclared_has_none : (u : Value) → ¬ HasSort toys_signature (plain_sort (codes "SortNope")) u
undeclared_has_none (whole k) h = sorts_differ sort_int (plain_sort (codes "SortNope")) refl (int_inside h.0 h.1 ∙ below_itself h.0 (plain_sort (codes "SortNope")) refl h.2)
  where
    int_inside : (t : KoreSort) → integer_sort toys_signature ≡ Some t → sort_int ≡ t
    int_inside t e = cc
undeclared_has_none (truth b) h = sorts_differ sort_bool (plain_sort (codes "SortNope")) refl (bool_inside h.0 h.1 ∙ below_itself h.0 (plain_sort (codes "SortNope")) refl h.2)
  where
    bool_inside : (t : KoreSort) → boolean_sort toys_signature ≡ Some t → sort_bool ≡ t
    bool_inside t e = cc
undeclared_has_none (token t x) h = false_true (subst (λ s. is_token_sort toys_signature s ≡ true) (below_itself h.0 (plain_sort (codes "SortNope")) refl h.2) h.1.1)
undeclared_has_none (constructed c us) h =
    not_both (is_construction (symbol_meaning toys_signature h.0.1.0)) (sorts_equal h.0.1.0.result (plain_sort (codes "SortNope")))
    (found_passes (makes_no (plain_sort (codes "SortNope"))) (λ e. bytes_eq e.name c) toys_signature.symbols h.0.1.0 refl h.0.1.1)
    (ap is_construction h.0.1.2)
    ((same_sorts_decide h.0.1.0.result (plain_sort (codes "SortNope"))).1 (h.0.1.3 ∙ below_itself h.0.0 (plain_sort (codes "SortNope")) refl h.0.2))

-- ---- num fires on whole numbers alone

pub num_keeps_nil : NoneFires toys (num_value nil_value)
num_keeps_nil = (
  (λ f. other_head _ (num_value nil_value) (λ v. refl) f),
  (
    (λ f. other_head _ (num_value nil_value) (λ v. refl) f),
    (
      (λ f. other_head _ (num_value nil_value) (λ v. refl) f),
      (
        (λ f. no_number f.0 (f.0 (codes "N")) f.1.sorts.0 f.1.matches),
        (
          (λ f. other_head _ (num_value nil_value) (λ v. refl) f),
          (
            (λ f. other_head _ (num_value nil_value) (λ v. refl) f),
            (
              (λ f. f),
              (
                (λ f. other_head _ (num_value nil_value) (λ v. refl) f),
                (
                  (λ f. other_head _ (num_value nil_value) (λ v. refl) f),
                  ((λ f. other_head _ (num_value nil_value) (λ v. refl) f), tt),
                ),
              ),
            ),
          ),
        ),
      ),
    ),
  ),
)
  where
    under_num : (u : Value) → constructed (codes "Lblnum") (next_value u no_values) ≡ num_value nil_value → u ≡ nil_value
    under_num u e = cc

    no_number : (v : Valuation) (u : Value) → HasSort toys_signature sort_int u → constructed (codes "Lblnum") (next_value u no_values) ≡ num_value nil_value → ⊥
    no_number v u h e = made_is_no_int (codes "Lblnil") no_values (subst (HasSort toys_signature sort_int) (under_num u e) h)

pub num_fires_on_numbers : (k : ℤ) → Fires toys_signature num_rule.body (num_value (whole k))
num_fires_on_numbers k = ((λ x. whole k), record { sorts = ((sort_int, refl, itself sort_int), tt); matches = refl; condition = tt })
