-- The example definition means the example's theory.
use Rattle.std.proofs.Common.{◌≡◌, refl, sym, subst, Bool, true, false, not, List, [], ◌∷◌, arith}
use Rattle.std.specs.Prelude.{codes}
use Rattle.std.specs.List.{AllByRecursion, list_all}
use Rattle.kp_kore.specs.Syntax.{KoreSort, no_sorts, next_sort, KorePattern, application}
use Rattle.kp_kore.specs.Signature.{KoreSignature, IsBelow, itself, through}
use Rattle.kp_kore.specs.Parts.{subpatterns}
use Rattle.kp_kore.specs.Foreign.{InjectionsSplit, Meet, SplitsByHeads}
use Rattle.kp_kore.specs.Theory.{IsTheoryOf}
use Rattle.kp_kore.proofs.InstanceLemmas.{first_true, second_true}
use Rattle.kp_toys.specs.Toys.{toys_definition, sort_int, sort_e, dec_axiom, stop_axiom, pick_axiom, sq_axiom, up_axiom, spin_axiom, van_axiom, back_axiom}
use Rattle.kp_toys.specs.ToysTheory.{toys, toys_signature}
use Rattle.kp_toys.proofs.Sorts.{the_pair}

-- ---- inj

-- an application with two sort arguments
abbrev has_two_sorts : KorePattern → Bool
has_two_sorts (application f (next_sort s (next_sort t no_sorts)) ps) = true
has_two_sorts _ = false

split_without : (p : KorePattern) → not (has_two_sorts p) ≡ true → InjectionsSplit toys_signature p
split_without (application f no_sorts ps) h = tt
split_without (application f (next_sort s no_sorts) ps) h = tt
split_without (application f (next_sort s (next_sort t no_sorts)) ps) h = absurd (cc)
split_without (application f (next_sort s (next_sort t (next_sort u ss))) ps) h = tt
split_without _ h = tt

all_split_without : (ps : List KorePattern) → list_all (λ p. not (has_two_sorts p)) ps ≡ true → AllByRecursion (InjectionsSplit toys_signature) ps
all_split_without [] h = tt
all_split_without (p ∷ ps) h = (split_without p (first_true (not (has_two_sorts p)) (list_all (λ p. not (has_two_sorts p)) ps) h), all_split_without ps (second_true (not (has_two_sorts p)) (list_all (λ p. not (has_two_sorts p)) ps) h))

-- below is transitive
pub below_through : (pairs : List (KoreSort × KoreSort)) (a b c : KoreSort) → IsBelow pairs a b → IsBelow pairs b c → IsBelow pairs a c
below_through pairs a b c (itself s) below = below
below_through pairs a b c (through s t u pair rest) below = through s t c pair (below_through pairs t u c rest below)

-- a sort that is below the other is itself the meet
pub meet_of_lower : (g : KoreSignature) (a t : KoreSort) → IsBelow g.subsorts t a → Meet g a t
meet_of_lower g a t below = record {
  sort = t;
  below_first = below;
  below_second = itself t;
  heads = λ h. ((λ i. ((i.0, i.1, below_through g.subsorts i.0 t a i.2 below), i)), (λ c. c.1));
}

int_below_expression : IsBelow toys_signature.subsorts sort_int sort_e
int_below_expression = through sort_int sort_e sort_e (0, omega arith, refl) (itself sort_e)

-- what is below SortE has SortInt below it
int_below_each : (a u : KoreSort) → u ≡ sort_e → IsBelow toys_signature.subsorts a u → IsBelow toys_signature.subsorts sort_int a
int_below_each a u e (itself s) = subst (IsBelow toys_signature.subsorts sort_int) (sym e) int_below_expression
int_below_each a u e (through s c t pair rest) = subst (IsBelow toys_signature.subsorts sort_int) (sym (the_pair s c pair).0) (itself sort_int)

pub int_splits : SplitsByHeads toys_signature sort_int sort_e
int_splits a below h common = meet_of_lower toys_signature a sort_int (int_below_each a sort_e refl below)

-- ---- the rules

false_true : false ≡ true → ⊥
false_true e = cc

pub toys_means : IsTheoryOf toys_definition (codes "TOYS") toys
toys_means = record {
  signature = refl;
  rules = (
    record { id = refl; priority = refl; body = record { shape = refl; no_parameters = refl; no_foreign_symbol = refl; left_repeats = refl; left_uninterpreted = refl; condition_variables = ((refl), tt); condition_quantifiers = ((refl), tt); condition_floors = ((refl), tt); literals = refl; depths = refl; priority = refl; no_set_variable = refl; injections = all_split_without (subpatterns dec_axiom) refl; lone_variable = tt } },
    (
      record { id = refl; priority = refl; body = record { shape = refl; no_parameters = refl; no_foreign_symbol = refl; left_repeats = refl; left_uninterpreted = refl; condition_variables = ((refl), tt); condition_quantifiers = ((refl), tt); condition_floors = ((refl), tt); literals = refl; depths = refl; priority = refl; no_set_variable = refl; injections = all_split_without (subpatterns stop_axiom) refl; lone_variable = tt } },
      (
        record { id = refl; priority = refl; body = record { shape = refl; no_parameters = refl; no_foreign_symbol = refl; left_repeats = refl; left_uninterpreted = refl; condition_variables = tt; condition_quantifiers = tt; condition_floors = tt; literals = refl; depths = refl; priority = refl; no_set_variable = refl; injections = all_split_without (subpatterns pick_axiom) refl; lone_variable = tt } },
        (
          record { id = refl; priority = refl; body = record { shape = refl; no_parameters = refl; no_foreign_symbol = refl; left_repeats = refl; left_uninterpreted = refl; condition_variables = tt; condition_quantifiers = tt; condition_floors = tt; literals = refl; depths = refl; priority = refl; no_set_variable = refl; injections = (tt, (tt, ((λ e. int_splits), (tt, (tt, tt))))); lone_variable = tt } },
          (
            record { id = refl; priority = refl; body = record { shape = refl; no_parameters = refl; no_foreign_symbol = refl; left_repeats = refl; left_uninterpreted = refl; condition_variables = ((refl), tt); condition_quantifiers = ((refl), tt); condition_floors = ((refl), tt); literals = refl; depths = refl; priority = refl; no_set_variable = refl; injections = all_split_without (subpatterns sq_axiom) refl; lone_variable = tt } },
            (
              record { id = refl; priority = refl; body = record { shape = refl; no_parameters = refl; no_foreign_symbol = refl; left_repeats = refl; left_uninterpreted = refl; condition_variables = tt; condition_quantifiers = tt; condition_floors = tt; literals = refl; depths = refl; priority = refl; no_set_variable = refl; injections = all_split_without (subpatterns up_axiom) refl; lone_variable = tt } },
              (
                record { id = refl; priority = refl; body = (refl, (λ r i. false_true i.no_foreign_symbol)) },
                (
                  record { id = refl; priority = refl; body = record { shape = refl; no_parameters = refl; no_foreign_symbol = refl; left_repeats = refl; left_uninterpreted = refl; condition_variables = tt; condition_quantifiers = tt; condition_floors = tt; literals = refl; depths = refl; priority = refl; no_set_variable = refl; injections = all_split_without (subpatterns spin_axiom) refl; lone_variable = tt } },
                  (
                    record { id = refl; priority = refl; body = record { shape = refl; no_parameters = refl; no_foreign_symbol = refl; left_repeats = refl; left_uninterpreted = refl; condition_variables = tt; condition_quantifiers = tt; condition_floors = tt; literals = refl; depths = refl; priority = refl; no_set_variable = refl; injections = all_split_without (subpatterns van_axiom) refl; lone_variable = tt } },
                    (
                      record { id = refl; priority = refl; body = record { shape = refl; no_parameters = refl; no_foreign_symbol = refl; left_repeats = refl; left_uninterpreted = refl; condition_variables = tt; condition_quantifiers = tt; condition_floors = tt; literals = refl; depths = refl; priority = refl; no_set_variable = refl; injections = all_split_without (subpatterns back_axiom) refl; lone_variable = tt } },
                      tt,
                    ),
                  ),
                ),
              ),
            ),
          ),
        ),
      ),
    ),
  );
}
