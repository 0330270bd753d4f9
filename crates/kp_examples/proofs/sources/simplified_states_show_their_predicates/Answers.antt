use Rattle.std.proofs.Common.{[], ◌∷◌, ap, refl}
use Rattle.std.specs.Prelude.{pos, codes}
use Rattle.std.proofs.lemmas.Bool.{ltb-true}
use Rattle.kp_kore.specs.Value.{whole}
use Rattle.kp_toys.specs.Toys.{sort_s, integer}
use Rattle.kp_toys.specs.ToysTheory.{toys_signature}
use Rattle.kp_examples.specs.Weights.{square_below, square_predicate, wide_bound, wide_shown}
use Rattle.kp_examples.specs.Clauses.{square, test}
use Rattle.kp_symbolic.proofs.Digits.{zero_digit}
use Rattle.kp_symbolic.proofs.BitLengths.{has_digits}
use Rattle.kp_examples.proofs.ShownExamples.{is_wide, not_less_shown, predicate_of_one, square_state, is_square, wide_state, zero_is_a_number}
use Rattle.kp_examples.proofs.sources.simplified_states_show_their_predicates.Goals as goal

pub returns-clause-square : goal.returns-clause-square
returns-clause-square c = record {
  state = square_state;
  read = is_square;
  shown = (
    record {
      plain = record { valuation = λ x. whole (pos 0); sorts = (zero_is_a_number, (zero_is_a_number, tt)); are_true = tt };
      none_by_plain = λ m. m.are_true.0 tt;
      shown_are = refl;
    },
    (λ e. cc, predicate_of_one toys_signature sort_s (square_below ∷ []) square_predicate (ap (λ d. test (codes "Lbllt") square (integer d)) zero_digit)),
  );
}

pub returns-clause-wide : goal.returns-clause-wide
returns-clause-wide c = record {
  state = wide_state;
  read = is_wide;
  shown = (
    128,
    record { weighs = (127, has_digits _ 126 refl refl, refl); above = ltb-true 126 128 refl },
    (refl, predicate_of_one toys_signature sort_s (wide_bound ∷ []) wide_shown refl),
  );
}

pub returns-clause-not_less : goal.returns-clause-not_less
returns-clause-not_less c = not_less_shown
