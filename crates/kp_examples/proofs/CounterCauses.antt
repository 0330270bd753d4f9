-- Implications between counters: what stands beside the antecedent, and what is shown.
use Rattle.std.proofs.Common.{◌≡◌, refl, inl, inr, ℕ, zero, suc, ◌+◌, ◌*◌, ◌≤◌, true, false, [], ◌∷◌, arith}
use Rattle.std.specs.Prelude.{pos, codes}
use Rattle.std.proofs.lemmas.Bool.{ltb-true}
use Rattle.std.proofs.lemmas.Nat.{pow_pos}
use Rattle.std.proofs.lemmas.List.Elements.{Contains-get_or}
use Rattle.kp_kore.specs.Value.{whole, constructed, no_values, next_value}
use Rattle.kp_toys.specs.ToysTheory.{toys_signature}
use Rattle.kp_symbolic.specs.Terms.{unknown}
use Rattle.kp_symbolic.specs.Solving.{finished}
use Rattle.kp_symbolic.specs.Sources.{TermsMeet, all_parts}
use Rattle.kp_symbolic.specs.Weights.{Weight, bits, literals, product, IsBitLength}
use Rattle.kp_symbolic.specs.Shown.{unknown_clauses, IsSmall}
use Rattle.kp_symbolic.specs.Endings.{IsAntecedent, IsConsequent, IsShownOfImplication, IsEasyImplication, consequent_shapes}
use Rattle.kp_examples.specs.Clauses.{x_name, y_name, alone}
use Rattle.kp_examples.specs.Weights.{square_predicate, squared_below}
use Rattle.kp_examples.proofs.ShownExamples.{none_contained, zero_is_a_number}
use Rattle.kp_examples.specs.Causes.{some_counter, some_odd_counter, counter_of_x, counter_less_one, counter_beside, x_state, less_state, y_put, square_not_below}

false_true : false ≡ true → ⊥
false_true e = cc

x_antecedent : IsAntecedent toys_signature counter_of_x some_odd_counter x_state
x_antecedent = record { read = _; is_read = record { opened = _; is_opened = refl; solving = finished _ refl }; term = refl; sort = refl; clauses = refl; variables = refl }

odd_consequent : IsConsequent toys_signature some_odd_counter (counter_beside (alone (squared_below (unknown y_name))))
odd_consequent = record { term = _; is_term = refl; is = refl }

odd_meets : TermsMeet toys_signature x_state.term (counter_beside (alone (squared_below (unknown y_name)))).left
odd_meets = record {
  value = constructed (codes "Lblcount") (next_value (whole (pos 0)) no_values);
  of_state = λ z. whole (pos 0);
  of_rule = λ z. whole (pos 0);
  first = (refl, ((refl, zero_is_a_number), tt));
  second = (refl, ((refl, zero_is_a_number), tt));
}

pub opposite_shown : IsShownOfImplication toys_signature counter_of_x some_odd_counter (unknown_clauses square_not_below)
opposite_shown = record {
  state = x_state;
  antecedent = x_antecedent;
  rules = counter_beside (alone (squared_below (unknown y_name))) ∷ [];
  beside = (odd_consequent, odd_meets);
  put = y_put (unknown x_name);
  match = record { made = (inr (record { part = unknown x_name; among = Contains-get_or (all_parts x_state (counter_beside (alone (squared_below (unknown y_name))) ∷ [])) 1 (unknown x_name) (ltb-true 1 10 refl); is = refl }), tt); solved = ((refl, tt), tt) };
  given = (((λ i e. cc), tt), tt);
  shown = (
    record { some = λ e. cc; once = (none_contained _, tt); rough = (refl, tt); sourced = ((inr (inr (inl (inl (inl (inl (inl (inl refl))))))), tt), tt) },
    record { valuation = λ z. whole (pos 0); sorts = (zero_is_a_number, tt); plain = tt; asked = λ e. inl (record { sorts = (zero_is_a_number, tt); match = (refl, tt); some = inl refl; others = (inl refl, tt) }) },
  );
}

pub square_shown : IsShownOfImplication toys_signature counter_of_x some_odd_counter (unknown_clauses square_predicate)
unfolding opposite_shown
square_shown = record {
  state = x_state;
  antecedent = x_antecedent;
  rules = counter_beside (alone (squared_below (unknown y_name))) ∷ [];
  beside = (odd_consequent, odd_meets);
  put = y_put (unknown x_name);
  match = opposite_shown.match;
  given = opposite_shown.given;
  shown = (
    record { some = λ e. cc; once = (none_contained _, tt); rough = (refl, tt); sourced = ((inr (inr (inl (inl (inl (inl (inl (inl refl))))))), tt), tt) },
    opposite_shown.shown.1,
  );
}

-- ---- count(X - 1) and some count(Y)

less_antecedent : IsAntecedent toys_signature counter_less_one some_counter less_state
less_antecedent = record { read = _; is_read = record { opened = _; is_opened = refl; solving = finished _ refl }; term = refl; sort = refl; clauses = refl; variables = refl }

less_meets : TermsMeet toys_signature less_state.term (counter_beside []).left
less_meets = record {
  value = constructed (codes "Lblcount") (next_value (whole (pos 0)) no_values);
  of_state = λ z. whole (pos 0);
  of_rule = λ z. whole (pos 0);
  first = (refl, (zero_is_a_number, tt));
  second = (refl, ((refl, zero_is_a_number), tt));
}

no_digits : (k : ℕ) → IsBitLength 0 k → k + 5 ≤ 126
no_digits zero h = omega arith
no_digits (suc j) h = let a = pow_pos j in let b = h.least j refl in absurd (omega (arith, a, b))

one_choice : (n : ℕ) → n ≡ 1 → n * 1 ≤ 4096
one_choice n e = omega (arith, e)

no_literals : (n : ℕ) → n ≡ 0 → n + 2 ≤ 512
no_literals n e = omega (arith, e)

less_small : (w : Weight) → IsSmall toys_signature less_state (consequent_shapes toys_signature some_counter (counter_beside [] ∷ [])) w
less_small product = one_choice
less_small literals = no_literals
less_small bits = no_digits

pub less_is_easy : IsEasyImplication toys_signature counter_less_one some_counter
less_is_easy = record {
  state = less_state;
  antecedent = less_antecedent;
  rules = counter_beside [] ∷ [];
  beside = (record { term = _; is_term = refl; is = refl }, less_meets);
  meets = λ r i m e. cc;
  easy = record {
    simple = record {
      conditions = (refl, tt);
      repeats = (refl, tt);
      plain = refl;
      numbers = ((λ e. absurd (false_true e)), ((λ e. refl), tt));
      truths = ((λ e. absurd (false_true e)), ((λ e. absurd (false_true e)), tt));
    };
    small = less_small;
  };
  uninterpreted = (refl, tt);
  repeats = (refl, tt);
  injections = ((tt, (tt, tt)), tt);
  places = (refl, tt);
}
