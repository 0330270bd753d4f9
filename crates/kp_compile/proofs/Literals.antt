-- A verified literal of the whole-number sort writes a number of 128 bits.
use Rattle.std.proofs.Common.{◌≡◌, sym, ap, ◌∙◌, Bool, true, false, not, ◌||◌, cond, None}
use Rattle.std.specs.Prelude.{codes}
use Rattle.std.specs.Str.{bytes_eq}
use Rattle.std.specs.Str.Parse.{signed_digits_value}
use Rattle.kp_kore.specs.Syntax.{Text, KoreSort, KorePattern, literal}
use Rattle.kp_kore.specs.Signature.{KoreSignature, is_integer_sort, is_boolean_sort, is_token_sort}
use Rattle.kp_signature.specs.Places.{Place, own_sort}
use Rattle.kp_kore.specs.Limits.{writes_number, fits_number}
use Rattle.kp_signature.specs.Verify.{first_fault, fault_at, sort_fault, symbol_fault, difference, variable_fault, injection_fault, literal_fault, width_fault, is_literal_of, no_literal, number_too_wide}
use Rattle.kp_signature.proofs.FaultLemmas.{nothing_earlier, nothing_later, no_fault_unless}

from_literals : (g : KoreSignature) (c : Place) (p : KorePattern) → fault_at g c p ≡ None → (literal_fault g p ≡ None) × (width_fault g p ≡ None)
from_literals g c p e =
    let from_symbol = nothing_later (sort_fault g p) _ e in
    let from_wanted = nothing_later (symbol_fault g p) _ from_symbol in
    let from_scope = nothing_later (difference c.wanted (own_sort g p)) _ from_wanted in
    let from_injection = nothing_later (variable_fault c.scope p) _ from_scope in
    let from_literal = nothing_later (injection_fault g p) _ from_injection in
    (nothing_earlier (literal_fault g p) _ from_literal, nothing_earlier (width_fault g p) _ (nothing_later (literal_fault g p) _ from_literal))

pub whole_literal : (g : KoreSignature) (c : Place) (s : KoreSort) (t : Text) → is_integer_sort g s ≡ true → first_fault g c (literal s t) ≡ None → (writes_number t ≡ true) × (fits_number (signed_digits_value 10 t) ≡ true)
whole_literal g c s t i e =
    let k = from_literals g c (literal s t) e in (
      sym (ap (λ b. cond b (writes_number t) (cond (is_boolean_sort g s) (bytes_eq t (codes "true") || bytes_eq t (codes "false")) (is_token_sort g s))) i)
          ∙ no_fault_unless (is_literal_of g s t) (no_literal t) k.0,
      by (is_integer_sort g s) i (no_fault_unless (not (is_integer_sort g s) || fits_number (signed_digits_value 10 t)) (number_too_wide t) k.1),
    )
  where
    by : (b : Bool) → b ≡ true → not b || fits_number (signed_digits_value 10 t) ≡ true → fits_number (signed_digits_value 10 t) ≡ true
    by true h k = k
    by false h k = absurd (cc)
