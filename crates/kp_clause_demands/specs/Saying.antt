-- What the form of a literal says of the values of variables.
-- Source: matching logic's equality of values; K's INT, BOOL and KEQUAL hooks.
use Rattle.std.specs.Prelude.{◌≡◌, ℤ, pos, ◌+ℤ◌, true, Option, Some, None, MatchBool}
use Rattle.kp_kore.specs.Syntax.{Text}
use Rattle.kp_kore.specs.Signature.{KoreSignature}
use Rattle.kp_kore.specs.Value.{Value, whole, truth, head_of}
use Rattle.kp_kore.specs.Interpretation.{compared}
use Rattle.kp_kore.specs.Instance.{Valuation}
use Rattle.kp_symbolic.specs.Terms.{term_instance}
use Rattle.kp_symbolic.specs.States.{PassesHead}
use Rattle.kp_symbolic.specs.Plain.{WholePart, TokenPart, some_token, one_token, Form, compares, is_truth, equates, asks, gives}

-- the whole number; zero of what is none, which no variable of whole numbers is
abbrev pub number_of : Value → ℤ
number_of (whole n) = n
number_of _ = pos 0

abbrev pub named_number : Valuation → Option Text → ℤ
named_number v (Some x) = number_of (v x)
named_number v None = pos 0

abbrev pub whole_value : Valuation → WholePart → ℤ
whole_value v m = named_number v m.variable +ℤ m.constant

abbrev pub token_value : Valuation → TokenPart → Value
token_value v (some_token x) = v x
token_value v (one_token u) = u

abbrev pub Says : KoreSignature → Valuation → Form → Type 0
Says g v (compares c m n) = compared c (whole_value v m) (whole_value v n) ≡ true
Says g v (is_truth x b) = v x ≡ truth b
Says g v (equates b p q) = MatchBool b (token_value v p ≡ token_value v q) (¬ (token_value v p ≡ token_value v q))
Says g v (asks x test b) = MatchBool b (¬ ¬ PassesHead g test (head_of (v x.name))) (¬ ¬ ¬ PassesHead g test (head_of (v x.name)))
Says g v (gives e) = v e.variable.name ≡ term_instance g v e.term
