-- Calls of two known numbers whose value leaves signed 128 bits: folding leaves these as they are.
-- Source: this project.
use Rattle.std.specs.Prelude.{ℤ, Bool, false, List, [], ◌∷◌, Option, Some, None, if◌then◌else◌}
use Rattle.kp_kore.specs.Syntax.{Text}
use Rattle.kp_kore.specs.Signature.{KoreSignature, SymbolMeaning, interpretation, meaning_of}
use Rattle.kp_kore.specs.Value.{whole}
use Rattle.kp_kore.specs.Forms.{two}
use Rattle.kp_kore.specs.Interpretation.{interpreted}
use Rattle.kp_kore.specs.Replies.{is_wide_value}
use Rattle.kp_symbolic.specs.Terms.{SymbolicTerm, headed, no_terms, next_term}
use Rattle.kp_symbolic.specs.States.{SymbolicState}
use Rattle.kp_symbolic.specs.Sources.{state_parts}
use Rattle.kp_symbolic.specs.Sums.{whole_known}

pub record WideCall : Type 0 where
  pub symbol : Text
  pub first : ℤ
  pub second : ℤ

-- whether a symbol of this meaning makes of two numbers one that leaves signed 128 bits
abbrev pub is_wide_of : SymbolMeaning → ℤ → ℤ → Bool
is_wide_of (interpretation h) m n = is_wide_value (interpreted h (two (whole m) (whole n)))
is_wide_of meaning m n = false

abbrev pub call_if : Bool → Text → ℤ → ℤ → Option WideCall
call_if b f m n = if b then Some (record { symbol = f; first = m; second = n }) else None

-- the call of a symbol of two terms that are numbers
abbrev pub call_of : KoreSignature → Text → Option ℤ → Option ℤ → Option WideCall
call_of g f (Some m) (Some n) = call_if (is_wide_of (meaning_of g f) m n) f m n
call_of g f o p = None

abbrev pub wide_call : KoreSignature → SymbolicTerm → Option WideCall
wide_call g (headed f (next_term t (next_term u no_terms))) = call_of g f (whole_known t) (whole_known u)
wide_call g t = None

abbrev pub first_of : Option WideCall → Option WideCall → Option WideCall
first_of (Some c) o = Some c
first_of None o = o

-- the first of these terms that is such a call
abbrev pub first_wide_among : KoreSignature → List SymbolicTerm → Option WideCall
first_wide_among g [] = None
first_wide_among g (t ∷ ts) = first_of (wide_call g t) (first_wide_among g ts)

-- of the parts of a state, those of the term before those of the clauses
abbrev pub first_wide : KoreSignature → SymbolicState → Option WideCall
first_wide g s = first_wide_among g (state_parts s)
