-- Sums of a variable and a constant, and the numbers that terms are.
use Rattle.std.specs.Prelude.{◌≡◌, ℤ, pos, neg_ℤ, Option, Some, None, String, string_bytes, if◌then◌else◌}
use Rattle.std.specs.Borrow.{Bor}
use Rattle.std.specs.Option.{option_map}
use Rattle.std.specs.Ordering.{int_eq}
use Rattle.std.specs.declared.alloc.Global.{Global}
use Rattle.kp_kore.specs.Syntax.{Text, SymbolDeclaration}
use Rattle.kp_kore.specs.Hooks as arithmetic
use Rattle.kp_kore.specs.Parts.{SortedName}
use Rattle.kp_kore.specs.Signature.{KoreSignature, meaning_of}
use Rattle.kp_kore.specs.Value.{Value, whole}
use Rattle.kp_kore.specs.declared.hook.Arithmetic.{Arithmetic}
use Rattle.kp_kore.specs.declared.hook.Arithmetic.TheVariants.{Addition, Subtraction, Multiplication}
use Rattle.kp_symbolic.specs.Terms.{SymbolicTerm, unknown, offset, known, SymbolicTerms, no_terms, next_term}
use Rattle.kp_symbolic.specs.Folding as model
use Rattle.kp_symbolic.specs.Folding.{can_be_added}
use Rattle.kp_symbolic.specs.View.{variable_view}
use Rattle.kp_symbolic.specs.declared.sum.Sum.{Sum}

abbrev pub sum_view : Sum → model.Sum
sum_view s = record { variable = variable_view s.variable.now.value; constant = s.constant }

-- the number that a value, or a term, is
abbrev pub whole_in : Value → Option ℤ
whole_in (whole n) = Some n
whole_in _ = None

abbrev pub whole_known : SymbolicTerm → Option ℤ
whole_known (known u) = whole_in u
whole_known _ = None

abbrev pub pair : SymbolicTerm → SymbolicTerm → SymbolicTerms
pair t u = next_term t (next_term u no_terms)

-- the text of a lent name, if there is one
abbrev pub text_seen : Option (Bor (String Global)) → Option Text
text_seen = option_map (λ f. string_bytes f.now)

-- the least name with one more symbol before those that it is the least of
abbrev pub least_with : KoreSignature → arithmetic.Arithmetic → SymbolDeclaration → Option Text → Option Text
least_with g a d o = if model.is_arithmetic a (meaning_of g d.name) then Some (model.least_of d.name o) else o

-- a variable and a constant, where their sum can be written, else the call as it was
abbrev pub constant_added : KoreSignature → SortedName → ℤ → SymbolicTerm → SymbolicTerm
constant_added g x n call = if int_eq n (pos 0) then unknown x else if can_be_added g n then offset x n else call

-- the constant that is added where a number is added, or subtracted
abbrev pub IsTaken : Arithmetic → ℤ → ℤ → Type 0
IsTaken Addition n c = c ≡ n
IsTaken Subtraction n c = c ≡ neg_ℤ n
IsTaken Multiplication n c = ⊥
