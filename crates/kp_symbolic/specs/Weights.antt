-- How much a condition weighs, and the limits up to which conditions are decided.
-- Source: difference constraints over the whole numbers; the limits are this project's.
use Rattle.std.specs.Prelude.{◌≡◌, ℕ, suc, ◌+◌, ◌*◌, ◌<◌, ◌≤◌, ◌^◌, ℤ, pos, negsuc, ◌+ℤ◌, ◌-ℤ◌, max, List, [], ◌∷◌, ◌++◌, length, Option, Some, None, unsigned_abs, if◌then◌else◌}
use Rattle.std.specs.List.{list_any, flat_map, filter_map}
use Rattle.std.specs.Str.{bytes_eq}
use Rattle.kp_kore.specs.Syntax.{Text}
use Rattle.kp_kore.specs.Signature.{KoreSignature}
use Rattle.kp_kore.specs.Hooks.{Comparison, equal, different, less, at_most, greater, at_least}
use Rattle.kp_symbolic.specs.States.{SymbolicState}
use Rattle.kp_symbolic.specs.Plain.{WholePart, Form, compares, ReadLiteral, read_clauses}

-- ---- comparisons as bounds of differences

-- x - y <= c; a missing variable is the number zero
pub record DifferenceBound : Type 0 where
  pub first : Option Text
  pub second : Option Text
  pub most : ℤ

-- the one part is at most the other and k
abbrev pub below : WholePart → WholePart → ℤ → DifferenceBound
below m n k = record { first = m.variable; second = n.variable; most = (n.constant -ℤ m.constant) +ℤ k }

-- the ways for a comparison to hold, each a list of bounds: a difference has two, an equality one of two bounds
abbrev pub ways : Comparison → WholePart → WholePart → List (List DifferenceBound)
ways at_most m n = (below m n (pos 0) ∷ []) ∷ []
ways less m n = (below m n (negsuc 0) ∷ []) ∷ []
ways at_least m n = (below n m (pos 0) ∷ []) ∷ []
ways greater m n = (below n m (negsuc 0) ∷ []) ∷ []
ways equal m n = (below m n (pos 0) ∷ below n m (pos 0) ∷ []) ∷ []
ways different m n = (below m n (negsuc 0) ∷ []) ∷ (below n m (negsuc 0) ∷ []) ∷ []

abbrev pub bounds_of : Form → List DifferenceBound
bounds_of (compares c m n) = flat_map (λ w. w) (ways c m n)
bounds_of f = []

-- ---- lengths

-- a difference of whole numbers counts as two
abbrev pub form_length : Option Form → ℕ
form_length (Some (compares different m n)) = 2
form_length f = 1

abbrev pub clause_length : List ReadLiteral → ℕ
clause_length [] = 0
clause_length (l ∷ c) = form_length l.form + clause_length c

abbrev pub all_literals : List (List ReadLiteral) → ℕ
all_literals [] = 0
all_literals (c ∷ cs) = clause_length c + all_literals cs

abbrev pub product_of_lengths : List (List ReadLiteral) → ℕ
product_of_lengths [] = 1
product_of_lengths (c ∷ cs) = clause_length c * product_of_lengths cs

-- ---- numbers

-- n binary digits write m, and one less doesn't
pub record IsBitLength (m n : ℕ) : Type 0 where
  pub enough : m < 2 ^ n
  pub least : (k : ℕ) → n ≡ suc k → 2 ^ k ≤ m

abbrev pub forms_in : List (List ReadLiteral) → List Form
forms_in cs = flat_map (λ c. filter_map (λ l. l.form) c) cs

abbrev pub all_bounds : List (List ReadLiteral) → List DifferenceBound
all_bounds cs = flat_map bounds_of (forms_in cs)

-- the largest constant of the bounds, without its sign
abbrev pub largest : List DifferenceBound → ℕ
largest [] = 0
largest (b ∷ bs) = max (unsigned_abs b.most) (largest bs)

abbrev pub each_once : List Text → List Text
each_once [] = []
each_once (x ∷ xs) = if list_any (bytes_eq x) xs then each_once xs else x ∷ each_once xs

abbrev pub name_in : Option Text → List Text
name_in (Some x) = x ∷ []
name_in None = []

-- the variables of the bounds
abbrev pub numeric_names : List DifferenceBound → List Text
numeric_names bs = each_once (flat_map (λ b. name_in b.first ++ name_in b.second) bs)

-- ---- weights

pub data Weight : Type 0 where
  bits literals product : Weight

abbrev pub limit_of : Weight → ℕ
limit_of bits = 126
limit_of literals = 512
limit_of product = 4096

-- the number is the clauses' weight of this kind: numeric variables and bits of the largest constant, the sum of the
-- clause lengths, and their product
abbrev pub IsWeight : Weight → List (List ReadLiteral) → ℕ → Type 0
IsWeight bits cs n = (k : ℕ) × IsBitLength (largest (all_bounds cs)) k × (n ≡ length (numeric_names (all_bounds cs)) + k)
IsWeight literals cs n = n ≡ all_literals cs
IsWeight product cs n = n ≡ product_of_lengths cs

-- the clauses weigh this number, above the limit of the kind
pub record IsOver (w : Weight) (cs : List (List ReadLiteral)) (n : ℕ) : Type 0 where
  pub weighs : IsWeight w cs n
  pub above : limit_of w < n

-- no weight of the state's clauses is above its limit
abbrev pub IsWithinLimits : KoreSignature → SymbolicState → Type 0
IsWithinLimits g s = (w : Weight) (n : ℕ) → ¬ IsOver w (read_clauses g s) n
