-- The text that stands as a pattern, and what stands between sorts.
use Rattle.std.specs.Prelude.{ℕ, zero, suc, Option, Some, None, [], ◌∷◌}
use Rattle.kp_kore.specs.Syntax.{Text, KorePattern, string_literal}

abbrev pub text_literal : KorePattern → Option Text
text_literal (string_literal t) = Some t
text_literal _ = None

-- in a list of sorts, what stands before the sort at a place: nothing before the first, a comma before each other
abbrev pub comma_before : ℕ → Text
comma_before zero = []
comma_before (suc n) = 44 ∷ []
