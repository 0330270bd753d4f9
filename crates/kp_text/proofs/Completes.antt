-- The tokens, each with its level, that lead from a place to the end with an answer.
use Rattle.std.proofs.Common.{◌≡◌, ℕ, Bool, true, false, List, [], ◌∷◌, refl}
use Rattle.kp_text.specs.Tokens.{mark}
use Rattle.kp_text.specs.Grammar.{Leveled}
use Rattle.kp_text.specs.Next.{Answer, Place, Step, refused, goes, step, at_end, answered}

-- a step by a token of this level, to a place of which this holds
abbrev pub through : Step → ℕ → (Place → Type 0) → Type 0
through refused n P = ⊥
through (goes m g) n P = (m ≡ n) × P g

abbrev pub Completes : List Leveled → Place → Answer → Type 0
Completes [] = λ g a. at_end g ≡ answered a
Completes (t ∷ ls) = λ g a. through (step g t.token) t.level (λ h. Completes ls h a)

-- no brace may open there
abbrev pub NoBrace : Place → Type 0
NoBrace g = step g (mark 123) ≡ refused

pub by_test : {P : Type 0} (b : Bool) → (b ≡ true → P) → (b ≡ false → P) → P
by_test true f g = f refl
by_test false f g = g refl
