-- Solving, round after round.
use Rattle.std.proofs.Common.{◌≡◌, refl, subst, Option, Some, None}
use Rattle.std.specs.Option.{option_map}
use Rattle.kp_kore.specs.Signature.{KoreSignature}
use Rattle.kp_symbolic.specs.States.{SymbolicState}
use Rattle.kp_symbolic.specs.Solving.{Solvable, first_solvable, solved_at, Solving, finished, goes_on}

-- what solving ends in from here, it ends in from the start
abbrev pub EndsLike : KoreSignature → SymbolicState → SymbolicState → Type 0
EndsLike g start s = (end : SymbolicState) → Solving g s end → Solving g start end

abbrev pub first_solved : KoreSignature → SymbolicState → Option SymbolicState
first_solved g s = option_map (λ o. solved_at g o s) (first_solvable g s)

pub ends_like_itself : (g : KoreSignature) (s : SymbolicState) → EndsLike g s s
ends_like_itself g s = λ end h. h

pub goes_further : (g : KoreSignature) (start s next : SymbolicState) → Some next ≡ first_solved g s → EndsLike g start s → EndsLike g start next
goes_further g start s next e like = by (first_solvable g s) refl e
  where
    by : (o : Option Solvable) → first_solvable g s ≡ o → Some next ≡ option_map (λ p. solved_at g p s) o → EndsLike g start next
    by (Some o) f q = let is : next ≡ solved_at g o s = cc in λ end h. like end (goes_on s end o f (subst (λ t. Solving g t end) is h))
    by None f q = absurd (cc)

pub is_settled : (g : KoreSignature) (start s : SymbolicState) → None ≡ first_solved g s → EndsLike g start s → Solving g start s
is_settled g start s e like = by (first_solvable g s) refl e
  where
    by : (o : Option Solvable) → first_solvable g s ≡ o → None ≡ option_map (λ p. solved_at g p s) o → Solving g start s
    by (Some o) f q = absurd (cc)
    by None f q = like s (finished s f)
