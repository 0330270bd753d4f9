-- Leaving by a failure that a part of a text gave.
use Rattle.std.proofs.Common.{◌≡◌, ℕ, List, sym, ap, subst, ◌∙◌, Result, Ok, Err}
use Rattle.std.specs.Prelude.{IsErr, IsErrAnd, IfErr, IfOk}
use Rattle.kp_text.specs.Next.{Place, Outcome}
use Rattle.kp_text.specs.Reads.{run_text, failed, Stops}
use Rattle.kp_text.specs.declared.tail.Tail.{Tail}
use Rattle.kp_text.specs.declared.fault.TextFailure.{TextFailure}

pub exit : {X : Type 0} (r : Result X TextFailure) (P : TextFailure → Type 0) (e : TextFailure) → IsErr r × IsErrAnd r (λ y. y ≡ e) → P e → IfErr r P
exit (Ok x) P e h p = tt
exit (Err y) P e h p = subst P (sym h.1) p

-- a place before another stops where that stops
pub stops_there : {V W : Type 0} (tail : Tail) (text rest : List ℕ) (place : (V → Place) → Place) (inner : (W → Place) → Place) (make : (V → Place) → W → Place) (e : TextFailure) → ((k : V → Place) → run_text tail text (place k) ≡ run_text tail rest (inner (make k))) → Stops tail rest inner e → Stops tail text place e
stops_there tail text rest place inner make e same stop = λ k. same k ∙ stop (make k) ∙ ap (failed e) (sym (same k))

-- a part that ends with another finds what that finds, and stops where that stops
pub found_on : {K X E O : Type 0} (r : Result X E) (reached : X → K → O) (before after : K → O) → ((k : K) → after k ≡ before k) → IfOk r (λ x. (k : K) → reached x k ≡ after k) → IfOk r (λ x. (k : K) → reached x k ≡ before k)
found_on (Ok x) reached before after same h = λ k. h k ∙ same k
found_on (Err e) reached before after same h = tt

pub stopped_on : {K X : Type 0} (r : Result X TextFailure) (before after : K → Outcome) → ((k : K) → after k ≡ before k) → IfErr r (λ e. (k : K) → after k ≡ failed e (after k)) → IfErr r (λ e. (k : K) → before k ≡ failed e (before k))
stopped_on (Ok x) before after same h = tt
stopped_on (Err e) before after same h = λ k. sym (same k) ∙ h k ∙ ap (failed e) (same k)

-- the same of a part up to the end
pub answered_on : {K X E O : Type 0} (r : Result X E) (answer : X → K → O) (before after : K → O) → ((k : K) → after k ≡ before k) → IfOk r (λ x. (k : K) → after k ≡ answer x k) → IfOk r (λ x. (k : K) → before k ≡ answer x k)
answered_on (Ok x) answer before after same h = λ k. sym (same k) ∙ h k
answered_on (Err e) answer before after same h = tt
