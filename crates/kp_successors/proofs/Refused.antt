-- Causes of errors.
use Rattle.std.proofs.Common.{◌≡◌, refl, sym, subst, false, Err, List}
use Rattle.kp_kore.specs.Signature.{KoreSignature}
use Rattle.kp_kore.specs.Instance.{Valuation}
use Rattle.kp_ground.specs.Outcomes.{Gives}
use Rattle.kp_ground.specs.Solves.{Solves}
use Rattle.kp_ground.specs.Terms.{RuleTerm, stays_narrow}
use Rattle.kp_ground.specs.declared.binding.Binding.{Binding}
use Rattle.kp_ground.specs.declared.evaluate.EvaluationError.{EvaluationError}
use Rattle.kp_ground.specs.declared.evaluate.EvaluationError.TheVariants as evaluating
use Rattle.kp_compile.specs.declared.state_error.SpellingError.{SpellingError}
use Rattle.kp_compile.specs.declared.state_error.SpellingError.TheVariants as spelling
use Rattle.kp_successors.specs.Errors.{LacksInjection, IsCausedBy, IsFromEvaluation, IsFromSpelling}
use Rattle.kp_successors.specs.declared.error.GroundError.{GroundError}
use Rattle.kp_successors.specs.declared.error.GroundError.TheVariants.{Memory, Number, Foreign, Unread, NoInjection}

-- a cause of the cause
pub caused_by : (g : KoreSignature) (P Q : Type 0) (e : GroundError) → (P → Q) → IsCausedBy g P e → IsCausedBy g Q e
caused_by g P Q Memory f h = tt
caused_by g P Q Number f h = f h
caused_by g P Q (Foreign id) f h = absurd h
caused_by g P Q Unread f h = absurd h
caused_by g P Q NoInjection f h = h

-- want of memory
pub by_memory : (g : KoreSignature) (P : Type 0) (e : GroundError) → e ≡ Memory → IsCausedBy g P e
by_memory g P e h = subst (IsCausedBy g P) (sym h) tt

-- an evaluation's error
pub from_evaluation : (g : KoreSignature) (P : Type 0) (x : EvaluationError) (e : GroundError) → IsFromEvaluation x e → (x ≡ evaluating.Number → P) → IsCausedBy g P e
from_evaluation g P evaluating.Number e h f = subst (IsCausedBy g P) (sym h) (f refl)
from_evaluation g P evaluating.Memory e h f = subst (IsCausedBy g P) (sym h) tt

-- a spelling's error
pub from_spelling : (g : KoreSignature) (P : Type 0) (x : SpellingError) (e : GroundError) → IsFromSpelling x e → (x ≡ spelling.NoInjection → LacksInjection g) → IsCausedBy g P e
from_spelling g P spelling.Memory e h f = subst (IsCausedBy g P) (sym h) tt
from_spelling g P spelling.NoInjection e h f = subst (IsCausedBy g P) (sym h) (f refl)

pub evaluated_wide : (x : EvaluationError) (bindings : List Binding) (t : RuleTerm) → Gives (Err x) bindings t → x ≡ evaluating.Number → (v : Valuation) → Solves v bindings → stays_narrow v t ≡ false
evaluated_wide evaluating.Number bindings t h e = h
evaluated_wide evaluating.Memory bindings t h e = absurd (cc)
