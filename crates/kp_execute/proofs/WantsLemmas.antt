-- Where an inj is wanted in a part of what is written for a run, it is wanted in the whole.
use Rattle.std.proofs.Common.{◌≡◌, subst, ℕ, zero, suc, ◌<◌, List, [], ◌∷◌, length, get_or, inl, inr, Result, Ok, Err, arith}
use Rattle.std.specs.Prelude.{IfErr}
use Rattle.kp_kore.specs.Syntax.{KoreSort, KorePattern}
use Rattle.kp_kore.specs.Signature.{KoreSignature}
use Rattle.kp_kore.specs.Steps.{AnyByRecursion}
use Rattle.kp_kore.specs.Theory.{Theory}
use Rattle.kp_kore.specs.Executions.{Options}
use Rattle.kp_symbolic.specs.States.{Literal}
use Rattle.kp_execute.specs.declared.answer.Answer.{Answer}
use Rattle.kp_execute.specs.declared.answer.ExecuteError.{ExecuteError}
use Rattle.kp_execute.specs.declared.ending.Run.{Run}
use Rattle.kp_execute.specs.Known.{IsRunOf}
use Rattle.kp_execute.specs.Wants.{ClausesWant, LacksInjection, RunWants, TellsNoInjection}

-- for one of a list
pub any_at : {X : Type 0} (P : X → Type 0) (xs : List X) (i : ℕ) (x : X) → i < length xs → x ≡ get_or xs i x → P x → AnyByRecursion P xs
any_at P [] i x lt is p = absurd (omega arith)
any_at P (y ∷ ys) zero x lt is p = inl (subst P is p)
any_at P (y ∷ ys) (suc i) x lt is p = inr (any_at P ys i x (omega arith) is p)

-- the same clauses at the same sort
pub clauses_want : (g : KoreSignature) (sort to : KoreSort) (cs ds : List (List Literal)) → sort ≡ to → cs ≡ ds → ClausesWant g sort cs → ClausesWant g to ds
clauses_want g sort to cs ds same are w = subst (λ s. ClausesWant g s ds) same (subst (ClausesWant g sort) are w)

-- the run is one of the request
pub lacking : (t : Theory) (o : Options) (p : KorePattern) (g : KoreSignature) (run : Run) (r : Result Answer ExecuteError) → g ≡ t.signature → IsRunOf t o p run → IfErr r (λ e. TellsNoInjection e → RunWants g run) → IfErr r (λ e. TellsNoInjection e → LacksInjection t o p)
lacking t o p g run (Ok a) same is wants = tt
lacking t o p g run (Err e) same is wants = λ told. record { run = run; is = is; wants = subst (λ h. RunWants h run) same (wants told) }
