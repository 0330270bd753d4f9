-- What a verdict says of a state.
use Rattle.std.proofs.Common.{subst, refl, sym, ◌∙◌, Vec, Option, ◌≡◌, Some, None}
use Rattle.std.specs.declared.alloc.Global.{Global}
use Rattle.kp_symbolic.specs.declared.clause.Clause.{Clause}
use Rattle.kp_limits.specs.declared.weight.Weighed.{Weighed}
use Rattle.kp_kore.specs.Signature.{KoreSignature}
use Rattle.kp_symbolic.specs.States.{SymbolicState, CanBeTrue}
use Rattle.kp_symbolic.specs.Verdicts.{Verdict, some_valuation, no_valuation, undecided, IsRightVerdict}
use Rattle.kp_satisfiability.specs.Answers.{IsRightAnswer, IsToldAs}
use Rattle.kp_satisfiability.specs.declared.verdict.Verdict as verdicts
use Rattle.kp_satisfiability.specs.declared.verdict.Verdict.TheVariants as code
use Rattle.kp_step.specs.Opposites.{IsNotNone}

told_none : (d : Verdict) → IsToldAs d code.NoValuation → d ≡ no_valuation
told_none no_valuation h = refl
told_none some_valuation h = absurd h
told_none (undecided shown None) h = absurd h
told_none (undecided shown (Some w)) h = absurd h

pub none_right : (g : KoreSignature) (s : SymbolicState) → IsRightAnswer g s code.NoValuation → ¬ CanBeTrue g s.variables s.clauses
none_right g s h = subst (IsRightVerdict g s) (told_none h.verdict h.is_told) h.right

-- where it says something else, a right verdict does
pub not_none : (g : KoreSignature) (s : SymbolicState) (v : verdicts.Verdict) → IsRightAnswer g s v → ¬ (v ≡ code.NoValuation) → IsNotNone g s
not_none g s v h other = (h.verdict, h.right, λ e. other (by v (subst (λ d. IsToldAs d v) e h.is_told)))
  where
    by : (a : verdicts.Verdict) → IsToldAs no_valuation a → a ≡ code.NoValuation
    by code.NoValuation t = refl
    by code.SomeValuation t = absurd t
    by (code.Undecided shown over) t = absurd t

pub some_is_other : (v : verdicts.Verdict) → v ≡ code.SomeValuation → ¬ (v ≡ code.NoValuation)
some_is_other v i e = let f : code.SomeValuation ≡ code.NoValuation = sym i ∙ e in absurd (cc)

pub open_is_other : (v : verdicts.Verdict) (shown : Vec Clause Global) (over : Option Weighed) → v ≡ code.Undecided shown over → ¬ (v ≡ code.NoValuation)
open_is_other v shown over i e = let f : code.Undecided shown over ≡ code.NoValuation = sym i ∙ e in absurd (cc)
