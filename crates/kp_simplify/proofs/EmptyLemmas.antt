-- A pattern whose state's clauses can't be true has no instance.
use Rattle.std.proofs.Common.{sym, subst, []}
use Rattle.kp_kore.specs.Syntax.{KorePattern}
use Rattle.kp_kore.specs.Signature.{KoreSignature}
use Rattle.kp_kore.specs.Instance.{GivesSorts}
use Rattle.kp_kore.specs.AtHand.{HasSome}
use Rattle.kp_kore.specs.Implied.{IsOfSort, nothing, IsRightSimplified}
use Rattle.kp_symbolic.specs.States.{SymbolicState, CanBeTrue, HasInstancesOf}
use Rattle.kp_symbolic.specs.Verdicts.{no_valuation, IsRightVerdict}

empty_has_none : (g : KoreSignature) (p : KorePattern) (s : SymbolicState) → HasInstancesOf g p s → (CanBeTrue g s.variables s.clauses → ⊥) → HasSome g [] p → ⊥
empty_has_none g p s h none has = none (record {
  valuation = has.valuation;
  sorts = subst (GivesSorts g has.valuation) (sym h.variables) has.given.0;
  are_true = ((h.instances has.valuation has.configuration has.given.0).0 has.met).clauses;
})

pub empty_is_right : (g : KoreSignature) (p : KorePattern) (s : SymbolicState) → HasInstancesOf g p s → IsOfSort g s.sort p → IsRightVerdict g s no_valuation → IsRightSimplified g p (nothing s.sort)
empty_is_right g p s h sort none = (sort, empty_has_none g p s h none)
