-- What is written for a state whose clauses can be true is a right answer of the pattern that is read as it.
use Rattle.std.proofs.Common.{refl, sym, subst, List, [], ◌∷◌}
use Rattle.std.specs.Prelude.{◌↔◌}
use Rattle.std.proofs.lemmas.List.Elements.{All-contains, All-from_recursion}
use Rattle.kp_kore.specs.Syntax.{KorePattern}
use Rattle.kp_kore.specs.Parts.{SortedName, free_variables}
use Rattle.kp_kore.specs.Signature.{KoreSignature}
use Rattle.kp_kore.specs.Value.{Value, HasSort}
use Rattle.kp_kore.specs.Instance.{Valuation, GivesSorts, IsInstance}
use Rattle.kp_kore.specs.AtHand.{HasSome}
use Rattle.kp_kore.specs.Implied.{IsRightSimplified, HasSameInstances, state}
use Rattle.kp_kore.specs.Replies.{IsComputed}
use Rattle.kp_symbolic.specs.Terms.{term_instance}
use Rattle.kp_symbolic.specs.States.{SymbolicState, CanBeTrue, IsStateInstance, HasInstancesOf}
use Rattle.kp_symbolic.specs.WellFormed.{AreAtHand}
use Rattle.kp_symbolic_laws.specs.Runs.{IsSoundState}
use Rattle.kp_simplify.specs.Told.{IsSpelledState}

at_hand_given : (g : KoreSignature) (v : Valuation) (hand xs : List SortedName) → GivesSorts g v hand → AreAtHand xs hand → GivesSorts g v xs
at_hand_given g v hand [] given h = tt
at_hand_given g v hand (x ∷ xs) given h =
    let has : SortedName → Type 0 = λ y. HasSort g y.sort (v y.name) in
    (All-contains has hand x (All-from_recursion has hand given) h.0, at_hand_given g v hand xs given h.1)

-- the pattern that is written has the state's instances, whatever the variables at hand stand for
abbrev HasStateInstances : KoreSignature → SymbolicState → KorePattern → Type 0
HasStateInstances g s q = (v : Valuation) (u : Value) → GivesSorts g v s.variables → IsInstance g v q u ↔ IsStateInstance g v s u

same_instances : (g : KoreSignature) (p q : KorePattern) (s : SymbolicState) → HasInstancesOf g p s → HasStateInstances g s q → HasSameInstances g p q
same_instances g p q s has written = λ v u given.
    let read = has.instances v u given.0 in
    let told = written v u (subst (GivesSorts g v) (sym has.variables) given.0) in
    ((λ i. told.1 (read.0 i)), (λ i. read.1 (told.0 i)))

some_instance : (g : KoreSignature) (p q : KorePattern) (s : SymbolicState) → HasInstancesOf g p s → CanBeTrue g s.variables s.clauses → HasStateInstances g s q → AreAtHand (free_variables q) s.variables → HasSome g (p ∷ []) q
some_instance g p q s has can written hand = record {
  valuation = can.valuation;
  configuration = term_instance g can.valuation s.term;
  given = (at_hand_given g can.valuation s.variables (free_variables q) can.sorts hand, (subst (GivesSorts g can.valuation) has.variables can.sorts, tt));
  met = (written can.valuation (term_instance g can.valuation s.term) can.sorts).1 (record { term = refl; clauses = can.are_true });
  such = tt;
}

written_is_right : (g : KoreSignature) (p q : KorePattern) (s : SymbolicState) → HasInstancesOf g p s → CanBeTrue g s.variables s.clauses → HasStateInstances g s q → AreAtHand (free_variables q) s.variables →
    IsComputed g q → IsRightSimplified g p (state q)
written_is_right g p q s has can written hand computed = (same_instances g p q s has written, some_instance g p q s has can written hand, computed)

pub state_is_right : (g : KoreSignature) (p q : KorePattern) (s : SymbolicState) → HasInstancesOf g p s → CanBeTrue g s.variables s.clauses → IsSoundState g s → IsSpelledState g s q → IsComputed g q → IsRightSimplified g p (state q)
state_is_right g p q s has can sound spelled computed = written_is_right g p q s has can (spelled.instances sound) (spelled.variables sound) computed
