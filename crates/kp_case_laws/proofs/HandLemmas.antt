-- Which instances a state has depends on the variables at hand alone.
use Rattle.std.proofs.Common.{sym, ◌∙◌, List, [], ◌∷◌, ◌++◌}
use Rattle.std.specs.List.{AllByRecursion}
use Rattle.std.proofs.lemmas.List.Elements.{Contains-append_left}
use Rattle.kp_kore.specs.Parts.{SortedName}
use Rattle.kp_kore.specs.Signature.{KoreSignature}
use Rattle.kp_kore.specs.Instance.{Valuation, AgreesOn}
use Rattle.kp_kore.proofs.TurnLemmas.{of_member}
use Rattle.kp_symbolic.specs.Terms.{term_variables}
use Rattle.kp_symbolic.specs.States.{Literal, IsLiteralTrue, AreTrue, atom_variables, SymbolicState}
use Rattle.kp_symbolic.specs.WellFormed.{AreAtHand}
use Rattle.kp_symbolic.proofs.Agreeing.{SameAt, term_agrees, literal_agrees}
use Rattle.kp_symbolic_laws.specs.Runs.{IsSortedLiteral, IsSortedState}
use Rattle.kp_case_laws.specs.Parts.{DependsOnHand}

pub agrees_at_hand : (v w : Valuation) (hand xs : List SortedName) → AgreesOn hand v w → AreAtHand xs hand → AgreesOn xs v w
agrees_at_hand v w hand [] h a = tt
agrees_at_hand v w hand (x ∷ xs) h a = (of_member (SameAt v w) hand x h a.0, agrees_at_hand v w hand xs h a.1)

pub still_at_hand : (hand new xs : List SortedName) → AreAtHand xs hand → AreAtHand xs (hand ++ new)
still_at_hand hand new [] a = tt
still_at_hand hand new (x ∷ xs) a = (Contains-append_left hand new x a.0, still_at_hand hand new xs a.1)

-- ---- clauses

none_before : (g : KoreSignature) (v w : Valuation) (hand : List SortedName) (c : List Literal) → AgreesOn hand v w → AllByRecursion (IsSortedLiteral g hand) c → AllByRecursion (λ l. ¬ IsLiteralTrue g w l) c → AllByRecursion (λ l. ¬ IsLiteralTrue g v l) c
none_before g v w hand [] h s none = tt
none_before g v w hand (l ∷ c) h s none = (
  (λ t. none.0 (literal_agrees g v w l (agrees_at_hand v w hand (atom_variables l.atom) h s.0.1) t)),
  none_before g v w hand c h s.1 none.1,
)

pub clauses_agree : (g : KoreSignature) (v w : Valuation) (hand : List SortedName) (cs : List (List Literal)) → AgreesOn hand v w → AllByRecursion (AllByRecursion (IsSortedLiteral g hand)) cs → AreTrue g v cs → AreTrue g w cs
clauses_agree g v w hand [] h s t = tt
clauses_agree g v w hand (c ∷ cs) h s t = ((λ none. t.0 (none_before g v w hand c h s.0 none)), clauses_agree g v w hand cs h s.1 t.1)

pub depends_on_hand : (g : KoreSignature) (s : SymbolicState) → IsSortedState g s → DependsOnHand g s
depends_on_hand g s k v w c h i = record {
  term = i.term ∙ sym (term_agrees g v w s.term (agrees_at_hand v w s.variables (term_variables s.term) h k.term_at_hand));
  clauses = clauses_agree g v w s.variables s.clauses h k.literals i.clauses;
}
