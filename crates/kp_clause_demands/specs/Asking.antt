-- What clauses ask of numbers, truth values and tokens, under a valuation. Heads and solved equations ask nothing of them.
-- Source: satisfiability of clauses; the division is this project's.
use Rattle.std.specs.Prelude.{List, Option, Some, None, ⊤}
use Rattle.std.specs.List.{AllByRecursion}
use Rattle.kp_kore.specs.Signature.{KoreSignature}
use Rattle.kp_kore.specs.Instance.{Valuation}
use Rattle.kp_symbolic.specs.Formulas.{NotAllFalse}
use Rattle.kp_symbolic.specs.Plain.{Form, asks, gives, ReadLiteral}
use Rattle.kp_clause_demands.specs.Saying.{Says}

-- what a form asks of them holds
abbrev pub AsksTruly : KoreSignature → Valuation → Form → Type 0
AsksTruly g v (asks x test b) = ⊤
AsksTruly g v (gives e) = ⊤
AsksTruly g v f = Says g v f

-- the literal is decided, and what it asks holds
abbrev pub IsAskedTruly : KoreSignature → Valuation → Option Form → Type 0
IsAskedTruly g v (Some f) = AsksTruly g v f
IsAskedTruly g v None = ⊥

-- each clause has a decided literal of which that holds
abbrev pub AreAskedTruly : KoreSignature → Valuation → List (List ReadLiteral) → Type 0
AreAskedTruly g v = AllByRecursion (NotAllFalse (λ l. IsAskedTruly g v l.form))
