-- How a quantified predicate is opened by the question that it asks.
use Rattle.std.specs.Prelude.{Bool, List, Option, Some, None, ⊤}
use Rattle.kp_kore.specs.Syntax.{KorePattern}
use Rattle.kp_kore.specs.Signature.{KoreSignature}
use Rattle.kp_symbolic.specs.Formulas.{Formula}
use Rattle.kp_symbolic.specs.Folding.{folded}
use Rattle.kp_symbolic.specs.Opening.{HeadQuestion, literal_fact, quotation, opened_test}
use Rattle.kp_symbolic.specs.States.{Literal}
use Rattle.kp_symbolic.specs.Terms.{Replaced}
use Rattle.kp_symbolic.specs.Faultless.{IsFaultless}

-- a predicate that asks for a head, if it does, with the sign of what it asks; else as it stands
abbrev pub opened_question : KoreSignature → List Replaced → Bool → Bool → KorePattern → Option HeadQuestion → Formula Literal
opened_question g rs asked b p (Some q) = opened_test g asked q.test (literal_fact b (quotation rs p)) (folded g rs q.subject)
opened_question g rs asked b p None = literal_fact b (quotation rs p)

-- the term that is asked for its head, if there is one, has no verify faults
abbrev pub IsFaultlessQuestion : KoreSignature → Option HeadQuestion → Type 0
IsFaultlessQuestion g (Some q) = IsFaultless g q.subject
IsFaultlessQuestion g None = ⊤
