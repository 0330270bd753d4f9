-- The answer that it is valid, with its substitution.
use Rattle.std.specs.Prelude.{ℕ, List, Result, Ok, Err, IfOk}
use Rattle.std.specs.List.{flat_map}
use Rattle.std.proofs.Common.{◌≡◌, refl, sym, subst, Some}
use Rattle.kp_kore.specs.Syntax.{Text, KoreSort, top}
use Rattle.kp_kore.specs.Signature.{KoreSignature}
use Rattle.kp_kore.specs.Implied.{valid}
use Rattle.kp_symbolic.specs.States.{Atom, SymbolicState}
use Rattle.kp_symbolic.specs.Shown.{deep, Undecided as Cause}
use Rattle.kp_symbolic.specs.Endings.{answered, what_is_undecided}
use Rattle.kp_simplify.specs.Answers.{atom_sides, first_deep}
use Rattle.kp_goals.specs.Consequents.{Consequent}
use Rattle.kp_implies.specs.Answers.{in_substitution}
use Rattle.kp_implies.specs.Printed.{equalities_of, substitution_of}
use Rattle.kp_implies.specs.Steps.{IsAnswered, AnswersCarried, carried, by_limit}
use Rattle.kp_implies.specs.Told.{IsToldAs, IsWrittenFor, TellsCause}
use Rattle.kp_implies.specs.declared.answer.Implication.{Implication}
use Rattle.kp_implies.specs.declared.answer.Implication.TheVariants.{NotValid, Valid, Vacuous, Undecided}

cause_told : (cause : Cause) (r : Implication) → TellsCause cause r → IsToldAs (what_is_undecided cause) r
cause_told cause (Undecided u) h = h
cause_told cause NotValid h = absurd h
cause_told cause (Valid k) h = absurd h
cause_told cause Vacuous h = absurd h

deep_law : (g : KoreSignature) (used : List Text) (s : SymbolicState) (k : Consequent) (n : ℕ) (r : Implication) → first_deep g (flat_map atom_sides (equalities_of g k s)) ≡ Some n → TellsCause (deep n) r → IsAnswered g used s k r
deep_law g used s k n r e h = record { answer = what_is_undecided (deep n); is = by_limit (deep n) (in_substitution n e); is_told = cause_told (deep n) r h }

pub deep_carried : (g : KoreSignature) (s : SymbolicState) (k : Consequent) (n : ℕ) (all : List Atom) (r : Implication) → all ≡ equalities_of g k s → Some n ≡ first_deep g (flat_map atom_sides all) → TellsCause (deep n) r → (used : List Text) → AnswersCarried g used s k r
deep_carried g s k n all r e d h used m some apart is = deep_law g used s k n r (sym (subst (λ xs. Some n ≡ first_deep g (flat_map atom_sides xs)) e d)) h

valid_law : (g : KoreSignature) (used : List Text) (s : SymbolicState) (k : Consequent) (r : Implication) → IsWrittenFor g s.sort (equalities_of g k s) r → AnswersCarried g used s k r
valid_law g used s k (Valid p) h m some apart is = record { answer = answered (valid (top s.sort) (substitution_of g k s)); is = carried m some apart is h.1; is_told = ((s.sort, refl), h.0) }
valid_law g used s k NotValid h m some apart is = absurd h
valid_law g used s k Vacuous h m some apart is = absurd h
valid_law g used s k (Undecided u) h m some apart is = absurd h

pub valid_handed : {E : Type 0} (g : KoreSignature) (s : SymbolicState) (k : Consequent) (sort : KoreSort) (all : List Atom) (r : Result Implication E) → sort ≡ s.sort → all ≡ equalities_of g k s → IfOk r (IsWrittenFor g sort all) → IfOk r (λ a. (used : List Text) → AnswersCarried g used s k a)
valid_handed g s k sort all (Ok a) e d h = λ used. valid_law g used s k a (subst (λ z. IsWrittenFor g z (equalities_of g k s) a) e (subst (λ z. IsWrittenFor g sort z a) d h))
valid_handed g s k sort all (Err x) e d h = tt
