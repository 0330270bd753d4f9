-- What holds of each clause of a state holds of those that are plain.
use Rattle.std.proofs.Common.{sym, subst, List, []}
use Rattle.std.specs.List.{AllByRecursion}
use Rattle.kp_kore.specs.Signature.{KoreSignature}
use Rattle.kp_symbolic.specs.States.{Literal, SymbolicState}
use Rattle.kp_symbolic.specs.Plain.{read_clauses, is_plain_clause, literals_of, plain_clauses}
use Rattle.kp_symbolic.proofs.Exact.{kept_true, all_read}

pub plain_have : (g : KoreSignature) (P : List Literal → Type 0) (s : SymbolicState) → AllByRecursion P s.clauses → AllByRecursion P (plain_clauses g s)
plain_have g P s h = kept_true P literals_of is_plain_clause (read_clauses g s) (subst (AllByRecursion P) (sym (all_read g s [] s.clauses)) h)
