use Rattle.kp_clause_substitution.proofs.ClauseLemmas.{clause_solved}
use Rattle.kp_clause_substitution.proofs.StateLemmas.{atom_replaced, clause_replaced}
use Rattle.kp_clause_substitution.proofs.laws.replacing_keeps_truth.Goals as goal

pub returns-clause-literal : goal.returns-clause-literal
returns-clause-literal c = atom_replaced

pub returns-clause-clause : goal.returns-clause-clause
returns-clause-clause c = clause_replaced

pub returns-clause-solved : goal.returns-clause-solved
returns-clause-solved c = clause_solved
