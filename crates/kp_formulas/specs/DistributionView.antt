-- Which distribution the code's is.
use Rattle.kp_symbolic.specs.Formulas.{Size}
use Rattle.kp_symbolic.specs.View.{clauses_view}
use Rattle.kp_formulas.specs.Distribution.{Distribution}
use Rattle.kp_formulas.specs.declared.count.Count.{Count}
use Rattle.kp_formulas.specs.declared.distributed.Distributed.{Distributed}

abbrev pub count_view : Count → Size
count_view c = record { clauses = c.clauses; literals = c.literals }

abbrev pub distributed_view : Distributed → Distribution
distributed_view d = record { size = count_view d.count; clauses = clauses_view d.clauses.items }
