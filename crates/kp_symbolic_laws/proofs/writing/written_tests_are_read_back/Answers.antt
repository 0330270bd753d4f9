use Rattle.std.proofs.Common.{inl}
use Rattle.kp_symbolic_laws.proofs.HeadTests.{constructor_read, sort_read}
use Rattle.kp_symbolic_laws.proofs.writing.written_tests_are_read_back.Goals as goal

pub returns-clause-constructor : goal.returns-clause-constructor
returns-clause-constructor c g sort x k inj meant few = constructor_read g sort x k (inl inj) meant few

pub returns-clause-sort : goal.returns-clause-sort
returns-clause-sort c g sort s x inj other = sort_read g sort s x (inl inj) other
