use Rattle.std.proofs.Common.{inl}
use Rattle.kp_symbolic_laws.proofs.HeadTests.{constructor_said, sort_said}
use Rattle.kp_symbolic_laws.proofs.writing.written_tests_say_what_they_said.Goals as goal

pub returns-clause-constructor : goal.returns-clause-constructor
returns-clause-constructor c g v sort x k sorted inj meant few = constructor_said g v sort x k sorted (inl inj) meant few

pub returns-clause-sort : goal.returns-clause-sort
returns-clause-sort c g v sort s x sorted inj = sort_said g v sort s x sorted (inl inj)
