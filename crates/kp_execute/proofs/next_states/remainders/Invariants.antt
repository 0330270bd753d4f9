use Rattle.std.proofs.Common.{◌≡◌, take}
use Rattle.std.specs.List.{AllZip}
use Rattle.kp_results.specs.View.{next_view}
use Rattle.kp_kore.specs.Theory.{Theory}
use Rattle.kp_symbolic.specs.Languages.{language_view}
use Rattle.kp_execute.specs.Written.{IsRemainderWritten}
use Rattle.kp_execute.proofs.next_states.remainders.Given as goal

abbrev pub invariant-loop-part : goal.invariant-loop-part
invariant-loop-part l = (t : Theory) → language_view l.language ≡ t.signature → AllZip (λ n x. IsRemainderWritten t n (next_view x)) (take l.part-index l.remainder) l.found.items
