use Rattle.std.proofs.Common.{◌≡◌}
use Rattle.kp_history.specs.Passes.{IsWaiting, Keeps, seen}
use Rattle.kp_history.proofs.history.History.wait_for.Given as goal

abbrev pub invariant-loop : goal.invariant-loop
invariant-loop g l =
    (goal.iterator-loop g).can_next l.iterator' × (goal.iterator-loop g).is_finite l.iterator' × IsWaiting l.self l.ticket l.pass × Keeps l.initial.pass l.pass × (seen l.pass ≡ seen l.initial.pass)
