use Rattle.kp_requests.specs.View.{calls_view}
use Rattle.kp_registry.specs.Registries.{IsPassOf}
use Rattle.kp_service.specs.Batches.{FromEachBookSeen, AreFirstTold}
use Rattle.kp_service.proofs.batch.answered_batch.Given as goal

abbrev pub invariant-loop-call : goal.invariant-loop-call
invariant-loop-call g l = record {
  pass : IsPassOf l.registry l.pass;
  told : FromEachBookSeen l.registry l.fn.pass l.pass (λ o seen. AreFirstTold o seen (calls_view l.fn.calls.items) l.replies.items (calls_view l.call-iterator.rest.items));
}
