use Rattle.std.proofs.Common.{rules}
use Rattle.std.proofs.lemmas.List.Sorted.{answers_always}
use Rattle.kp_outward.proofs.OrderLemmas.{by_text, text_order, sorted_in_order}
use Rattle.kp_outward.proofs.order.put_in_order.Goals as goal

pub returns-clause-in_order : goal.returns-clause-in_order
returns-clause-in_order c = sorted_in_order _ (c.sort_unstable_by.ensures.sorted by_text text_order (answers_always _ _ _ (λ f a r g h. search rules)))
