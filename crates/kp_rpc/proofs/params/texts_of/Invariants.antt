use Rattle.std.proofs.Common.{drop}
use Rattle.serde_json.specs.View.{items_view}
use Rattle.kp_rpc.specs.View.{texts_view}
use Rattle.kp_rpc.specs.Readings.{read_items}
use Rattle.kp_rpc.proofs.Texts.{ReadsOn}
use Rattle.kp_rpc.proofs.params.texts_of.Given as goal

abbrev pub invariant-loop-member : goal.invariant-loop-member
invariant-loop-member l = ReadsOn (read_items (items_view l.initial.members)) (texts_view l.texts.items) (items_view (drop l.member-index l.members))
