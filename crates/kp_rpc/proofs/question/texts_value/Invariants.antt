use Rattle.std.proofs.Common.{◌≡◌, drop}
use Rattle.kp_rpc.specs.View.{texts_view}
use Rattle.kp_rpc.specs.Questions.{text_items}
use Rattle.kp_rpc.proofs.TextsWritten.{texts_written}
use Rattle.kp_rpc.proofs.question.texts_value.Given as goal

abbrev pub invariant-loop-text : goal.invariant-loop-text
invariant-loop-text l = text_items (texts_view l.initial.texts) ≡ texts_written l.values.items (drop l.text-index l.texts)
