use Rattle.std.proofs.Common.{◌+◌, drop, sym, ap, ◌∙◌, arith}
use Rattle.kp_rpc.proofs.TextsWritten.{texts_written, texts_first, texts_next, texts_done}
use Rattle.kp_rpc.proofs.question.texts_value.Goals as goal

pub loop-text-init : goal.loop-text-init
loop-text-init c = texts_first c.args.texts.now c.new-values.result.items c.new-values.ensures.items

pub loop-text-preserved : goal.loop-text-preserved
loop-text-preserved c =
    c.loop-text.invariant ∙ texts_next c.loop-text.values.items c.args.texts.now c.loop-text.text-index c.text-item.result c.in_ok-text_value.field-0 c.loop-text-test.true c.text-item.is c.in_ok-text_value.ensures
    ∙ ap (λ l. texts_written l (drop (c.loop-text.text-index + 1) c.args.texts.now)) (sym c.in_ok-push.ensures.items)

pub returns : goal.returns
returns c = sym (c.loop-text.invariant ∙ texts_done c.loop-text.values.items c.args.texts.now c.loop-text.text-index (omega (arith, c.loop-text-test.false)))
