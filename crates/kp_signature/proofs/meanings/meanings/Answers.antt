use Rattle.std.proofs.Common.{◌∙◌}
use Rattle.kp_kore.specs.Signature.{symbol_meaning}
use Rattle.kp_kore.specs.View.{symbol_sentence_view}
use Rattle.kp_signature.specs.Meanings.{meaning_view}
use Rattle.kp_signature.specs.Table.{table_view}
use Rattle.kp_signature.proofs.FirstPlaces.{kept_more}
use Rattle.kp_signature.proofs.meanings.meanings.Goals as goal

pub loop-declaration-preserved : goal.loop-declaration-preserved
loop-declaration-preserved c =
    kept_more symbol_sentence_view (symbol_meaning (table_view c.args.kinds.now.declarations.table)) meaning_view c.symbols-declaration-items.result.now c.loop-declaration.declaration-index c.declaration-item.result c.symbol_meaning.result c.loop-declaration.meanings.items c.push.new.self.items
    c.loop-declaration-test.true c.declaration-item.is c.in_ok-push.ensures.items c.symbol_meaning.ensures
    ∙ c.loop-declaration.invariant
