use Rattle.std.proofs.Common.{rules, ◌≤◌, sym, ap, subst, ◌∙◌, [], ◌∷◌, ◌++◌, map, take, length}
use Rattle.std.proofs.lemmas.List.{map_more, take_all}
use Rattle.kp_kore.specs.View.{symbol_sentence_view}
use Rattle.kp_signature.specs.Order.{sorts_of}
use Rattle.kp_signature.specs.View.{signature_view}
use Rattle.kp_rules.specs.Index.{AreMarked}
use Rattle.kp_rules.proofs.own_heads.mark_results.Goals as goal

pub loop-symbol-init : goal.loop-symbol-init
loop-symbol-init c order start = start

pub loop-symbol-preserved : goal.loop-symbol-preserved
loop-symbol-preserved c order start =
    let g = signature_view c.args.signature.now in
    let ds = c.symbols-symbol-items.result.now in
    let i = c.loop-symbol.symbol-index in
    subst (λ l. AreMarked g l (sorts_of c.args.order.now.graph) c.mark_result.new.marks.items) (ap (λ p. map symbol_sentence_view (take i ds) ++ symbol_sentence_view p ∷ []) c.symbol-item.is ∙ sym (map_more symbol_sentence_view ds i c.symbol-item.result c.loop-symbol-test.true))
    (c.mark_result.ensures (map symbol_sentence_view (take i ds)) order (c.loop-symbol.invariant order start))

pub returns : goal.returns
returns c order start =
    let ds = c.symbols-symbol-items.result.now in
    let past : length ds ≤ c.loop-symbol.symbol-index = search rules in
    subst (λ l. AreMarked (signature_view c.args.signature.now) l (sorts_of c.args.order.now.graph) c.loop-symbol.marks.items) (ap (map symbol_sentence_view) (take_all c.loop-symbol.symbol-index ds past) ∙ c.symbols-symbol-items.ensures)
    (c.loop-symbol.invariant order start)
