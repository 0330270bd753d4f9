use Rattle.std.proofs.Common.{rules, ◌≤◌, sym, ap, subst, ◌∙◌, [], ◌∷◌, ◌++◌, map, take, length}
use Rattle.std.specs.List.{flat_map}
use Rattle.std.proofs.lemmas.List.{map_more, take_all, append-nil}
use Rattle.kp_kore.specs.View.{symbol_sentence_view}
use Rattle.kp_signature.specs.View.{signature_view}
use Rattle.kp_heads.specs.Steps.{symbol_steps}
use Rattle.kp_heads.specs.Made.{IsMade}
use Rattle.kp_heads.proofs.Making.{steps_more}
use Rattle.kp_heads.proofs.made.Made.add_symbols.Goals as goal

pub loop-symbol-init : goal.loop-symbol-init
loop-symbol-init c steps h = subst (λ l. IsMade l c.args.self.now) (sym (append-nil steps)) h

pub loop-symbol-preserved : goal.loop-symbol-preserved
loop-symbol-preserved c steps start =
    let f = symbol_steps (signature_view c.args.signature.now) in
    let ds = c.symbols-symbol-items.result.now in
    let i = c.loop-symbol.symbol-index in
    let done = map symbol_sentence_view (take i ds) in
    let d = symbol_sentence_view c.symbol-item.result in
    let all = ap (λ p. done ++ symbol_sentence_view p ∷ []) c.symbol-item.is ∙ sym (map_more symbol_sentence_view ds i c.symbol-item.result c.loop-symbol-test.true) in
    subst (λ l. IsMade l c.add_symbol.new.self) (sym (steps_more f done d steps) ∙ ap (λ l. steps ++ flat_map f l) all)
    (c.in_ok-add_symbol.ensures (steps ++ flat_map f done) (c.loop-symbol.invariant steps start))

pub returns : goal.returns
returns c steps start =
    let ds = c.symbols-symbol-items.result.now in
    let past : length ds ≤ c.loop-symbol.symbol-index = search rules in
    subst (λ l. IsMade (steps ++ flat_map (symbol_steps (signature_view c.args.signature.now)) l) c.loop-symbol.self) (ap (map symbol_sentence_view) (take_all c.loop-symbol.symbol-index ds past) ∙ c.symbols-symbol-items.ensures)
    (c.loop-symbol.invariant steps start)
