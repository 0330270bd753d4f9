use Rattle.std.proofs.Common.{◌≡◌, sym, ap, ◌∙◌, Some, None, Bor}
use Rattle.std.specs.Option.{option_map}
use Rattle.kp_kore.specs.View.{sort_view, symbol_sentence_view}
use Rattle.kp_kore.specs.declared.sort.Sort.{Sort}
use Rattle.kp_signature.specs.Order.{sorts_of}
use Rattle.kp_signature.specs.View.{signature_view}
use Rattle.kp_rules.specs.Index.{constructed_sort}
use Rattle.kp_rules.proofs.MarkLemmas.{unconstructed}
use Rattle.kp_rules.proofs.own_heads.mark_result.Goals as goal

pub returns-in-Some : goal.returns-in-Some
returns-in-Some c ds order marked =
    let g = signature_view c.args.signature.now in
    let d = symbol_sentence_view c.args.symbol.now in
    let is : constructed_sort g d.name ≡ Some (sort_view c.in-Some.sort.now) = sym c.constructed_sort.ensures ∙ ap (option_map (λ (s : Bor Sort). sort_view s.now)) c.in-Some.is in
    c.mark.ensures g ds d is order marked

pub returns-in_default : goal.returns-in_default
returns-in_default c ds order marked =
    let g = signature_view c.args.signature.now in
    let d = symbol_sentence_view c.args.symbol.now in
    let none : constructed_sort g d.name ≡ None = sym c.constructed_sort.ensures ∙ ap (option_map (λ (s : Bor Sort). sort_view s.now)) c.in_default.is in
    unconstructed g ds (sorts_of c.args.order.now.graph) c.args.marks.now.items d none marked
