use Rattle.std.proofs.Common.{rules, ◌<◌, ◌≤◌, map, length, sym, subst}
use Rattle.std.proofs.lemmas.List.{length-map}
use Rattle.kp_kore.specs.View.{sort_view}
use Rattle.kp_signature.specs.View.{signature_view}
use Rattle.kp_heads.proofs.Literals.{before_none, before_either, all_before, read_sort}
use Rattle.kp_heads.proofs.table.literal_numbers.Goals as goal

pub loop-number-init : goal.loop-number-init
loop-number-init c = before_none (signature_view c.args.signature.now) (map sort_view c.args.sorts.now) c.new-found.result.keys c.new-found.ensures.len

pub loop-number-preserved : goal.loop-number-preserved
loop-number-preserved c =
    let ss = c.args.sorts.now in
    let n = c.loop-number.number in
    let short : n < length ss = search rules in
    let s = c.index-sorts-number.result in
    before_either (signature_view c.args.signature.now) (map sort_view ss) n c.loop-number.found.keys c.add_if.new.found.keys (sort_view s) c.has_literals.result
    (read_sort ss n s short c.index-sorts-number.is) c.has_literals.ensures c.in_ok-add_if.ensures c.loop-number.invariant

pub returns : goal.returns
returns c =
    let ss = c.args.sorts.now in
    let past : length ss ≤ c.loop-number.number = search rules in
    all_before (signature_view c.args.signature.now) (map sort_view ss) c.loop-number.number c.loop-number.found.keys (subst (λ m. m ≤ c.loop-number.number) (sym (length-map ss sort_view)) past) c.loop-number.invariant
