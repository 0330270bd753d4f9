use Rattle.std.proofs.Common.{rules, arith, ◌≤◌, ◌∙◌, sym, length}
use Rattle.kp_literals.specs.Forms.{token_part_view}
use Rattle.kp_clause_demands.specs.Numbers.{parts_same}
use Rattle.kp_clause_demands.proofs.PlaceLemmas.{place_found, place_later, place_ends}
use Rattle.kp_clause_demands.proofs.places.place_of_part.Goals as goal

pub loop-i-init : goal.loop-i-init
loop-i-init c = omega arith

pub returns-then-is_same_part : goal.returns-then-is_same_part
returns-then-is_same_part c =
    place_found parts_same token_part_view c.args.parts.now c.loop-i.i c.index-parts-i.result (token_part_view c.args.part) c.loop-i-test.true c.index-parts-i.is (sym c.is_same_part.ensures ∙ c.if-is_same_part.true) c.loop-i.invariant

pub loop-i-preserved : goal.loop-i-preserved
loop-i-preserved c =
    place_later parts_same token_part_view c.args.parts.now c.loop-i.i c.index-parts-i.result (token_part_view c.args.part) c.loop-i-test.true c.index-parts-i.is (sym c.is_same_part.ensures ∙ c.if-is_same_part.false) c.loop-i.invariant

pub returns : goal.returns
returns c =
    let past : length c.args.parts.now ≤ c.loop-i.i = search rules in
    place_ends parts_same token_part_view c.args.parts.now c.loop-i.i (token_part_view c.args.part) past c.loop-i.invariant
