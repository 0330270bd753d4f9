use Rattle.std.proofs.Common.{rules, ◌≡◌, length, map}
use Rattle.kp_signature.specs.View.{signature_view}
use Rattle.kp_overlap.specs.Views.{placed_view}
use Rattle.kp_overlap.proofs.SortLemmas.{empty_value, is_true}
use Rattle.kp_overlap.proofs.sorts.have_value.Goals as goal

pub returns-then-numbers-eq0 : goal.returns-then-numbers-eq0
returns-then-numbers-eq0 c =
    let none : length c.args.numbers.now ≡ 0 = search rules in
    is_true (empty_value (signature_view c.args.signature.now) (map placed_view c.args.sorts.now) c.args.numbers.now none)
