use Rattle.std.proofs.Common.{rules, refl, sym, subst, ◌≤◌, length, map, []}
use Rattle.kp_signature.specs.View.{signature_view}
use Rattle.kp_overlap.specs.Views.{placed_view}
use Rattle.kp_overlap.specs.Sorted.{HaveValue}
use Rattle.kp_overlap.proofs.SortLemmas.{empty_value, group_past, is_true}
use Rattle.kp_overlap.proofs.sorts.group_has_value.Goals as goal

pub returns : goal.returns
returns c =
    let rs = map placed_view c.args.sorts.now in
    let past : length c.args.groups.now ≤ c.args.label = search rules in
    is_true (subst (HaveValue (signature_view c.args.signature.now) rs) (sym (group_past c.args.groups.now c.args.label past)) (empty_value (signature_view c.args.signature.now) rs [] refl))
