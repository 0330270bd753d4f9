use Rattle.std.proofs.Common.{rules, ◌≡◌, ◌≤◌, length, map, string_bytes}
use Rattle.kp_kore.specs.View.{sort_view}
use Rattle.kp_signature.specs.View.{signature_view}
use Rattle.kp_symbolic.specs.View.{replaced_view}
use Rattle.kp_rules.specs.Skeletons.{one_of, built, skeleton_view, forms_of}
use Rattle.kp_rules.specs.declared.skeleton.Skeleton.{the_lemmas}
use Rattle.kp_step.proofs.PlacedLemmas.{variable_placed, built_placed, member_further, members_done}
use Rattle.kp_step.proofs.placed_variables.+placing.Goals as goal

pub all_placed-loop-member-preserved : goal.all_placed-loop-member-preserved
all_placed-loop-member-preserved t c p bound =
    let g = signature_view c.args.signature.now in
    let bs = map replaced_view c.args.bindings.now in
    let k = c.loop-member.invariant p bound in
    member_further g p bs c.loop-member.member-index c.args.members.now c.member-item.result c.loop-member-test.true c.member-item.is (c.are_placed.ensures p (search rules)) k.0 k.1

pub all_placed-returns : goal.all_placed-returns
all_placed-returns t c p all bound =
    let g = signature_view c.args.signature.now in
    let bs = map replaced_view c.args.bindings.now in
    let past : length c.args.members.now ≤ c.loop-member.member-index = search rules in
    members_done g bs c.loop-member.member-index c.args.members.now past (c.loop-member.invariant p bound).1

pub are_placed-returns-in-Variable : goal.are_placed-returns-in-Variable
are_placed-returns-in-Variable t c p right bound =
    let g = signature_view c.args.signature.now in
    let bs = map replaced_view c.args.bindings.now in
    let x = string_bytes c.in-Variable.name.value in
    let s = sort_view c.in-Variable.sort in
    let is : skeleton_view c.args.left.now ≡ one_of x s = search (rules, the_lemmas) in
    let name : c.deref-in-Variable.result.now ≡ x = search rules in
    variable_placed g p bs (skeleton_view c.args.left.now) x s c.deref-in-Variable.result.now is name (c.is_placed.ensures p right) bound

pub are_placed-returns-in-Built : goal.are_placed-returns-in-Built
are_placed-returns-in-Built t c p right bound =
    let g = signature_view c.args.signature.now in
    let bs = map replaced_view c.args.bindings.now in
    let ks = c.in-Built.arguments.items in
    let f = string_bytes c.in-Built.constructor.value in
    let is : skeleton_view c.args.left.now ≡ built f (forms_of (map skeleton_view ks)) = search (rules, the_lemmas) in
    built_placed g p bs (skeleton_view c.args.left.now) f ks c.deref-in-Built.result.now is c.deref-in-Built.ensures.value (c.all_placed.ensures p right) bound
