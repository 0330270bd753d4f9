use Rattle.std.proofs.Common.{rules, ◌≡◌, ap, subst, ◌∙◌, length, Vec, Global}
use Rattle.kp_kore.specs.View.{sort_view}
use Rattle.kp_kore.specs.declared.sort.Sort.{Sort}
use Rattle.kp_signature.specs.Numbering.{HasGroup}
use Rattle.kp_signature.proofs.Numbers.{sort_added}
use Rattle.kp_signature.proofs.numbering.Numbering.add_sort.Goals as goal

pub returns : goal.returns
returns c ix new =
    let x = c.args.self.now in
    let z = c.group_for.new.self in
    let a = sort_view c.args.sort.now in
    let h = subst (λ n. HasGroup x z n c.in_ok-group.group) c.outer_name.ensures (c.in_ok-group.ensures ix) in
    let long : c.len-number.result ≡ length z.sorts.items = search rules in
    sort_added x z c.add_edge.new.edges c.push.new.self c.in_ok-copy.field-0 a c.in_ok-group.group c.len-number.result ix new h
    (long ∙ ap (λ (v : Vec Sort Global). length v.items) h.same_sorts) c.in_ok-push.ensures.items c.in_ok-copy.ensures
    (c.in_ok-add_edge.ensures (h.grouped _ c.in_ok-group.group h.named))
