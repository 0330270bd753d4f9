use Rattle.std.proofs.Common.{rules, ◌≡◌, sym, subst, Some, Contains}
use Rattle.indexmap.specs.IndexMap.{get_by_text}
use Rattle.kp_kore.specs.View.{sort_view}
use Rattle.kp_signature.specs.Numbering.{outer_name}
use Rattle.kp_signature.proofs.Numbered.{told}
use Rattle.kp_signature.proofs.numbering.Numbering.number_of.Goals as goal

pub returns-then-group-len : goal.returns-then-group-len
returns-then-group-len c ix =
    let x = c.args.self.now in
    let a = sort_view c.args.sort.now in
    let named : get_by_text x.names (outer_name a) ≡ Some c.in-Some.group.now = search rules in
    told x ix a c.in-Some.group.now c.index.result.now c.find_among.result named (search rules) c.index.ensures c.find_among.ensures.found
    (λ none i h. c.find_among.ensures.none none i (subst (λ l. Contains l i) (sym c.deref.ensures.value) h))
