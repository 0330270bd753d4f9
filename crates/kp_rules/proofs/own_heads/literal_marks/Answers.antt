use Rattle.std.proofs.Common.{rules, ◌≤◌, sym, ap, subst, ◌∙◌, [], ◌∷◌, ◌++◌, map, take, length}
use Rattle.std.proofs.lemmas.List.{map_more, take_all}
use Rattle.kp_kore.specs.View.{sort_view}
use Rattle.kp_signature.specs.View.{signature_view}
use Rattle.kp_rules.specs.Index.{AreMarked}
use Rattle.kp_rules.proofs.MarkLemmas.{literal_more, no_marks}
use Rattle.kp_rules.proofs.own_heads.literal_marks.Goals as goal

pub loop-sort-init : goal.loop-sort-init
loop-sort-init c = no_marks (signature_view c.args.signature.now) c.new-marks.result.items c.new-marks.ensures.items

pub loop-sort-preserved : goal.loop-sort-preserved
loop-sort-preserved c =
    let g = signature_view c.args.signature.now in
    let ss = c.args.sorts.now in
    let i = c.loop-sort.sort-index in
    let x = c.sort-item.result in
    subst (λ l. AreMarked g [] l c.push.new.self.items) (ap (λ v. map sort_view (take i ss) ++ sort_view v ∷ []) c.sort-item.is ∙ sym (map_more sort_view ss i x c.loop-sort-test.true))
    (literal_more g (map sort_view (take i ss)) (sort_view x) c.loop-sort.marks.items c.push.new.self.items c.has_literals.result (λ h. sym c.has_literals.ensures ∙ h, λ h. c.has_literals.ensures ∙ h) c.in_ok-push.ensures.items c.loop-sort.invariant)

pub returns : goal.returns
returns c =
    let ss = c.args.sorts.now in
    let past : length ss ≤ c.loop-sort.sort-index = search rules in
    subst (λ l. AreMarked (signature_view c.args.signature.now) [] (map sort_view l) c.loop-sort.marks.items) (take_all c.loop-sort.sort-index ss past) c.loop-sort.invariant
