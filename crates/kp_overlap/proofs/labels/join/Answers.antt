use Rattle.std.proofs.Common.{refl, ◌∙◌, [], ◌∷◌}
use Rattle.kp_overlap.specs.declared.labels.Classes.{Classes}
use Rattle.kp_overlap.proofs.LabelLemmas.{ok_then, follow_from, tops_set, joined_alone, tops_joined}
use Rattle.kp_overlap.proofs.labels.join.Goals as goal

pub returns-then-low-top : goal.returns-then-low-top
returns-then-low-top c =
    let old = c.args.classes.now in
    let p = c.args.pair in
    let low = c.top_of-low.result in
    let top = c.top_of-top.result in
    let of_first = follow_from c.deref.result.now old.parents.items p.first low c.deref.ensures.value c.top_of-low.ensures in
    let of_second = follow_from c.deref-2.result.now old.parents.items p.second top c.deref-2.ensures.value c.top_of-top.ensures in
    let next : Classes = record old { parents = c.set-2.new.numbers } in
    let set = tops_set c.args.shapes.now old next p low top c.set.new.numbers.items (c.set-2.ensures.long ∙ c.set.ensures.long) of_first of_second c.set.ensures.follow c.set-2.ensures.follow refl refl in
    joined_alone c.args.shapes.now (p ∷ []) old next set

pub returns : goal.returns
returns c =
    let old = c.args.classes.now in
    let p = c.args.pair in
    let low = c.top_of-low.result in
    let top = c.top_of-top.result in
    let of_first = follow_from c.deref.result.now old.parents.items p.first low c.deref.ensures.value c.top_of-low.ensures in
    let of_second = follow_from c.deref-2.result.now old.parents.items p.second top c.deref-2.ensures.value c.top_of-top.ensures in
    let next : Classes = record old { parents = c.set-2.new.numbers } in
    let set = tops_set c.args.shapes.now old next p low top c.set.new.numbers.items (c.set-2.ensures.long ∙ c.set.ensures.long) of_first of_second c.set.ensures.follow c.set-2.ensures.follow refl refl in
    ok_then c.put_below.result (tops_joined c.args.shapes.now old next c.put_below.new.classes p low top of_first of_second set) c.put_below.ensures
