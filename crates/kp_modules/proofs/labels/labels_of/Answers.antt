use Rattle.std.proofs.Common.{rules, ◌≡◌, sym, subst, ◌≤◌, take, get_or, length}
use Rattle.std.proofs.lemmas.List.{take_all}
use Rattle.kp_kore.specs.Theory.{labels_of}
use Rattle.kp_modules.specs.Axioms.{axioms_view}
use Rattle.kp_modules.specs.Labels.{Counts}
use Rattle.kp_modules.proofs.Labelled.{labels_more}
use Rattle.kp_modules.proofs.labels.labels_of.Goals as goal

pub loop-i-preserved : goal.loop-i-preserved
loop-i-preserved c =
    let i = c.loop-i.i in
    let axioms = c.args.axioms.now in
    let a = c.index-axioms-i.result in
    let read : a ≡ get_or axioms i a = search rules in
    subst (λ ls. Counts ls c.note_label.new.labels) (sym (labels_more axioms i a c.loop-i-test.true read))
    (c.in_ok-note_label.ensures (labels_of (axioms_view (take i axioms))) c.loop-i.invariant)

pub returns : goal.returns
returns c =
    let past : length c.args.axioms.now ≤ c.loop-i.i = search rules in
    subst (λ l. Counts (labels_of (axioms_view l)) c.loop-i.labels) (take_all c.loop-i.i c.args.axioms.now past) c.loop-i.invariant
