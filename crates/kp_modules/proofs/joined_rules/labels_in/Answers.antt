use Rattle.std.proofs.Common.{rules, ◌≡◌, ◌≤◌, ◌+◌, sym, subst, length, take, get_or}
use Rattle.kp_kore.specs.Theory.{labels_of}
use Rattle.kp_modules.specs.Extending.{IsTakenFrom}
use Rattle.kp_modules.specs.Labels.{Counts}
use Rattle.kp_modules.proofs.Gathering.{zip_at, zip_all}
use Rattle.kp_modules.proofs.Taken.{labels_of_more}
use Rattle.kp_modules.proofs.joined_rules.labels_in.Goals as goal

pub loop-i-preserved : goal.loop-i-preserved
loop-i-preserved c g axioms taken =
    let i = c.loop-i.i in
    let rs = c.args.rules.now in
    let r = c.index-rules-i.result in
    let read : r ≡ get_or rs i r = search rules in
    let here = zip_at (λ a s. IsTakenFrom g a s.now) axioms rs i r taken c.loop-i-test.true read in
    subst (λ ls. Counts ls c.note_label.new.labels) (sym (labels_of_more (take i axioms) (take (i + 1) axioms) here.0 here.1))
    (c.in_ok-note_label.ensures g (labels_of (take i axioms)) here.0 here.2 (c.loop-i.invariant g axioms taken))

pub returns : goal.returns
returns c g axioms taken =
    let past : length c.args.rules.now ≤ c.loop-i.i = search rules in
    subst (λ l. Counts (labels_of l) c.loop-i.labels) (zip_all (λ a s. IsTakenFrom g a s.now) axioms c.args.rules.now c.loop-i.i taken past) (c.loop-i.invariant g axioms taken)
