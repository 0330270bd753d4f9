use Rattle.std.proofs.Common.{rules, ◌≡◌, ◌≤◌, ◌+◌, ◌∙◌, ◌++◌, ◌∷◌, [], sym, ap, subst, length, take, get_or}
use Rattle.std.proofs.lemmas.List.{append-nil, append_assoc}
use Rattle.kp_modules.specs.Extending.{IsTakenFrom, AreGathered}
use Rattle.kp_modules.proofs.Gathering.{zip_at, zip_all}
use Rattle.kp_modules.proofs.joined_rules.gather.Goals as goal

pub loop-i-init : goal.loop-i-init
loop-i-init c g passed axioms taken all = subst (λ l. AreGathered g l c.args.met.now c.args.found.now.items) (sym (append-nil passed)) all

pub loop-i-preserved : goal.loop-i-preserved
loop-i-preserved c g passed axioms taken all =
    let i = c.loop-i.i in
    let rs = c.args.rules.now in
    let r = c.index-rules-i.result in
    let read : r ≡ get_or rs i r = search rules in
    let here = zip_at (IsTakenFrom g) axioms rs i r taken c.loop-i-test.true read in
    let far : (passed ++ take i axioms) ++ here.0 ∷ [] ≡ passed ++ take (i + 1) axioms = append_assoc passed (take i axioms) (here.0 ∷ []) ∙ ap (λ l. passed ++ l) (sym here.1) in
    subst (λ l. AreGathered g l c.gather_one.new.met c.gather_one.new.found.items) far
    (c.in_ok-gather_one.ensures g (passed ++ take i axioms) here.0 here.2 (c.loop-i.invariant g passed axioms taken all))

pub returns : goal.returns
returns c g passed axioms taken all =
    let past : length c.args.rules.now ≤ c.loop-i.i = search rules in
    subst (λ l. AreGathered g (passed ++ l) c.loop-i.met c.loop-i.found.items) (zip_all (IsTakenFrom g) axioms c.args.rules.now c.loop-i.i taken past) (c.loop-i.invariant g passed axioms taken all)
